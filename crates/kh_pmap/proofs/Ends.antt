-- The first and the last of entries that stand before and behind one.
use Rattle.std.proofs.Common.{◌≡◌, ℕ, ◌-◌, suc, refl, sym, ap, ◌∙◌, List, [], ◌∷◌, ◌++◌, length, Some, None, append_assoc, arith}
use Rattle.std.specs.declared.option.Option.{Option}
use Rattle.std.specs.Option.{option_map}
use Rattle.std.specs.List.{slice_get}

pub some_stays : {A B : Type 0} (f : A → B) (r : Option A) → (r ≡ None → ⊥) → option_map f r ≡ None → ⊥
some_stays f None some e = some refl
some_stays f (Some x) some e = cc

module _ {A : Type 0} where
  pub first_here : (ls : List A) (e : A) (rs : List A) → None ≡ slice_get ls 0 → Some e ≡ slice_get (ls ++ e ∷ rs) 0
  first_here [] e rs is = refl
  first_here (x ∷ ls) e rs is = cc

  pub first_before : (r : Option A) (ls ms : List A) → (r ≡ None → ⊥) → r ≡ slice_get ls 0 → r ≡ slice_get (ls ++ ms) 0
  first_before r [] ms some is = absurd (some is)
  first_before r (x ∷ ls) ms some is = is

  last_step : (x y : A) (l : List A) → slice_get (x ∷ y ∷ l) (length (x ∷ y ∷ l) - 1) ≡ slice_get (y ∷ l) (length (y ∷ l) - 1)
  last_step x y l =
      let shorter : length (x ∷ y ∷ l) - 1 ≡ suc (length (y ∷ l) - 1) = omega arith in
      ap (slice_get (x ∷ y ∷ l)) shorter

  last_append : (xs : List A) (y : A) (ys : List A) → slice_get (xs ++ y ∷ ys) (length (xs ++ y ∷ ys) - 1) ≡ slice_get (y ∷ ys) (length (y ∷ ys) - 1)
  last_append [] y ys = refl
  last_append (x ∷ []) y ys = last_step x y ys
  last_append (x ∷ z ∷ zs) y ys = last_step x z (zs ++ y ∷ ys) ∙ last_append (z ∷ zs) y ys

  last_is : (x : A) (xs : List A) → None ≡ slice_get (x ∷ xs) (length (x ∷ xs) - 1) → ⊥
  last_is x [] is = cc
  last_is x (y ∷ ys) is = last_is y ys (is ∙ last_step x y ys)

  pub last_here : (ls : List A) (e : A) (rs : List A) → None ≡ slice_get rs (length rs - 1) → Some e ≡ slice_get (ls ++ e ∷ rs) (length (ls ++ e ∷ rs) - 1)
  last_here ls e [] is = sym (last_append ls e [])
  last_here ls e (x ∷ xs) is = absurd (last_is x xs is)

  pub last_behind : (r : Option A) (ls : List A) (e : A) (rs : List A) → (r ≡ None → ⊥) → r ≡ slice_get rs (length rs - 1) → r ≡ slice_get (ls ++ e ∷ rs) (length (ls ++ e ∷ rs) - 1)
  last_behind r ls e [] some is = absurd (some is)
  last_behind r ls e (x ∷ xs) some is = is ∙ sym (last_append ls e (x ∷ xs) ∙ last_step e x xs)

  -- a turn leaves the order of the entries
  pub one_up : (a : List A) (x : A) (b : List A) (y : A) (c : List A) → a ++ x ∷ (b ++ y ∷ c) ≡ (a ++ x ∷ b) ++ y ∷ c
  one_up a x b y c = sym (append_assoc a (x ∷ b) (y ∷ c))

  pub two_up : (a : List A) (x : A) (b : List A) (y : A) (c : List A) (z : A) (d : List A) → (a ++ x ∷ b) ++ y ∷ (c ++ z ∷ d) ≡ (a ++ x ∷ (b ++ y ∷ c)) ++ z ∷ d
  two_up a x b y c z d = one_up (a ++ x ∷ b) y c z d ∙ ap (λ l. l ++ z ∷ d) (sym (one_up a x b y c))
