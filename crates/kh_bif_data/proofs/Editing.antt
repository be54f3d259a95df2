-- References of pairs and of parts that are changed at a place.
use Rattle.std.proofs.Common.{◌≡◌, ◌<◌, ◌≤◌, ℕ, zero, suc, ◌+◌, ◌-◌, List, [], ◌∷◌, ◌++◌, length, map, take, drop, get_or, reverse, refl, sym, ap, subst, ◌∙◌, arith}
use Rattle.std.specs.List as lists
use Rattle.std.proofs.lemmas.List.{map-append, reverse-append, length-reverse, get_or-reverse}
use Rattle.std.proofs.lemmas.List.Elements.{All-append, All-cons, All-take, All-drop}
use Rattle.std.specs.List.{All}

module _ {A B : Type 0} (f : A → B) where
  pub map-removed : (xs : List A) (i : ℕ) → map f (lists.remove xs i) ≡ lists.remove (map f xs) i
  map-removed [] zero = refl
  map-removed [] (suc i) = refl
  map-removed (x ∷ xs) zero = refl
  map-removed (x ∷ xs) (suc i) = ap (λ ys. f x ∷ ys) (map-removed xs i)

  pub map-inserted : (xs : List A) (i : ℕ) (y : A) → map f (lists.insert xs i y) ≡ lists.insert (map f xs) i (f y)
  map-inserted [] zero y = refl
  map-inserted [] (suc i) y = refl
  map-inserted (x ∷ xs) zero y = refl
  map-inserted (x ∷ xs) (suc i) y = ap (λ ys. f x ∷ ys) (map-inserted xs i y)

  pub map-reversed : (xs : List A) → map f (reverse xs) ≡ reverse (map f xs)
  map-reversed [] = refl
  map-reversed (x ∷ xs) =
      ap (map f) (reverse-append (x ∷ []) xs) ∙ map-append f (reverse xs) (x ∷ [])
      ∙ ap (λ ys. ys ++ f x ∷ []) (map-reversed xs) ∙ sym (reverse-append (f x ∷ []) (map f xs))

module _ {A : Type 0} (P : A → Type 0) where
  pub All-removed : (xs : List A) (i : ℕ) → All P xs → All P (lists.remove xs i)
  All-removed xs i h = All-append P (take i xs) (drop (suc i) xs) (All-take P i xs h) (All-drop P (suc i) xs h)

  pub All-inserted : (xs : List A) (i : ℕ) (y : A) → All P xs → P y → All P (lists.insert xs i y)
  All-inserted xs i y h p = All-append P (take i xs) (y ∷ drop i xs) (All-take P i xs h) (All-cons P y (drop i xs) p (All-drop P i xs h))

  pub All-reversed : (xs : List A) → All P xs → All P (reverse xs)
  All-reversed xs h k d l =
      let within : k < length xs = omega (arith, l, length-reverse xs) in
      subst P (sym (get_or-reverse xs k d within)) (h (length xs - 1 - k) d (omega arith))
