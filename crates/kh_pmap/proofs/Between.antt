-- A key among entries with rising keys: those before an entry, that entry, and those behind it.
use Rattle.std.proofs.Common.{◌≡◌, refl, sym, ap, subst, ◌∙◌, Bool, cond, T, true, false, not, ◌&&◌, List, [], ◌∷◌, ◌++◌, Some, None}
use Rattle.std.specs.declared.cmp.Ordering.{Ordering}
use Rattle.std.specs.declared.cmp.Ordering.TheVariants.{Less, Equal, Greater}
use Rattle.std.specs.declared.option.Option.{Option}
use Rattle.std.specs.Option.{option_or}
use Rattle.std.specs.Ordering.{is_lt, is_eq}
use Rattle.std.specs.Cmp.{IsTotalOrder}
use Rattle.std.specs.FinMap.{find, put, is_sorted}
use Rattle.std.specs.FinMap.Entries.{where_key, below_all, by_order}
use Rattle.kh_pmap.specs.Keyed.{is_other, first_above}

pub left_of : (a b : Bool) → T (a && b) → T a
left_of true b p = tt
left_of false b p = p

pub right_of : (a b : Bool) → T (a && b) → T b
right_of true b p = p
right_of false b p = absurd p

pub both : (a b : Bool) → T a → T b → T (a && b)
both true b p q = q
both false b p q = p

pub less : (r : Ordering) → T (is_lt r) → r ≡ Less
less Less p = refl
less Equal p = absurd p
less Greater p = absurd p

pub below : {r : Ordering} → r ≡ Less → T (is_lt r)
below e = subst (λ r. T (is_lt r)) (sym e) tt

module _ {K V : Type 0} (R : K → K → Ordering) where
  below_front : (x : K) (ls ms : List (K × V)) → T (below_all R x (ls ++ ms)) → T (below_all R x ls)
  below_front x [] ms h = tt
  below_front x (y ∷ ls) ms h = both _ _ (left_of _ _ h) (below_front x ls ms (right_of _ _ h))

  below_middle : (x : K) (ls : List (K × V)) (e : K × V) (rs : List (K × V)) → T (below_all R x (ls ++ e ∷ rs)) → R x e.0 ≡ Less
  below_middle x [] e rs h = less _ (left_of _ _ h)
  below_middle x (y ∷ ls) e rs h = below_middle x ls e rs (right_of _ _ h)

  find_below : (q : K) (es : List (K × V)) → T (below_all R q es) → find R q es ≡ None
  find_below q [] h = refl
  find_below q (e ∷ es) h = ap (λ r. cond (is_eq r) (Some e.1) (find R q es)) (less _ (left_of _ _ h)) ∙ find_below q es (right_of _ _ h)

  others_below : (q : K) (es : List (K × V)) → T (below_all R q es) → where_key R (is_other R q) es ≡ es
  others_below q [] h = refl
  others_below q (e ∷ es) h =
      ap (λ r. cond (not (is_eq r)) (e ∷ where_key R (is_other R q) es) (where_key R (is_other R q) es)) (less _ (left_of _ _ h)) ∙ ap (λ xs. e ∷ xs) (others_below q es (right_of _ _ h))

  pub sorted_left : (ls : List (K × V)) (e : K × V) (rs : List (K × V)) → T (is_sorted R (ls ++ e ∷ rs)) → T (is_sorted R ls)
  sorted_left [] e rs s = tt
  sorted_left (x ∷ ls) e rs s = both _ _ (below_front x.0 ls (e ∷ rs) (left_of _ _ s)) (sorted_left ls e rs (right_of _ _ s))

  sorted_from : (ls : List (K × V)) (e : K × V) (rs : List (K × V)) → T (is_sorted R (ls ++ e ∷ rs)) → T (is_sorted R (e ∷ rs))
  sorted_from [] e rs s = s
  sorted_from (x ∷ ls) e rs s = sorted_from ls e rs (right_of _ _ s)

  pub sorted_right : (ls : List (K × V)) (e : K × V) (rs : List (K × V)) → T (is_sorted R (ls ++ e ∷ rs)) → T (is_sorted R rs)
  sorted_right ls e rs s = right_of _ _ (sorted_from ls e rs s)

  below_behind : (ls : List (K × V)) (e : K × V) (rs : List (K × V)) → T (is_sorted R (ls ++ e ∷ rs)) → T (below_all R e.0 rs)
  below_behind ls e rs s = left_of _ _ (sorted_from ls e rs s)

  above_left : (q : K) (ls : List (K × V)) (e : K × V) (rs : List (K × V)) → R q e.0 ≡ Less → first_above R q (ls ++ e ∷ rs) ≡ option_or (first_above R q ls) (Some e)
  above_left q [] e rs p = ap (λ r. cond (is_lt r) (Some e) (first_above R q rs)) p
  above_left q (x ∷ ls) e rs p =
      elim (is_lt (R q x.0)) as (λ b. cond b (Some x) (first_above R q (ls ++ e ∷ rs)) ≡ option_or (cond b (Some x) (first_above R q ls)) (Some e)) [ true ↦ refl | false ↦ above_left q ls e rs p ]

  -- where q is less than the middle key, the least greater key is on the left, or else the middle one
  pub above_here : (q : K) (ls : List (K × V)) (e : K × V) (rs : List (K × V)) → R q e.0 ≡ Less → None ≡ first_above R q ls → Some e ≡ first_above R q (ls ++ e ∷ rs)
  above_here q ls e rs p none = ap (λ o. option_or o (Some e)) none ∙ sym (above_left q ls e rs p)

  pub above_before : (q : K) (ls : List (K × V)) (e : K × V) (rs : List (K × V)) (r : Option (K × V)) → R q e.0 ≡ Less → (r ≡ None → ⊥) → r ≡ first_above R q ls → r ≡ first_above R q (ls ++ e ∷ rs)
  above_before q ls e rs None p some is = absurd (some refl)
  above_before q ls e rs (Some x) p some is = ap (λ o. option_or o (Some e)) is ∙ sym (above_left q ls e rs p)

not_less : {K : Type 0} (R : K → K → Ordering) (q y : K) (r : Ordering) → T (not (is_lt r)) → R q y ≡ r → T (not (is_lt (R q y)))
not_less R q y r n p = subst (λ s. T (not (is_lt s))) (sym p) n

module _ {K : Type 0} {R : K → K → Ordering} (o : IsTotalOrder R) where
  -- a key that is not less than y is greater than each x that is
  past : (q x y : K) → R x y ≡ Less → T (not (is_lt (R q y))) → R q x ≡ Greater
  past q x y h n =
      elim (R q x) as (λ r. R q x ≡ r → r ≡ Greater) [
        | Less ↦ λ p. absurd (subst (λ r. T (not (is_lt r))) (o.trans q x y p h) n)
        | Equal ↦ λ p. absurd (subst (λ r. T (not (is_lt r))) (o.congr q x y p ∙ h) n)
        | Greater ↦ λ p. refl
      ] refl

module _ {K V : Type 0} {R : K → K → Ordering} (o : IsTotalOrder R) where
  pub below_from : (q y : K) (es : List (K × V)) → R q y ≡ Less → T (below_all R y es) → T (below_all R q es)
  below_from q y [] p h = tt
  below_from q y (e ∷ es) p h = both _ _ (below (o.trans q y e.0 p (less _ (left_of _ _ h)))) (below_from q y es p (right_of _ _ h))

  below_tied : (q y : K) (es : List (K × V)) → R q y ≡ Equal → T (below_all R y es) → T (below_all R q es)
  below_tied q y [] p h = tt
  below_tied q y (e ∷ es) p h = both _ _ (below (o.congr q y e.0 p ∙ less _ (left_of _ _ h))) (below_tied q y es p (right_of _ _ h))

  module _ (q : K) (e : K × V) (rs : List (K × V)) where
    -- where the middle key isn't above q, the first entries are not those of q
    find_past : (ls : List (K × V)) → T (not (is_lt (R q e.0))) → T (is_sorted R (ls ++ e ∷ rs)) → find R q (ls ++ e ∷ rs) ≡ find R q (e ∷ rs)
    find_past [] n s = refl
    find_past (x ∷ ls) n s =
        ap (λ r. cond (is_eq r) (Some x.1) (find R q (ls ++ e ∷ rs))) (past o q x.0 e.0 (below_middle R x.0 ls e rs (left_of _ _ s)) n) ∙ find_past ls n (right_of _ _ s)

    put_past : (v : V) (ls : List (K × V)) → T (not (is_lt (R q e.0))) → T (is_sorted R (ls ++ e ∷ rs)) → put R q v (ls ++ e ∷ rs) ≡ ls ++ put R q v (e ∷ rs)
    put_past v [] n s = refl
    put_past v (x ∷ ls) n s =
        ap (λ r. by_order r ((q, v) ∷ x ∷ ls ++ e ∷ rs) ((x.0, v) ∷ ls ++ e ∷ rs) (x ∷ put R q v (ls ++ e ∷ rs))) (past o q x.0 e.0 (below_middle R x.0 ls e rs (left_of _ _ s)) n)
        ∙ ap (λ xs. x ∷ xs) (put_past v ls n (right_of _ _ s))

    others_past : (ls : List (K × V)) → T (not (is_lt (R q e.0))) → T (is_sorted R (ls ++ e ∷ rs)) → where_key R (is_other R q) (ls ++ e ∷ rs) ≡ ls ++ where_key R (is_other R q) (e ∷ rs)
    others_past [] n s = refl
    others_past (x ∷ ls) n s =
        let rest = where_key R (is_other R q) (ls ++ e ∷ rs) in
        ap (λ r. cond (not (is_eq r)) (x ∷ rest) rest) (past o q x.0 e.0 (below_middle R x.0 ls e rs (left_of _ _ s)) n) ∙ ap (λ xs. x ∷ xs) (others_past ls n (right_of _ _ s))

    above_past : (ls : List (K × V)) → T (not (is_lt (R q e.0))) → T (is_sorted R (ls ++ e ∷ rs)) → first_above R q (ls ++ e ∷ rs) ≡ first_above R q (e ∷ rs)
    above_past [] n s = refl
    above_past (x ∷ ls) n s =
        ap (λ r. cond (is_lt r) (Some x) (first_above R q (ls ++ e ∷ rs))) (past o q x.0 e.0 (below_middle R x.0 ls e rs (left_of _ _ s)) n) ∙ above_past ls n (right_of _ _ s)

  module _ (q : K) (ls : List (K × V)) (e : K × V) (rs : List (K × V)) (s : T (is_sorted R (ls ++ e ∷ rs))) where
    pub find_left : R q e.0 ≡ Less → find R q (ls ++ e ∷ rs) ≡ find R q ls
    find_left p = left ls where
      none : find R q (e ∷ rs) ≡ None
      none = find_below R q (e ∷ rs) (both _ _ (below p) (below_from q e.0 rs p (below_behind R ls e rs s)))

      left : (xs : List (K × V)) → find R q (xs ++ e ∷ rs) ≡ find R q xs
      left [] = none
      left (x ∷ xs) = ap (cond (is_eq (R q x.0)) (Some x.1)) (left xs)

    pub find_here : R q e.0 ≡ Equal → find R q (ls ++ e ∷ rs) ≡ Some e.1
    find_here p = find_past q e rs ls (not_less R q e.0 Equal tt p) s ∙ ap (λ r. cond (is_eq r) (Some e.1) (find R q rs)) p

    pub find_right : R q e.0 ≡ Greater → find R q (ls ++ e ∷ rs) ≡ find R q rs
    find_right p = find_past q e rs ls (not_less R q e.0 Greater tt p) s ∙ ap (λ r. cond (is_eq r) (Some e.1) (find R q rs)) p

    pub above_right : T (not (is_lt (R q e.0))) → first_above R q (ls ++ e ∷ rs) ≡ first_above R q rs
    above_right n = above_past q e rs ls n s
        ∙ elim (R q e.0) as (λ r. T (not (is_lt r)) → cond (is_lt r) (Some e) (first_above R q rs) ≡ first_above R q rs) [ Less ↦ λ m. absurd m | Equal ↦ λ _. refl | Greater ↦ λ _. refl ] n

    pub put_left : (v : V) → R q e.0 ≡ Less → put R q v (ls ++ e ∷ rs) ≡ put R q v ls ++ e ∷ rs
    put_left v p = left ls where
      left : (xs : List (K × V)) → put R q v (xs ++ e ∷ rs) ≡ put R q v xs ++ e ∷ rs
      left [] = ap (λ r. by_order r ((q, v) ∷ e ∷ rs) ((e.0, v) ∷ rs) (e ∷ put R q v rs)) p
      left (x ∷ xs) =
          elim (R q x.0) as (λ r. by_order r ((q, v) ∷ x ∷ xs ++ e ∷ rs) ((x.0, v) ∷ xs ++ e ∷ rs) (x ∷ put R q v (xs ++ e ∷ rs)) ≡ by_order r ((q, v) ∷ x ∷ xs) ((x.0, v) ∷ xs) (x ∷ put R q v xs) ++ e ∷ rs) [
            | Less ↦ refl
            | Equal ↦ refl
            | Greater ↦ ap (λ ys. x ∷ ys) (left xs)
          ]

    pub put_here : (v : V) → R q e.0 ≡ Equal → put R q v (ls ++ e ∷ rs) ≡ ls ++ (e.0, v) ∷ rs
    put_here v p = put_past q e rs v ls (not_less R q e.0 Equal tt p) s ∙ ap (λ r. ls ++ by_order r ((q, v) ∷ e ∷ rs) ((e.0, v) ∷ rs) (e ∷ put R q v rs)) p

    pub put_right : (v : V) → R q e.0 ≡ Greater → put R q v (ls ++ e ∷ rs) ≡ ls ++ e ∷ put R q v rs
    put_right v p = put_past q e rs v ls (not_less R q e.0 Greater tt p) s ∙ ap (λ r. ls ++ by_order r ((q, v) ∷ e ∷ rs) ((e.0, v) ∷ rs) (e ∷ put R q v rs)) p

    pub others_left : R q e.0 ≡ Less → where_key R (is_other R q) (ls ++ e ∷ rs) ≡ where_key R (is_other R q) ls ++ e ∷ rs
    others_left p = left ls where
      left : (xs : List (K × V)) → where_key R (is_other R q) (xs ++ e ∷ rs) ≡ where_key R (is_other R q) xs ++ e ∷ rs
      left [] = others_below R q (e ∷ rs) (both _ _ (below p) (below_from q e.0 rs p (below_behind R ls e rs s)))
      left (x ∷ xs) =
          elim (not (is_eq (R q x.0))) as (λ b. cond b (x ∷ where_key R (is_other R q) (xs ++ e ∷ rs)) (where_key R (is_other R q) (xs ++ e ∷ rs)) ≡ cond b (x ∷ where_key R (is_other R q) xs) (where_key R (is_other R q) xs) ++ e ∷ rs) [
            | true ↦ ap (λ ys. x ∷ ys) (left xs)
            | false ↦ left xs
          ]

    pub others_here : R q e.0 ≡ Equal → where_key R (is_other R q) (ls ++ e ∷ rs) ≡ ls ++ rs
    others_here p =
        let rest = where_key R (is_other R q) rs in
        others_past q e rs ls (not_less R q e.0 Equal tt p) s ∙ ap (λ r. ls ++ cond (not (is_eq r)) (e ∷ rest) rest) p ∙ ap (λ ys. ls ++ ys) (others_below R q rs (below_tied q e.0 rs p (below_behind R ls e rs s)))

    pub others_right : R q e.0 ≡ Greater → where_key R (is_other R q) (ls ++ e ∷ rs) ≡ ls ++ e ∷ where_key R (is_other R q) rs
    others_right p =
        let rest = where_key R (is_other R q) rs in
        others_past q e rs ls (not_less R q e.0 Greater tt p) s ∙ ap (λ r. ls ++ cond (not (is_eq r)) (e ∷ rest) rest) p
