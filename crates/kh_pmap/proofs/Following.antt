-- Going from one entry to the next.
use Rattle.std.proofs.Common.{subst, ◌≡◌, refl, sym, ap, ◌∙◌, cond, T, true, false, not, List, [], ◌∷◌, Some, None, MatchOption, suc, arith}
use Rattle.std.specs.declared.cmp.Ordering.{Ordering}
use Rattle.std.specs.declared.cmp.Ordering.TheVariants.{Less, Equal, Greater}
use Rattle.std.specs.declared.option.Option.{Option}
use Rattle.std.specs.Option.{unwrap_or}
use Rattle.std.specs.List.{slice_get}
use Rattle.std.specs.Ordering.{is_lt, is_eq, ordering_reverse}
use Rattle.std.specs.Cmp.{IsTotalOrder, tied_itself}
use Rattle.std.specs.FinMap.{find, is_sorted}
use Rattle.std.specs.List.{AllByRecursion}
use Rattle.std.specs.FinMap.Entries.{where_key, below_all}
use Rattle.kh_pmap.specs.Keyed.{is_above, is_other, first_above, entries_from, FirstIsLeast, IsLeastAbove, NoneAbove}
use Rattle.kh_pmap.proofs.Between.{left_of, right_of, less, below_from}

nothing : {A : Type 0} {x : A} → Some x ≡ None → ⊥
nothing is = cc

not_below : {K : Type 0} {R : K → K → Ordering} → IsTotalOrder R → (x y : K) → R x y ≡ Less → T (not (is_lt (R y x)))
not_below o x y p = subst (λ r. T (not (is_lt r))) (sym (o.antisymm y x ∙ ap ordering_reverse p)) tt

module _ {K V : Type 0} (R : K → K → Ordering) where
  -- those above a key that is below all of them are all
  above_all : (q : K) (es : List (K × V)) → T (below_all R q es) → where_key R (is_above R q) es ≡ es
  above_all q [] h = refl
  above_all q (e ∷ es) h =
      let rest = where_key R (is_above R q) es in
      ap (λ r. cond (is_lt r) (e ∷ rest) rest) (less _ (left_of _ _ h)) ∙ ap (λ xs. e ∷ xs) (above_all q es (right_of _ _ h))

  -- what is found above q stands among the entries
  found_below : (x q : K) (e : K × V) (es : List (K × V)) → T (below_all R x es) → Some e ≡ first_above R q es → R x e.0 ≡ Less
  found_below x q e [] h is = absurd (nothing is)
  found_below x q e (y ∷ es) h is =
      elim (is_lt (R q y.0)) as (λ b. Some e ≡ cond b (Some y) (first_above R q es) → R x e.0 ≡ Less) [
        | true ↦ λ p. ap (λ o. R x (unwrap_or o e).0) p ∙ less _ (left_of _ _ h)
        | false ↦ λ p. found_below x q e es (right_of _ _ h) p
      ] is

  none_above : (q : K) (es : List (K × V)) → None ≡ first_above R q es → where_key R (is_above R q) es ≡ []
  none_above q [] is = refl
  none_above q (y ∷ es) is =
      let rest = where_key R (is_above R q) es in
      elim (is_lt (R q y.0)) as (λ b. None ≡ cond b (Some y) (first_above R q es) → cond b (y ∷ rest) rest ≡ []) [
        | true ↦ λ p. cc
        | false ↦ λ p. none_above q es p
      ] is

  -- nothing is taken where the key is missing
  pub others_missing : (q : K) (es : List (K × V)) → find R q es ≡ None → where_key R (is_other R q) es ≡ es
  others_missing q [] is = refl
  others_missing q (e ∷ es) is =
      let rest = where_key R (is_other R q) es in
      elim (is_eq (R q e.0)) as (λ b. cond b (Some e.1) (find R q es) ≡ None → cond (not b) (e ∷ rest) rest ≡ e ∷ es) [
        | true ↦ λ p. cc
        | false ↦ λ p. ap (λ xs. e ∷ xs) (others_missing q es p)
      ] is

module _ {K V : Type 0} {R : K → K → Ordering} (o : IsTotalOrder R) where
  not_above_itself : (e : K × V) (es : List (K × V)) → where_key R (is_above R e.0) (e ∷ es) ≡ where_key R (is_above R e.0) es
  not_above_itself e es =
      let rest = where_key R (is_above R e.0) es in
      ap (λ r. cond (is_lt r) (e ∷ rest) rest) (tied_itself o e.0)

  -- the first entry and those above it are all
  pub from_first : (r : Option (K × V)) (es : List (K × V)) → T (is_sorted R es) → r ≡ slice_get es 0 → entries_from R r es ≡ es
  from_first r [] s is = ap (λ x. entries_from R x []) is
  from_first r (e ∷ es) s is =
      ap (λ x. entries_from R x (e ∷ es)) is ∙ ap (λ xs. e ∷ xs) (not_above_itself e es ∙ above_all R e.0 es (left_of _ _ s))

  -- the least key above q is x, which is below the rest
  next_here : (q : K) (e x : K × V) (xs : List (K × V)) → T (is_sorted R (x ∷ xs)) → R q x.0 ≡ Less → Some e ≡ Some x → e ∷ where_key R (is_above R e.0) (x ∷ xs) ≡ x ∷ where_key R (is_above R q) xs
  next_here q e x xs s p is =
      ap (λ r. unwrap_or r e ∷ where_key R (is_above R (unwrap_or r e).0) (x ∷ xs)) is
      ∙ ap (λ ys. x ∷ ys) (not_above_itself x xs ∙ above_all R x.0 xs (left_of _ _ s) ∙ sym (above_all R q xs (below_from o q x.0 xs p (left_of _ _ s))))

  -- x is below the least key above q
  next_later : (e x : K × V) (xs : List (K × V)) → R x.0 e.0 ≡ Less → where_key R (is_above R e.0) (x ∷ xs) ≡ where_key R (is_above R e.0) xs
  next_later e x xs p =
      let rest = where_key R (is_above R e.0) xs in
      ap (λ r. cond (is_lt r) (x ∷ rest) rest) (o.antisymm e.0 x.0 ∙ ap ordering_reverse p)

  after : (q : K) (e : K × V) (es : List (K × V)) → T (is_sorted R es) → Some e ≡ first_above R q es → e ∷ where_key R (is_above R e.0) es ≡ where_key R (is_above R q) es
  after q e [] s p = absurd (nothing p)
  after q e (x ∷ xs) s p =
      let rest = where_key R (is_above R q) xs in
      elim (R q x.0) as (λ r. R q x.0 ≡ r → Some e ≡ cond (is_lt r) (Some x) (first_above R q xs) → e ∷ where_key R (is_above R e.0) (x ∷ xs) ≡ cond (is_lt r) (x ∷ rest) rest) [
        | Less ↦ λ l is. next_here q e x xs s l is
        | Equal ↦ λ _ is. ap (λ ys. e ∷ ys) (next_later e x xs (found_below R x.0 q e xs (left_of _ _ s) is)) ∙ after q e xs (right_of _ _ s) is
        | Greater ↦ λ _ is. ap (λ ys. e ∷ ys) (next_later e x xs (found_below R x.0 q e xs (left_of _ _ s) is)) ∙ after q e xs (right_of _ _ s) is
      ] refl p

  -- the next entry above q and those above it are all above q
  pub from_next : (q : K) (r : Option (K × V)) (es : List (K × V)) → T (is_sorted R es) → r ≡ first_above R q es → entries_from R r es ≡ where_key R (is_above R q) es
  from_next q None es s is = sym (none_above R q es is)
  from_next q (Some e) es s is = after q e es s is

  none_less : (x : K × V) (q : K) (es : List (K × V)) → T (below_all R x.0 es) → AllByRecursion (λ y. T (is_above R q y.0) → T (not (is_lt (R y.0 x.0)))) es
  none_less x q [] h = tt
  none_less x q (y ∷ es) h = (λ _. not_below o x.0 y.0 (less _ (left_of _ _ h)), none_less x q es (right_of _ _ h))

  -- an entry before, whose key is not above q
  one_before : (q : K) (x : K × V) (es : List (K × V)) (r : Option (K × V)) → is_lt (R q x.0) ≡ false → MatchOption r (NoneAbove R q es) (λ e. IsLeastAbove R q e es) → MatchOption r (NoneAbove R q (x ∷ es)) (λ e. IsLeastAbove R q e (x ∷ es))
  one_before q x es None p h = (subst (λ b. T (not b)) (sym p) tt, h)
  one_before q x es (Some e) p h = record {
    among = (suc h.among.0, (omega (arith, h.among.1.0), h.among.1.1));
    above = h.above;
    least = (λ t. absurd (subst T p t), h.least);
  }

  pub first_is_least : FirstIsLeast R V
  first_is_least q [] s = tt
  first_is_least q (x ∷ es) s =
      elim (is_lt (R q x.0)) as (λ b. is_lt (R q x.0) ≡ b → MatchOption (cond b (Some x) (first_above R q es)) (NoneAbove R q (x ∷ es)) (λ e. IsLeastAbove R q e (x ∷ es))) [
        | true ↦ λ p. record {
          among = (0, (omega arith, refl));
          above = subst T (sym p) tt;
          least = (λ _. subst (λ r. T (not (is_lt r))) (sym (tied_itself o x.0)) tt, none_less x q es (left_of _ _ s));
        }
        | false ↦ λ p. one_before q x es (first_above R q es) p (first_is_least q es (right_of _ _ s))
      ] refl
