-- The halves of a search among rising keys, and what it finds.
use Rattle.std.proofs.Common.{◌≡◌, ℕ, ◌+◌, ◌<◌, ◌≤◌, List, length, get_or, inl, inr, refl, sym, ap, subst, ◌∙◌, arith}
use Rattle.std.proofs.lemmas.Bool.{cases_lt}
use Rattle.std.specs.Prelude.{Option, Some, None}
use Rattle.std.specs.declared.cmp.Ordering.{Ordering}
use Rattle.std.specs.declared.cmp.Ordering.TheVariants.{Less, Equal, Greater}
use Rattle.std.specs.List.{AllWithin, HoldsAt}
use Rattle.std.specs.List.Sorted.{IsPartitionPoint}
use Rattle.std.specs.Ordering.{ordering_index}
use Rattle.kh_term.specs.declared.tree.TermTree.{TermTree}
use Rattle.kh_term.specs.declared.tree.TermTree.TheVariants as tree
use Rattle.kh_term.specs.Lemmas.Fits.{pairs_of_map, keys_rise_in, keys_of_map}
use Rattle.kh_term.specs.Lookup.{value_at}
use Rattle.kh_term.specs.Order.{term_cmp}
use Rattle.kh_term.specs.WellFormed.{IsTerm, AreTerms}
use Rattle.kh_term.proofs.Rising.{answers_rise, value_found, value_missing}
use Rattle.kh_term.proofs.Same.{same}
use Rattle.kh_heap.specs.Parts.{pairs_in}
use Rattle.kh_bif_data.proofs.Ordered.{Pairs, keys, Rise, key_fits, tied}

-- the keys of a map rise, and are terms
module _ (t : TermTree) (is : t ≡ tree.Map (pairs_in t)) (fits : IsTerm t) where
  pub map_rises : Rise (pairs_in t)
  map_rises = keys_rise_in (pairs_in t) (pairs_of_map (pairs_in t) (subst IsTerm is fits))

  pub map_fits : AreTerms (keys (pairs_in t))
  map_fits = keys_of_map (pairs_in t) (pairs_of_map (pairs_in t) (subst IsTerm is fits))

least : (o : Ordering) → ordering_index o ≤ 0 → o ≡ Less
least Less l = refl
least Equal l = absurd (omega (arith, l))
least Greater l = absurd (omega (arith, l))

most : (o : Ordering) → 2 ≤ ordering_index o → o ≡ Greater
most Less l = absurd (omega (arith, l))
most Equal l = absurd (omega (arith, l))
most Greater l = refl

module _ (ps : Pairs) (key : TermTree) (rises : Rise ps) (ts : AreTerms (keys ps)) (t : IsTerm key) (middle : ℕ) (within : middle < length ps) where
  -- below a lesser key all are less
  pub less_up_to : ((d : TermTree × TermTree) → term_cmp (get_or ps middle d).0 key ≡ Less) → AllWithin (λ p. term_cmp p.0 key ≡ Less) ps 0 (middle + 1)
  less_up_to e i d low high =
      least (term_cmp (get_or ps i d).0 key) (omega (arith, answers_rise ps key rises ts t i middle d (omega (arith, high)) within, ap ordering_index (e d)))

  -- from a greater key on all are greater
  pub greater_from : ((d : TermTree × TermTree) → term_cmp (get_or ps middle d).0 key ≡ Greater) → AllWithin (λ p. term_cmp p.0 key ≡ Greater) ps middle (length ps)
  greater_from e i d low high =
      most (term_cmp (get_or ps i d).0 key) (omega (arith, answers_rise ps key rises ts t middle i d low high, ap ordering_index (e d)))

  -- an equal key is the key
  pub same_at : ((d : TermTree × TermTree) → term_cmp (get_or ps middle d).0 key ≡ Equal) → HoldsAt (λ p. p.0 ≡ key) ps middle
  same_at e d = same (get_or ps middle d).0 key (key_fits ps middle d ts within) t (e d)

-- between the lesser and the greater keys the key isn't there
apart_there : (o : Ordering) → o ≡ Less → o ≡ Equal → ⊥
apart_there o e f = cc

apart_behind : (o : Ordering) → o ≡ Greater → o ≡ Equal → ⊥
apart_behind o e f = cc

module _ (ps : Pairs) (key : TermTree) (at : ℕ) (parted : IsPartitionPoint (λ p. term_cmp p.0 key ≡ Less) (λ p. term_cmp p.0 key ≡ Greater) ps at) where
  pub all_apart : (i : ℕ) (d : TermTree × TermTree) → i < length ps → term_cmp (get_or ps i d).0 key ≡ Equal → ⊥
  all_apart i d l e = elim (cases_lt i at) [
    | inl below ↦ apart_there (term_cmp (get_or ps i d).0 key) (parted.0 i d (omega arith) below) e
    | inr above ↦ apart_behind (term_cmp (get_or ps i d).0 key) (parted.1 i d above l) e
  ]

  pub not_found : None ≡ value_at key ps
  not_found = value_missing ps key all_apart

-- the value beside the key
pub found_at : (ps : Pairs) (key x : TermTree) (at : ℕ) (d : TermTree × TermTree) → Rise ps → AreTerms (keys ps) → IsTerm key → at < length ps → HoldsAt (λ p. p.0 ≡ key) ps at → x ≡ (get_or ps at d).1 → Some x ≡ value_at key ps
found_at ps key x at d h ts t within is e =
    ap (λ (y : TermTree). Some y) e ∙ value_found ps key at d h ts t within (ap (λ k. term_cmp k key) (is d) ∙ tied key t)
