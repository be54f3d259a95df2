-- References of pairs with a value at a key.
use Rattle.std.proofs.Common.{◌≡◌, ◌<◌, ◌≤◌, ℕ, List, ◌∷◌, ◌++◌, length, take, drop, get_or, refl, sym, ap, ◌∙◌, arith}
use Rattle.std.specs.BTreeMap.{insert_entry}
use Rattle.std.specs.List as lists
use Rattle.std.specs.List.{HoldsAt}
use Rattle.std.specs.List.Sorted.{IsPartitionPoint}
use Rattle.std.specs.Prelude.{slice_set}
use Rattle.std.specs.declared.cmp.Ordering.TheVariants.{Less, Greater}
use Rattle.std.proofs.lemmas.List.{map-set}
use Rattle.kh_term.specs.declared.tree.TermTree.{TermTree}
use Rattle.kh_term.specs.declared.tree.TermTree.TheVariants as tree
use Rattle.kh_term.specs.Order.{term_cmp}
use Rattle.kh_term.specs.WellFormed.{IsTerm, AreTerms}
use Rattle.kh_heap.specs.Heap.{term_at, pairs_at}
use Rattle.kh_bif_data.proofs.Editing.{map-inserted}
use Rattle.kh_bif_data.proofs.Merged.{shown}
use Rattle.kh_bif_data.proofs.Ordered.{Pairs, keys, Rise, key_fits, turned, put_there, put_between}

module _ (heap : List TermTree) (items new : List (ℕ × ℕ)) (ps : Pairs) (are : pairs_at heap items ≡ ps) (k v : ℕ) (at : ℕ) (rises : Rise ps) (fit : AreTerms (keys ps)) (key : IsTerm (term_at heap k)) where
  -- in the place of the pair with this key
  pub put_over : at < length ps → HoldsAt (λ p. p.0 ≡ term_at heap k) ps at → new ≡ slice_set items at (k, v) → pairs_at heap new ≡ insert_entry term_cmp ps (term_at heap k) (term_at heap v)
  put_over within is e =
      ap (pairs_at heap) e ∙ map-set (shown heap) items at (k, v) ∙ ap (λ qs. slice_set qs at (shown heap (k, v))) are
      ∙ sym (put_there ps (term_at heap k) (term_at heap v) at (tree.Nil, tree.Nil) rises fit key within (is (tree.Nil, tree.Nil)))

  -- between the lesser and the greater keys
  pub put_in : at ≤ length ps → IsPartitionPoint (λ p. term_cmp p.0 (term_at heap k) ≡ Less) (λ p. term_cmp p.0 (term_at heap k) ≡ Greater) ps at → new ≡ lists.insert items at (k, v)
      → pairs_at heap new ≡ insert_entry term_cmp ps (term_at heap k) (term_at heap v)
  put_in within parted e =
      ap (pairs_at heap) e ∙ map-inserted (shown heap) items at (k, v) ∙ ap (λ qs. lists.insert qs at (shown heap (k, v))) are
      ∙ sym (
      put_between ps (term_at heap k) (term_at heap v) at within
      (λ i d l. turned (get_or ps i d).0 (term_at heap k) Less (key_fits ps i d fit (omega arith)) key (parted.0 i d (omega arith) l))
      (λ d l. turned (get_or ps at d).0 (term_at heap k) Greater (key_fits ps at d fit l) key (parted.1 at d (omega arith) l))
      )
