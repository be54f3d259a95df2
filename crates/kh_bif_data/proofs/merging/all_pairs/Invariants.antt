use Rattle.std.proofs.Common.{◌≡◌, map, take}
use Rattle.std.specs.Prelude.{Some}
use Rattle.kh_term.specs.WellFormed.{AreTerms}
use Rattle.kh_heap.specs.Heap.{terms_at, pairs_at, HoldsPairs}
use Rattle.kh_bif_data.specs.Maps.{all_pairs}
use Rattle.kh_bif_data.proofs.merging.all_pairs.Given as goal

abbrev pub invariant-loop-tuple : goal.invariant-loop-tuple
invariant-loop-tuple l = record {
  held : HoldsPairs l.heap l.all.items;
  fit : AreTerms (map (λ p. p.0) (pairs_at l.heap l.all.items));
  terms : all_pairs (terms_at l.heap (take l.tuple-index l.tuples)) ≡ Some (pairs_at l.heap l.all.items);
}
