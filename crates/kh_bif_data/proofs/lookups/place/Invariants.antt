use Rattle.std.proofs.Common.{◌≡◌, ◌≤◌, ◌-◌}
use Rattle.std.specs.List.{AllWithin}
use Rattle.std.specs.declared.cmp.Ordering.TheVariants.{Less, Greater}
use Rattle.kh_term.specs.Order.{term_cmp}
use Rattle.kh_heap.specs.Heap.{term_at}
use Rattle.kh_heap.specs.Parts.{pairs_in}
use Rattle.kh_bif_data.proofs.lookups.place.Given as goal

-- the keys before `low` are less than the one that is looked for, and those from `high` on are greater
abbrev pub invariant-search : goal.invariant-search
invariant-search l = record {
  order : l.low ≤ l.high;
  within : l.high ≤ l.fn.count;
  less : AllWithin (λ p. term_cmp p.0 (term_at l.heap l.key) ≡ Less) (pairs_in (term_at l.heap l.m)) 0 l.low;
  greater : AllWithin (λ p. term_cmp p.0 (term_at l.heap l.key) ≡ Greater) (pairs_in (term_at l.heap l.m)) l.high l.fn.count;
}

abbrev pub decreases-search : goal.decreases-search
decreases-search l = l.high - l.low
