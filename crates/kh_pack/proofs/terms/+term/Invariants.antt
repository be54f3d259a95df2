use Rattle.std.proofs.Common.{◌≡◌, ◌+◌, ◌*◌, ◌-◌, [], length}
use Rattle.kh_pack.specs.Reading.{many_at, pairs_at, term_at}
use Rattle.kh_pack.proofs.terms.+term.Given as goal

abbrev pub decreases-read_term : goal.decreases-read_term
decreases-read_term l = 4 * l.depth

abbrev pub decreases-read_deep : goal.decreases-read_deep
decreases-read_deep l = 4 * l.depth + 3

abbrev pub decreases-read_list : goal.decreases-read_list
decreases-read_list l = 4 * l.depth + 2

abbrev pub decreases-read_tuple : goal.decreases-read_tuple
decreases-read_tuple l = 4 * l.depth + 2

abbrev pub decreases-read_map : goal.decreases-read_map
decreases-read_map l = 4 * l.depth + 2

abbrev pub decreases-read_closure : goal.decreases-read_closure
decreases-read_closure l = 4 * l.depth + 2

abbrev pub decreases-read_many : goal.decreases-read_many
decreases-read_many l = 4 * l.depth + 1

abbrev pub decreases-read_pairs : goal.decreases-read_pairs
decreases-read_pairs l = 4 * l.depth + 1

abbrev pub decreases-read_tail : goal.decreases-read_tail
decreases-read_tail l = 4 * l.depth + 1

abbrev pub invariant-read_many-parts : goal.invariant-read_many-parts
invariant-read_many-parts l = record {
  exact : many_at (term_at l.fn.depth) (l.fn.count - l.counter) l.parts.nodes l.rest ≡ many_at (term_at l.fn.depth) l.fn.count [] l.fn.bytes;
  number : length l.parts.nodes ≡ l.counter;
}

abbrev pub invariant-read_pairs-entries : goal.invariant-read_pairs-entries
invariant-read_pairs-entries l = pairs_at (term_at l.fn.depth) (l.fn.count - l.counter) l.pairs.nodes l.rest ≡ pairs_at (term_at l.fn.depth) l.fn.count [] l.fn.bytes
