use Rattle.std.proofs.Common.{◌≡◌, length}
use Rattle.std.specs.Vec.Iter.{into_iter_items, into_iter_len}
use Rattle.kh_term.specs.MapOf.{map_with, map_of, trees_of}
use Rattle.kh_term.proofs.mapping.pairs_of.Given as goal

abbrev pub invariant-loop-key : goal.invariant-loop-key
invariant-loop-key l = (map_with (trees_of l.kept.entries) (trees_of (into_iter_items l.key-iterator)) ≡ map_of (trees_of l.fn.all.items))
    × (into_iter_len l.key-iterator ≡ length (into_iter_items l.key-iterator))
