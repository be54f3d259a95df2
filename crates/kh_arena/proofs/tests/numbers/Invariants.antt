use Rattle.std.proofs.Common.{◌≡◌, length}
use Rattle.kh_arena.specs.Listed.{items}
use Rattle.kh_arena.proofs.tests.numbers.Given as goal

abbrev pub invariant-loop-n : goal.invariant-loop-n
invariant-loop-n g l = length (items l.arena) ≡ l.n-counter
