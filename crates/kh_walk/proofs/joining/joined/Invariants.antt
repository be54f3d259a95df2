use Rattle.std.proofs.Common.{◌≡◌, take}
use Rattle.kh_walk.specs.Takes.{joined}
use Rattle.kh_walk.proofs.joining.joined.Given as goal

-- the names so far
abbrev pub invariant-loop-i : goal.invariant-loop-i
invariant-loop-i l = l.text.items ≡ joined (take l.i l.names)
