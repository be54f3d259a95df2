use Rattle.std.proofs.Common.{◌≡◌, false, drop}
use Rattle.kh_read.specs.Skipped.{first_mark}
use Rattle.kh_read.proofs.blanks.first_mark.Given as goal

abbrev pub invariant-loop-place : goal.invariant-loop-place
invariant-loop-place l = first_mark l.comment l.place (drop l.place l.fn.bytes) ≡ first_mark false 0 l.fn.bytes
