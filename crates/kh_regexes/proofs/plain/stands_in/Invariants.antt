use Rattle.std.proofs.Common.{◌≡◌, drop}
use Rattle.kh_regexes.specs.Plain.{stands_in}
use Rattle.kh_regexes.proofs.plain.stands_in.Given as goal

abbrev pub invariant-loop-at : goal.invariant-loop-at
invariant-loop-at l = stands_in l.text (drop l.at l.subject) ≡ stands_in l.text l.subject
