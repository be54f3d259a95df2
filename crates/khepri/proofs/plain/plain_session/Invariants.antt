use Rattle.std.proofs.Common.{◌-◌, ◌≤◌, length, drop}
use Rattle.khepri.proofs.WholeScript.{PlainSoFar}
use Rattle.khepri.proofs.plain.plain_session.Given as goal

abbrev pub invariant-lines : goal.invariant-lines
invariant-lines l = record {
  within : l.at ≤ length l.fn.script;
  so_far : PlainSoFar l.fn.script (drop l.at l.fn.script) l.tree l.text.items;
}

abbrev pub decreases-lines : goal.decreases-lines
decreases-lines l = length l.fn.script - l.at
