use Rattle.std.proofs.Common.{◌≡◌, ◌≤◌, take, count_by}
use Rattle.kh_listing.specs.Faults.{jumps_out}
use Rattle.kh_listing.specs.Outcome.{NonePasses}
use Rattle.kh_listing.specs.Places.{is_function}
use Rattle.kh_listing.proofs.labels.first_jumping_out.Given as goal

abbrev pub invariant-loop-i : goal.invariant-loop-i
invariant-loop-i l = record {
  none : NonePasses (jumps_out l.forms) l.i;
  few : l.number ≤ l.i;
  number : l.number ≡ count_by is_function (take l.i l.forms);
}
