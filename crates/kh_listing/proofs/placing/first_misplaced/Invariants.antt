use Rattle.std.proofs.Common.{◌≡◌}
use Rattle.kh_listing.specs.Faults.{is_misplaced}
use Rattle.kh_listing.specs.Outcome.{NonePasses}
use Rattle.kh_listing.specs.Places.{before, is_exports, is_attributes, is_labels, is_function}
use Rattle.kh_listing.proofs.placing.first_misplaced.Given as goal

abbrev pub invariant-loop-i : goal.invariant-loop-i
invariant-loop-i l = record {
  none : NonePasses (is_misplaced l.forms) l.i;
  exports : l.seen.exports ≡ before is_exports l.forms l.i;
  attributes : l.seen.attributes ≡ before is_attributes l.forms l.i;
  labels : l.seen.labels ≡ before is_labels l.forms l.i;
  function : l.seen.function ≡ before is_function l.forms l.i;
}
