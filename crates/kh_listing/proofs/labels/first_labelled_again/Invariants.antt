use Rattle.std.proofs.Common.{◌≡◌, ℕ}
use Rattle.std.specs.BTreeSet.{contains}
use Rattle.std.specs.Ordering.{nat_cmp}
use Rattle.kh_listing.specs.Faults.{is_labelled_again, has_number}
use Rattle.kh_listing.specs.Outcome.{NonePasses}
use Rattle.kh_listing.specs.Places.{before}
use Rattle.kh_listing.proofs.labels.first_labelled_again.Given as goal

abbrev pub invariant-loop-i : goal.invariant-loop-i
invariant-loop-i l = record {
  none : NonePasses (is_labelled_again l.forms) l.i;
  seen : (n : ℕ) → contains nat_cmp l.seen n ≡ before (has_number n) l.forms l.i;
}
