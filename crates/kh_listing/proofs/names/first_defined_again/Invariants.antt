use Rattle.std.proofs.Common.{◌≡◌, ℕ, List}
use Rattle.kh_listing.specs.Faults.{is_defined_again, defines}
use Rattle.kh_listing.specs.Outcome.{NonePasses}
use Rattle.kh_listing.specs.Places.{before}
use Rattle.kh_listing.specs.Sets.{has_name}
use Rattle.kh_listing.proofs.names.first_defined_again.Given as goal

abbrev pub invariant-loop-i : goal.invariant-loop-i
invariant-loop-i l = record {
  none : NonePasses (is_defined_again l.forms) l.i;
  names : (name : List ℕ) (arity : ℕ) → has_name l.names name arity ≡ before (defines name arity) l.forms l.i;
}
