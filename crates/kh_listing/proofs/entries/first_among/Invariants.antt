use Rattle.kh_listing.specs.Faults.{leads_astray}
use Rattle.kh_listing.specs.Outcome.{NonePasses}
use Rattle.kh_listing.proofs.entries.first_among.Given as goal

abbrev pub invariant-loop-i : goal.invariant-loop-i
invariant-loop-i l = NonePasses (leads_astray l.forms) l.i
