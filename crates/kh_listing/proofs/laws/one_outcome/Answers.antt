use Rattle.kh_listing.proofs.Outcomes.{one, some}
use Rattle.kh_listing.proofs.laws.one_outcome.Goals as goal

pub returns : goal.returns
returns c = record { some = some; one = one }
