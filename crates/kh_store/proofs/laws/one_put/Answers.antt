use Rattle.kh_store.proofs.Putting.{put_own, put_above, put_others}
use Rattle.kh_store.proofs.laws.one_put.Goals as goal

pub returns : goal.returns
returns c = record { own = put_own; above = put_above; others = put_others }
