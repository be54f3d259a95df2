use Rattle.kh_store.proofs.Recovery.{recovery_some, recovery_one}
use Rattle.kh_store.proofs.laws.one_recovery.Goals as goal

pub returns : goal.returns
returns c = record { some = recovery_some; one = recovery_one }
