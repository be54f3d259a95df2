use Rattle.kh_frames.proofs.Blind.{rules_are_blind}
use Rattle.kh_frames.proofs.laws.rules_are_blind.Goals as goal

pub returns : goal.returns
returns g c = λ value place. rules_are_blind value place
