use Rattle.khepri.proofs.Scripts.{script_exists}
use Rattle.khepri.proofs.Unique.{script_unique}
use Rattle.khepri.proofs.top.one_script.Goals as goal

pub returns : goal.returns
returns c = record {
  some = λ input. script_exists _ _;
  one = λ input forms others ending last first second. script_unique _ _ forms others ending last first second;
}
