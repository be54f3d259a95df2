use Rattle.kh_instr.proofs.Relabel.{keeps_bare, maps_labels, moves_callee, keeps_labels}
use Rattle.kh_instr.proofs.laws.relabelling_keeps_the_effect.Goals as goal

pub returns : goal.returns
returns c = record { bare = keeps_bare; labels = maps_labels; callee = moves_callee; is_any_label = keeps_labels }
