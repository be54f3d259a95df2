use Rattle.std.proofs.Common.{◌∙◌, refl}
use Rattle.kh_store.proofs.machine.node_path.Goals as goal

pub returns : goal.returns
returns c = c.in_ok-map_of_one.ensures ∙ rw (c.in_ok-key.ensures, c.in_ok-value.ensures) refl
