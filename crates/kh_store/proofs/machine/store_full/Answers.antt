use Rattle.std.proofs.Common.{◌∙◌, refl}
use Rattle.kh_store.proofs.machine.store_full.Goals as goal

pub returns : goal.returns
returns c = c.in_ok-pair.ensures ∙ rw (c.in_ok-error.ensures, c.in_ok-full.ensures) refl
