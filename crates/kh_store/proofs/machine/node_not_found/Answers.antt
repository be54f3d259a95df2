use Rattle.std.proofs.Common.{◌∙◌, refl}
use Rattle.kh_store.proofs.machine.node_not_found.Goals as goal

pub returns : goal.returns
returns c =
    c.in_ok-pair.ensures
    ∙ rw (c.in_ok-error.ensures, c.in_ok-detail.ensures, c.in_ok-khepri.ensures, c.in_ok-what.ensures, c.in_ok-place.ensures) refl
