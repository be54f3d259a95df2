use Rattle.std.proofs.Common.{sym, ◌∙◌}
use Rattle.kh_term.proofs.Views.{views_same, views_equal}
use Rattle.kh_term.proofs.view.NodeView.is_same.Goals as goal

pub returns : goal.returns
returns c =
    let a = c.args.self.now in
    let b = c.args.other.now in
    (λ h. views_same a b (sym c.eq.ensures ∙ h), λ e. c.eq.ensures ∙ views_equal a b e)
