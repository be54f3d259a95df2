use Rattle.std.proofs.Common.{◌≡◌, List, ℕ, subst, sym, arith}
use Rattle.std.proofs.lemmas.Grind.{common_steps}
use Rattle.kh_term.specs.Size.{depth_of}
use Rattle.kh_text_defs.specs.Shown.{shown}
use Rattle.kh_text_defs.specs.Spelled.{within_limits, Spells}
use Rattle.kh_print.proofs.ShownAll.{shown_spells}
use Rattle.kh_print.proofs.print.Goals as goal

pub returns-clause-spelled : goal.returns-clause-spelled
returns-clause-spelled c =
    let t = c.args.term.now in
    let written : c.push_node.new.out.items ≡ shown t.node = grind (arith, common_steps) in
    λ mode. subst (λ (text : List ℕ). Spells (within_limits mode) (depth_of t.node) text t.node) (sym written)
    (shown_spells mode t.node t.fits (depth_of t.node) (omega arith))
