use Rattle.std.proofs.Common.{sym, subst, ◌∙◌}
use Rattle.kh_text_defs.specs.declared.mode.Mode.TheVariants.{Script}
use Rattle.kh_read.specs.State.{Step}
use Rattle.kh_read.specs.Views.{frames_of, setting, Gives}
use Rattle.kh_read.proofs.Befores.{captured_more}
use Rattle.kh_read.proofs.before.before_captured.Goals as goal

pub returns : goal.returns
returns c =
    subst (λ (s : Step). Gives c.captured_in.result s)
    (sym (captured_more (setting Script) c.args.head.0 c.args.head.1 c.args.head.2 c.args.env.nodes (frames_of c.args.frames) c.args.at.0 c.args.at.1 (sym c.closes.ensures ∙ c.if-closes.false)))
    c.captured_in.ensures
