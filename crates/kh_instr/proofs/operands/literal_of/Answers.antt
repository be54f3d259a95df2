use Rattle.std.proofs.Common.{sym, ◌∙◌}
use Rattle.kh_instr.proofs.Literals.{literal_is}
use Rattle.kh_instr.proofs.operands.literal_of.Goals as goal

pub returns : goal.returns
returns c = literal_is c.in_ok-term.term c.args.tree.now (sym c.holds_unsupported.ensures ∙ c.if-holds_unsupported.false) c.in_ok-term.ensures
