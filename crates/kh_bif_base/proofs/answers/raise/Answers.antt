use Rattle.std.proofs.Common.{sym, subst}
use Rattle.std.specs.Prelude.{Result, Ok, Err}
use Rattle.kh_term.specs.declared.kinds.Class.TheVariants as class
use Rattle.kh_term.specs.declared.tree.TermTree.TheVariants as tree
use Rattle.kh_heap.specs.declared.error.BifError.{BifError}
use Rattle.kh_bif_base.specs.Answer.{error_of, limited}
use Rattle.kh_bif_base.specs.Answers.{Answers}
use Rattle.kh_bif_base.proofs.Answering.{raise_answers, small-Atom}
use Rattle.kh_bif_base.proofs.answers.raise.Goals as goal

pub returns-in-Ok-clause-answer : goal.returns-in-Ok-clause-answer
returns-in-Ok-clause-answer c =
    let P : BifError → Type 0 = λ e. Answers c.atom.new.heap (Err e) (limited (error_of c.args.text.now)) in
    subst P (sym c.error.ensures) (raise_answers c.atom.new.heap class.Error c.in-Ok.reason (tree.Atom c.args.text.now) c.in-Ok.ensures.term (small-Atom c.args.text.now))
