use Rattle.std.proofs.Common.{List, ℕ, subst}
use Rattle.std.specs.Prelude.{codes, if◌then◌else◌}
use Rattle.kh_term.specs.declared.tree.TermTree.TheVariants as tree
use Rattle.kh_heap.specs.Heap.{Stands}
use Rattle.kh_bif_base.proofs.Answering.{value_answers, small-Atom}
use Rattle.kh_bif_base.proofs.answers.boolean.Goals as goal

pub returns-in-Ok-clause-answer : goal.returns-in-Ok-clause-answer
returns-in-Ok-clause-answer c =
    let stands : Stands c.atom.new.heap c.in-Ok.r (tree.Atom (if c.args.holds then codes "true" else codes "false")) =
    subst (λ (text : List ℕ). Stands c.atom.new.heap c.in-Ok.r (tree.Atom text)) c.boolean_word.ensures.word c.in-Ok.ensures.term
    in
    value_answers _ _ _ stands (small-Atom _)
