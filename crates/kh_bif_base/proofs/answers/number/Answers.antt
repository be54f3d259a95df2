use Rattle.std.proofs.Common.{ℤ, rules, sym, subst, SFits}
use Rattle.std.specs.Int.{w128}
use Rattle.std.specs.Prelude.{Option, Result, Ok}
use Rattle.std.proofs.lemmas.Int.{to_z-of_z}
use Rattle.kh_term.specs.declared.tree.TermTree.TheVariants as tree
use Rattle.kh_heap.specs.Heap.{Stands}
use Rattle.kh_bif_base.specs.Answer.{limited}
use Rattle.kh_bif_base.specs.Answers.{Answers}
use Rattle.kh_bif_base.specs.Integers.{number}
use Rattle.kh_bif_base.proofs.Answering.{value_answers, small-Int}
use Rattle.kh_bif_base.proofs.answers.number.Goals as goal

pub returns-in-Ok-clause-answer : goal.returns-in-Ok-clause-answer
returns-in-Ok-clause-answer c =
    let fits : SFits w128 c.in-Some.n = search rules in
    let stands : Stands c.int.new.self c.in-Ok.r (tree.Int c.in-Some.n) =
    subst (λ (n : ℤ). Stands c.int.new.self c.in-Ok.r (tree.Int n)) (to_z-of_z w128 c.in-Some.n fits) c.in-Ok.ensures.term
    in
    let P : Option ℤ → Type 0 = λ n. Answers c.int.new.self (Ok c.in-Ok.r) (limited (number n)) in
    subst P (sym c.in-Some.is) (value_answers c.int.new.self c.in-Ok.r (tree.Int c.in-Some.n) stands (small-Int c.in-Some.n))
