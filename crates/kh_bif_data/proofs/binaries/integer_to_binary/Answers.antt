use Rattle.std.proofs.Common.{rules, sym, ap, ◌∙◌, ℤ, to_z, of_z, SFits, arith}
use Rattle.std.specs.Fmt.{signed_decimal}
use Rattle.std.specs.Int.{w128}
use Rattle.std.proofs.lemmas.Int.{to_z-of_z}
use Rattle.std.specs.Prelude.{Option}
use Rattle.kh_term.specs.declared.tree.TermTree.TheVariants as tree
use Rattle.kh_heap.specs.Heap.{term_at}
use Rattle.kh_bif_base.specs.Answer.{Value, badarg}
use Rattle.kh_bif_data.specs.Asked.{of_some}
use Rattle.kh_bif_data.specs.Binaries.{integer_to_binary}
use Rattle.kh_bif_data.proofs.Answering.{GrewBy-trans, same_answer}
use Rattle.kh_bif_data.proofs.binaries.integer_to_binary.Goals as goal

pub returns-in-Some : goal.returns-in-Some
returns-in-Some c =
    let heap = c.args.heap.now in
    let t = term_at heap c.args.a in
    let fits : SFits w128 c.in-Some.n = search rules in
    let built = tree.Bin (signed_decimal (to_z w128 (of_z w128 c.in-Some.n))) in
    record {
      answer =
          same_answer c.answer.new.heap c.answer.result (Value built) (integer_to_binary t)
          (ap (λ (n : ℤ). Value (tree.Bin (signed_decimal n))) (to_z-of_z w128 c.in-Some.n fits) ∙ sym (ap (λ (o : Option ℤ). of_some o badarg (λ n. Value (tree.Bin (signed_decimal n)))) (sym c.integer.ensures ∙ c.in-Some.is))) (c.answer.ensures.answer built c.decimal_binary-built.ensures.built);
      grew = GrewBy-trans 12 2 16 heap c.decimal_binary-built.new.heap c.answer.new.heap (omega arith) c.decimal_binary-built.ensures.grew c.answer.ensures.grew;
    }

pub returns-in-None-clause-answer : goal.returns-in-None-clause-answer
returns-in-None-clause-answer c =
    let heap = c.args.heap.now in
    let t = term_at heap c.args.a in
    same_answer c.raise.new.heap c.raise.result badarg (integer_to_binary t)
    (sym (ap (λ (o : Option ℤ). of_some o badarg (λ n. Value (tree.Bin (signed_decimal n)))) (sym c.integer.ensures ∙ c.in-None.is))) c.raise.ensures.answer
