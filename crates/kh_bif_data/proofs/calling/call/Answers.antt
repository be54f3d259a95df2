use Rattle.std.proofs.Common.{◌≡◌, sym, ap, ◌∙◌, arith}
use Rattle.std.specs.Prelude.{Some}
use Rattle.kh_heap.specs.Heap.{term_at, terms_at}
use Rattle.kh_bif_data.specs.Answer.{done, answer_of, arity_by}
use Rattle.kh_bif_data.specs.Rows.{operation_of}
use Rattle.kh_bif_data.proofs.Answering.{same_answer}
use Rattle.kh_bif_data.proofs.Calls.{answered, charged}
use Rattle.kh_bif_data.proofs.calling.call.Goals as goal

pub arguments-first-requires : goal.arguments-first-requires
arguments-first-requires c = c.requires.arity ∙ ap arity_by (sym c.operation_of.ensures ∙ c.in-Some.is)

pub apply-requires-clause-room : goal.apply-requires-clause-room
apply-requires-clause-room c =
    let heap = c.args.heap.now in
    let terms = terms_at heap c.args.args.now in
    let is : operation_of c.args.b ≡ Some c.in-Some.operation = sym c.operation_of.ensures ∙ c.in-Some.is in
    let shown = c.arguments-first.ensures.terms heap in
    omega (
      arith,
      c.requires.room,
      charged c.args.b c.in-Some.operation terms (term_at heap c.arguments-first.result.0) (term_at heap c.arguments-first.result.1) (term_at heap c.arguments-first.result.2) is shown.0 shown.1 shown.2,
    )

pub returns : goal.returns
returns c =
    let heap = c.args.heap.now in
    let terms = terms_at heap c.args.args.now in
    let x = term_at heap c.arguments-first.result.0 in
    let y = term_at heap c.arguments-first.result.1 in
    let z = term_at heap c.arguments-first.result.2 in
    let is : operation_of c.args.b ≡ Some c.in-Some.operation = sym c.operation_of.ensures ∙ c.in-Some.is in
    let shown = c.arguments-first.ensures.terms heap in
    record {
      answer =
          same_answer c.apply.new.heap c.apply.result (done c.in-Some.operation x y z) (answer_of c.args.b terms) (answered c.args.b c.in-Some.operation terms x y z is shown.0 shown.1 shown.2)
          c.apply.ensures.answer;
      kept = c.apply.ensures.grew.grew;
      cells = omega (arith, c.apply.ensures.grew.cells, charged c.args.b c.in-Some.operation terms x y z is shown.0 shown.1 shown.2);
    }
