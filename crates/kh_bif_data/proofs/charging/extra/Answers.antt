use Rattle.std.proofs.Common.{◌≡◌, sym, ap, ◌∙◌}
use Rattle.std.specs.Prelude.{Some}
use Rattle.kh_heap.specs.Heap.{term_at, terms_at}
use Rattle.kh_bif_data.specs.Answer.{arity_by}
use Rattle.kh_bif_data.specs.Rows.{operation_of}
use Rattle.kh_bif_data.proofs.Calls.{charged}
use Rattle.kh_bif_data.proofs.charging.extra.Goals as goal

pub arguments-first-requires : goal.arguments-first-requires
arguments-first-requires c = c.requires.arity ∙ ap arity_by (sym c.operation_of.ensures ∙ c.in-Some.is)

pub returns : goal.returns
returns c =
    let heap = c.args.heap.now in
    let terms = terms_at heap c.args.args.now in
    let is : operation_of c.args.b ≡ Some c.in-Some.operation = sym c.operation_of.ensures ∙ c.in-Some.is in
    let shown = c.arguments-first.ensures.terms heap in
    c.charge.ensures
    ∙ charged c.args.b c.in-Some.operation terms (term_at heap c.arguments-first.result.0) (term_at heap c.arguments-first.result.1) (term_at heap c.arguments-first.result.2) is shown.0 shown.1 shown.2
