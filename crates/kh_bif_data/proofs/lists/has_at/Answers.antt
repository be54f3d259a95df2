use Rattle.std.proofs.Common.{ap, ◌∙◌, arith}
use Rattle.std.specs.Ordering.{is_eq}
use Rattle.kh_heap.specs.Heap.{term_at}
use Rattle.kh_bif_data.proofs.Places.{has_there, has_past, has_none}
use Rattle.kh_bif_data.proofs.lists.has_at.Goals as goal

pub part-part-requires-clause-within : goal.part-part-requires-clause-within
part-part-requires-clause-within c = omega (arith, c.if-place-many.true, c.from-many.ensures, c.in-Tuple.ensures.1)

pub returns-then-place-many : goal.returns-then-place-many
returns-then-place-many c =
    let heap = c.args.heap.now in
    c.is_eq.ensures ∙ ap is_eq c.compare.ensures
    ∙ has_there heap (term_at heap c.args.key) (term_at heap c.args.r) c.args.place c.in-Tuple.count (term_at heap c.part-part.result) c.in-Tuple.ensures (omega (arith, c.if-place-many.true, c.from-many.ensures, c.in-Tuple.ensures.1)) c.part-part.ensures.part

pub returns-else-place-many : goal.returns-else-place-many
returns-else-place-many c =
    let heap = c.args.heap.now in
    has_past heap (term_at heap c.args.key) (term_at heap c.args.r) c.args.place c.in-Tuple.count c.in-Tuple.ensures (omega (arith, c.if-place-many.false, c.from-many.ensures, c.in-Tuple.ensures.1))

pub returns-in_default : goal.returns-in_default
returns-in_default c =
    let heap = c.args.heap.now in
    has_none heap (term_at heap c.args.key) (term_at heap c.args.r) c.args.place c.view.result c.view.ensures (λ n e. c.in_default.not-Tuple n e)
