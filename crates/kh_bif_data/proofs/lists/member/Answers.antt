use Rattle.std.proofs.Common.{ap, ◌∙◌}
use Rattle.std.specs.List.{list_any}
use Rattle.kh_heap.specs.Heap.{term_at}
use Rattle.kh_bif_base.specs.Answer.{badarg, boolean}
use Rattle.kh_bif_data.specs.Lists.{is_term, member}
use Rattle.kh_bif_data.proofs.Answering.{same_answer}
use Rattle.kh_bif_data.proofs.Asking.{list_answer, no_list_answer}
use Rattle.kh_bif_data.proofs.lists.member.Goals as goal

pub returns-then-is_proper-clause-answer : goal.returns-then-is_proper-clause-answer
returns-then-is_proper-clause-answer c =
    let heap = c.args.heap.now in
    let x = term_at heap c.args.x in
    let t = term_at heap c.args.a in
    same_answer c.boolean.new.heap c.boolean.result (boolean c.found-found.result.0) (member x t)
    (ap boolean c.found-found.ensures.found ∙ list_answer t (λ ts. boolean (list_any (is_term x) ts)) c.found-found.result.1 c.found-found.ensures.proper c.if-is_proper.true) c.boolean.ensures.answer

pub returns-else-is_proper-clause-answer : goal.returns-else-is_proper-clause-answer
returns-else-is_proper-clause-answer c =
    let heap = c.args.heap.now in
    let x = term_at heap c.args.x in
    let t = term_at heap c.args.a in
    same_answer c.raise.new.heap c.raise.result badarg (member x t)
    (no_list_answer t (λ ts. boolean (list_any (is_term x) ts)) c.found-found.result.1 c.found-found.ensures.proper c.if-is_proper.false) c.raise.ensures.answer
