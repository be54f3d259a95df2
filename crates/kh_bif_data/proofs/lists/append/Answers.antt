use Rattle.std.proofs.Common.{◌≡◌, length, ap, sym, subst, ◌∙◌, arith}
use Rattle.std.proofs.lemmas.List.{length-map}
use Rattle.std.specs.Prelude.{Some, None}
use Rattle.kh_term.specs.Make.{list_with_tail}
use Rattle.kh_heap.specs.Heap.{term_at, terms_at, HoldsAll}
use Rattle.kh_bif_base.specs.Answer.{Value, badarg}
use Rattle.kh_bif_data.specs.Lists.{append, proper}
use Rattle.kh_bif_data.proofs.Answering.{GrewBy-trans, same_answer}
use Rattle.kh_bif_data.proofs.Asking.{proper_are, proper_answer, improper_answer}
use Rattle.kh_bif_data.proofs.lists.append.Goals as goal

pub onto-built-requires-clause-items : goal.onto-built-requires-clause-items
onto-built-requires-clause-items c =
    let heap = c.args.heap.now in
    let held : HoldsAll heap c.in-Ok-Some.items.items = rw c.in-Ok-Some.field-0-is at c.in-Ok-Some.ensures.held in
    subst (λ rs. HoldsAll heap rs) (sym c.as_slice.ensures.value) held

pub onto-built-requires-clause-room : goal.onto-built-requires-clause-room
onto-built-requires-clause-room c =
    let heap = c.args.heap.now in
    let t = term_at heap c.args.a in
    let items = c.in-Ok-Some.items.items in
    let found : Some (terms_at heap items) ≡ proper t = rw c.in-Ok-Some.field-0-is at c.in-Ok-Some.ensures.terms in
    omega (arith, c.requires.room, ap length c.as_slice.ensures.value, length-map items (term_at heap), ap length (proper_are t (terms_at heap items) found))

pub answer-requires : goal.answer-requires
answer-requires c =
    let heap = c.args.heap.now in
    let t = term_at heap c.args.a in
    let items = c.in-Ok-Some.items.items in
    let found : Some (terms_at heap items) ≡ proper t = rw c.in-Ok-Some.field-0-is at c.in-Ok-Some.ensures.terms in
    omega (arith, c.requires.room, c.onto-built.ensures.grew.cells, ap length c.as_slice.ensures.value, length-map items (term_at heap), ap length (proper_are t (terms_at heap items) found))

pub returns-in-Ok-Some : goal.returns-in-Ok-Some
returns-in-Ok-Some c =
    let heap = c.args.heap.now in
    let t = term_at heap c.args.a in
    let tail = term_at heap c.args.tail in
    let items = c.in-Ok-Some.items.items in
    let found : Some (terms_at heap items) ≡ proper t = rw c.in-Ok-Some.field-0-is at c.in-Ok-Some.ensures.terms in
    let built = list_with_tail (terms_at heap c.as_slice.result.now) tail in
    let long = ap length (proper_are t (terms_at heap items) found) in
    record {
      answer =
          same_answer c.answer.new.heap c.answer.result (Value built) (append t tail)
          (ap (λ rs. Value (list_with_tail (terms_at heap rs) tail)) c.as_slice.ensures.value ∙ proper_answer t (λ ts. Value (list_with_tail ts tail)) (terms_at heap items) found)
          (c.answer.ensures.answer built c.onto-built.ensures.built);
      grew =
          GrewBy-trans _ 2 _ heap c.onto-built.new.heap c.answer.new.heap (omega (arith, ap length c.as_slice.ensures.value, length-map items (term_at heap), long)) c.onto-built.ensures.grew c.answer.ensures.grew;
    }

pub returns-in-Ok-None-clause-answer : goal.returns-in-Ok-None-clause-answer
returns-in-Ok-None-clause-answer c =
    let heap = c.args.heap.now in
    let t = term_at heap c.args.a in
    let tail = term_at heap c.args.tail in
    let found : None ≡ proper t = rw c.in-Ok-None.field-0-is at c.in-Ok-None.ensures.terms in
    same_answer c.raise.new.heap c.raise.result badarg (append t tail) (improper_answer t (λ ts. Value (list_with_tail ts tail)) found) c.raise.ensures.answer
