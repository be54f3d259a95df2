use Rattle.std.proofs.Common.{◌≡◌, ◌+◌, length, ap, sym, subst, ◌∙◌, arith}
use Rattle.std.proofs.lemmas.List.{length-map}
use Rattle.std.specs.Prelude.{Some, None}
use Rattle.kh_term.specs.declared.tree.TermTree.TheVariants as tree
use Rattle.kh_heap.specs.Heap.{term_at, terms_at, HoldsAll}
use Rattle.kh_bif_base.specs.Answer.{Value, badarg}
use Rattle.kh_bif_data.specs.Lists.{proper}
use Rattle.kh_bif_data.specs.Tuples.{list_to_tuple}
use Rattle.kh_bif_data.proofs.Answering.{GrewBy-of, GrewBy-trans, built_by, same_answer}
use Rattle.kh_bif_data.proofs.Asking.{proper_are, proper_answer, improper_answer}
use Rattle.kh_bif_data.proofs.tuples.list_to_tuple.Goals as goal

pub tuple-built-requires-clause-held : goal.tuple-built-requires-clause-held
tuple-built-requires-clause-held c =
    let heap = c.args.heap.now in
    let held : HoldsAll heap c.in-Ok-Some.items.items = rw c.in-Ok-Some.field-0-is at c.in-Ok-Some.ensures.held in
    subst (λ rs. HoldsAll heap rs) (sym c.as_slice.ensures.value) held

pub tuple-built-requires-clause-room : goal.tuple-built-requires-clause-room
tuple-built-requires-clause-room c =
    let heap = c.args.heap.now in
    let t = term_at heap c.args.a in
    let items = c.in-Ok-Some.items.items in
    let found : Some (terms_at heap items) ≡ proper t = rw c.in-Ok-Some.field-0-is at c.in-Ok-Some.ensures.terms in
    omega (arith, c.requires.room, ap length c.as_slice.ensures.value, length-map items (term_at heap), ap length (proper_are t (terms_at heap items) found))

pub answer-requires : goal.answer-requires
answer-requires c =
    let heap = c.args.heap.now in
    let t = term_at heap c.args.a in
    let items = c.in-Ok-Some.items.items in
    let found : Some (terms_at heap items) ≡ proper t = rw c.in-Ok-Some.field-0-is at c.in-Ok-Some.ensures.terms in
    omega (arith, c.requires.room, c.tuple-built.ensures.cells, ap length c.as_slice.ensures.value, length-map items (term_at heap), ap length (proper_are t (terms_at heap items) found))

pub returns-in-Ok-Some : goal.returns-in-Ok-Some
returns-in-Ok-Some c =
    let heap = c.args.heap.now in
    let t = term_at heap c.args.a in
    let items = c.in-Ok-Some.items.items in
    let found : Some (terms_at heap items) ≡ proper t = rw c.in-Ok-Some.field-0-is at c.in-Ok-Some.ensures.terms in
    let built = tree.Tuple (terms_at heap c.as_slice.result.now) in
    let long = ap length (proper_are t (terms_at heap items) found) in
    let here = GrewBy-of (length items + 1) heap c.tuple-built.new.self c.tuple-built.ensures.grew (omega (arith, c.tuple-built.ensures.cells, ap length c.as_slice.ensures.value)) in
    record {
      answer =
          same_answer c.answer.new.heap c.answer.result (Value built) (list_to_tuple t)
          (ap (λ rs. Value (tree.Tuple (terms_at heap rs))) c.as_slice.ensures.value ∙ proper_answer t (λ ts. Value (tree.Tuple ts)) (terms_at heap items) found)
          (c.answer.ensures.answer built (built_by c.tuple-built.new.self c.tuple-built.result built c.tuple-built.ensures.term c.tuple-built.ensures.limits));
      grew = GrewBy-trans _ 2 _ heap c.tuple-built.new.self c.answer.new.heap (omega (arith, length-map items (term_at heap), long)) here c.answer.ensures.grew;
    }

pub returns-in-Ok-None-clause-answer : goal.returns-in-Ok-None-clause-answer
returns-in-Ok-None-clause-answer c =
    let heap = c.args.heap.now in
    let t = term_at heap c.args.a in
    let found : None ≡ proper t = rw c.in-Ok-None.field-0-is at c.in-Ok-None.ensures.terms in
    same_answer c.raise.new.heap c.raise.result badarg (list_to_tuple t) (improper_answer t (λ ts. Value (tree.Tuple ts)) found) c.raise.ensures.answer
