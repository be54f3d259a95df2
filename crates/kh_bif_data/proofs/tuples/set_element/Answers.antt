use Rattle.std.proofs.Common.{rules, SFits, ap, sym, ◌∙◌, arith}
use Rattle.std.specs.Int.{w128}
use Rattle.std.proofs.lemmas.Int.{to_z-of_z}
use Rattle.std.specs.Prelude.{Some, None, slice_set, length}
use Rattle.kh_term.specs.declared.tree.TermTree.TheVariants as tree
use Rattle.kh_heap.specs.Heap.{term_at}
use Rattle.kh_heap.specs.Parts.{parts_in}
use Rattle.kh_bif_base.specs.Answer.{Value, badarg}
use Rattle.kh_bif_data.specs.Answer.{element_count}
use Rattle.kh_bif_data.specs.Asked.{of_integer}
use Rattle.kh_bif_data.specs.Tuples.{place_in, set_element}
use Rattle.kh_bif_data.proofs.Answering.{GrewBy-more, GrewBy-trans, same_answer}
use Rattle.kh_bif_data.proofs.Asking.{no_tuple_answer, elements_counted}
use Rattle.kh_bif_data.proofs.Places.{place_one_of}
use Rattle.kh_bif_data.proofs.Setting.{at_place, no_number, set_by, where_number}
use Rattle.kh_bif_data.proofs.tuples.set_element.Goals as goal

pub with_element-built-requires-clause-within : goal.with_element-built-requires-clause-within
with_element-built-requires-clause-within c =
    let fits : SFits w128 c.in-Some.number = search rules in
    place_one_of c.in-Some.number c.in-Tuple.count c.in-Some-place_in.at (ap (λ n. place_in n c.in-Tuple.count) (sym (to_z-of_z w128 c.in-Some.number fits)) ∙ sym c.place_in.ensures ∙ c.in-Some-place_in.is)

pub with_element-built-requires-clause-room : goal.with_element-built-requires-clause-room
with_element-built-requires-clause-room c =
    let heap = c.args.heap.now in
    omega (
      arith,
      c.requires.room,
      elements_counted heap (term_at heap c.args.t) c.in-Tuple.count c.in-Tuple.ensures,
      where_number (term_at heap c.args.place) c.in-Some.number (element_count (term_at heap c.args.t)) (sym c.integer.ensures ∙ c.in-Some.is),
    )

pub answer-requires : goal.answer-requires
answer-requires c =
    let heap = c.args.heap.now in
    omega (
      arith,
      c.requires.room,
      c.with_element-built.ensures.grew.cells,
      elements_counted heap (term_at heap c.args.t) c.in-Tuple.count c.in-Tuple.ensures,
      where_number (term_at heap c.args.place) c.in-Some.number (element_count (term_at heap c.args.t)) (sym c.integer.ensures ∙ c.in-Some.is),
    )

pub returns-in-Some-place_in : goal.returns-in-Some-place_in
returns-in-Some-place_in c =
    let heap = c.args.heap.now in
    let place = term_at heap c.args.place in
    let t = term_at heap c.args.t in
    let item = term_at heap c.args.item in
    let fits : SFits w128 c.in-Some.number = search rules in
    let is = sym c.integer.ensures ∙ c.in-Some.is in
    let at = c.in-Some-place_in.at in
    let built = tree.Tuple (slice_set (parts_in t) at item) in
    record {
      answer =
          same_answer c.answer.new.heap c.answer.result (Value built) (set_element place t item)
          (set_by heap place t item c.in-Tuple.count c.in-Tuple.ensures c.in-Some.number (Some at) is (sym c.in-Some-place_in.is ∙ c.place_in.ensures ∙ ap (λ n. place_in n c.in-Tuple.count) (to_z-of_z w128 c.in-Some.number fits)))
          (c.answer.ensures.answer built c.with_element-built.ensures.built);
      grew =
          GrewBy-trans _ 2 _ heap c.with_element-built.new.heap c.answer.new.heap
          (omega (arith, elements_counted heap t c.in-Tuple.count c.in-Tuple.ensures, where_number place c.in-Some.number (element_count t) is)) c.with_element-built.ensures.grew c.answer.ensures.grew;
    }

pub returns-in-None-clause-answer : goal.returns-in-None-clause-answer
returns-in-None-clause-answer c =
    let heap = c.args.heap.now in
    let place = term_at heap c.args.place in
    let t = term_at heap c.args.t in
    let item = term_at heap c.args.item in
    let fits : SFits w128 c.in-Some.number = search rules in
    same_answer c.raise-in-None.new.heap c.raise-in-None.result badarg (set_element place t item)
    (set_by heap place t item c.in-Tuple.count c.in-Tuple.ensures c.in-Some.number None (sym c.integer.ensures ∙ c.in-Some.is) (sym c.in-None.is ∙ c.place_in.ensures ∙ ap (λ n. place_in n c.in-Tuple.count) (to_z-of_z w128 c.in-Some.number fits)))
    c.raise-in-None.ensures.answer

pub returns-in_default-clause-answer : goal.returns-in_default-clause-answer
returns-in_default-clause-answer c =
    let heap = c.args.heap.now in
    let place = term_at heap c.args.place in
    let t = term_at heap c.args.t in
    let item = term_at heap c.args.item in
    same_answer c.raise.new.heap c.raise.result badarg (set_element place t item)
    (no_tuple_answer heap t c.view.result (λ ts. of_integer place (λ n. at_place item ts (place_in n (length ts)))) c.view.ensures (λ n e. c.in_default.not-Tuple n e))
    c.raise.ensures.answer

pub returns-in_default-integer-clause-answer : goal.returns-in_default-integer-clause-answer
returns-in_default-integer-clause-answer c =
    let heap = c.args.heap.now in
    let place = term_at heap c.args.place in
    let t = term_at heap c.args.t in
    let item = term_at heap c.args.item in
    same_answer c.raise-in_default-integer.new.heap c.raise-in_default-integer.result badarg (set_element place t item)
    (no_number heap place t item c.in-Tuple.count c.in-Tuple.ensures (sym c.integer.ensures ∙ c.in_default-integer.is))
    c.raise-in_default-integer.ensures.answer
