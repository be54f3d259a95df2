use Rattle.std.proofs.Common.{false, rules, SFits, sym, ap, ◌∙◌}
use Rattle.std.specs.Int.{w128}
use Rattle.std.proofs.lemmas.Int.{to_z-of_z}
use Rattle.std.specs.Prelude.{Option, Some, None, option_map}
use Rattle.kh_term.specs.declared.tree.TermTree.{TermTree}
use Rattle.kh_heap.specs.Heap.{term_at}
use Rattle.kh_bif_base.specs.Answer.{Value, badarg, boolean}
use Rattle.kh_bif_data.specs.Asked.{of_some}
use Rattle.kh_bif_data.specs.Lists.{from_zero, keyfind}
use Rattle.kh_bif_data.proofs.Answering.{same_answer}
use Rattle.kh_bif_data.proofs.Keyed.{no_number, no_place, no_end, found_with}
use Rattle.kh_bif_data.proofs.lists.keyfind.Goals as goal

pub returns-in_default-clause-answer : goal.returns-in_default-clause-answer
returns-in_default-clause-answer c =
    let heap = c.args.heap.now in
    let key = term_at heap c.args.key in
    let place = term_at heap c.args.place in
    let l = term_at heap c.args.a in
    same_answer c.raise.new.heap c.raise.result badarg (keyfind key place l) (no_number key place l (sym c.integer.ensures ∙ c.in_default.is)) c.raise.ensures.answer

pub returns-in_default-from_zero-clause-answer : goal.returns-in_default-from_zero-clause-answer
returns-in_default-from_zero-clause-answer c =
    let heap = c.args.heap.now in
    let key = term_at heap c.args.key in
    let place = term_at heap c.args.place in
    let l = term_at heap c.args.a in
    let fits : SFits w128 c.in-Some.number = search rules in
    same_answer c.raise-in_default-from_zero.new.heap c.raise-in_default-from_zero.result badarg (keyfind key place l)
    (no_place key place l c.in-Some.number (sym c.integer.ensures ∙ c.in-Some.is) (ap from_zero (sym (to_z-of_z w128 c.in-Some.number fits)) ∙ sym c.from_zero.ensures ∙ c.in_default-from_zero.is)) c.raise-in_default-from_zero.ensures.answer

pub returns-then-not-is_proper-clause-answer : goal.returns-then-not-is_proper-clause-answer
returns-then-not-is_proper-clause-answer c =
    let heap = c.args.heap.now in
    let key = term_at heap c.args.key in
    let place = term_at heap c.args.place in
    let l = term_at heap c.args.a in
    let fits : SFits w128 c.in-Some.number = search rules in
    same_answer c.raise-then-not-is_proper.new.heap c.raise-then-not-is_proper.result badarg (keyfind key place l)
    (no_end key place l c.in-Some.number (sym c.integer.ensures ∙ c.in-Some.is) c.first_with-found.result.1 c.first_with-found.ensures.proper c.if-not-is_proper.true) c.raise-then-not-is_proper.ensures.answer

pub returns-in-Some-found-clause-answer : goal.returns-in-Some-found-clause-answer
returns-in-Some-found-clause-answer c =
    let heap = c.args.heap.now in
    let key = term_at heap c.args.key in
    let place = term_at heap c.args.place in
    let l = term_at heap c.args.a in
    let fits : SFits w128 c.in-Some.number = search rules in
    same_answer heap c.value.result (Value (term_at heap c.in-Some-found.found)) (keyfind key place l)
    (
    found_with key place l c.in-Some.number (sym c.integer.ensures ∙ c.in-Some.is) c.in-Some-from_zero.at (Some (term_at heap c.in-Some-found.found)) c.first_with-found.result.1
    (ap from_zero (sym (to_z-of_z w128 c.in-Some.number fits)) ∙ sym c.from_zero.ensures ∙ c.in-Some-from_zero.is) c.first_with-found.ensures.proper c.if-not-is_proper.false
    (sym (ap (option_map (term_at heap)) c.in-Some-found.is) ∙ c.first_with-found.ensures.found)
    )
    c.value.ensures

pub returns-in-None-clause-answer : goal.returns-in-None-clause-answer
returns-in-None-clause-answer c =
    let heap = c.args.heap.now in
    let key = term_at heap c.args.key in
    let place = term_at heap c.args.place in
    let l = term_at heap c.args.a in
    let fits : SFits w128 c.in-Some.number = search rules in
    same_answer c.boolean.new.heap c.boolean.result (boolean false) (keyfind key place l)
    (
    found_with key place l c.in-Some.number (sym c.integer.ensures ∙ c.in-Some.is) c.in-Some-from_zero.at None c.first_with-found.result.1 (ap from_zero (sym (to_z-of_z w128 c.in-Some.number fits)) ∙ sym c.from_zero.ensures ∙ c.in-Some-from_zero.is)
    c.first_with-found.ensures.proper c.if-not-is_proper.false (sym (ap (option_map (term_at heap)) c.in-None.is) ∙ c.first_with-found.ensures.found)
    )
    c.boolean.ensures.answer
