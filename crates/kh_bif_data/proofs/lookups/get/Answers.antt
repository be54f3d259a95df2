use Rattle.std.proofs.Common.{◌≡◌, List, ap, sym, ◌∙◌}
use Rattle.std.specs.Prelude.{Option, Some, None, option_map}
use Rattle.kh_term.specs.declared.tree.TermTree.{TermTree}
use Rattle.kh_term.specs.Lookup.{value_at}
use Rattle.kh_heap.specs.Heap.{term_at}
use Rattle.kh_heap.specs.Parts.{pairs_in}
use Rattle.kh_bif_base.specs.Answer.{Value, badmap}
use Rattle.kh_bif_data.specs.Asked.{of_some}
use Rattle.kh_bif_data.specs.Maps.{badkey, get}
use Rattle.kh_bif_data.proofs.Answering.{same_answer}
use Rattle.kh_bif_data.proofs.Asking.{map_answer, no_map_answer}
use Rattle.kh_bif_data.proofs.lookups.get.Goals as goal

pub returns-in-Some-clause-answer : goal.returns-in-Some-clause-answer
returns-in-Some-clause-answer c =
    let heap = c.args.heap.now in
    let t = term_at heap c.args.m in
    let key = term_at heap c.args.key in
    let found : value_at key (pairs_in t) ≡ Some (term_at heap c.in-Some.found) = sym c.value_at.ensures.value ∙ ap (option_map (term_at heap)) c.in-Some.is in
    same_answer heap c.value.result (Value (term_at heap c.in-Some.found)) (get key t)
    (sym (ap (λ (o : Option TermTree). of_some o (badkey key) Value) found) ∙ map_answer heap t c.in-Map.count (λ ps. of_some (value_at key ps) (badkey key) Value) c.in-Map.ensures) c.value.ensures

pub returns-in-None-clause-answer : goal.returns-in-None-clause-answer
returns-in-None-clause-answer c =
    let heap = c.args.heap.now in
    let t = term_at heap c.args.m in
    let key = term_at heap c.args.key in
    let found : value_at key (pairs_in t) ≡ None = sym c.value_at.ensures.value ∙ ap (option_map (term_at heap)) c.in-None.is in
    same_answer c.bad_key.new.heap c.bad_key.result (badkey key) (get key t)
    (sym (ap (λ (o : Option TermTree). of_some o (badkey key) Value) found) ∙ map_answer heap t c.in-Map.count (λ ps. of_some (value_at key ps) (badkey key) Value) c.in-Map.ensures) c.bad_key.ensures.answer

pub returns-in_default-clause-answer : goal.returns-in_default-clause-answer
returns-in_default-clause-answer c =
    let heap = c.args.heap.now in
    let t = term_at heap c.args.m in
    let key = term_at heap c.args.key in
    same_answer c.bad_map.new.heap c.bad_map.result (badmap t) (get key t)
    (no_map_answer heap t c.view.result (λ ps. of_some (value_at key ps) (badkey key) Value) c.view.ensures (λ n e. c.in_default.not-Map n e)) c.bad_map.ensures.answer
