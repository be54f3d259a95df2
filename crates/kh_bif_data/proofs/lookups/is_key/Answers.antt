use Rattle.std.proofs.Common.{◌≡◌, ap, sym, ◌∙◌, Bool}
use Rattle.std.specs.Prelude.{Option, Some, None, is_some, option_map}
use Rattle.kh_term.specs.declared.tree.TermTree.{TermTree}
use Rattle.kh_term.specs.Lookup.{value_at}
use Rattle.kh_heap.specs.Heap.{term_at}
use Rattle.kh_heap.specs.Parts.{pairs_in}
use Rattle.kh_bif_base.specs.Answer.{badmap, boolean}
use Rattle.kh_bif_data.specs.Maps.{is_key}
use Rattle.kh_bif_data.proofs.Answering.{same_answer}
use Rattle.kh_bif_data.proofs.Asking.{map_answer, no_map_answer, is_some_map}
use Rattle.kh_bif_data.proofs.lookups.is_key.Goals as goal

pub returns-in-Map-clause-answer : goal.returns-in-Map-clause-answer
returns-in-Map-clause-answer c =
    let heap = c.args.heap.now in
    let t = term_at heap c.args.m in
    let key = term_at heap c.args.key in
    let found : c.is_some-found.result ≡ is_some (value_at key (pairs_in t)) =
    c.is_some-found.ensures ∙ sym (is_some_map (term_at heap) c.value_at.result) ∙ ap (λ (o : Option TermTree). is_some o) c.value_at.ensures.value
    in
    same_answer c.boolean.new.heap c.boolean.result (boolean c.is_some-found.result) (is_key key t)
    (ap boolean found ∙ map_answer heap t c.in-Map.count (λ ps. boolean (is_some (value_at key ps))) c.in-Map.ensures) c.boolean.ensures.answer

pub returns-in_default-clause-answer : goal.returns-in_default-clause-answer
returns-in_default-clause-answer c =
    let heap = c.args.heap.now in
    let t = term_at heap c.args.m in
    let key = term_at heap c.args.key in
    same_answer c.bad_map.new.heap c.bad_map.result (badmap t) (is_key key t)
    (no_map_answer heap t c.view.result (λ ps. boolean (is_some (value_at key ps))) c.view.ensures (λ n e. c.in_default.not-Map n e)) c.bad_map.ensures.answer
