use Rattle.std.proofs.Common.{ap, sym, ◌∙◌, refl}
use Rattle.std.specs.Prelude.{Option, codes, option_map}
use Rattle.kh_term.specs.declared.tree.TermTree.{TermTree}
use Rattle.kh_term.specs.declared.tree.TermTree.TheVariants as tree
use Rattle.kh_term.specs.Lookup.{value_at}
use Rattle.kh_heap.specs.Heap.{term_at}
use Rattle.kh_heap.specs.Parts.{pairs_in}
use Rattle.kh_bif_base.specs.Answer.{Value, badmap}
use Rattle.kh_bif_data.specs.Asked.{of_some}
use Rattle.kh_bif_data.specs.Maps.{find_key, ok_with}
use Rattle.kh_bif_data.proofs.Answering.{same_answer}
use Rattle.kh_bif_data.proofs.Asking.{map_answer, no_map_answer, value_of_some}
use Rattle.kh_bif_data.proofs.lookups.find.Goals as goal

pub returns-in-Map-clause-answer : goal.returns-in-Map-clause-answer
returns-in-Map-clause-answer c =
    let heap = c.args.heap.now in
    let t = term_at heap c.args.m in
    let key = term_at heap c.args.key in
    let none = tree.Atom (codes "error") in
    let built = of_some (option_map (term_at heap) c.value_at-found.result) none ok_with in
    same_answer c.answer.new.heap c.answer.result (Value built) (find_key key t)
    (
    ap (λ (o : Option TermTree). Value (of_some o none ok_with)) c.value_at-found.ensures.value
    ∙ value_of_some (value_at key (pairs_in t)) none ok_with
    ∙ map_answer heap t c.in-Map.count (λ ps. of_some (value_at key ps) (Value none) (λ v. Value (ok_with v))) c.in-Map.ensures
    )
    (c.answer.ensures.answer built c.ok_or_error-built.ensures.built)

pub returns-in_default-clause-answer : goal.returns-in_default-clause-answer
returns-in_default-clause-answer c =
    let heap = c.args.heap.now in
    let t = term_at heap c.args.m in
    let key = term_at heap c.args.key in
    same_answer c.bad_map.new.heap c.bad_map.result (badmap t) (find_key key t)
    (no_map_answer heap t c.view.result (λ ps. of_some (value_at key ps) (Value (tree.Atom (codes "error"))) (λ v. Value (ok_with v))) c.view.ensures (λ n e. c.in_default.not-Map n e)) c.bad_map.ensures.answer
