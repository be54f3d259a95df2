use Rattle.std.proofs.Common.{◌≡◌, List, length, map, ap, sym, ◌∙◌, arith}
use Rattle.std.proofs.lemmas.List.{length-map}
use Rattle.std.specs.Prelude.{Option, Some, None}
use Rattle.kh_term.specs.declared.tree.TermTree.{TermTree}
use Rattle.kh_term.specs.declared.tree.TermTree.TheVariants as tree
use Rattle.kh_term.specs.MapOf.{map_of}
use Rattle.kh_term.specs.WellFormed.{AreTerms}
use Rattle.kh_heap.specs.Heap.{term_at, terms_at, pairs_at, HoldsPairs}
use Rattle.kh_bif_base.specs.Answer.{Value, badarg}
use Rattle.kh_bif_data.specs.Asked.{of_some}
use Rattle.kh_bif_data.specs.Maps.{all_pairs}
use Rattle.kh_bif_data.proofs.Answering.{GrewBy-trans, same_answer}
use Rattle.kh_bif_data.proofs.Merged.{shown}
use Rattle.kh_bif_data.proofs.Paired.{all_length}
use Rattle.kh_bif_data.proofs.merging.from_tuples.Goals as goal

pub map_of-built-requires-clause-held : goal.map_of-built-requires-clause-held
map_of-built-requires-clause-held c = rw c.in-Ok-Some.field-0-is at c.in-Ok-Some.ensures.held

pub map_of-built-requires-clause-fit : goal.map_of-built-requires-clause-fit
map_of-built-requires-clause-fit c = rw c.in-Ok-Some.field-0-is at c.in-Ok-Some.ensures.fit

pub map_of-built-requires-clause-room : goal.map_of-built-requires-clause-room
map_of-built-requires-clause-room c =
    let heap = c.args.heap.now in
    let all = c.in-Ok-Some.all.items in
    let tuples = c.args.tuples.now in
    let found : Some (pairs_at heap all) ≡ all_pairs (terms_at heap tuples) = rw c.in-Ok-Some.field-0-is at c.in-Ok-Some.ensures.terms in
    omega (arith, c.requires.room, all_length (terms_at heap tuples) (pairs_at heap all) (sym found), length-map all (shown heap), length-map tuples (term_at heap))

pub answer-requires : goal.answer-requires
answer-requires c =
    let heap = c.args.heap.now in
    let all = c.in-Ok-Some.all.items in
    let tuples = c.args.tuples.now in
    let found : Some (pairs_at heap all) ≡ all_pairs (terms_at heap tuples) = rw c.in-Ok-Some.field-0-is at c.in-Ok-Some.ensures.terms in
    omega (arith, c.requires.room, c.map_of-built.ensures.grew.cells, all_length (terms_at heap tuples) (pairs_at heap all) (sym found), length-map all (shown heap), length-map tuples (term_at heap))

pub returns-in-Ok-Some : goal.returns-in-Ok-Some
returns-in-Ok-Some c =
    let heap = c.args.heap.now in
    let all = c.in-Ok-Some.all.items in
    let tuples = c.args.tuples.now in
    let found : Some (pairs_at heap all) ≡ all_pairs (terms_at heap tuples) = rw c.in-Ok-Some.field-0-is at c.in-Ok-Some.ensures.terms in
    let built = tree.Map (map_of (pairs_at heap all)) in
    let long = all_length (terms_at heap tuples) (pairs_at heap all) (sym found) in
    record {
      answer =
          same_answer c.answer.new.heap c.answer.result (Value built) (of_some (all_pairs (terms_at heap tuples)) badarg (λ ps. Value (tree.Map (map_of ps))))
          (ap (λ (o : Option (List (TermTree × TermTree))). of_some o badarg (λ ps. Value (tree.Map (map_of ps)))) found) (c.answer.ensures.answer built c.map_of-built.ensures.built);
      grew =
          GrewBy-trans _ 2 _ heap c.map_of-built.new.heap c.answer.new.heap (omega (arith, long, length-map all (shown heap), length-map tuples (term_at heap))) c.map_of-built.ensures.grew c.answer.ensures.grew;
    }

pub returns-in-Ok-None-clause-answer : goal.returns-in-Ok-None-clause-answer
returns-in-Ok-None-clause-answer c =
    let heap = c.args.heap.now in
    let tuples = c.args.tuples.now in
    let found : None ≡ all_pairs (terms_at heap tuples) = rw c.in-Ok-None.field-0-is at c.in-Ok-None.ensures.terms in
    same_answer c.raise.new.heap c.raise.result badarg (of_some (all_pairs (terms_at heap tuples)) badarg (λ ps. Value (tree.Map (map_of ps))))
    (ap (λ (o : Option (List (TermTree × TermTree))). of_some o badarg (λ ps. Value (tree.Map (map_of ps)))) found) c.raise.ensures.answer
