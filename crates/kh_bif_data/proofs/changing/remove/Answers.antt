use Rattle.std.proofs.Common.{◌≡◌, sym, ap, ◌∙◌, arith}
use Rattle.std.specs.List as lists
use Rattle.kh_term.specs.declared.tree.TermTree.{TermTree}
use Rattle.kh_term.specs.declared.tree.TermTree.TheVariants as tree
use Rattle.kh_heap.specs.Heap.{term_at}
use Rattle.kh_heap.specs.Parts.{pairs_in}
use Rattle.kh_bif_base.specs.Answer.{Value, badmap}
use Rattle.kh_bif_data.specs.Maps.{others, remove}
use Rattle.kh_bif_data.proofs.Answering.{GrewBy-more, GrewBy-trans, same_answer}
use Rattle.kh_bif_data.proofs.Asking.{map_answer, no_map_answer, pairs_counted}
use Rattle.kh_bif_data.proofs.Ordered.{none_taken, one_taken}
use Rattle.kh_bif_data.proofs.Searching.{map_rises, map_fits, all_apart}
use Rattle.kh_bif_data.proofs.changing.remove.Goals as goal

pub without-built-requires-clause-within : goal.without-built-requires-clause-within
without-built-requires-clause-within c = omega (arith, c.in-Ok.ensures.0, c.in-Map.ensures.1)

pub without-built-requires-clause-room : goal.without-built-requires-clause-room
without-built-requires-clause-room c =
    omega (arith, c.requires.room, pairs_counted c.args.heap.now (term_at c.args.heap.now c.args.m) c.in-Map.count c.in-Map.ensures)

pub answer-requires : goal.answer-requires
answer-requires c =
    omega (arith, c.requires.room, c.without-built.ensures.grew.cells, pairs_counted c.args.heap.now (term_at c.args.heap.now c.args.m) c.in-Map.count c.in-Map.ensures)

pub returns-in-Ok : goal.returns-in-Ok
returns-in-Ok c =
    let heap = c.args.heap.now in
    let t = term_at heap c.args.m in
    let ps = pairs_in t in
    let key = term_at heap c.args.key in
    let count = pairs_counted heap t c.in-Map.count c.in-Map.ensures in
    let built = tree.Map (lists.remove ps c.in-Ok.at) in
    let d : TermTree × TermTree = (tree.Nil, tree.Nil) in
    let taken : others key ps ≡ lists.remove ps c.in-Ok.at =
    one_taken ps key c.in-Ok.at d (map_rises t c.in-Map.ensures.0 c.size-map.ensures.fits) (map_fits t c.in-Map.ensures.0 c.size-map.ensures.fits) c.size-key.ensures.fits c.in-Ok.ensures.0 (c.in-Ok.ensures.1 d)
    in
    record {
      answer =
          same_answer c.answer.new.heap c.answer.result (Value built) (remove key t)
          (ap (λ qs. Value (tree.Map qs)) (sym taken) ∙ map_answer heap t c.in-Map.count (λ ps. Value (tree.Map (others key ps))) c.in-Map.ensures)
          (c.answer.ensures.answer built c.without-built.ensures.built);
      grew = GrewBy-trans _ 2 _ heap c.without-built.new.heap c.answer.new.heap (omega (arith, count)) c.without-built.ensures.grew c.answer.ensures.grew;
    }

pub returns-in-Err-clause-answer : goal.returns-in-Err-clause-answer
returns-in-Err-clause-answer c =
    let heap = c.args.heap.now in
    let t = term_at heap c.args.m in
    let ps = pairs_in t in
    let key = term_at heap c.args.key in
    let kept : others key ps ≡ ps = none_taken ps key (all_apart ps key c.in-Err.field-0 c.in-Err.ensures.1) in
    same_answer heap c.value.result (Value t) (remove key t)
    (ap Value c.in-Map.ensures.0 ∙ ap (λ qs. Value (tree.Map qs)) (sym kept) ∙ map_answer heap t c.in-Map.count (λ ps. Value (tree.Map (others key ps))) c.in-Map.ensures)
    c.value.ensures

pub returns-in_default : goal.returns-in_default
returns-in_default c =
    let heap = c.args.heap.now in
    let t = term_at heap c.args.m in
    let key = term_at heap c.args.key in
    record {
      answer =
          same_answer c.bad_map.new.heap c.bad_map.result (badmap t) (remove key t)
          (no_map_answer heap t c.view.result (λ ps. Value (tree.Map (others key ps))) c.view.ensures (λ n e. c.in_default.not-Map n e)) c.bad_map.ensures.answer;
      grew = GrewBy-more 7 _ heap c.bad_map.new.heap (omega arith) c.bad_map.ensures.grew;
    }
