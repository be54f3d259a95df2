use Rattle.std.proofs.Common.{◌+◌, ◌∙◌, arith}
use Rattle.kh_term.specs.declared.tree.TermTree.TheVariants as tree
use Rattle.kh_term.specs.MapOf.{map_with}
use Rattle.kh_heap.specs.Heap.{term_at}
use Rattle.kh_heap.specs.Parts.{pairs_in}
use Rattle.kh_bif_base.specs.Answer.{Value, badmap}
use Rattle.kh_bif_data.specs.Answer.{pair_count, where_map}
use Rattle.kh_bif_data.specs.Asked.{of_map}
use Rattle.kh_bif_data.specs.Maps.{merge}
use Rattle.kh_bif_data.proofs.Answering.{GrewBy-more, GrewBy-trans, same_answer}
use Rattle.kh_bif_data.proofs.Asking.{map_answer, no_map_answer, pairs_counted, where_map_seen}
use Rattle.kh_bif_data.proofs.merging.merge.Goals as goal

pub both-built-requires-clause-room : goal.both-built-requires-clause-room
both-built-requires-clause-room c =
    let heap = c.args.heap.now in
    let a = term_at heap c.args.a in
    let b = term_at heap c.args.b in
    let n = pair_count a + pair_count b in
    omega (
      arith,
      c.requires.room,
      pairs_counted heap a c.in-Map.a_count c.in-Map.ensures,
      pairs_counted heap b c.in-Map-view.b_count c.in-Map-view.ensures,
      where_map_seen heap a c.in-Map.a_count (where_map b n) c.in-Map.ensures,
      where_map_seen heap b c.in-Map-view.b_count n c.in-Map-view.ensures,
    )

pub answer-requires : goal.answer-requires
answer-requires c =
    let heap = c.args.heap.now in
    let a = term_at heap c.args.a in
    let b = term_at heap c.args.b in
    let n = pair_count a + pair_count b in
    omega (
      arith,
      c.requires.room,
      c.both-built.ensures.grew.cells,
      pairs_counted heap a c.in-Map.a_count c.in-Map.ensures,
      pairs_counted heap b c.in-Map-view.b_count c.in-Map-view.ensures,
      where_map_seen heap a c.in-Map.a_count (where_map b n) c.in-Map.ensures,
      where_map_seen heap b c.in-Map-view.b_count n c.in-Map-view.ensures,
    )

pub returns : goal.returns
returns c =
    let heap = c.args.heap.now in
    let a = term_at heap c.args.a in
    let b = term_at heap c.args.b in
    let n = pair_count a + pair_count b in
    let first = pairs_counted heap a c.in-Map.a_count c.in-Map.ensures in
    let second = pairs_counted heap b c.in-Map-view.b_count c.in-Map-view.ensures in
    let once = where_map_seen heap a c.in-Map.a_count (where_map b n) c.in-Map.ensures in
    let twice = where_map_seen heap b c.in-Map-view.b_count n c.in-Map-view.ensures in
    let built = tree.Map (map_with (pairs_in a) (pairs_in b)) in
    record {
      answer =
          same_answer c.answer.new.heap c.answer.result (Value built) (merge a b)
          (map_answer heap b c.in-Map-view.b_count (λ qs. Value (tree.Map (map_with (pairs_in a) qs))) c.in-Map-view.ensures
          ∙ map_answer heap a c.in-Map.a_count (λ ps. of_map b (λ qs. Value (tree.Map (map_with ps qs)))) c.in-Map.ensures)
          (c.answer.ensures.answer built c.both-built.ensures.built);
      grew = GrewBy-trans _ 2 _ heap c.both-built.new.heap c.answer.new.heap (omega (arith, first, second, once, twice)) c.both-built.ensures.grew c.answer.ensures.grew;
    }

pub returns-in_default : goal.returns-in_default
returns-in_default c =
    let heap = c.args.heap.now in
    let a = term_at heap c.args.a in
    let b = term_at heap c.args.b in
    record {
      answer =
          same_answer c.bad_map.new.heap c.bad_map.result (badmap a) (merge a b)
          (no_map_answer heap a c.view.result (λ ps. of_map b (λ qs. Value (tree.Map (map_with ps qs)))) c.view.ensures (λ n e. c.in_default.not-Map n e)) c.bad_map.ensures.answer;
      grew = GrewBy-more 7 _ heap c.bad_map.new.heap (omega arith) c.bad_map.ensures.grew;
    }

pub returns-in_default-view : goal.returns-in_default-view
returns-in_default-view c =
    let heap = c.args.heap.now in
    let a = term_at heap c.args.a in
    let b = term_at heap c.args.b in
    record {
      answer =
          same_answer c.bad_map-in_default-view.new.heap c.bad_map-in_default-view.result (badmap b) (merge a b)
          (no_map_answer heap b c.view-2.result (λ qs. Value (tree.Map (map_with (pairs_in a) qs))) c.view-2.ensures (λ n e. c.in_default-view.not-Map n e)
          ∙ map_answer heap a c.in-Map.a_count (λ ps. of_map b (λ qs. Value (tree.Map (map_with ps qs)))) c.in-Map.ensures)
          c.bad_map-in_default-view.ensures.answer;
      grew = GrewBy-more 7 _ heap c.bad_map-in_default-view.new.heap (omega arith) c.bad_map-in_default-view.ensures.grew;
    }
