use Rattle.std.proofs.Common.{arith}
use Rattle.std.specs.BTreeMap.{insert_entry}
use Rattle.kh_term.specs.declared.tree.TermTree.TheVariants as tree
use Rattle.kh_term.specs.Order.{term_cmp}
use Rattle.kh_heap.specs.Heap.{term_at}
use Rattle.kh_heap.specs.Parts.{pairs_in}
use Rattle.kh_bif_base.specs.Answer.{Value, badmap}
use Rattle.kh_bif_data.specs.Maps.{put}
use Rattle.kh_bif_data.proofs.Answering.{GrewBy-more, GrewBy-trans, same_answer}
use Rattle.kh_bif_data.proofs.Asking.{map_answer, no_map_answer, pairs_counted}
use Rattle.kh_bif_data.proofs.changing.put.Goals as goal

pub with-built-requires-clause-room : goal.with-built-requires-clause-room
with-built-requires-clause-room c =
    omega (arith, c.requires.room, pairs_counted c.args.heap.now (term_at c.args.heap.now c.args.m) c.in-Map.count c.in-Map.ensures)

pub answer-requires : goal.answer-requires
answer-requires c =
    omega (arith, c.requires.room, c.with-built.ensures.grew.cells, pairs_counted c.args.heap.now (term_at c.args.heap.now c.args.m) c.in-Map.count c.in-Map.ensures)

pub returns-in-Map : goal.returns-in-Map
returns-in-Map c =
    let heap = c.args.heap.now in
    let t = term_at heap c.args.m in
    let key = term_at heap c.args.key in
    let item = term_at heap c.args.item in
    let count = pairs_counted heap t c.in-Map.count c.in-Map.ensures in
    let built = tree.Map (insert_entry term_cmp (pairs_in t) key item) in
    record {
      answer =
          same_answer c.answer.new.heap c.answer.result (Value built) (put key item t)
          (map_answer heap t c.in-Map.count (λ ps. Value (tree.Map (insert_entry term_cmp ps key item))) c.in-Map.ensures)
          (c.answer.ensures.answer built c.with-built.ensures.built);
      grew = GrewBy-trans _ 2 _ heap c.with-built.new.heap c.answer.new.heap (omega (arith, count)) c.with-built.ensures.grew c.answer.ensures.grew;
    }

pub returns-in_default : goal.returns-in_default
returns-in_default c =
    let heap = c.args.heap.now in
    let t = term_at heap c.args.m in
    let key = term_at heap c.args.key in
    let item = term_at heap c.args.item in
    record {
      answer =
          same_answer c.bad_map.new.heap c.bad_map.result (badmap t) (put key item t)
          (no_map_answer heap t c.view.result (λ ps. Value (tree.Map (insert_entry term_cmp ps key item))) c.view.ensures (λ n e. c.in_default.not-Map n e)) c.bad_map.ensures.answer;
      grew = GrewBy-more 7 _ heap c.bad_map.new.heap (omega arith) c.bad_map.ensures.grew;
    }
