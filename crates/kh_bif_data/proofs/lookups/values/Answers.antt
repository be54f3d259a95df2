use Rattle.std.proofs.Common.{map, arith}
use Rattle.kh_term.specs.declared.tree.TermTree.{TermTree}
use Rattle.kh_term.specs.Make.{list_of}
use Rattle.kh_heap.specs.Heap.{term_at}
use Rattle.kh_heap.specs.Parts.{pairs_in, side}
use Rattle.kh_bif_base.specs.Answer.{Value, badmap}
use Rattle.kh_bif_data.specs.Maps.{values}
use Rattle.kh_bif_data.proofs.Answering.{GrewBy-more, GrewBy-trans, same_answer}
use Rattle.kh_bif_data.proofs.Asking.{map_answer, no_map_answer, pairs_counted}
use Rattle.kh_bif_data.proofs.lookups.values.Goals as goal

pub halves-built-requires-clause-room : goal.halves-built-requires-clause-room
halves-built-requires-clause-room c =
    let heap = c.args.heap.now in
    omega (arith, c.requires.room, pairs_counted heap (term_at heap c.args.m) c.in-Map.count c.in-Map.ensures)

pub answer-requires : goal.answer-requires
answer-requires c =
    let heap = c.args.heap.now in
    omega (arith, c.requires.room, c.halves-built.ensures.grew.cells, pairs_counted heap (term_at heap c.args.m) c.in-Map.count c.in-Map.ensures)

pub returns-in-Map : goal.returns-in-Map
returns-in-Map c =
    let heap = c.args.heap.now in
    let t = term_at heap c.args.m in
    let count = pairs_counted heap t c.in-Map.count c.in-Map.ensures in
    let built = list_of (map (side 1) (pairs_in t)) in
    record {
      answer =
          same_answer c.answer.new.heap c.answer.result (Value built) (values t) (map_answer heap t c.in-Map.count (λ ps. Value (list_of (map (λ (p : TermTree × TermTree). p.1) ps))) c.in-Map.ensures)
          (c.answer.ensures.answer built c.halves-built.ensures.built);
      grew = GrewBy-trans _ 2 _ heap c.halves-built.new.heap c.answer.new.heap (omega (arith, count)) c.halves-built.ensures.grew c.answer.ensures.grew;
    }

pub returns-in_default : goal.returns-in_default
returns-in_default c =
    let heap = c.args.heap.now in
    let t = term_at heap c.args.m in
    record {
      answer =
          same_answer c.bad_map.new.heap c.bad_map.result (badmap t) (values t) (no_map_answer heap t c.view.result (λ ps. Value (list_of (map (λ (p : TermTree × TermTree). p.1) ps))) c.view.ensures (λ n e. c.in_default.not-Map n e))
          c.bad_map.ensures.answer;
      grew = GrewBy-more 7 _ heap c.bad_map.new.heap (omega arith) c.bad_map.ensures.grew;
    }
