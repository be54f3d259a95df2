use Rattle.std.proofs.Common.{List, arith}
use Rattle.kh_term.specs.declared.tree.TermTree.{TermTree}
use Rattle.kh_term.specs.Make.{list_of}
use Rattle.kh_heap.specs.Heap.{term_at}
use Rattle.kh_heap.specs.Parts.{parts_in}
use Rattle.kh_bif_base.specs.Answer.{Value, badarg}
use Rattle.kh_bif_data.specs.Tuples.{tuple_to_list}
use Rattle.kh_bif_data.proofs.Answering.{GrewBy-more, GrewBy-trans, same_answer}
use Rattle.kh_bif_data.proofs.Asking.{tuple_answer, no_tuple_answer, elements_counted}
use Rattle.kh_bif_data.proofs.tuples.tuple_to_list.Goals as goal

pub as_list-built-requires-clause-room : goal.as_list-built-requires-clause-room
as_list-built-requires-clause-room c =
    omega (arith, c.requires.room, elements_counted c.args.heap.now (term_at c.args.heap.now c.args.t) c.in-Tuple.count c.in-Tuple.ensures)

pub answer-requires : goal.answer-requires
answer-requires c =
    omega (arith, c.requires.room, c.as_list-built.ensures.grew.cells, elements_counted c.args.heap.now (term_at c.args.heap.now c.args.t) c.in-Tuple.count c.in-Tuple.ensures)

pub returns-in-Tuple : goal.returns-in-Tuple
returns-in-Tuple c =
    let heap = c.args.heap.now in
    let t = term_at heap c.args.t in
    let count = elements_counted heap t c.in-Tuple.count c.in-Tuple.ensures in
    let built = list_of (parts_in t) in
    record {
      answer =
          same_answer c.answer.new.heap c.answer.result (Value built) (tuple_to_list t) (tuple_answer heap t c.in-Tuple.count (λ ts. Value (list_of ts)) c.in-Tuple.ensures)
          (c.answer.ensures.answer built c.as_list-built.ensures.built);
      grew = GrewBy-trans _ 2 _ heap c.as_list-built.new.heap c.answer.new.heap (omega (arith, count)) c.as_list-built.ensures.grew c.answer.ensures.grew;
    }

pub returns-in_default : goal.returns-in_default
returns-in_default c =
    let heap = c.args.heap.now in
    let t = term_at heap c.args.t in
    record {
      answer =
          same_answer c.raise.new.heap c.raise.result badarg (tuple_to_list t) (no_tuple_answer heap t c.view.result (λ ts. Value (list_of ts)) c.view.ensures (λ n e. c.in_default.not-Tuple n e))
          c.raise.ensures.answer;
      grew = GrewBy-more 2 _ heap c.raise.new.heap (omega arith) c.raise.ensures.grew;
    }
