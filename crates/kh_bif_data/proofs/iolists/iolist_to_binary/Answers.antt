use Rattle.std.proofs.Common.{◌≡◌, ◌≤◌, ◌+◌, ◌/◌, length, ap, sym, ◌∙◌, arith}
use Rattle.std.specs.Prelude.{Some}
use Rattle.kh_term.specs.declared.tree.TermTree.TheVariants as tree
use Rattle.kh_heap.specs.Heap.{term_at}
use Rattle.kh_bif_base.specs.Answer.{Value, badarg}
use Rattle.kh_bif_data.specs.Iolists.{iolist, iolist_bytes, iolist_to_binary}
use Rattle.kh_bif_data.proofs.Answering.{GrewBy-trans, same_answer, large_answers}
use Rattle.kh_bif_data.proofs.Costs.{bin_large, iolist_cost, some_bytes, bytes_answer, bytes_given, given_bytes, no_bytes_answer}
use Rattle.kh_bif_data.proofs.iolists.iolist_to_binary.Goals as goal

pub binary_size-size-requires : goal.binary_size-size-requires
binary_size-size-requires c = omega (arith, c.in-Some.ensures.few, c.size-bound.ensures.few)

pub joined-built-requires-clause-given : goal.joined-built-requires-clause-given
joined-built-requires-clause-given c =
    let t = term_at c.args.heap.now c.args.r in
    let found = some_bytes (iolist t) c.in-Some.len (sym c.in-Some.is ∙ c.iolist_len.ensures.len) in
    given_bytes t found.0 found.1

pub joined-built-requires-clause-room : goal.joined-built-requires-clause-room
joined-built-requires-clause-room c =
    let t = term_at c.args.heap.now c.args.r in
    let found = some_bytes (iolist t) c.in-Some.len (sym c.in-Some.is ∙ c.iolist_len.ensures.len) in
    let few : 1 + (length found.0 + 7) / 8 ≤ 1048576 = omega (arith, found.2, c.binary_size-size.ensures, c.if-size-le-MOST_SIZE.true) in
    omega (arith, c.requires.room, ap length (bytes_given t found.0 found.1), iolist_cost t found.0 found.1 few)

pub answer-requires : goal.answer-requires
answer-requires c =
    let t = term_at c.args.heap.now c.args.r in
    let found = some_bytes (iolist t) c.in-Some.len (sym c.in-Some.is ∙ c.iolist_len.ensures.len) in
    let few : 1 + (length found.0 + 7) / 8 ≤ 1048576 = omega (arith, found.2, c.binary_size-size.ensures, c.if-size-le-MOST_SIZE.true) in
    omega (arith, c.requires.room, c.joined-built.ensures.grew.cells, ap length (bytes_given t found.0 found.1), iolist_cost t found.0 found.1 few)

pub returns-then-size-le-MOST_SIZE : goal.returns-then-size-le-MOST_SIZE
returns-then-size-le-MOST_SIZE c =
    let heap = c.args.heap.now in
    let t = term_at heap c.args.r in
    let found = some_bytes (iolist t) c.in-Some.len (sym c.in-Some.is ∙ c.iolist_len.ensures.len) in
    let few : 1 + (length found.0 + 7) / 8 ≤ 1048576 = omega (arith, found.2, c.binary_size-size.ensures, c.if-size-le-MOST_SIZE.true) in
    let built = tree.Bin (iolist_bytes t) in
    let same = bytes_given t found.0 found.1 in
    record {
      answer =
          same_answer c.answer.new.heap c.answer.result (Value built) (iolist_to_binary t) (ap (λ bs. Value (tree.Bin bs)) same ∙ bytes_answer t found.0 found.1)
          (c.answer.ensures.answer built c.joined-built.ensures.built);
      grew =
          GrewBy-trans _ 2 _ heap c.joined-built.new.heap c.answer.new.heap (omega (arith, iolist_cost t found.0 found.1 few, ap length same)) c.joined-built.ensures.grew c.answer.ensures.grew;
    }

pub returns-else-size-le-MOST_SIZE-clause-answer : goal.returns-else-size-le-MOST_SIZE-clause-answer
returns-else-size-le-MOST_SIZE-clause-answer c =
    let t = term_at c.args.heap.now c.args.r in
    let found = some_bytes (iolist t) c.in-Some.len (sym c.in-Some.is ∙ c.iolist_len.ensures.len) in
    same_answer c.raise.new.heap c.raise.result (Value (tree.Bin found.0)) (iolist_to_binary t) (bytes_answer t found.0 found.1)
    (large_answers c.raise.new.heap c.raise.result (tree.Bin found.0) (bin_large found.0 (omega (arith, found.2, c.binary_size-size.ensures, c.if-size-le-MOST_SIZE.false))) c.raise.ensures.answer)

pub returns-in-None-clause-answer : goal.returns-in-None-clause-answer
returns-in-None-clause-answer c =
    let t = term_at c.args.heap.now c.args.r in
    same_answer c.raise-in-None.new.heap c.raise-in-None.result badarg (iolist_to_binary t) (no_bytes_answer t (sym c.in-None.is ∙ c.iolist_len.ensures.len)) c.raise-in-None.ensures.answer
