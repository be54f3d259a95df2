use Rattle.std.proofs.Common.{◌≡◌, ◌≤◌, ◌+◌, ◌*◌, map, length, ap, sym, ◌∙◌, arith}
use Rattle.kh_term.specs.declared.tree.TermTree.TheVariants as tree
use Rattle.kh_term.specs.Make.{list_of}
use Rattle.kh_heap.specs.Heap.{term_at}
use Rattle.kh_heap.specs.Parts.{bytes_in}
use Rattle.kh_bif_base.specs.Answer.{Value, badarg, limited}
use Rattle.kh_bif_data.specs.Answer.{size_answered}
use Rattle.kh_bif_data.specs.Binaries.{binary_to_list, byte_tree}
use Rattle.kh_bif_data.proofs.Answering.{GrewBy-more, GrewBy-trans, same_answer, large_answers}
use Rattle.kh_bif_data.proofs.Asking.{bin_answer, no_bin_answer}
use Rattle.kh_bif_data.proofs.Costs.{list_small, list_large, small_size, bytes_size}
use Rattle.kh_bif_data.proofs.binaries.binary_to_list.Goals as goal

pub byte_list-built-requires-clause-room : goal.byte_list-built-requires-clause-room
byte_list-built-requires-clause-room c =
    let heap = c.args.heap.now in
    let t = term_at heap c.args.b in
    let few : 2 * length (bytes_in t) + 1 ≤ 1048576 = omega (arith, c.if-size-le-MOST_SIZE.true, c.in-Bin.ensures.1) in
    let size = small_size _ (list_small (bytes_in t) few) ∙ bytes_size (bytes_in t) in
    let cost = ap (λ a. size_answered (limited a)) (bin_answer heap t c.in-Bin.count (λ bytes. Value (list_of (map byte_tree bytes))) c.in-Bin.ensures) in
    omega (arith, c.requires.room, size, cost, c.in-Bin.ensures.1)

pub answer-requires : goal.answer-requires
answer-requires c =
    let heap = c.args.heap.now in
    let t = term_at heap c.args.b in
    let few : 2 * length (bytes_in t) + 1 ≤ 1048576 = omega (arith, c.if-size-le-MOST_SIZE.true, c.in-Bin.ensures.1) in
    let size = small_size _ (list_small (bytes_in t) few) ∙ bytes_size (bytes_in t) in
    let cost = ap (λ a. size_answered (limited a)) (bin_answer heap t c.in-Bin.count (λ bytes. Value (list_of (map byte_tree bytes))) c.in-Bin.ensures) in
    omega (arith, c.requires.room, c.byte_list-built.ensures.grew.cells, size, cost, c.in-Bin.ensures.1)

pub returns-then-size-le-MOST_SIZE : goal.returns-then-size-le-MOST_SIZE
returns-then-size-le-MOST_SIZE c =
    let heap = c.args.heap.now in
    let t = term_at heap c.args.b in
    let few : 2 * length (bytes_in t) + 1 ≤ 1048576 = omega (arith, c.if-size-le-MOST_SIZE.true, c.in-Bin.ensures.1) in
    let size = small_size _ (list_small (bytes_in t) few) ∙ bytes_size (bytes_in t) in
    let cost = ap (λ a. size_answered (limited a)) (bin_answer heap t c.in-Bin.count (λ bytes. Value (list_of (map byte_tree bytes))) c.in-Bin.ensures) in
    let built = list_of (map byte_tree (bytes_in t)) in
    record {
      answer =
          same_answer c.answer.new.heap c.answer.result (Value built) (binary_to_list t) (bin_answer heap t c.in-Bin.count (λ bytes. Value (list_of (map byte_tree bytes))) c.in-Bin.ensures)
          (c.answer.ensures.answer built c.byte_list-built.ensures.built);
      grew = GrewBy-trans _ 2 _ heap c.byte_list-built.new.heap c.answer.new.heap (omega (arith, size, cost, c.in-Bin.ensures.1)) c.byte_list-built.ensures.grew c.answer.ensures.grew;
    }

pub returns-else-size-le-MOST_SIZE-clause-answer : goal.returns-else-size-le-MOST_SIZE-clause-answer
returns-else-size-le-MOST_SIZE-clause-answer c =
    let heap = c.args.heap.now in
    let t = term_at heap c.args.b in
    same_answer c.raise.new.heap c.raise.result _ (binary_to_list t) (bin_answer heap t c.in-Bin.count (λ bytes. Value (list_of (map byte_tree bytes))) c.in-Bin.ensures)
    (large_answers c.raise.new.heap c.raise.result _ (list_large (bytes_in t) (omega (arith, c.if-size-le-MOST_SIZE.false, c.in-Bin.ensures.1))) c.raise.ensures.answer)

pub returns-in_default-clause-answer : goal.returns-in_default-clause-answer
returns-in_default-clause-answer c =
    let heap = c.args.heap.now in
    let t = term_at heap c.args.b in
    same_answer c.raise-in_default.new.heap c.raise-in_default.result badarg (binary_to_list t)
    (no_bin_answer heap t c.view.result (λ bytes. Value (list_of (map byte_tree bytes))) c.view.ensures (λ n e. c.in_default.not-Bin n e)) c.raise-in_default.ensures.answer
