use Rattle.std.proofs.Common.{◌≡◌, ◌+◌, ◌*◌, ◌<◌, ◌≤◌, ◌++◌, ap, sym, ◌∙◌, arith}
use Rattle.std.proofs.lemmas.Int.{ints}
use Rattle.kh_term.specs.Size.{size_of}
use Rattle.kh_heap.specs.Heap.{term_at}
use Rattle.kh_heap.specs.Parts.{bytes_in}
use Rattle.kh_bif_data.specs.Iolists.{iolist, piece_of}
use Rattle.kh_bif_data.proofs.Conses.{size-cons}
use Rattle.kh_bif_data.proofs.Pieces.{nil_bytes, bin_bytes, cons_bytes, no_bytes, int_piece, other_piece, below_apart, above_apart, byte_is, left_more, left_end, left_rest, on_ok}
use Rattle.kh_bif_data.proofs.iolists.+writing.Goals as goal

pub add_iolist-add_piece-requires : goal.add_iolist-add_piece-requires
add_iolist-add_piece-requires t c =
    let heap = c.args.heap.now in
    (omega (arith, c.decreases, c.along.invariant.smaller, ap size_of c.in-Cons.ensures.0, size-cons (term_at heap c.in-Cons.head) (term_at heap c.in-Cons.rest)), c.in-Cons.ensures.1)

pub add_iolist-along-smaller : goal.add_iolist-along-smaller
add_iolist-along-smaller t c =
    let heap = c.args.heap.now in
    let less : size_of (term_at heap c.in-Cons.rest) < size_of (term_at heap c.along.left) =
    omega (arith, ap size_of c.in-Cons.ensures.0, size-cons (term_at heap c.in-Cons.head) (term_at heap c.in-Cons.rest)) in
    less

pub add_iolist-along-preserved : goal.add_iolist-along-preserved
add_iolist-along-preserved t c =
    let heap = c.args.heap.now in
    let x = term_at heap c.along.left in
    record {
      held = c.in-Cons.ensures.2;
      smaller = omega (arith, c.along.invariant.smaller, ap size_of c.in-Cons.ensures.0, size-cons (term_at heap c.in-Cons.head) (term_at heap c.in-Cons.rest));
      so_far = λ bytes e.
          left_more c.along.out.items c.add_piece.new.out.items c.args.out.now.items bytes (iolist x) (piece_of (term_at heap c.in-Cons.head)) (iolist (term_at heap c.in-Cons.rest))
          (cons_bytes heap x c.in-Cons.head c.in-Cons.rest c.in-Cons.ensures) (c.along.invariant.so_far bytes e) (λ xs f. c.in_ok-add_piece-in-Cons.ensures xs f);
    }

pub add_piece-add_iolist-requires : goal.add_piece-add_iolist-requires
add_piece-add_iolist-requires t c = (omega (arith, c.decreases), c.requires.held)

pub add_iolist-returns-in_default : goal.add_iolist-returns-in_default
add_iolist-returns-in_default t c =
    let heap = c.args.heap.now in
    let x = term_at heap c.along.left in
    λ bytes e.
    left_end heap x c.view.result c.view.ensures (λ h r f. c.in_default.not-Cons h r f) (λ n f. c.in_default.not-Bin n f) c.along.out.items c.args.out.now.items bytes (c.along.invariant.so_far bytes e)

pub add_piece-returns-then-n-lt0 : goal.add_piece-returns-then-n-lt0
add_piece-returns-then-n-lt0 t c =
    let heap = c.args.heap.now in
    let x = term_at heap c.args.r in
    λ bytes e. absurd (below_apart c.in-Int.n bytes (omega (arith, ints)) (sym (int_piece heap x c.in-Int.n c.in-Int.ensures) ∙ e))

pub add_piece-returns-in_ok-push-in-Int : goal.add_piece-returns-in_ok-push-in-Int
add_piece-returns-in_ok-push-in-Int t c =
    let heap = c.args.heap.now in
    let x = term_at heap c.args.r in
    λ bytes e.
    c.in_ok-push-in-Int.ensures.items
    ∙ ap (λ bs. c.args.out.now.items ++ bs) (byte_is c.in-Int.n _ bytes (omega (arith, ints)) (omega (arith, ints)) (sym (int_piece heap x c.in-Int.n c.in-Int.ensures) ∙ e))

pub add_piece-returns-else-n-lt256 : goal.add_piece-returns-else-n-lt256
add_piece-returns-else-n-lt256 t c =
    let heap = c.args.heap.now in
    let x = term_at heap c.args.r in
    λ bytes e. absurd (above_apart c.in-Int.n bytes (omega (arith, ints)) (sym (int_piece heap x c.in-Int.n c.in-Int.ensures) ∙ e))

pub add_piece-returns-in_default : goal.add_piece-returns-in_default
add_piece-returns-in_default t c =
    let heap = c.args.heap.now in
    let x = term_at heap c.args.r in
    λ bytes e. c.add_iolist.ensures bytes (sym (other_piece heap x c.view.result c.view.ensures (λ n f. c.in_default.not-Int n f)) ∙ e)

pub add_iolist-returns-in-Bin : goal.add_iolist-returns-in-Bin
add_iolist-returns-in-Bin t c =
    let heap = c.args.heap.now in
    let x = term_at heap c.along.left in
    λ bytes e.
    on_ok c.add_binary.result _ _ c.add_binary.ensures
    (left_rest c.along.out.items c.add_binary.new.out.items c.args.out.now.items bytes (bytes_in x) (iolist x) (bin_bytes heap x c.in-Bin.count c.in-Bin.ensures) (c.along.invariant.so_far bytes e))
