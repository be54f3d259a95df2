use Rattle.std.proofs.Common.{◌≡◌, ◌+◌, ◌*◌, ◌<◌, ◌≤◌, length, refl, sym, ap, ◌∙◌, arith}
use Rattle.std.specs.Prelude.{option_map}
use Rattle.std.proofs.lemmas.Int.{ints}
use Rattle.kh_term.specs.Size.{size_of}
use Rattle.kh_heap.specs.Heap.{term_at}
use Rattle.kh_heap.specs.Parts.{bytes_in}
use Rattle.kh_bif_data.specs.Iolists.{iolist, piece_of}
use Rattle.kh_bif_data.proofs.Conses.{size-cons}
use Rattle.kh_bif_data.proofs.Pieces.{nil_bytes, bin_bytes, cons_bytes, no_bytes, int_piece, other_piece, many, more, more_many, none_many, all_many, none_more, one_many, none_below, none_above}
use Rattle.kh_term.proofs.Layers.{size-Bin}
use Rattle.kh_bif_data.proofs.Sized.{some-size}
use Rattle.kh_bif_data.proofs.iolists.+lengths.Goals as goal

pub iolist_len-piece_len-requires : goal.iolist_len-piece_len-requires
iolist_len-piece_len-requires t c =
    let heap = c.args.heap.now in
    let x = term_at heap c.along.left in
    (omega (arith, c.decreases, c.along.invariant.few, ap size_of c.in-Cons.ensures.0, size-cons (term_at heap c.in-Cons.head) (term_at heap c.in-Cons.rest)), c.in-Cons.ensures.1)

pub iolist_len-along-smaller : goal.iolist_len-along-smaller
iolist_len-along-smaller t c =
    let heap = c.args.heap.now in
    let less : size_of (term_at heap c.in-Cons.rest) < size_of (term_at heap c.along.left) =
    omega (arith, ap size_of c.in-Cons.ensures.0, size-cons (term_at heap c.in-Cons.head) (term_at heap c.in-Cons.rest)) in
    less

pub iolist_len-returns-in-Nil : goal.iolist_len-returns-in-Nil
iolist_len-returns-in-Nil t c =
    let heap = c.args.heap.now in
    let x = term_at heap c.along.left in
    record {
      len = all_many c.along.len c.along.len (iolist x) _ (many (iolist (term_at heap c.args.r))) (nil_bytes heap x c.in-Nil.ensures) (omega arith) c.along.invariant.len;
      few = omega (arith, c.along.invariant.few);
    }

pub iolist_len-returns-in_default-clause-len : goal.iolist_len-returns-in_default-clause-len
iolist_len-returns-in_default-clause-len t c =
    let heap = c.args.heap.now in
    let x = term_at heap c.along.left in
    none_more c.along.len (iolist x) (many (iolist (term_at heap c.args.r)))
    (no_bytes heap x c.view.result c.view.ensures (λ e. c.in_default.not-Nil e) (λ h r e. c.in_default.not-Cons h r e) (λ n e. c.in_default.not-Bin n e)) c.along.invariant.len

pub piece_len-iolist_len-requires : goal.piece_len-iolist_len-requires
piece_len-iolist_len-requires t c = (omega (arith, c.decreases), c.requires)

pub piece_len-returns-in_default-clause-len : goal.piece_len-returns-in_default-clause-len
piece_len-returns-in_default-clause-len t c =
    let heap = c.args.heap.now in
    let x = term_at heap c.args.r in
    c.iolist_len.ensures.len ∙ ap many (sym (other_piece heap x c.view.result c.view.ensures (λ n e. c.in_default.not-Int n e)))

pub iolist_len-along-preserved : goal.iolist_len-along-preserved
iolist_len-along-preserved t c =
    let heap = c.args.heap.now in
    let x = term_at heap c.along.left in
    let head = term_at heap c.in-Cons.head in
    let rest = term_at heap c.in-Cons.rest in
    record {
      held = c.in-Cons.ensures.2;
      few = omega (arith, c.along.invariant.few, c.in_ok-piece-in-Cons.ensures.few, ap size_of c.in-Cons.ensures.0, size-cons head rest);
      len =
          more_many c.along.len c.in_ok-piece-in-Cons.piece (piece_of head) (iolist rest) c.in_ok-piece-in-Cons.ensures.len
          ∙ ap (more c.along.len) (sym (cons_bytes heap x c.in-Cons.head c.in-Cons.rest c.in-Cons.ensures)) ∙ c.along.invariant.len;
    }

pub iolist_len-returns-in_err-piece-in-Cons-clause-len : goal.iolist_len-returns-in_err-piece-in-Cons-clause-len
iolist_len-returns-in_err-piece-in-Cons-clause-len t c =
    let heap = c.args.heap.now in
    let x = term_at heap c.along.left in
    c.from_residual.ensures ∙ none_many c.along.len (piece_of (term_at heap c.in-Cons.head)) (iolist (term_at heap c.in-Cons.rest)) (sym c.in_err-piece-in-Cons.was ∙ c.piece_len.ensures.len)
    ∙ ap (more c.along.len) (sym (cons_bytes heap x c.in-Cons.head c.in-Cons.rest c.in-Cons.ensures)) ∙ c.along.invariant.len

pub iolist_len-returns-in-Bin : goal.iolist_len-returns-in-Bin
iolist_len-returns-in-Bin t c =
    let heap = c.args.heap.now in
    let x = term_at heap c.along.left in
    record {
      len =
          all_many c.along.len (c.along.len + c.from.result) (iolist x) (bytes_in x) (many (iolist (term_at heap c.args.r))) (bin_bytes heap x c.in-Bin.count c.in-Bin.ensures) (omega (arith, c.from.ensures, c.in-Bin.ensures.1)) c.along.invariant.len;
      few = omega (arith, c.along.invariant.few, c.from.ensures, c.in-Bin.ensures.1, ap size_of c.in-Bin.ensures.0, size-Bin (bytes_in x));
    }

pub piece_len-returns-then-n-lt0-clause-len : goal.piece_len-returns-then-n-lt0-clause-len
piece_len-returns-then-n-lt0-clause-len t c =
    let heap = c.args.heap.now in
    let x = term_at heap c.args.r in
    none_below c.in-Int.n (omega (arith, ints)) ∙ ap many (sym (int_piece heap x c.in-Int.n c.in-Int.ensures))

pub piece_len-returns-then-n-lt256 : goal.piece_len-returns-then-n-lt256
piece_len-returns-then-n-lt256 t c =
    let heap = c.args.heap.now in
    let x = term_at heap c.args.r in
    record {
      len = one_many c.in-Int.n (omega (arith, ints)) (omega (arith, ints)) ∙ ap many (sym (int_piece heap x c.in-Int.n c.in-Int.ensures));
      few = omega (arith, some-size x);
    }

pub piece_len-returns-else-n-lt256-clause-len : goal.piece_len-returns-else-n-lt256-clause-len
piece_len-returns-else-n-lt256-clause-len t c =
    let heap = c.args.heap.now in
    let x = term_at heap c.args.r in
    none_above c.in-Int.n (omega (arith, ints)) ∙ ap many (sym (int_piece heap x c.in-Int.n c.in-Int.ensures))

pub iolist_len-overflow_add-len : goal.iolist_len-overflow_add-len
iolist_len-overflow_add-len t c =
    let heap = c.args.heap.now in
    record { fits = omega (arith, c.along.invariant.few, c.size-bound.ensures.few, c.in_ok-piece-in-Cons.ensures.few, ap size_of c.in-Cons.ensures.0, size-cons (term_at heap c.in-Cons.head) (term_at heap c.in-Cons.rest)) }
