use Rattle.std.proofs.Common.{sym, ◌∙◌, arith}
use Rattle.std.proofs.lemmas.Nat.{shl_whole}
use Rattle.kh_arena.proofs.SizeLemmas.{chunk_len-small, chunk_len-large}
use Rattle.kh_arena.proofs.arena.chunk_items.Goals as goal

pub returns-then-k-lt-DOUBLINGS-clause-places : goal.returns-then-k-lt-DOUBLINGS-clause-places
returns-then-k-lt-DOUBLINGS-clause-places c =
    shl_whole 64 7 c.args.k 64 (omega arith) (omega (arith, c.if-k-lt-DOUBLINGS.true)) ∙ sym (chunk_len-small c.args.k (omega (arith, c.if-k-lt-DOUBLINGS.true)))

pub returns-else-k-lt-DOUBLINGS-clause-places : goal.returns-else-k-lt-DOUBLINGS-clause-places
returns-else-k-lt-DOUBLINGS-clause-places c = sym (chunk_len-large c.args.k c.if-k-lt-DOUBLINGS.false)
