use Rattle.kh_arena.proofs.arena.free_chunks.Given as goal

abbrev pub decreases-loop-chunk : goal.decreases-loop-chunk
decreases-loop-chunk g l = l.chunks.len
