use Rattle.std.proofs.Common.{arith}
use Rattle.kh_term.proofs.Bounds.{depth_le_size}
use Rattle.kh_term.proofs.limits.is_small.Goals as goal

pub depth-requires : goal.depth-requires
depth-requires c =
    omega (arith, depth_le_size c.args.term.now.node c.args.term.now.fits, c.capped_size.ensures, c.if-capped_size-le-MOST_SIZE.true)
