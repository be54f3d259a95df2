use Rattle.std.proofs.Common.{ap, arith}
use Rattle.kh_arena.specs.Listed.{spare}
use Rattle.kh_arena.proofs.Listed.{room-places}
use Rattle.kh_arena.proofs.arena.Arena.spare.Goals as goal

pub overflow_sub-result : goal.overflow_sub-result
overflow_sub-result g c = c.self.invariant.few

pub returns : goal.returns
returns g c =
    let inside = c.self.inside in let cs = inside.chunks.items in let is = c.self.invariant in
    omega (arith, is.room, room-places inside.len inside.room cs is, ap (λ v. spare v) c.self.view_is)
