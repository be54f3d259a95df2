use Rattle.std.proofs.Common.{◌≡◌, ◌-◌, ◌≤◌}
use Rattle.kh_arena.specs.Listed.{items, spots, spare}
use Rattle.kh_arena.proofs.arena.Arena.reserve.Given as goal

-- the items stay where they are, and no spare place is lost
abbrev pub invariant-loop-self : goal.invariant-loop-self
invariant-loop-self g l = record { items : items l.self ≡ items l.fn.self; spots : spots l.self ≡ spots l.fn.self; kept : spare l.fn.self ≤ spare l.self }

abbrev pub decreases-loop-self : goal.decreases-loop-self
decreases-loop-self g l = l.n - spare l.self
