use Rattle.std.proofs.Common.{ℕ, ◌+◌, ◌-◌, ◌<◌, sym, subst, arith}
use Rattle.kh_arena.specs.Sizes.{chunk_len}
use Rattle.kh_arena.proofs.SizeLemmas.{top-enough, top-bit, place-small, offset-small, place-large, offset-large}
use Rattle.kh_arena.proofs.arena.locate.Goals as goal

pub overflow_sub-result : goal.overflow_sub-result
overflow_sub-result c =
    let top = c.ilog2-top in
    top-enough top.result (c.args.i + 64) top.ensures.power_le top.ensures.next_power_gt (omega arith) c.if-n-lt-MOST_ITEMS.true

pub returns-then-n-lt-MOST_ITEMS-clause-at : goal.returns-then-n-lt-MOST_ITEMS-clause-at
returns-then-n-lt-MOST_ITEMS-clause-at c =
    let top = c.ilog2-top in let n = c.args.i + 64 in let few = c.if-n-lt-MOST_ITEMS.true in
    let power = top-bit top.result n top.ensures.power_le top.ensures.next_power_gt (omega arith) few in
    let place = place-small top.result n top.ensures.power_le top.ensures.next_power_gt (omega arith) few in
    omega (arith, power, place)

pub returns-then-n-lt-MOST_ITEMS-clause-within : goal.returns-then-n-lt-MOST_ITEMS-clause-within
returns-then-n-lt-MOST_ITEMS-clause-within c =
    let top = c.ilog2-top in let n = c.args.i + 64 in let few = c.if-n-lt-MOST_ITEMS.true in
    let power = top-bit top.result n top.ensures.power_le top.ensures.next_power_gt (omega arith) few in
    subst (λ (k : ℕ). n - k < chunk_len (top.result - 6)) (sym power) (offset-small top.result n top.ensures.power_le top.ensures.next_power_gt (omega arith) few)

pub returns-else-n-lt-MOST_ITEMS-clause-at : goal.returns-else-n-lt-MOST_ITEMS-clause-at
returns-else-n-lt-MOST_ITEMS-clause-at c = omega (arith, place-large (c.args.i + 64) c.if-n-lt-MOST_ITEMS.false)

pub returns-else-n-lt-MOST_ITEMS-clause-within : goal.returns-else-n-lt-MOST_ITEMS-clause-within
returns-else-n-lt-MOST_ITEMS-clause-within c = offset-large (c.args.i + 64) c.if-n-lt-MOST_ITEMS.false
