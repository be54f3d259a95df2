use Rattle.std.proofs.Common.{◌≡◌, ◌≤◌, ◌+◌, ℕ, List, length, drop, ◌∙◌}
use Rattle.kh_io.proofs.{told_map}
use Rattle.kh_log.specs.Records.{IsOpenAt, length_of}
use Rattle.kh_log.proofs.Headers.{length_read, length_there, ends_within}
use Rattle.kh_log.proofs.gates.length_behind.Goals as goal

pub returns-then-count-lt4-clause-lacks : goal.returns-then-count-lt4-clause-lacks
returns-then-count-lt4-clause-lacks g c = λ o same.
    let four : length c.read_at.new.into ≡ 4 = c.read_at.auto.into in
    told_map {Q = λ was _. (after : ℕ) → IsOpenAt c.args.at after was → after ≤ c.args.last → ⊥} _ _ c.in_ok-count.ensures.bytes (λ (was now : List ℕ) is after o within. length_there c.args.at after c.in_ok-count.count was c.read_at.new.into o is four c.if-count-lt4.true)

pub returns-then-last-at-clause-lacks : goal.returns-then-last-at-clause-lacks
returns-then-last-at-clause-lacks g c = λ o same.
    let four : length c.read_at.new.into ≡ 4 = c.read_at.auto.into in
    told_map {Q = λ was _. (after : ℕ) → IsOpenAt c.args.at after was → after ≤ c.args.last → ⊥} _ _ c.in_ok-count.ensures.bytes (λ (was now : List ℕ) is after o within.
    let len = c.record_length-length.ensures.is ∙ length_read was _ c.in_ok-count.count c.read_at.new.into is four c.if-count-lt4.false in
    ends_within c.args.at after c.args.last c.record_length-length.result was o within len c.if-last-at.true)

pub returns-clause-length : goal.returns-clause-length
returns-clause-length g c =
    let four : length c.read_at.new.into ≡ 4 = c.read_at.auto.into in
    told_map {Q = λ was _. c.record_length-length.result ≡ length_of (drop (c.args.at + 1) was)} _ _ c.in_ok-count.ensures.bytes (λ (was now : List ℕ) is.
    c.record_length-length.ensures.is ∙ length_read was _ c.in_ok-count.count c.read_at.new.into is four c.if-count-lt4.false)
