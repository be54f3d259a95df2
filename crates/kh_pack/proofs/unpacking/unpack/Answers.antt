use Rattle.std.proofs.Common.{arith}
use Rattle.kh_pack.proofs.Place.{read_is_placed, none_stands, only_one}
use Rattle.kh_pack.proofs.unpacking.unpack.Goals as goal

pub overflow_sub-result : goal.overflow_sub-result
overflow_sub-result c =
    (read_is_placed c.args.bytes.now c.args.at c.split_at.result.1.now c.in-Ok.term.node c.in-Ok.rest.now (λ i. omega (arith, c.type_inv.bytes i))
    (omega (arith, c.if-at-bytes.false)) c.split_at.ensures.back c.in-Ok.ensures).fits

pub returns-in-Ok-clause-found : goal.returns-in-Ok-clause-found
returns-in-Ok-clause-found c =
    (read_is_placed c.args.bytes.now c.args.at c.split_at.result.1.now c.in-Ok.term.node c.in-Ok.rest.now (λ i. omega (arith, c.type_inv.bytes i))
    (omega (arith, c.if-at-bytes.false)) c.split_at.ensures.back c.in-Ok.ensures).stands

pub returns-in-Ok-clause-only : goal.returns-in-Ok-clause-only
returns-in-Ok-clause-only c = λ t end stands.
    only_one c.args.bytes.now c.args.at end c.split_at.result.1.now t c.in-Ok.term c.in-Ok.rest.now c.split_at.ensures.back c.in-Ok.ensures stands

pub returns-in-Err-NoTerm-clause-only : goal.returns-in-Err-NoTerm-clause-only
returns-in-Err-NoTerm-clause-only c = λ t end stands.
    absurd (none_stands c.args.bytes.now c.args.at end c.split_at.result.1.now t c.split_at.ensures.back (rw c.in-Err-NoTerm.field-0-is at c.in-Err-NoTerm.ensures) stands)

pub returns-in-Err-NoTerm-clause-not_packed : goal.returns-in-Err-NoTerm-clause-not_packed
returns-in-Err-NoTerm-clause-not_packed c = λ place is.
    (cc, λ t end stands. none_stands c.args.bytes.now c.args.at end c.split_at.result.1.now t c.split_at.ensures.back (rw c.in-Err-NoTerm.field-0-is at c.in-Err-NoTerm.ensures) stands)
