use Rattle.std.proofs.Common.{◌≡◌, length, refl, sym, ap, subst, ◌∙◌, arith}
use Rattle.kh_log.specs.Records.{log_of, span, IsClosedAt}
use Rattle.kh_log.specs.Log.{Place, Holds}
use Rattle.kh_log.proofs.Opening.{is_group, length_group, span_least, group_ends, begun_holds, begun_is}
use Rattle.kh_log.proofs.log.Log.of_group.Goals as goal

pub invariant_of-result : goal.invariant_of-result
invariant_of-result c =
    let group = is_group c.args.r.now c.r.inside.bytes.items c.r.inside.bytes.items c.r.view_is c.r.invariant.0 refl in
    let count : c.r.inside.count ≡ length c.args.r.now = c.r.invariant.1 ∙ ap length c.r.view_is in
    let len : c.len-last.result ≡ span c.args.r.now = omega (arith, c.len-last.ensures, c.r.inside.bytes.ok, length_group c.args.r.now c.r.inside.bytes.items group) in
    (c.requires, omega arith, omega (arith, count, len, span_least c.args.r.now), omega arith, omega (arith, c.len-last.ensures, c.r.inside.bytes.small))

pub returns-clause-is : goal.returns-clause-is
returns-clause-is c =
    let group = is_group c.args.r.now c.r.inside.bytes.items c.r.inside.bytes.items c.r.view_is c.r.invariant.0 refl in
    let count : c.r.inside.count ≡ length c.args.r.now = c.r.invariant.1 ∙ ap length c.r.view_is in
    let len : c.len-last.result ≡ span c.args.r.now = omega (arith, c.len-last.ensures, c.r.inside.bytes.ok, length_group c.args.r.now c.r.inside.bytes.items group) in
    begun_is c.args.file c.r.inside.count c.len-last.result c.args.r.now count len

pub returns-clause-holds : goal.returns-clause-holds
returns-clause-holds c =
    let group = is_group c.args.r.now c.r.inside.bytes.items c.r.inside.bytes.items c.r.view_is c.r.invariant.0 refl in
    let count : c.r.inside.count ≡ length c.args.r.now = c.r.invariant.1 ∙ ap length c.r.view_is in
    let len : c.len-last.result ≡ span c.args.r.now = omega (arith, c.len-last.ensures, c.r.inside.bytes.ok, length_group c.args.r.now c.r.inside.bytes.items group) in
    subst (λ (p : Place). Holds p (log_of c.args.r.now)) (sym (begun_is c.args.file c.r.inside.count c.len-last.result c.args.r.now count len))
    (begun_holds c.args.file c.args.r.now (log_of c.args.r.now) (group_ends c.args.r.now c.r.inside.bytes.items group))

pub returns-clause-closed : goal.returns-clause-closed
returns-clause-closed c =
    let group = is_group c.args.r.now c.r.inside.bytes.items c.r.inside.bytes.items c.r.view_is c.r.invariant.0 refl in
    let len : c.len-last.result ≡ span c.args.r.now = omega (arith, c.len-last.ensures, c.r.inside.bytes.ok, length_group c.args.r.now c.r.inside.bytes.items group) in
    subst (λ n. IsClosedAt n (log_of c.args.r.now)) (sym len) (group_ends c.args.r.now c.r.inside.bytes.items group).gate
