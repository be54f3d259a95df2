use Rattle.std.proofs.Common.{◌<◌, length, nat_eq, arith}
use Rattle.kh_listing.specs.Sets.{has_pair, begins_at}
use Rattle.kh_listing.proofs.Steps.{known_more, known_all}
use Rattle.kh_listing.proofs.entries.exact_of.Goals as goal

pub loop-i-preserved : goal.loop-i-preserved
loop-i-preserved c =
    let within : c.loop-i.i < length c.args.forms.now = omega arith in
    λ e n. known_more (begins_at e (nat_eq n)) c.args.forms.now c.loop-i.i c.form_at-form.result.now (has_pair c.loop-i.exact e n) (has_pair c.add_exact.new.exact e n) within c.form_at-form.ensures (c.loop-i.invariant e n) (c.in_ok-add_exact.ensures e n)

pub returns : goal.returns
returns c = λ e n. known_all (begins_at e (nat_eq n)) c.args.forms.now c.loop-i.i (has_pair c.loop-i.exact e n) (omega arith) (c.loop-i.invariant e n)
