use Rattle.std.proofs.Common.{◌≡◌, ◌<◌, ◌≤◌, length, arith}
use Rattle.kh_listing.specs.Sets.{has_pair}
use Rattle.kh_listing.proofs.Steps.{number_more, homes_more, homes_all}
use Rattle.kh_listing.proofs.labels.homes_of.Goals as goal

pub loop-i-preserved : goal.loop-i-preserved
loop-i-preserved c =
    let within : c.loop-i.i < length c.args.forms.now = omega arith in
    record {
      few = omega arith;
      number = number_more c.args.forms.now c.loop-i.i c.form_at-form.result.now c.loop-i.number c.number_at-number.result within c.form_at-form.ensures c.loop-i.invariant.number c.number_at-number.ensures.number;
      homes = homes_more c.args.forms.now c.loop-i.i c.form_at-form.result.now c.loop-i.number c.number_at-number.result (has_pair c.loop-i.homes) (has_pair c.add_home.new.homes) within c.form_at-form.ensures c.loop-i.invariant.number c.number_at-number.ensures.number c.loop-i.invariant.homes c.in_ok-add_home.ensures;
    }

pub returns : goal.returns
returns c = homes_all c.args.forms.now c.loop-i.i (has_pair c.loop-i.homes) (omega arith) c.loop-i.invariant.homes
