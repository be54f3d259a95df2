use Rattle.std.proofs.Common.{◌≡◌, ◌<◌, ◌∙◌, length, not, true, false, sym, ap, arith}
use Rattle.kh_listing.specs.Faults.{jumps, jumps_out}
use Rattle.kh_listing.specs.Sets.{has_pair}
use Rattle.kh_listing.proofs.Steps.{jumps_is, none_more, number_more}
use Rattle.kh_listing.proofs.labels.first_jumping_out.Goals as goal

pub returns-then-not-right : goal.returns-then-not-right
returns-then-not-right c =
    let within : c.loop-i.i < length c.args.forms.now = omega arith in
    let out : jumps (has_pair c.args.homes.now c.number_at-number.result) c.form_at-form.result.now ≡ false = sym c.in_ok-right.ensures ∙ c.if-not-right.true in (
      within,
      sym (jumps_is c.args.forms.now c.loop-i.i c.number_at-number.result c.form_at-form.result.now (has_pair c.args.homes.now) c.form_at-form.ensures
          (number_more c.args.forms.now c.loop-i.i c.form_at-form.result.now c.loop-i.number c.number_at-number.result within c.form_at-form.ensures c.loop-i.invariant.number c.number_at-number.ensures.number) c.requires) ∙ ap not out,
      c.loop-i.invariant.none,
    )

pub loop-i-preserved : goal.loop-i-preserved
loop-i-preserved c =
    let within : c.loop-i.i < length c.args.forms.now = omega arith in
    let stays : jumps (has_pair c.args.homes.now c.number_at-number.result) c.form_at-form.result.now ≡ true = sym c.in_ok-right.ensures ∙ c.if-not-right.false in
    let number = number_more c.args.forms.now c.loop-i.i c.form_at-form.result.now c.loop-i.number c.number_at-number.result within c.form_at-form.ensures c.loop-i.invariant.number c.number_at-number.ensures.number in
    record {
      none = none_more (jumps_out c.args.forms.now) c.loop-i.i c.loop-i.invariant.none
          (sym (jumps_is c.args.forms.now c.loop-i.i c.number_at-number.result c.form_at-form.result.now (has_pair c.args.homes.now) c.form_at-form.ensures number c.requires) ∙ ap not stays);
      few = omega arith;
      number = number;
    }
