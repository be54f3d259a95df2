use Rattle.std.proofs.Common.{◌≡◌, ◌<◌, ◌∙◌, length, not, true, false, sym, ap, arith}
use Rattle.kh_listing.specs.Faults.{enters, lacks_entry}
use Rattle.kh_listing.specs.Sets.{has_pair}
use Rattle.kh_listing.proofs.Steps.{lacks_is, none_more, number_more}
use Rattle.kh_listing.proofs.labels.first_lacking.Goals as goal

pub returns-then-not-enters : goal.returns-then-not-enters
returns-then-not-enters c =
    let within : c.loop-i.i < length c.args.forms.now = omega arith in
    let lacks : enters (has_pair c.args.homes.now c.number_at-number.result) c.form_at-form.result.now ≡ false = cc in (
      within,
      sym (lacks_is c.args.forms.now c.loop-i.i c.number_at-number.result c.form_at-form.result.now (has_pair c.args.homes.now) c.form_at-form.ensures
          (number_more c.args.forms.now c.loop-i.i c.form_at-form.result.now c.loop-i.number c.number_at-number.result within c.form_at-form.ensures c.loop-i.invariant.number c.number_at-number.ensures.number) c.requires) ∙ ap not lacks,
      c.loop-i.invariant.none,
    )

pub loop-i-preserved : goal.loop-i-preserved
loop-i-preserved c =
    let within : c.loop-i.i < length c.args.forms.now = omega arith in
    let enters : enters (has_pair c.args.homes.now c.number_at-number.result) c.form_at-form.result.now ≡ true = cc in
    let number = number_more c.args.forms.now c.loop-i.i c.form_at-form.result.now c.loop-i.number c.number_at-number.result within c.form_at-form.ensures c.loop-i.invariant.number c.number_at-number.ensures.number in
    record {
      none = none_more (lacks_entry c.args.forms.now) c.loop-i.i c.loop-i.invariant.none
          (sym (lacks_is c.args.forms.now c.loop-i.i c.number_at-number.result c.form_at-form.result.now (has_pair c.args.homes.now) c.form_at-form.ensures number c.requires) ∙ ap not enters);
      few = omega arith;
      number = number;
    }
