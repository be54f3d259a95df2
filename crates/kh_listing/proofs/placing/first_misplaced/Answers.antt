use Rattle.std.proofs.Common.{◌≡◌, ◌<◌, ◌∙◌, not, length, true, false, ap, sym, arith}
use Rattle.kh_listing.specs.Faults.{is_misplaced, may_stand}
use Rattle.kh_listing.specs.Places.{is_exports, is_attributes, is_labels, is_function}
use Rattle.kh_listing.proofs.Steps.{known_more, misplaced_is, none_more}
use Rattle.kh_listing.proofs.placing.first_misplaced.Goals as goal

pub loop-i-preserved : goal.loop-i-preserved
loop-i-preserved c =
    let within : c.loop-i.i < length c.args.forms.now = omega arith in
    let stands : may_stand c.loop-i.seen c.loop-i.i c.form_at-form.result.now ≡ true = cc in
    record {
      none = none_more (is_misplaced c.args.forms.now) c.loop-i.i c.loop-i.invariant.none
          (misplaced_is c.args.forms.now c.loop-i.i c.loop-i.seen c.form_at-form.result.now c.form_at-form.ensures c.loop-i.invariant.exports c.loop-i.invariant.attributes c.loop-i.invariant.labels c.loop-i.invariant.function
          ∙ ap not stands);
      exports = known_more is_exports c.args.forms.now c.loop-i.i c.form_at-form.result.now c.loop-i.seen.exports c.and_seen-seen.result.exports within c.form_at-form.ensures c.loop-i.invariant.exports c.and_seen-seen.ensures.exports;
      attributes = known_more is_attributes c.args.forms.now c.loop-i.i c.form_at-form.result.now c.loop-i.seen.attributes c.and_seen-seen.result.attributes within c.form_at-form.ensures c.loop-i.invariant.attributes c.and_seen-seen.ensures.attributes;
      labels = known_more is_labels c.args.forms.now c.loop-i.i c.form_at-form.result.now c.loop-i.seen.labels c.and_seen-seen.result.labels within c.form_at-form.ensures c.loop-i.invariant.labels c.and_seen-seen.ensures.labels;
      function = known_more is_function c.args.forms.now c.loop-i.i c.form_at-form.result.now c.loop-i.seen.function c.and_seen-seen.result.function within c.form_at-form.ensures c.loop-i.invariant.function c.and_seen-seen.ensures.function;
    }
