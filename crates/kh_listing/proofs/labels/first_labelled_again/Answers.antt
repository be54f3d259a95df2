use Rattle.std.proofs.Common.{◌≡◌, ◌<◌, ◌∙◌, length, sym, arith}
use Rattle.std.specs.BTreeSet.{contains}
use Rattle.std.specs.Ordering.{nat_cmp}
use Rattle.kh_listing.specs.Faults.{is_labelled_again, has_number}
use Rattle.kh_listing.proofs.Steps.{known_more, labelled_again_is, none_more}
use Rattle.kh_listing.proofs.labels.first_labelled_again.Goals as goal

pub returns-then-known : goal.returns-then-known
returns-then-known c = (
  omega arith,
  sym (labelled_again_is c.args.forms.now c.loop-i.i c.form_at-form.result.now (contains nat_cmp c.loop-i.seen) c.form_at-form.ensures c.loop-i.invariant.seen)
      ∙ (sym c.in_ok-known.ensures.known ∙ c.if-known.true),
  c.loop-i.invariant.none,
)

pub loop-i-preserved : goal.loop-i-preserved
loop-i-preserved c =
    let within : c.loop-i.i < length c.args.forms.now = omega arith in
    record {
      none = none_more (is_labelled_again c.args.forms.now) c.loop-i.i c.loop-i.invariant.none
          (sym (labelled_again_is c.args.forms.now c.loop-i.i c.form_at-form.result.now (contains nat_cmp c.loop-i.seen) c.form_at-form.ensures c.loop-i.invariant.seen)
          ∙ (sym c.in_ok-known.ensures.known ∙ c.if-known.false));
      seen = λ n. known_more (has_number n) c.args.forms.now c.loop-i.i c.form_at-form.result.now (contains nat_cmp c.loop-i.seen n) (contains nat_cmp c.add_label.new.seen n) within c.form_at-form.ensures (c.loop-i.invariant.seen n) (c.in_ok-known.ensures.after n);
    }
