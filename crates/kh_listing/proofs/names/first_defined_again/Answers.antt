use Rattle.std.proofs.Common.{◌≡◌, ◌<◌, ◌∙◌, length, sym, arith}
use Rattle.kh_listing.specs.Faults.{is_defined_again, defines}
use Rattle.kh_listing.specs.Sets.{has_name}
use Rattle.kh_listing.proofs.Steps.{known_more, defined_again_is, none_more}
use Rattle.kh_listing.proofs.names.first_defined_again.Goals as goal

pub returns-then-known : goal.returns-then-known
returns-then-known c = (
  omega arith,
  sym (defined_again_is c.args.forms.now c.loop-i.i c.form_at-form.result.now (has_name c.loop-i.names) c.form_at-form.ensures c.loop-i.invariant.names)
      ∙ (sym c.in_ok-known.ensures.known ∙ c.if-known.true),
  c.loop-i.invariant.none,
)

pub loop-i-preserved : goal.loop-i-preserved
loop-i-preserved c =
    let within : c.loop-i.i < length c.args.forms.now = omega arith in
    record {
      none = none_more (is_defined_again c.args.forms.now) c.loop-i.i c.loop-i.invariant.none
          (sym (defined_again_is c.args.forms.now c.loop-i.i c.form_at-form.result.now (has_name c.loop-i.names) c.form_at-form.ensures c.loop-i.invariant.names)
          ∙ (sym c.in_ok-known.ensures.known ∙ c.if-known.false));
      names = λ name arity. known_more (defines name arity) c.args.forms.now c.loop-i.i c.form_at-form.result.now (has_name c.loop-i.names name arity) (has_name c.add_name.new.names name arity) within c.form_at-form.ensures (c.loop-i.invariant.names name arity) (c.in_ok-known.ensures.after name arity);
    }
