use Rattle.std.proofs.Common.{◌≡◌, ◌<◌, ◌∙◌, not, true, false, length, ap, sym, arith}
use Rattle.kh_listing.specs.Faults.{leads, leads_astray}
use Rattle.kh_listing.specs.Sets.{leads_by}
use Rattle.kh_listing.proofs.Steps.{astray_is, none_more}
use Rattle.kh_listing.proofs.entries.first_among.Goals as goal

pub returns-then-not-leads : goal.returns-then-not-leads
returns-then-not-leads c =
    let astray : leads (leads_by c.args.exact.now c.args.widest.now) c.form_at-form.result.now ≡ false = cc in
    (omega arith, sym (astray_is c.args.forms.now c.loop-i.i c.form_at-form.result.now c.args.exact.now c.args.widest.now c.form_at-form.ensures c.requires.exact c.requires.widest) ∙ ap not astray, c.loop-i.invariant)

pub loop-i-preserved : goal.loop-i-preserved
loop-i-preserved c =
    let right : leads (leads_by c.args.exact.now c.args.widest.now) c.form_at-form.result.now ≡ true = cc in
    none_more (leads_astray c.args.forms.now) c.loop-i.i c.loop-i.invariant
    (sym (astray_is c.args.forms.now c.loop-i.i c.form_at-form.result.now c.args.exact.now c.args.widest.now c.form_at-form.ensures c.requires.exact c.requires.widest) ∙ ap not right)
