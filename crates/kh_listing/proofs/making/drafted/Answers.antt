use Rattle.std.proofs.Common.{◌≡◌, [], rules}
use Rattle.std.proofs.lemmas.List.{nil_from_length}
use Rattle.kh_listing.proofs.Drafting.{drafted_none, drafted_more, drafted_all}
use Rattle.kh_listing.proofs.making.drafted.Goals as goal

pub loop-form-init : goal.loop-form-init
loop-form-init c = drafted_none c.args.module_name.now c.new-draft.result c.args.forms.items (c.new-draft.ensures c.args.module_name.now)

pub loop-form-preserved : goal.loop-form-preserved
loop-form-preserved c =
    drafted_more c.args.module_name.now c.loop-form.draft _ c.loop-form.forms.items c.pop.new.self.items c.args.forms.items c.in-Some.form c.in-Some.ensures.items c.in_ok-draft.ensures c.loop-form.invariant

pub returns : goal.returns
returns c =
    let none : c.loop-form.forms.items ≡ [] = nil_from_length _ (search rules) in
    drafted_all c.args.module_name.now c.loop-form.draft c.loop-form.forms.items c.args.forms.items none c.loop-form.invariant
