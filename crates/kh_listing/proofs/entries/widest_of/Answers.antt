use Rattle.std.proofs.Common.{◌<◌, length, nat_le, arith}
use Rattle.std.specs.BTreeMap as tree
use Rattle.std.specs.Ordering.{nat_cmp}
use Rattle.kh_listing.specs.Sets.{takes, begins_at}
use Rattle.kh_listing.proofs.Steps.{known_more, known_all}
use Rattle.kh_listing.proofs.entries.widest_of.Goals as goal

pub loop-i-preserved : goal.loop-i-preserved
loop-i-preserved c =
    let within : c.loop-i.i < length c.args.forms.now = omega arith in
    λ e n. known_more (begins_at e (nat_le n)) c.args.forms.now c.loop-i.i c.form_at-form.result.now (takes (tree.get nat_cmp c.loop-i.widest e) n) (takes (tree.get nat_cmp c.add_widest.new.widest e) n) within c.form_at-form.ensures (c.loop-i.invariant e n) (c.in_ok-add_widest.ensures e n)

pub returns : goal.returns
returns c = λ e n. known_all (begins_at e (nat_le n)) c.args.forms.now c.loop-i.i (takes (tree.get nat_cmp c.loop-i.widest e) n) (omega arith) (c.loop-i.invariant e n)
