use Rattle.std.proofs.Common.{◌≡◌, ◌∙◌, ◌||◌, ℕ, Option, nat_le, ap}
use Rattle.std.specs.BTreeMap as tree
use Rattle.std.specs.Ordering.{nat_cmp}
use Rattle.kh_listing.specs.Sets.{takes}
use Rattle.kh_listing.proofs.Keys.{widest_added, no_entry}
use Rattle.kh_listing.proofs.entries.add_widest.Goals as goal

pub returns-in_ok-insert : goal.returns-in_ok-insert
returns-in_ok-insert c =
    widest_added c.args.widest.now c.insert.new.self c.in-Function.header c.args.form.now c.wider-arity.result c.in-Function.is
    (λ n. c.wider-arity.ensures n ∙ ap (λ (o : Option ℕ). takes o n || nat_le n c.in-Function.header.arity) c.arity_at-old.ensures) c.in_ok-insert.ensures.updates

pub returns-in_default : goal.returns-in_default
returns-in_default c = λ l n. no_entry (takes (tree.get nat_cmp c.args.widest.now l) n) l (nat_le n) c.args.form.now c.in_default.not-Function
