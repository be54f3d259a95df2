use Rattle.std.proofs.Common.{nat_eq}
use Rattle.kh_listing.specs.Sets.{has_pair}
use Rattle.kh_listing.proofs.Keys.{exact_added, no_entry}
use Rattle.kh_listing.proofs.entries.add_exact.Goals as goal

pub returns-in_ok-insert : goal.returns-in_ok-insert
returns-in_ok-insert c = exact_added c.args.exact.now c.insert.new.self c.in-Function.header c.args.form.now c.in-Function.is c.in_ok-insert.ensures.updates

pub returns-in_default : goal.returns-in_default
returns-in_default c = λ l n. no_entry (has_pair c.args.exact.now l n) l (nat_eq n) c.args.form.now c.in_default.not-Function
