use Rattle.std.proofs.Common.{nat_eq}
use Rattle.kh_listing.specs.Sets.{has_pair}
use Rattle.kh_listing.proofs.Keys.{home_added, no_home}
use Rattle.kh_listing.proofs.labels.add_home.Goals as goal

pub returns-in_ok-insert-in-Some : goal.returns-in_ok-insert-in-Some
returns-in_ok-insert-in-Some c =
    home_added c.args.homes.now c.insert.new.self c.args.number c.in-Some.label c.args.form.now c.in-Some.ensures c.in_ok-insert-in-Some.ensures.updates

pub returns-in-None : goal.returns-in-None
returns-in-None c = λ k l. no_home (has_pair c.args.homes.now k l) (nat_eq c.args.number k) l c.args.form.now c.in-None.ensures
