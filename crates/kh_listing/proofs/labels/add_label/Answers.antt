use Rattle.std.proofs.Common.{◌≡◌, ap}
use Rattle.std.specs.BTreeSet.{contains}
use Rattle.std.specs.List.{list_any}
use Rattle.std.specs.Ordering.{nat_cmp}
use Rattle.kh_listing.proofs.Keys.{label_known, label_added, no_number}
use Rattle.kh_listing.proofs.labels.add_label.Goals as goal

pub returns-in_ok-is_new-in-Some : goal.returns-in_ok-is_new-in-Some
returns-in_ok-is_new-in-Some c = record {
  known = label_known c.args.seen.now c.in-Some.label c.args.form.now c.in_ok-is_new-in-Some.is_new c.in-Some.ensures c.in_ok-is_new-in-Some.ensures.added;
  after = label_added c.args.seen.now c.insert.new.self c.in-Some.label c.args.form.now c.in-Some.ensures c.in_ok-is_new-in-Some.ensures.updates;
}

pub returns-in-None : goal.returns-in-None
returns-in-None c = record {
  known = ap (λ ls. list_any (contains nat_cmp c.args.seen.now) ls) c.in-None.ensures;
  after = λ n. no_number n c.args.form.now (contains nat_cmp c.args.seen.now n) c.in-None.ensures;
}
