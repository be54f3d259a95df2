use Rattle.std.proofs.Common.{◌≡◌, ◌≤◌, ℕ, nat_eq, take, count_by}
use Rattle.std.specs.List.{list_any}
use Rattle.kh_listing.specs.Places.{is_function, labels_in}
use Rattle.kh_listing.specs.Sets.{has_pair}
use Rattle.kh_listing.proofs.labels.homes_of.Given as goal

abbrev pub invariant-loop-i : goal.invariant-loop-i
invariant-loop-i l = record {
  few : l.number ≤ l.i;
  number : l.number ≡ count_by is_function (take l.i l.forms);
  homes : (k n : ℕ) → has_pair l.homes k n ≡ list_any (nat_eq n) (labels_in k (take l.i l.forms));
}
