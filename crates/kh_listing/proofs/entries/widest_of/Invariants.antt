use Rattle.std.proofs.Common.{◌≡◌, ℕ, nat_le, take}
use Rattle.std.specs.BTreeMap as tree
use Rattle.std.specs.List.{list_any}
use Rattle.std.specs.Ordering.{nat_cmp}
use Rattle.kh_listing.specs.Sets.{takes, begins_at}
use Rattle.kh_listing.proofs.entries.widest_of.Given as goal

abbrev pub invariant-loop-i : goal.invariant-loop-i
invariant-loop-i l = (e n : ℕ) → takes (tree.get nat_cmp l.widest e) n ≡ list_any (begins_at e (nat_le n)) (take l.i l.forms)
