use Rattle.std.proofs.Common.{◌≡◌, ℕ, nat_eq, take}
use Rattle.std.specs.List.{list_any}
use Rattle.kh_listing.specs.Sets.{has_pair, begins_at}
use Rattle.kh_listing.proofs.entries.exact_of.Given as goal

abbrev pub invariant-loop-i : goal.invariant-loop-i
invariant-loop-i l = (e n : ℕ) → has_pair l.exact e n ≡ list_any (begins_at e (nat_eq n)) (take l.i l.forms)
