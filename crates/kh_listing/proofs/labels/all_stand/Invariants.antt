use Rattle.std.proofs.Common.{◌≡◌, true, take}
use Rattle.std.specs.List.{list_all}
use Rattle.kh_listing.specs.Sets.{has_pair}
use Rattle.kh_listing.proofs.labels.all_stand.Given as goal

abbrev pub invariant-loop-label : goal.invariant-loop-label
invariant-loop-label l = list_all (has_pair l.homes l.number) (take l.label-index l.labels) ≡ true
