use Rattle.std.proofs.Common.{◌≡◌, map, drop}
use Rattle.kh_cond.specs.Matching.{matched, matched_pair, match_shared, match_entries}
use Rattle.kh_cond.proofs.matching.+matching.Given as goal

abbrev pub invariant-shared_match-loop-at : goal.invariant-shared_match-loop-at
invariant-shared_match-loop-at l = match_shared (map matched (drop l.at l.parts)) (drop l.at l.others) ≡ match_shared (map matched l.parts) l.others

abbrev pub invariant-entries_match-loop-at : goal.invariant-entries_match-loop-at
invariant-entries_match-loop-at l = match_entries (map matched_pair (drop l.at l.pairs)) (drop l.at l.others) ≡ match_entries (map matched_pair l.pairs) l.others
