use Rattle.std.proofs.Common.{◌≡◌, drop, map, nat_eq, string_bytes}
use Rattle.std.specs.Cmp.Lexicographic.{pointwise}
use Rattle.std.specs.List.{position_from}
use Rattle.kh_regexes.proofs.plain.PlainPatternsPatterns.find.Given as goal

abbrev pub invariant-loop-kept : goal.invariant-loop-kept
invariant-loop-kept l = record {
  place : l.place ≡ l.kept-index;
  ahead : position_from (λ t. pointwise nat_eq t l.text) l.place (map string_bytes (drop l.kept-index l.kept-items))
      ≡ position_from (λ t. pointwise nat_eq t l.text) 0 (map string_bytes l.kept-items);
}
