use Rattle.std.proofs.Common.{◌≡◌, drop, map, nat_eq}
use Rattle.std.specs.Cmp.Lexicographic.{pointwise}
use Rattle.std.specs.List.{position_from}
use Rattle.regex.specs.Bytes.{regex_source}
use Rattle.kh_regexes.proofs.regexes.RegexPatternsPatterns.find.Given as goal

abbrev pub invariant-loop-compiled : goal.invariant-loop-compiled
invariant-loop-compiled l = record {
  place : l.place ≡ l.compiled-index;
  ahead : position_from (λ t. pointwise nat_eq t l.text) l.place (map (λ c. regex_source c.regex) (drop l.compiled-index l.compiled-items))
      ≡ position_from (λ t. pointwise nat_eq t l.text) 0 (map (λ c. regex_source c.regex) l.compiled-items);
}
