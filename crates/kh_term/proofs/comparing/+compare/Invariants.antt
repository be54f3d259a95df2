use Rattle.std.proofs.Common.{◌≡◌, map, drop}
use Rattle.kh_term.specs.Order.{compared, compare_shared}
use Rattle.kh_term.proofs.comparing.+compare.Given as goal

abbrev pub invariant-shared_cmp-loop-at : goal.invariant-shared_cmp-loop-at
invariant-shared_cmp-loop-at l = compare_shared (map compared (drop l.at l.xs)) (drop l.at l.ys) ≡ compare_shared (map compared l.xs) l.ys

abbrev pub invariant-keys_cmp-loop-at : goal.invariant-keys_cmp-loop-at
invariant-keys_cmp-loop-at l = compare_shared (map (λ p. compared p.0) (drop l.at l.ps)) (map (λ q. q.0) (drop l.at l.qs)) ≡ compare_shared (map (λ p. compared p.0) l.ps) (map (λ q. q.0) l.qs)

abbrev pub invariant-values_cmp-loop-at : goal.invariant-values_cmp-loop-at
invariant-values_cmp-loop-at l = compare_shared (map (λ p. compared p.1) (drop l.at l.ps)) (map (λ q. q.1) (drop l.at l.qs)) ≡ compare_shared (map (λ p. compared p.1) l.ps) (map (λ q. q.1) l.qs)
