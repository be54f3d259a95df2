use Rattle.std.proofs.Common.{◌≡◌, ◌||◌, drop}
use Rattle.std.specs.List.{list_any}
use Rattle.kh_term.specs.Limits.{holds_closure}
use Rattle.kh_term.proofs.limits.+holds.Given as goal

abbrev pub invariant-any_holds_closure-loop-tree : goal.invariant-any_holds_closure-loop-tree
invariant-any_holds_closure-loop-tree l = list_any holds_closure (drop l.tree-index l.trees) ≡ list_any holds_closure l.trees

abbrev pub invariant-any_pair_holds_closure-loop-pair : goal.invariant-any_pair_holds_closure-loop-pair
invariant-any_pair_holds_closure-loop-pair l = list_any (λ p. holds_closure p.0 || holds_closure p.1) (drop l.pair-index l.pairs) ≡ list_any (λ p. holds_closure p.0 || holds_closure p.1) l.pairs
