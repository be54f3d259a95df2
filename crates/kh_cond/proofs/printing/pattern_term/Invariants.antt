use Rattle.std.proofs.Common.{◌≡◌, map, take}
use Rattle.kh_cond.specs.Short.{component_tree}
use Rattle.kh_cond.proofs.printing.pattern_term.Given as goal

abbrev pub invariant-loop-component : goal.invariant-loop-component
invariant-loop-component l = l.terms.nodes ≡ map component_tree (take l.component-index l.component-items)
