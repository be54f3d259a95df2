use Rattle.std.proofs.Common.{◌≡◌, ◌++◌, drop}
use Rattle.std.specs.List.{flat_map}
use Rattle.kh_cond.specs.Texts.{component_texts}
use Rattle.kh_cond.proofs.texts.push_pattern_texts.Given as goal

abbrev pub invariant-loop-component : goal.invariant-loop-component
invariant-loop-component l = l.more.items ++ flat_map component_texts (drop l.component-index l.component-items) ≡ flat_map component_texts l.component-items
