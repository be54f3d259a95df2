-- The names with which a pattern begins.
use Rattle.std.specs.Prelude.{◌≡◌, List, length, map, take}
use Rattle.kh_cond.specs.declared.component.Component.{Component}
use Rattle.kh_cond.specs.declared.component.Component.TheVariants as component
use Rattle.kh_cond.specs.declared.cond.Cond.TheVariants as cond
use Rattle.kh_term.specs.declared.name.Name.{Name}

-- a component that is a name
abbrev pub plain : Name → Component
plain n = component.One (cond.Name n)

-- a pattern begins with names
abbrev pub BeginsWith : List Component → List Name → Type 0
BeginsWith q names = take (length names) q ≡ map plain names
