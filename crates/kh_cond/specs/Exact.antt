-- Exact patterns, which name one path.
use Rattle.std.specs.Prelude.{Bool, List, [], ◌∷◌, Option, None, is_some}
use Rattle.kh_term.specs.declared.name.Name.{Name}
use Rattle.kh_term.specs.Parts.{named}
use Rattle.kh_cond.specs.declared.cond.Cond.{Cond, out-Cond}
use Rattle.kh_cond.specs.declared.cond.Cond.TheOpen.{Cond-F}
use Rattle.kh_cond.specs.declared.cond.Cond.TheOpen as layer
use Rattle.kh_cond.specs.declared.component.Component.{Component}
use Rattle.kh_cond.specs.declared.component.Component.TheVariants as component
use Rattle.kh_cond.specs.Reading.{each}

-- the name that a condition is, where it may name a node
abbrev pub plain_name : {A : Type 0} → Cond-F A → Option Name
plain_name (layer.Name n) = named n
plain_name c = None

abbrev pub first_name : List Cond → Option Name
first_name [] = None
first_name (c ∷ cs) = plain_name (out-Cond c)

-- a name alone, or the name with which an `if_all` begins
abbrev pub exact_name : Cond-F Cond → Option Name
exact_name (layer.Name n) = named n
exact_name (layer.All cs) = first_name cs
exact_name c = None

abbrev pub component_name : Component → Option Name
component_name (component.One c) = exact_name (out-Cond c)
component_name (component.Many r) = None
component_name (component.ManyAll r cs) = None

-- the names of an exact pattern, one of each component
abbrev pub target_of : List Component → Option (List Name)
target_of cs = each component_name cs

abbrev pub is_exact : List Component → Bool
is_exact cs = is_some (target_of cs)
