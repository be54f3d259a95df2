-- What a walk has found.
use Rattle.std.specs.Prelude.{◌≡◌, ◌↔◌, Bool, List, [], ◌∷◌, ◌++◌, IsTrue, if◌then◌else◌}
use Rattle.std.specs.FinMap.{contains_key}
use Rattle.std.specs.List.{IsAmong}
use Rattle.std.specs.declared.cmp.Ordering.TheVariants.{Less}
use Rattle.kh_cond.specs.declared.component.Component.{Component}
use Rattle.kh_cond.specs.Holds.{Search}
use Rattle.kh_term.specs.declared.name.Name.{Name}
use Rattle.kh_term.specs.Name.{path_cmp}
use Rattle.kh_tree.specs.Nodes.{Nodes, IsNext, begins}
use Rattle.kh_walk.specs.Takes.{Matches}

-- a path behind those that were found, where it is marked
abbrev pub with_path : Bool → List (List Name) → List Name → List (List Name)
with_path is_marked paths path = if is_marked then paths ++ path ∷ [] else paths

-- a node at or below a path, which the pattern matches
pub record MatchesBelow {S : Type 0} (search : Search) (m : Nodes S) (q : List Component) (start path : List Name) : Type 0 where
  pub node : IsTrue (contains_key m path)
  pub below : IsTrue (begins start path)
  pub matches : Matches search m q path

-- the paths found are those of the nodes at or below a path that match
abbrev pub AreBelow : {S : Type 0} → Search → Nodes S → List Component → List Name → List (List Name) → Type 0
AreBelow search m q start found = (path : List Name) → IsAmong found path ↔ MatchesBelow search m q start path

-- the least greater key, which is below a path
pub record IsNextBelow {S : Type 0} (m : Nodes S) (start at next : List Name) : Type 0 where
  pub is_next : IsNext m at next
  pub below : IsTrue (begins start next)

-- no greater key is below a path
abbrev pub NoneBelow : {S : Type 0} → Nodes S → List Name → List Name → Type 0
NoneBelow m start at = (path : List Name) → IsTrue (contains_key m path) → IsTrue (begins start path) → path_cmp at path ≡ Less → ⊥
