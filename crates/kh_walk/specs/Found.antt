-- What is found: the paths of the nodes that a pattern matches.
use Rattle.std.specs.Prelude.{◌≡◌, ◌↔◌, List, IsTrue}
use Rattle.std.specs.FinMap.{contains_key}
use Rattle.std.specs.List.{AllPairs, IsAmong}
use Rattle.std.specs.declared.cmp.Ordering.TheVariants.{Less}
use Rattle.kh_cond.specs.declared.component.Component.{Component}
use Rattle.kh_cond.specs.Holds.{Search}
use Rattle.kh_term.specs.declared.name.Name.{Name}
use Rattle.kh_term.specs.Name.{path_cmp}
use Rattle.kh_tree.specs.Nodes.{Nodes}
use Rattle.kh_walk.specs.Takes.{Matches}

-- paths that rise strictly
abbrev pub Rise : List (List Name) → Type 0
Rise paths = AllPairs (λ p q. path_cmp p q ≡ Less) paths

-- a path is among these exactly where a node is there and the pattern matches it
abbrev pub AreMatching : {S : Type 0} → Search → Nodes S → List Component → List (List Name) → Type 0
AreMatching search m q paths = (path : List Name) → IsAmong paths path ↔ (IsTrue (contains_key m path) × Matches search m q path)
