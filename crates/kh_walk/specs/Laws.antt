-- The laws of patterns over trees.
use Rattle.std.specs.Prelude.{◌≡◌, ◌↔◌, ℕ, ◌+◌, ◌<◌, Bool, true, false, List, [], ◌∷◌, length, take, slice_get, Option, Some, MatchOption, IsTrue}
use Rattle.std.specs.FinMap.{contains_key}
use Rattle.std.specs.List.{list_all}
use Rattle.kh_cond.specs.declared.component.Component.{Component}
use Rattle.kh_cond.specs.declared.component.Component.TheVariants as component
use Rattle.kh_cond.specs.declared.cond.Regex.TheVariants as regex
use Rattle.kh_cond.specs.Exact.{target_of}
use Rattle.kh_cond.specs.Holds.{Search, holds}
use Rattle.kh_term.specs.declared.name.Name.{Name}
use Rattle.kh_term.specs.declared.view.NodeView.{NodeView}
use Rattle.kh_tree.specs.Nodes.{Nodes, IsTree, view_of}
use Rattle.kh_walk.specs.Takes.{Matches}

-- The empty pattern matches the root alone.
abbrev pub EmptyMatchesRoot : Type 0 → Type 0
EmptyMatchesRoot S = (search : Search) (m : Nodes S) (path : List Name) → Matches search m [] path ↔ (path ≡ [])

-- whether a component takes one name
abbrev pub is_one_level : Component → Bool
is_one_level (component.One c) = true
is_one_level (component.Many r) = false
is_one_level (component.ManyAll r further) = false

-- Where each component takes one name, the paths that a pattern matches have its length.
abbrev pub OneLevelKeepsLength : Type 0 → Type 0
OneLevelKeepsLength S =
    (search : Search) (m : Nodes S) (q : List Component) (path : List Name) → IsTrue (list_all is_one_level q) → Matches search m q path → length path ≡ length q

-- A component of many levels with `any` matches each node but the root.
abbrev pub AnyMatchesAllBelow : Type 0 → Type 0
AnyMatchesAllBelow S =
    (search : Search) (m : Nodes S) (path : List Name) → IsTree m
    → Matches search m (component.Many regex.Any ∷ []) path ↔ (IsTrue (contains_key m path) × (0 < length path))

-- the condition of a component that takes one name holds of a view
abbrev pub IsHeld : Search → Option NodeView → Component → Type 0
IsHeld search view (component.One c) = IsTrue (holds search view c)
IsHeld search view (component.Many r) = ⊥
IsHeld search view (component.ManyAll r further) = ⊥

-- each front of a path is a node of which the component in its place holds
abbrev pub FrontsHold : {S : Type 0} → Search → Nodes S → List Component → List Name → Type 0
FrontsHold search m q path =
    (k : ℕ) → k < length path
    → IsTrue (contains_key m (take (k + 1) path)) × MatchOption (slice_get q k) ⊥ (IsHeld search (view_of m (take (k + 1) path)))

-- An exact pattern matches at most its target, and that exactly where each front of it is a node of which the conditions hold.
abbrev pub ExactMatchesTarget : Type 0 → Type 0
ExactMatchesTarget S =
    (search : Search) (m : Nodes S) (q : List Component) (target : List Name) → target_of q ≡ Some target
    → (path : List Name) → Matches search m q path ↔ ((path ≡ target) × FrontsHold search m q target)
