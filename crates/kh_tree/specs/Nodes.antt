-- The tree as a finite map from paths to nodes.
use Rattle.std.specs.Prelude.{◌≡◌, ℕ, ◌+◌, ◌-◌, ◌^◌, ◌≤◌, Bool, ◌&&◌, nat_eq, List, [], length, take, slice_get, Option, Some, None, MatchOption, IfSome, IsTrue}
use Rattle.std.specs.declared.cmp.Ordering.{Ordering}
use Rattle.std.specs.declared.cmp.Ordering.TheVariants.{Less}
use Rattle.std.specs.FinMap.{FinMap, get, contains_key, retain_keys, len}
use Rattle.std.specs.Option.{option_map}
use Rattle.std.specs.Ordering.{eq_by_cmp}
use Rattle.kh_term.specs.declared.name.Name.{Name}
use Rattle.kh_term.specs.declared.view.NodeView.{NodeView}
use Rattle.kh_term.specs.Name.{path_cmp}
use Rattle.kh_tree.specs.declared.payload.Payload.TheVariants as payload
use Rattle.kh_tree.specs.Node.{Node, shown}

-- a tree: nodes by their paths
abbrev pub Nodes : Type 0 → Type 0
Nodes S = FinMap path_cmp (Node S)

-- the greatest version, and the most nodes beside the root
abbrev pub most_version : ℕ
most_version = 2 ^ 62

abbrev pub most_nodes : ℕ
most_nodes = 200000

abbrev pub same_path : List Name → List Name → Bool
same_path p q = eq_by_cmp path_cmp p q

-- whether q begins with p
abbrev pub begins : List Name → List Name → Bool
begins p q = same_path p (take (length p) q)

-- whether q begins with p and is one name longer
abbrev pub is_child : List Name → List Name → Bool
is_child p q = begins p q && nat_eq (length q) (length p + 1)

-- the path without its last name
abbrev pub parent : List Name → List Name
parent p = take (length p - 1) p

-- the last name, which the root has none of
abbrev pub last_name : List Name → Option Name
last_name p = slice_get p (length p - 1)

-- both versions are from 1 to 2^62
pub record AreVersions {S : Type 0} (n : Node S) : Type 0 where
  pub payload_from : 1 ≤ n.payload_version
  pub payload_to : n.payload_version ≤ most_version
  pub child_list_from : 1 ≤ n.child_list_version
  pub child_list_to : n.child_list_version ≤ most_version

-- What holds of a map from paths to nodes, by what it has at each path and by the number of nodes beside the root: versions and
-- nodes are within their limits.
pub record AreWithin {S : Type 0} (at : List Name → Option (Node S)) (count : ℕ) : Type 0 where
  pub versions : (p : List Name) → IfSome (at p) AreVersions
  pub few : count ≤ most_nodes

module _ {S : Type 0} where
  -- how many keys begin with a path and are one name longer
  abbrev pub child_count : Nodes S → List Name → ℕ
  child_count m p = len (retain_keys m (is_child p))

  -- how many keys there are beside the root
  abbrev pub node_count : Nodes S → ℕ
  node_count m = len m - 1

  -- a node as conditions see it, where there is one
  abbrev pub view_of : Nodes S → List Name → Option NodeView
  view_of m p = option_map (shown (last_name p) (child_count m p)) (get m p)

  -- the map has at each path what a function says
  abbrev pub Reads : Nodes S → (List Name → Option (Node S)) → Type 0
  Reads m at = (p : List Name) → get m p ≡ at p

  -- the root is a node without payload, and its payload was never set
  abbrev pub IsRoot : Node S → Type 0
  IsRoot n = (n.payload ≡ payload.Empty) × (n.payload_version ≡ 1)

-- A tree: the root is there and holds nothing, the parent of each other node is a node, and all is within the limits.
pub record IsTree {S : Type 0} (m : Nodes S) : Type 0 where
  pub root : MatchOption (get m []) ⊥ IsRoot
  pub parents : (p : List Name) → IsTrue (contains_key m p) → IsTrue (contains_key m (parent p))
  pub within : AreWithin (get m) (node_count m)

-- p is the least key that is greater than q
pub record IsNext {S : Type 0} (m : Nodes S) (q p : List Name) : Type 0 where
  pub key : IsTrue (contains_key m p)
  pub greater : path_cmp q p ≡ Less
  pub least : (x : List Name) → IsTrue (contains_key m x) → path_cmp q x ≡ Less → path_cmp x p ≡ Less → ⊥

-- no key is greater than q
abbrev pub NoneNext : {S : Type 0} → Nodes S → List Name → Type 0
NoneNext m q = (x : List Name) → IsTrue (contains_key m x) → path_cmp q x ≡ Less → ⊥
