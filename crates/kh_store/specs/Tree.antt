-- The tree: a finite map from paths to data or none, as its entries in the order of paths.
use Rattle.std.specs.Prelude.{◌≡◌, ◌≢◌, ℕ, zero, suc, ℤ, ◌+◌, Bool, nat_le, is_some, unwrap_or, List, [], ◌∷◌, ◌++◌, length, take, Option, Some, None, if◌then◌else◌}
use Rattle.std.specs.BTreeMap.{insert_entry, is_at}
use Rattle.std.specs.Map.{lookup}
use Rattle.kh_term.specs.declared.name.Name.{Name}
use Rattle.kh_term.specs.Name.{path_cmp}

-- a node's path with its data, if it has any
abbrev pub Node : Type 0
Node = List Name × Option ℤ

-- the root alone, without data
abbrev pub root : List Node
root = ([], None) ∷ []

-- the node at a path: its data or none, where there is a node
abbrev pub node_at : List Node → List Name → Option (Option ℤ)
node_at tree path = lookup (is_at (path_cmp path)) tree

-- the fronts of a path of fewer than so many names, the shortest first
abbrev pub fronts : ℕ → List Name → List (List Name)
fronts zero path = []
fronts (suc n) path = fronts n path ++ (take n path ∷ [])

-- the paths of the nodes above a path
abbrev pub parents_of : List Name → List (List Name)
parents_of path = fronts (length path) path

-- the tree with a node at this path: without data where there was none
abbrev pub with_node : List Node → List Name → List Node
with_node tree path = if is_some (node_at tree path) then tree else insert_entry path_cmp tree path None

abbrev pub with_nodes : List Node → List (List Name) → List Node
with_nodes tree [] = tree
with_nodes tree (path ∷ paths) = with_nodes (with_node tree path) paths

-- the tree with this data at a path, and with a node at each of these
abbrev pub with_data : List Node → List (List Name) → List Name → ℤ → List Node
with_data tree paths path number = insert_entry path_cmp (with_nodes tree paths) path (Some number)

-- the tree with this data at a path, and each node above it
abbrev pub put : List Node → List Name → ℤ → List Node
put tree path number = with_data tree (parents_of path) path number

-- One path is above another: the other goes on behind it.
abbrev pub IsAbove : List Name → List Name → Type 0
IsAbove above path = (name : Name) × (names : List Name) × (path ≡ above ++ name ∷ names)

-- the data at a path, or none
abbrev pub data_at : List Node → List Name → Option ℤ
data_at tree path = unwrap_or (node_at tree path) None

-- What a put makes of a tree: its path has the data, each path above it has a node with the data that it had or none, and
-- every other path is as it was.
pub record OnePut : Type 0 where
  pub own : (tree : List Node) (path : List Name) (number : ℤ) → node_at (put tree path number) path ≡ Some (Some number)
  pub above : (tree : List Node) (path : List Name) (number : ℤ) (other : List Name)
      → IsAbove other path → node_at (put tree path number) other ≡ Some (data_at tree other)
  pub others : (tree : List Node) (path : List Name) (number : ℤ) (other : List Name)
      → other ≢ path → (IsAbove other path → ⊥) → node_at (put tree path number) other ≡ node_at tree other

-- the greatest number of nodes without the root
abbrev pub node_limit : ℕ
node_limit = 200000

-- no more nodes than there may be
abbrev pub fits : List Node → Bool
fits tree = nat_le (length tree) (node_limit + 1)

-- whether a tree has room for the nodes of a put
abbrev pub has_room : List Node → List Name → ℤ → Bool
has_room tree path number = fits (put tree path number)
