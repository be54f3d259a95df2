-- What is kept for each node.
use Rattle.std.specs.Prelude.{◌≡◌, ℕ, ◌+◌, ◌-◌, ◌≤◌, T, List, map, length, None, IfSome, if◌then◌else◌}
use Rattle.std.specs.FinMap.{from_sorted, find, is_sorted}
use Rattle.kh_term.specs.declared.name.Name.{Name}
use Rattle.kh_term.specs.Name.{path_cmp}
use Rattle.kh_tree.specs.declared.entry.Entry.{Entry}
use Rattle.kh_tree.specs.Node.{Node}
use Rattle.kh_tree.specs.declared.payload.Payload.TheVariants as payload
use Rattle.kh_tree.specs.Nodes.{Nodes, IsTree, Reads, child_count, most_nodes, parent, same_path}
use Rattle.kh_tree.specs.Writes.{added, missing}

-- entries by their paths
abbrev pub Kept : Type 0 → Type 0
Kept S = List (List Name × Entry S)

module _ {S : Type 0} where
  -- the node that an entry stands for
  abbrev pub node_of : Entry S → Node S
  node_of e = record { payload = e.payload.value; payload_version = e.payload_version; child_list_version = e.child_list_version }

  -- the tree that entries stand for
  abbrev pub nodes_of : Kept S → Nodes S
  nodes_of es = from_sorted (map (λ e. (e.0, node_of e.1)) es)

-- Entries by rising paths stand for a tree, and each counts its children, and more to come as `extra` says.
pub record Counts {S : Type 0} (es : Kept S) (extra : List Name → ℕ) : Type 0 where
  pub rises : T (is_sorted path_cmp es)
  pub tree : IsTree (nodes_of es)
  pub counted : (p : List Name) → IfSome (find path_cmp p es) (λ e. e.children ≡ child_count (nodes_of es) p + extra p)

-- so many more to come at one path
abbrev pub only_at : List Name → ℕ → List Name → ℕ
only_at p n q = if same_path q p then n else 0

-- no more to come
abbrev pub none_to_come : List Name → ℕ
none_to_come q = 0

-- The entries in which the node above a missing path is there with that child to come: every path but the missing one has what it
-- has once that is added. There is still room for the nodes up to `to` names.
pub record IsMade {S : Type 0} (new old : Kept S) (path : List Name) (to : ℕ) : Type 0 where
  pub counts : Counts new (only_at (parent path) 1)
  pub reads : Reads (nodes_of new) (λ q. if same_path q path then None else added (nodes_of old) path payload.Empty q)
  pub grows : length new + 1 ≡ length old + missing (nodes_of old) path
  pub room : length new + (to - length path) ≤ most_nodes
