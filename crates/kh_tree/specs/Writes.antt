-- What a write makes of a tree, path by path.
use Rattle.std.specs.Prelude.{ℕ, zero, suc, ◌+◌, Bool, List, [], length, take, Option, Some, None, if◌then◌else◌}
use Rattle.std.specs.FinMap.{get, contains_key}
use Rattle.std.specs.Option.{option_map}
use Rattle.kh_term.specs.declared.name.Name.{Name}
use Rattle.kh_tree.specs.declared.payload.Payload.{Payload}
use Rattle.kh_tree.specs.declared.payload.Payload.TheVariants as payload
use Rattle.kh_tree.specs.declared.error.TreeError.{TreeError}
use Rattle.kh_tree.specs.declared.error.TreeError.TheVariants as error
use Rattle.kh_tree.specs.Node.{Node, new_node, with_child, with_payload}
use Rattle.kh_tree.specs.Nodes.{Nodes, same_path, begins}

module _ {S : Type 0} where
  -- The tree of the root alone.
  abbrev pub root_alone : List Name → Option (Node S)
  root_alone q = if same_path q [] then Some (new_node payload.Empty) else None

  -- A payload is set: at p it is this one, and the payload version is one more exactly where the payload differs; every other
  -- path has what it had.
  abbrev pub written : (S → S → Bool) → Nodes S → List Name → Payload S → List Name → Option (Node S)
  written same m p payload q = if same_path q p then option_map (with_payload same payload) (get m q) else get m q

  -- What a front q of a path p that is made becomes: a missing one is made, its first child counted already; the longest one that
  -- is a node, which is the one whose next front is missing, has one child more; a shorter one stays.
  abbrev pub front_made : Nodes S → List Name → List Name → Option (Node S) → Option (Node S)
  front_made m p q None = Some (new_node payload.Empty)
  front_made m p q (Some n) = Some (if contains_key m (take (length q + 1) p) then n else with_child n)

  -- A node is added: at p it is new with this payload, the fronts of p become what they become, and every other path has what it had.
  abbrev pub added : Nodes S → List Name → Payload S → List Name → Option (Node S)
  added m p payload q =
      if same_path q p then Some (new_node payload) else (if begins q p then front_made m p q (get m q) else get m q)

  -- how many of the fronts of p with 1 to n names are missing
  abbrev pub missing_to : Nodes S → List Name → ℕ → ℕ
  missing_to m p zero = 0
  missing_to m p (suc n) = (if contains_key m (take (suc n) p) then 0 else 1) + missing_to m p n

  -- how many nodes are made where p is added
  abbrev pub missing : Nodes S → List Name → ℕ
  missing m p = missing_to m p (length p)

-- A write is refused for want of room where what it would make breaks a limit.
abbrev pub Refused : TreeError → Type 0 → Type 0
Refused error.StoreFull Within = ¬ Within
Refused error.NoMemory Within = Unit {0}
