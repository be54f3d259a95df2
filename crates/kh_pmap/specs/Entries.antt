-- What a search tree holds.
use Rattle.std.specs.Prelude.{◌≡◌, ℕ, T, List, [], ◌∷◌, ◌++◌, length}
use Rattle.std.specs.FinMap.{is_sorted}
use Rattle.std.specs.declared.cmp.Ordering.{Ordering}
use Rattle.kh_shared.specs.declared.Shared.{Shared}
use Rattle.kh_pmap.specs.declared.tree.Tree.{Tree, Leaf, Fork', Row_of-Node, end_of-Node, more_of-Node}

-- the value that a shared pointer stands for
abbrev pub held : {X : Type 0} → Shared X → X
held s = s.value

abbrev mutual
  -- the entries of a tree from the left to the right
  pub entries : {K V : Type 0} → Tree K V → List (K × V)
  entries Leaf = []
  entries (Fork' shape node) = entries_of_node node

  entries_of_node : {K V : Type 0} {n : _} → Row_of-Node K V n → List (K × V)
  entries_of_node end_of-Node = []
  entries_of_node (more_of-Node left key value height right none) = entries left ++ (held key, held value) ∷ entries right

module _ {K V : Type 0} where
  -- the entries of a tree, one entry, and those of a second tree
  abbrev pub joined : Tree K V → K → V → Tree K V → List (K × V)
  joined left key value right = entries left ++ (key, value) ∷ entries right

-- a tree is a map of n entries: its keys rise strictly in the order R
pub record IsMap {K V : Type 0} (R : K → K → Ordering) (tree : Tree K V) (n : ℕ) : Type 0 where
  pub rises : T (is_sorted R (entries tree))
  pub counted : n ≡ length (entries tree)
