-- What a walk knows of a path: a row of marks for each front of it.
use Rattle.std.specs.Prelude.{◌≡◌, ◌↔◌, ℕ, ◌+◌, ◌-◌, ◌<◌, ◌≤◌, Bool, false, List, [], ◌∷◌, ◌++◌, length, take, drop, Option, Some, IfSome, IsTrue, slice_index_or, if◌then◌else◌}
use Rattle.std.specs.FinMap.{contains_key}
use Rattle.kh_cond.specs.declared.component.Component.{Component}
use Rattle.kh_cond.specs.declared.cond.Regex.{Regex}
use Rattle.kh_cond.specs.Holds.{Search, is_found}
use Rattle.kh_term.specs.declared.name.Name.{Name}
use Rattle.kh_term.specs.declared.view.NodeView.{NodeView}
use Rattle.kh_term.specs.Name.{name_text}
use Rattle.kh_tree.specs.Nodes.{Nodes}
use Rattle.kh_walk.specs.Takes.{AllTake, joined}

-- joined names with one more, which is the first or stands behind a `/`
abbrev pub with_name : Bool → List ℕ → Name → List ℕ
with_name is_first text n = (if is_first then text else text ++ 47 ∷ []) ++ name_text n

-- the view of a node, where it was made already
abbrev pub IsSeen : Option NodeView → Option NodeView → Type 0
IsSeen made view = IfSome made (λ v. Some v ≡ view)

-- a node stands at each front of a path
abbrev pub AreNodes : {S : Type 0} → Nodes S → List Name → Type 0
AreNodes m path = (k : ℕ) → IsTrue (contains_key m (take k path))

-- mark i of a row says whether the first i components take a path
abbrev pub IsRow : {S : Type 0} → Search → Nodes S → List Component → List Name → List Bool → Type 0
IsRow search m q path row = (i : ℕ) → i ≤ length q → IsTrue (slice_index_or row i false) ↔ AllTake search m [] (take i q) path

-- the marks that a row has so far
abbrev pub AreMarks : {S : Type 0} → Search → Nodes S → List Component → List Name → List Bool → Type 0
AreMarks search m q path row = (i : ℕ) → i < length row → IsTrue (slice_index_or row i false) ↔ AllTake search m [] (take i q) path

-- row j is that of the front with j names
abbrev pub AreRows : {S : Type 0} → Search → Nodes S → List Component → List Name → List (List Bool) → Type 0
AreRows search m q path rows = (j : ℕ) → j < length rows → IsRow search m q (take j path) (slice_index_or rows j [])

-- mark i of the last row
abbrev pub is_marked_last : List (List Bool) → ℕ → Bool
is_marked_last rows i = slice_index_or (slice_index_or rows (length rows - 1) []) i false

-- The first i components take a front of a path, as its row says, and a regular expression is found in the names behind it.
pub record IsFound (search : Search) (rows : List (List Bool)) (path : List Name) (i : ℕ) (regex : Regex) : Type 0 where
  pub at : ℕ
  pub within : at < length path
  pub marked : IsTrue (slice_index_or (slice_index_or rows at []) i false)
  pub found : IsTrue (is_found search regex (joined (drop at path)))
