-- A heap as contracts see it: the list of the terms that its cells stand for. A reference is a place in that list.
use Rattle.std.specs.Prelude.{◌≡◌, ℕ, ◌*◌, ◌-◌, ◌^◌, ◌<◌, Bool, true, false, not, nat_le, ◌&&◌, List, [], ◌∷◌, length, map, take, min, slice_index_or, Result, Ok, Err}
use Rattle.std.specs.List.{All}
use Rattle.kh_term.specs.declared.tree.TermTree.{TermTree}
use Rattle.kh_term.specs.declared.tree.TermTree.TheVariants as tree
use Rattle.kh_term.specs.Limits.{is_small, most_size, most_depth}
use Rattle.kh_term.specs.Make.{list_with_tail}
use Rattle.kh_term.specs.Size.{size_of}
use Rattle.kh_heap.specs.declared.error.HeapError.{HeapError}
use Rattle.kh_heap.specs.declared.error.HeapError.TheVariants as error

-- the number of cells stays below this
abbrev pub most_cells : ℕ
most_cells = 2 ^ 32 - 1

-- the term that a reference stands for
abbrev pub term_at : List TermTree → ℕ → TermTree
term_at heap r = slice_index_or heap r tree.Nil

abbrev pub terms_at : List TermTree → List ℕ → List TermTree
terms_at heap rs = map (term_at heap) rs

abbrev pub pairs_at : List TermTree → List (ℕ × ℕ) → List (TermTree × TermTree)
pairs_at heap ps = map (λ p. (term_at heap p.0, term_at heap p.1)) ps

-- the reference is one of this heap
pub record Holds (heap : List TermTree) (r : ℕ) : Type 0 where
  pub within : r < length heap

-- each of several is
abbrev pub HoldsAll : List TermTree → List ℕ → Type 0
HoldsAll heap rs = All (Holds heap) rs

abbrev pub HoldsPairs : List TermTree → List (ℕ × ℕ) → Type 0
HoldsPairs heap ps = All (λ p. Holds heap p.0 × Holds heap p.1) ps

-- the reference is one of this heap, and stands for t
pub record Stands (heap : List TermTree) (r : ℕ) (t : TermTree) : Type 0 where
  pub held : Holds heap r
  pub term : term_at heap r ≡ t

-- The new heap has each cell of the old one at its place, and maybe more behind them: so what was a reference is one,
-- and stands for the same term.
pub record Grew (old new : List TermTree) : Type 0 where
  pub front : take (length old) new ≡ old

-- a head in front of a tail, which is a list or not
unfoldable pub cons_tree : TermTree → TermTree → TermTree
cons_tree head tail = list_with_tail (head ∷ []) tail

-- the most cells that loading a term makes: two for each unit of its size, as far as the greatest size
abbrev pub cells_to_load : TermTree → ℕ
cells_to_load t = 2 * min (size_of t) most_size

-- whether these numbers are past the limits
abbrev pub is_too_large : ℕ → ℕ → Bool
is_too_large size depth = not (nat_le size most_size && nat_le depth most_depth)

-- `TooLarge` exactly where the term is past the limits of size and depth
abbrev pub Limits : Result ℕ HeapError → TermTree → Type 0
Limits (Ok r) t = is_small t ≡ true
Limits (Err error.TooLarge) t = is_small t ≡ false
Limits (Err error.NoMemory) t = is_small t ≡ true
