-- The terms that cells stand for.
use Rattle.std.specs.Prelude.{◌≡◌, ℕ, zero, suc, ◌+◌, ◌-◌, ◌*◌, ◌<◌, ◌≤◌, List, [], ◌∷◌, ◌++◌, length, map, max, sum, take, drop, slice_index_or}
use Rattle.kh_term.specs.declared.name.Origin.{Origin}
use Rattle.kh_term.specs.declared.tree.TermTree.{TermTree}
use Rattle.kh_term.specs.declared.tree.TermTree.TheVariants as tree
use Rattle.kh_term.specs.Limits.{most_size, most_depth}
use Rattle.kh_term.specs.Size.{size_of, depth_of, greatest}
use Rattle.kh_term.specs.WellFormed.{IsTerm, faults_of}
use Rattle.kh_heap.specs.declared.cell.Cell.{Cell}
use Rattle.kh_heap.specs.declared.cell.Kind.{Kind}
use Rattle.kh_heap.specs.declared.cell.Kind.TheVariants as kind
use Rattle.kh_heap.specs.Heap.{term_at, cons_tree}
use Rattle.kh_heap.specs.Parts.{no_origin}

-- the texts of the atoms, the bytes of the binaries and the origins of the functions, which cells name by number
pub record Tables : Type 0 where
  pub atoms : List (List ℕ)
  pub binaries : List (List ℕ)
  pub origins : List Origin

-- no texts
abbrev pub no_tables : Tables
no_tables = record { atoms = []; binaries = []; origins = [] }

-- two by two
abbrev pub paired : {A : Type 0} → List A → List (A × A)
paired (x ∷ y ∷ xs) = (x, y) ∷ paired xs
paired xs = []

-- n terms from the place s on
abbrev pub run_at : List TermTree → ℕ → ℕ → List TermTree
run_at heap s n = take n (drop s heap)

-- the term of a kind of cell, where the cells before it stand for these terms
abbrev pub value : Tables → List TermTree → Kind → TermTree
value t heap (kind.Int n) = tree.Int n
value t heap (kind.Atom k) = tree.Atom (slice_index_or t.atoms k [])
value t heap (kind.Bin k) = tree.Bin (slice_index_or t.binaries k [])
value t heap kind.Nil = tree.Nil
value t heap (kind.Cons head tail) = cons_tree (term_at heap head) (term_at heap tail)
value t heap (kind.Tuple s n) = tree.Tuple (run_at heap s n)
value t heap (kind.Map s n) = tree.Map (paired (run_at heap s (2 * n)))
value t heap (kind.Closure k s n) = tree.Closure (slice_index_or t.origins k no_origin) (run_at heap s n)

-- the cell at a place
abbrev pub cell_at : List Cell → ℕ → Cell
cell_at cells i = slice_index_or cells i record { kind = kind.Nil; size = 1; depth = 1 }

-- the terms of the first n cells
unfoldable pub terms_upto : Tables → List Cell → ℕ → List TermTree
terms_upto t cells zero = []
terms_upto t cells (suc n) = terms_upto t cells n ++ value t (terms_upto t cells n) (cell_at cells n).kind ∷ []

-- the terms of all cells
abbrev pub heap_of : Tables → List Cell → List TermTree
heap_of t cells = terms_upto t cells (length cells)

-- a cell at place i names cells before it, and texts that are there
abbrev pub Below : Tables → ℕ → Kind → Type 0
Below t i (kind.Int n) = Unit {0}
Below t i (kind.Atom k) = k < length t.atoms
Below t i (kind.Bin k) = k < length t.binaries
Below t i kind.Nil = Unit {0}
Below t i (kind.Cons head tail) = (head < i) × (tail < i)
Below t i (kind.Tuple s n) = s + n ≤ i
Below t i (kind.Map s n) = s + 2 * n ≤ i
Below t i (kind.Closure k s n) = (k < length t.origins) × (s + n ≤ i)

-- The numbers of a cell are the size and the depth of its term, which is within the limits.
pub record Measured (size depth : ℕ) (t : TermTree) : Type 0 where
  pub size_is : size ≡ size_of t
  pub depth_is : depth ≡ depth_of t
  pub few : size_of t ≤ most_size
  pub low : depth_of t ≤ most_depth
  pub fits : IsTerm t

-- a cell at place i stands for its term in the whole heap
pub record IsCell (t : Tables) (heap : List TermTree) (i : ℕ) (c : Cell) : Type 0 where
  pub below : Below t i c.kind
  pub term : value t heap c.kind ≡ term_at heap i
  pub measured : Measured c.size c.depth (term_at heap i)

-- each cell does
pub record AreCells (t : Tables) (cells : List Cell) : Type 0 where
  pub each : (i : ℕ) → i < length cells → IsCell t (heap_of t cells) i (cell_at cells i)

-- the number by which a cell names its text or its origin
abbrev pub number_of : Kind → ℕ
number_of (kind.Atom k) = k
number_of (kind.Bin k) = k
number_of (kind.Closure k s n) = k
number_of k = 0

-- the place of a cell's first part
abbrev pub first_of : Kind → ℕ
first_of (kind.Tuple s n) = s
first_of (kind.Map s n) = s
first_of (kind.Closure k s n) = s
first_of k = 0

-- What a tail of this kind and depth adds to the depth of a list: a nil tail isn't counted, and a list goes on.
abbrev pub tail_depth : Kind → ℕ → ℕ
tail_depth kind.Nil depth = 0
tail_depth (kind.Cons head tail) depth = depth - 1
tail_depth k depth = depth

-- how many rules keys and values break
abbrev pub pair_faults : List (TermTree × TermTree) → ℕ
pair_faults ps = sum (map (λ p. faults_of p.0 + faults_of p.1) ps)

-- the depth of the deepest key or value
abbrev pub deepest_pair : List (TermTree × TermTree) → ℕ
deepest_pair ps = greatest (map (λ p. max (depth_of p.0) (depth_of p.1)) ps)

-- terms in front of a tail, one after another
abbrev pub onto : List TermTree → TermTree → TermTree
onto [] tail = tail
onto (t ∷ ts) tail = cons_tree t (onto ts tail)
