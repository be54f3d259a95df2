-- What a view says of a term.
use Rattle.std.specs.Prelude.{◌≡◌, ℕ, ◌*◌, List, length}
use Rattle.kh_term.specs.declared.tree.TermTree.{TermTree}
use Rattle.kh_term.specs.declared.tree.TermTree.TheVariants as tree
use Rattle.kh_heap.specs.declared.view.View.{View}
use Rattle.kh_heap.specs.declared.view.View.TheVariants as view
use Rattle.kh_heap.specs.Heap.{term_at, Holds, cons_tree}
use Rattle.kh_heap.specs.Parts.{text_in, bytes_in, origin_in, pairs_in, parts_in}

-- an atom
abbrev pub IsAtom : TermTree → Type 0
IsAtom t = t ≡ tree.Atom (text_in t)

-- a binary
abbrev pub IsBin : TermTree → Type 0
IsBin t = t ≡ tree.Bin (bytes_in t)

-- a function
abbrev pub IsFun : TermTree → Type 0
IsFun t = t ≡ tree.Closure (origin_in t) (parts_in t)

-- a map of n pairs
abbrev pub HasPairs : TermTree → ℕ → Type 0
HasPairs t n = (t ≡ tree.Map (pairs_in t)) × (length (pairs_in t) ≡ n) × (length (parts_in t) ≡ 2 * n)

-- The kind of the term, an integer itself, the number of bytes, of elements, of pairs or of captured values, and of a
-- list its first element and what is left of it.
abbrev pub IsSeen : List TermTree → TermTree → View → Type 0
IsSeen heap t (view.Int n) = t ≡ tree.Int n
IsSeen heap t view.Atom = IsAtom t
IsSeen heap t (view.Bin n) = IsBin t × (length (bytes_in t) ≡ n)
IsSeen heap t view.Nil = t ≡ tree.Nil
IsSeen heap t (view.Cons head tail) =
    (t ≡ cons_tree (term_at heap head) (term_at heap tail)) × Holds heap head × Holds heap tail
IsSeen heap t (view.Tuple n) = (t ≡ tree.Tuple (parts_in t)) × (length (parts_in t) ≡ n)
IsSeen heap t (view.Map n) = HasPairs t n
IsSeen heap t (view.Closure n) = IsFun t × (length (parts_in t) ≡ n)

-- the rank of a kind of term
abbrev pub rank_seen : View → ℕ
rank_seen (view.Int n) = 0
rank_seen view.Atom = 1
rank_seen (view.Closure n) = 2
rank_seen (view.Tuple n) = 3
rank_seen (view.Map n) = 4
rank_seen view.Nil = 5
rank_seen (view.Cons head tail) = 6
rank_seen (view.Bin n) = 7
