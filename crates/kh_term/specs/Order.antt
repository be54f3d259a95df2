-- The order of terms.
use Rattle.std.specs.Prelude.{ℕ, List, [], ◌∷◌, length, map}
use Rattle.std.specs.declared.cmp.Ordering.{Ordering}
use Rattle.std.specs.declared.cmp.Ordering.TheVariants.{Less, Equal, Greater}
use Rattle.std.specs.Ordering.{nat_cmp, int_cmp, ordering_then}
use Rattle.std.specs.Cmp.Lexicographic.{slice_cmp}
use Rattle.kh_term.specs.declared.tree.TermTree.{TermTree, out-TermTree}
use Rattle.kh_term.specs.declared.tree.TermTree.TheOpen.{TermTree-F}
use Rattle.kh_term.specs.declared.tree.TermTree.TheOpen as layer
use Rattle.kh_term.specs.declared.tree.TermTree.TheFolds.{para-TermTree}
use Rattle.kh_term.specs.Name.{origin_cmp}

-- The kinds in their order: integers, atoms, closures, tuples, maps, nil, lists, binaries.
abbrev pub rank_of : {A : Type 0} → TermTree-F A → ℕ
rank_of (layer.Int number) = 0
rank_of (layer.Atom text) = 1
rank_of (layer.Closure origin env) = 2
rank_of (layer.Tuple parts) = 3
rank_of (layer.Map pairs) = 4
rank_of layer.Nil = 5
rank_of (layer.List parts tail) = 6
rank_of (layer.Bin bytes) = 7

-- A term, and how it compares with another.
abbrev pub Compared : Type 0
Compared = TermTree × (TermTree → Ordering)

-- part by part; of two lists that agree the shorter comes first
abbrev pub compare_parts : List Compared → List TermTree → Ordering
compare_parts [] [] = Equal
compare_parts [] (y ∷ ys) = Less
compare_parts (x ∷ xs) [] = Greater
compare_parts (x ∷ xs) (y ∷ ys) = ordering_then (x.1 y) (compare_parts xs ys)

-- Element by element. Where one list ends, its tail, which is no list, is compared with what is left of the other.
abbrev pub compare_lists : List Compared → Compared → List TermTree → TermTree → Ordering
compare_lists [] tail [] other = tail.1 other
compare_lists [] tail (y ∷ ys) other = nat_cmp (rank_of (out-TermTree tail.0)) 6
compare_lists (x ∷ xs) tail [] other = nat_cmp 6 (rank_of (out-TermTree other))
compare_lists (x ∷ xs) tail (y ∷ ys) other = ordering_then (x.1 y) (compare_lists xs tail ys other)

-- Terms of one kind: numbers by value, texts by their bytes, a closure by its origin and then its environment, a
-- tuple by its number of elements and then element by element, a map by its number of pairs, then its keys in
-- order, then its values in the order of their keys.
abbrev pub compare_alike : TermTree-F Compared → TermTree-F TermTree → Ordering
compare_alike (layer.Int x) (layer.Int y) = int_cmp x y
compare_alike (layer.Atom x) (layer.Atom y) = slice_cmp nat_cmp x y
compare_alike (layer.Bin x) (layer.Bin y) = slice_cmp nat_cmp x y
compare_alike (layer.Closure a xs) (layer.Closure b ys) = ordering_then (origin_cmp a b) (compare_parts xs ys)
compare_alike (layer.Tuple xs) (layer.Tuple ys) =
    ordering_then (nat_cmp (length xs) (length ys)) (compare_parts xs ys)
compare_alike (layer.Map ps) (layer.Map qs) =
    ordering_then (nat_cmp (length ps) (length qs))
    (ordering_then (compare_parts (map (λ p. p.0) ps) (map (λ q. q.0) qs))
    (compare_parts (map (λ p. p.1) ps) (map (λ q. q.1) qs)))
compare_alike (layer.List xs tail) (layer.List ys other) = compare_lists xs tail ys other
compare_alike x y = Equal

-- first by kind
abbrev pub compare_layers : TermTree-F Compared → TermTree → Ordering
compare_layers x y =
    ordering_then (nat_cmp (rank_of x) (rank_of (out-TermTree y))) (compare_alike x (out-TermTree y))

-- how two terms compare
abbrev pub term_cmp : TermTree → TermTree → Ordering
term_cmp = para-TermTree (TermTree → Ordering) compare_layers

-- a term beside how it compares
abbrev pub compared : TermTree → Compared
compared t = (t, term_cmp t)

-- part by part, as far as both lists go
abbrev pub compare_shared : List Compared → List TermTree → Ordering
compare_shared [] ys = Equal
compare_shared (x ∷ xs) [] = Equal
compare_shared (x ∷ xs) (y ∷ ys) = ordering_then (x.1 y) (compare_shared xs ys)

-- the pairs of two maps: their keys in order, then their values in the order of their keys
abbrev pub compare_pairs : List (TermTree × TermTree) → List (TermTree × TermTree) → Ordering
compare_pairs ps qs =
    ordering_then (compare_parts (map (λ p. compared p.0) ps) (map (λ q. q.0) qs))
    (compare_parts (map (λ p. compared p.1) ps) (map (λ q. q.1) qs))
