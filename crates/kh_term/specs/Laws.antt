-- The laws of terms.
use Rattle.std.specs.Prelude.{◌≡◌, ◌≤◌, ◌<◌, ◌*◌, ◌^◌, ◌↔◌, ℕ, List, ◌++◌, length, IsTrue, Some}
use Rattle.std.specs.declared.cmp.Ordering.TheVariants.{Equal}
use Rattle.std.specs.Cmp.{IsTotalOrder}
use Rattle.kh_term.specs.declared.limits.TheConstants.{MOST_ARITY}
use Rattle.kh_term.specs.declared.name.Name.{Name}
use Rattle.kh_term.specs.declared.term.Term.{Term}
use Rattle.kh_term.specs.Lookup.{value_at}
use Rattle.kh_term.specs.MapOf.{map_of, trees_of, last_at}
use Rattle.kh_term.specs.Make.{name_tree, path_tree}
use Rattle.kh_term.specs.declared.name.Origin.{Origin}
use Rattle.kh_term.specs.Name.{name_cmp, path_cmp, is_path}
use Rattle.kh_term.specs.Parts.{path_of, origin_of, origin_tree}
use Rattle.kh_term.specs.Order.{term_cmp}
use Rattle.kh_term.specs.Packed.{packed_of}
use Rattle.kh_term.specs.Size.{size_of, depth_of, width_of}

-- The order of terms is a total one: antisymmetric, transitive, and the same for terms that compare equal.
abbrev pub OrderIsTotal : Type 0
OrderIsTotal = IsTotalOrder {K = Term} (λ x y. term_cmp x.node y.node)

-- Two terms compare equal exactly where they are the same term.
abbrev pub EqualIsSame : Type 0
EqualIsSame = (x y : Term) → (term_cmp x.node y.node ≡ Equal) ↔ (x ≡ y)

-- Names compare as their terms do.
abbrev pub NamesCompareAsTerms : Type 0
NamesCompareAsTerms = (m n : Name) → name_cmp m n ≡ term_cmp (name_tree m) (name_tree n)

-- Paths compare as their terms do.
abbrev pub PathsCompareAsTerms : Type 0
PathsCompareAsTerms = (p q : List Name) → path_cmp p q ≡ term_cmp (path_tree p) (path_tree q)

-- A term is no deeper than it is large.
abbrev pub DepthIsAtMostSize : Type 0
DepthIsAtMostSize = (x : Term) → depth_of x.node ≤ size_of x.node

-- A term's size is at most twice the number of its packed bytes.
abbrev pub SizeIsAtMostTwicePacked : Type 0
SizeIsAtMostTwicePacked = (x : Term) → size_of x.node ≤ 2 * length (packed_of x.node)

-- The packed bytes of a term are at most 515 times its size: a function of size 1 has two texts of 255 bytes beside
-- their lengths, its tag, its arity and the number of its captured values.
abbrev pub PackedIsAtMost515TimesSize : Type 0
PackedIsAtMost515TimesSize = (x : Term) → length (packed_of x.node) ≤ 515 * size_of x.node

-- A term is no wider than its packed bytes are long. So where they are fewer than 2^32, no list, tuple, map or binary
-- in it has as many elements, pairs or bytes.
abbrev pub WidthIsAtMostPacked : Type 0
WidthIsAtMostPacked = (x : Term) → width_of x.node ≤ length (packed_of x.node)

-- A map of pairs in any order has at each key the value beside the last pair with that key.
abbrev pub MapsKeepTheLast : Type 0
MapsKeepTheLast = (ps : List (Term × Term)) (key : Term) → value_at key.node (map_of (trees_of ps)) ≡ last_at key.node (trees_of ps)

-- A term stands for a path exactly where it is the list of the path's names.
abbrev pub PathsReadBack : Type 0
PathsReadBack = (x : Term) (p : List Name) → (path_of x.node ≡ Some p) ↔ ((x.node ≡ path_tree p) × IsTrue (is_path p))

-- A term stands for an origin exactly where it is the origin's triple.
abbrev pub OriginsReadBack : Type 0
OriginsReadBack = (x : Term) (o : Origin) → (origin_of x.node ≡ Some o) ↔ ((x.node ≡ origin_tree o) × (o.arity ≤ MOST_ARITY))

-- Each term has packed bytes of its own, and none are the front of another's: where two of them begin one list of
-- bytes, they are the bytes of one term, and what follows is the same. Counts have four bytes, so the terms are less
-- than 2^32 wide.
abbrev pub OnePackedSpelling : Type 0
OnePackedSpelling =
    (x y : Term) (u v : List ℕ) → width_of x.node < 2 ^ 32 → width_of y.node < 2 ^ 32 → packed_of x.node ++ u ≡ packed_of y.node ++ v → (x ≡ y) × (u ≡ v)
