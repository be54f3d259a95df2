-- A pair of a map is within the limits as a tuple.
use Rattle.std.proofs.Common.{◌≡◌, ◌<◌, ◌≤◌, ℕ, zero, suc, ◌+◌, max, true, List, [], ◌∷◌, length, map, get_or, refl, sym, ap, ◌∙◌, arith}
use Rattle.std.specs.Prelude.{Result, Ok, Err, IfErr, IsErrAnd}
use Rattle.kh_term.specs.declared.tree.TermTree.{TermTree}
use Rattle.kh_term.specs.declared.tree.TermTree.TheVariants as tree
use Rattle.kh_term.specs.Lemmas.Fits.{sum-cons}
use Rattle.kh_term.specs.Limits.{is_small, most_size, most_depth}
use Rattle.kh_term.specs.Size.{size_of, depth_of, sizes_of, pair_sizes_of, greatest}
use Rattle.kh_term.proofs.Layers.{size-Tuple, size-Map, depth-Tuple, depth-Map}
use Rattle.kh_heap.specs.declared.error.HeapError.{HeapError}
use Rattle.kh_heap.specs.declared.error.HeapError.TheVariants as error
use Rattle.kh_heap.specs.Heap.{Limits}
use Rattle.kh_heap.specs.Parts.{pairs_in}
use Rattle.kh_bif_base.proofs.Answering.{small}
use Rattle.kh_bif_data.specs.Maps.{pair_tree}
use Rattle.kh_bif_data.proofs.Ordered.{Pairs}

one_size : (ps : Pairs) (i : ℕ) (d : TermTree × TermTree) → i < length ps → size_of (get_or ps i d).0 + size_of (get_or ps i d).1 ≤ pair_sizes_of ps
one_size [] i d l = absurd (omega (arith, l))
one_size (p ∷ ps) zero d l = omega (arith, sum-cons (size_of p.0 + size_of p.1) (map (λ (q : TermTree × TermTree). size_of q.0 + size_of q.1) ps))
one_size (p ∷ ps) (suc i) d l =
    omega (arith, sum-cons (size_of p.0 + size_of p.1) (map (λ (q : TermTree × TermTree). size_of q.0 + size_of q.1) ps), one_size ps i d (omega (arith, l)))

abbrev deepest : Pairs → ℕ
deepest ps = greatest (map (λ (p : TermTree × TermTree). max (depth_of p.0) (depth_of p.1)) ps)

one_depth : (ps : Pairs) (i : ℕ) (d : TermTree × TermTree) → i < length ps → max (depth_of (get_or ps i d).0) (depth_of (get_or ps i d).1) ≤ deepest ps
one_depth [] i d l = absurd (omega (arith, l))
one_depth (p ∷ ps) zero d l = omega arith
one_depth (p ∷ ps) (suc i) d l = omega (arith, one_depth ps i d (omega (arith, l)))

tuple_size : (a b : TermTree) → size_of (tree.Tuple (a ∷ b ∷ [])) ≡ 1 + (size_of a + size_of b)
tuple_size a b = omega (arith, size-Tuple (a ∷ b ∷ []), sum-cons (size_of a) (map size_of (b ∷ [])), sum-cons (size_of b) (map size_of []))

tuple_depth : (a b : TermTree) → depth_of (tree.Tuple (a ∷ b ∷ [])) ≡ 1 + max (depth_of a) (depth_of b)
tuple_depth a b = omega (arith, depth-Tuple (a ∷ b ∷ []))

pub pair_small : (t : TermTree) (i : ℕ) (d : TermTree × TermTree) → t ≡ tree.Map (pairs_in t) → size_of t ≤ most_size → depth_of t ≤ most_depth → i < length (pairs_in t) → is_small (pair_tree (get_or (pairs_in t) i d)) ≡ true
pair_small t i d is few low l =
    let ps = pairs_in t in
    let p = get_or ps i d in
    small (pair_tree p) (omega (arith, few, ap size_of is, size-Map ps, one_size ps i d l, tuple_size p.0 p.1))
    (omega (arith, low, ap depth_of is, depth-Map ps, one_depth ps i d l, tuple_depth p.0 p.1))

-- so only memory may be wanting
pub wants_memory : (e : HeapError) (t : TermTree) → Limits (Err e) t → is_small t ≡ true → e ≡ error.NoMemory
wants_memory error.TooLarge t l s = absurd (cc)
wants_memory error.NoMemory t l s = refl

pub memory_refused : {T : Type 0} (r : Result T HeapError) (e : HeapError) → IsErrAnd r (λ f. f ≡ e) → e ≡ error.NoMemory → IfErr r (λ f. f ≡ error.NoMemory)
memory_refused (Ok x) e h is = tt
memory_refused (Err f) e h is = h ∙ is
