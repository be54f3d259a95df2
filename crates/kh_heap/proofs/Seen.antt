-- What a cell shows of its term.
use Rattle.std.proofs.Common.{◌≡◌, ℕ, zero, suc, ◌+◌, ◌-◌, ◌*◌, ◌<◌, ◌≤◌, max, List, [], ◌∷◌, length, take, drop, get_or, refl, sym, ap, ◌∙◌, arith, length-drop}
use native.Mathlib.Nat.{not-suc-le-zero}
use Rattle.std.proofs.lemmas.List.{length-take, length-take-le, get_or-take, get_or-drop}
use Rattle.kh_term.specs.declared.name.Origin.{Origin}
use Rattle.kh_term.specs.declared.tree.TermTree.{TermTree, out-TermTree}
use Rattle.kh_term.specs.declared.tree.TermTree.TheVariants as tree
use Rattle.kh_term.specs.declared.tree.TermTree.TheVariants.{outs-Int, outs-Atom, outs-Bin, outs-Nil, outs-List, outs-Tuple, outs-Map, outs-Closure}
use Rattle.kh_term.specs.Order.{rank_of}
use Rattle.kh_term.specs.Size.{depth_of}
use Rattle.kh_heap.specs.declared.cell.Kind.{Kind}
use Rattle.kh_heap.specs.declared.cell.Kind.TheVariants as kind
use Rattle.kh_heap.specs.Cells.{Tables, paired, run_at, value, Below, number_of, first_of, tail_depth}
use Rattle.kh_heap.specs.Heap.{term_at, cons_tree}
use Rattle.kh_heap.specs.Parts.{no_origin, text_on, text_in, bytes_on, bytes_in, origin_on, origin_in, pairs_on, pairs_in, in_turn, parts_on, parts_in}
use Rattle.kh_heap.specs.View.{IsAtom, IsBin, IsFun}
use Rattle.kh_heap.proofs.Measures.{cons-is-List, IsOther, other-Int, other-Atom, other-Bin, other-Tuple, other-Map, other-Closure, depth-cons-List, depth-cons-Nil, depth-cons-other}

-- ---- what each variant has

pub text-Atom : (text : List ℕ) → text_in (tree.Atom text) ≡ text
text-Atom text = ap text_on (outs-Atom text)

pub bytes-Bin : (bytes : List ℕ) → bytes_in (tree.Bin bytes) ≡ bytes
bytes-Bin bytes = ap bytes_on (outs-Bin bytes)

pub origin-Closure : (o : Origin) (env : List TermTree) → origin_in (tree.Closure o env) ≡ o
origin-Closure o env = ap origin_on (outs-Closure o env)

pub pairs-Map : (ps : List (TermTree × TermTree)) → pairs_in (tree.Map ps) ≡ ps
pairs-Map ps = ap pairs_on (outs-Map ps)

pub parts-Tuple : (parts : List TermTree) → parts_in (tree.Tuple parts) ≡ parts
parts-Tuple parts = ap parts_on (outs-Tuple parts)

pub parts-Map : (ps : List (TermTree × TermTree)) → parts_in (tree.Map ps) ≡ in_turn ps
parts-Map ps = ap parts_on (outs-Map ps)

pub parts-Closure : (o : Origin) (env : List TermTree) → parts_in (tree.Closure o env) ≡ env
parts-Closure o env = ap parts_on (outs-Closure o env)

parts-List : (xs : List TermTree) (tail : TermTree) → parts_in (tree.List xs tail) ≡ []
parts-List xs tail = ap parts_on (outs-List xs tail)

-- ---- two by two

pub in_turn-paired : (n : ℕ) (ts : List TermTree) → length ts ≡ 2 * n → in_turn (paired ts) ≡ ts
in_turn-paired n [] e = refl
in_turn-paired n (t ∷ []) e = absurd (omega (arith, e))
in_turn-paired zero (t ∷ u ∷ ts) e = absurd (omega (arith, e))
in_turn-paired (suc n) (t ∷ u ∷ ts) e = ap (λ vs. t ∷ u ∷ vs) (in_turn-paired n ts (omega (arith, e)))

length-paired : (n : ℕ) (ts : List TermTree) → length ts ≡ 2 * n → length (paired ts) ≡ n
length-paired zero [] e = refl
length-paired (suc n) [] e = absurd (omega (arith, e))
length-paired n (t ∷ []) e = absurd (omega (arith, e))
length-paired zero (t ∷ u ∷ ts) e = absurd (omega (arith, e))
length-paired (suc n) (t ∷ u ∷ ts) e = ap (λ (k : ℕ). suc k) (length-paired n ts (omega (arith, e)))

pub paired-in_turn : {A : Type 0} (ps : List (A × A)) → paired (in_turn ps) ≡ ps
paired-in_turn [] = refl
paired-in_turn (p ∷ ps) = ap (λ qs. p ∷ qs) (paired-in_turn ps)

pub length-in_turn : {A : Type 0} (ps : List (A × A)) → length (in_turn ps) ≡ 2 * length ps
length-in_turn [] = refl
length-in_turn (p ∷ ps) = omega (arith, length-in_turn ps)

-- ---- a run of cells

pub length-run : (heap : List TermTree) (s n : ℕ) → s + n ≤ length heap → length (run_at heap s n) ≡ n
length-run heap s n l = length-take-le n (drop s heap) (omega (arith, l, length-drop s heap))

run-part : (heap : List TermTree) (s n i : ℕ) → i < n → get_or (run_at heap s n) i tree.Nil ≡ term_at heap (s + i)
run-part heap s n i l = get_or-take n (drop s heap) i tree.Nil l ∙ get_or-drop s heap i tree.Nil

other : (h y : TermTree) → IsOther y → {x : TermTree} → y ≡ x → depth_of (cons_tree h x) ≡ 1 + max (depth_of h) (depth_of x)
other h y is e = ap (λ z. depth_of (cons_tree h z)) (sym e) ∙ depth-cons-other h y is ∙ ap (λ z. 1 + max (depth_of h) (depth_of z)) e

-- ---- the kind of a cell is the kind of its term

rank : TermTree → ℕ
rank t = rank_of (out-TermTree t)

rank_kind : Kind → ℕ
rank_kind (kind.Int n) = 0
rank_kind (kind.Atom k) = 1
rank_kind (kind.Bin k) = 7
rank_kind kind.Nil = 5
rank_kind (kind.Cons a b) = 6
rank_kind (kind.Tuple s n) = 3
rank_kind (kind.Map s n) = 4
rank_kind (kind.Closure k s n) = 2

-- the number of the cells of its parts
count_of : Kind → ℕ
count_of (kind.Tuple s n) = n
count_of (kind.Map s n) = 2 * n
count_of (kind.Closure k s n) = n
count_of k = 0

module _ (t : Tables) (heap : List TermTree) where
  rank-value : (k : Kind) → rank (value t heap k) ≡ rank_kind k
  unfolding rank rank_kind
  rank-value (kind.Int n) = ap rank_of (outs-Int n)
  rank-value (kind.Atom k) = ap rank_of (outs-Atom (get_or t.atoms k []))
  rank-value (kind.Bin k) = ap rank_of (outs-Bin (get_or t.binaries k []))
  rank-value kind.Nil = ap rank_of outs-Nil
  rank-value (kind.Cons a b) =
      let is = cons-is-List (term_at heap a) (term_at heap b) in
      ap rank is.2 ∙ ap rank_of (outs-List is.0 is.1)
  rank-value (kind.Tuple s n) = ap rank_of (outs-Tuple (run_at heap s n))
  rank-value (kind.Map s n) = ap rank_of (outs-Map (paired (run_at heap s (2 * n))))
  rank-value (kind.Closure k s n) = ap rank_of (outs-Closure (get_or t.origins k no_origin) (run_at heap s n))

  parts-value : (r : ℕ) (k : Kind) → Below t r k → r ≤ length heap → parts_in (value t heap k) ≡ run_at heap (first_of k) (count_of k)
  unfolding count_of
  parts-value r (kind.Int n) b l = ap parts_on (outs-Int n)
  parts-value r (kind.Atom k) b l = ap parts_on (outs-Atom (get_or t.atoms k []))
  parts-value r (kind.Bin k) b l = ap parts_on (outs-Bin (get_or t.binaries k []))
  parts-value r kind.Nil b l = ap parts_on outs-Nil
  parts-value r (kind.Cons a c) b l =
      let is = cons-is-List (term_at heap a) (term_at heap c) in
      ap parts_in is.2 ∙ parts-List is.0 is.1
  parts-value r (kind.Tuple s n) b l = parts-Tuple (run_at heap s n)
  parts-value r (kind.Map s n) b l =
      parts-Map (paired (run_at heap s (2 * n))) ∙ in_turn-paired n (run_at heap s (2 * n)) (length-run heap s (2 * n) (omega (arith, b, l)))
  parts-value r (kind.Closure k s n) b l = parts-Closure (get_or t.origins k no_origin) (run_at heap s n)

  module _ (r : ℕ) (x : TermTree) where
    wrong : (k : Kind) (n : ℕ) (y : TermTree) → value t heap k ≡ x → x ≡ y → rank y ≡ n → rank_kind k ≡ n
    wrong k n y e f h = sym (rank-value k) ∙ ap rank (e ∙ f) ∙ h

    -- a cell whose term is an atom, a binary or a function names its text or its origin
    pub atom-number : (k : Kind) → Below t r k → value t heap k ≡ x → IsAtom x → (number_of k < length t.atoms) × (get_or t.atoms (number_of k) [] ≡ text_in x)
    unfolding rank rank_kind
    atom-number (kind.Atom k) b e a = (b, sym (text-Atom (get_or t.atoms k [])) ∙ ap text_in e)
    atom-number k b e a = absurd (omega (arith, wrong k 1 (tree.Atom (text_in x)) e a (ap rank_of (outs-Atom (text_in x)))))

    pub bin-number : (k : Kind) → Below t r k → value t heap k ≡ x → IsBin x → (number_of k < length t.binaries) × (get_or t.binaries (number_of k) [] ≡ bytes_in x)
    unfolding rank rank_kind
    bin-number (kind.Bin k) b e a = (b, sym (bytes-Bin (get_or t.binaries k [])) ∙ ap bytes_in e)
    bin-number k b e a = absurd (omega (arith, wrong k 7 (tree.Bin (bytes_in x)) e a (ap rank_of (outs-Bin (bytes_in x)))))

    pub origin-number : (k : Kind) → Below t r k → value t heap k ≡ x → IsFun x → (number_of k < length t.origins) × (get_or t.origins (number_of k) no_origin ≡ origin_in x)
    unfolding rank rank_kind
    origin-number (kind.Closure k s n) b e a = (b.0, sym (origin-Closure (get_or t.origins k no_origin) (run_at heap s n)) ∙ ap origin_in e)
    origin-number k b e a = absurd (omega (arith, wrong k 2 (tree.Closure (origin_in x) (parts_in x)) e a (ap rank_of (outs-Closure (origin_in x) (parts_in x)))))

    run-below : (k : Kind) → Below t r k → 0 < count_of k → first_of k + count_of k ≤ r
    unfolding count_of
    run-below (kind.Tuple s n) b l = b
    run-below (kind.Map s n) b l = b
    run-below (kind.Closure k s n) b l = b.1
    run-below k b l = absurd (not-suc-le-zero l)

    -- a part lies among the cells of the parts, which stand before the cell
    pub part-place : (k : Kind) (i : ℕ) → Below t r k → r < length heap → value t heap k ≡ x → i < length (parts_in x)
        → (first_of k + i < r) × (term_at heap (first_of k + i) ≡ get_or (parts_in x) i tree.Nil)
    part-place k i b l e li =
        let are : parts_in x ≡ run_at heap (first_of k) (count_of k) = sym (ap parts_in e) ∙ parts-value r k b (omega (arith, l)) in
        let some : 0 < count_of k = pos (count_of k) (run_at heap (first_of k) (count_of k)) i (length-take-at-most (count_of k) (drop (first_of k) heap)) (omega (arith, li, ap length are)) in
        let below = run-below k b some in
        let within : i < count_of k = omega (arith, li, ap length are, length-run heap (first_of k) (count_of k) (omega (arith, below, l))) in
        (omega (arith, below, within), sym (run-part heap (first_of k) (count_of k) i within) ∙ ap (λ ts. get_or ts i tree.Nil) (sym are))
      where
        pos : (n : ℕ) (ts : List TermTree) (j : ℕ) → length ts ≤ n → j < length ts → 0 < n
        pos n ts j few m = omega (arith, few, m)

        length-take-at-most : (n : ℕ) (ts : List TermTree) → length (take n ts) ≤ n
        length-take-at-most n ts = omega (arith, length-take n ts)

    -- ---- what a view says

    pub seen-Atom : (k : ℕ) → tree.Atom (get_or t.atoms k []) ≡ x → IsAtom x
    seen-Atom k e = sym e ∙ ap (λ y. tree.Atom y) (sym (text-Atom (get_or t.atoms k [])) ∙ ap text_in e)

    pub seen-Bin : (k n : ℕ) → tree.Bin (get_or t.binaries k []) ≡ x → n ≡ length (get_or t.binaries k []) → IsBin x × (length (bytes_in x) ≡ n)
    seen-Bin k n e h =
        let are = sym (bytes-Bin (get_or t.binaries k [])) ∙ ap bytes_in e in
        (sym e ∙ ap (λ y. tree.Bin y) are, ap length (sym are) ∙ sym h)

    pub seen-Tuple : (s n : ℕ) → s + n ≤ length heap → tree.Tuple (run_at heap s n) ≡ x → (x ≡ tree.Tuple (parts_in x)) × (length (parts_in x) ≡ n)
    seen-Tuple s n l e =
        let are = sym (parts-Tuple (run_at heap s n)) ∙ ap parts_in e in
        (sym e ∙ ap (λ ts. tree.Tuple ts) are, ap length (sym are) ∙ length-run heap s n l)

    pub seen-Map : (s n : ℕ) → s + 2 * n ≤ length heap → tree.Map (paired (run_at heap s (2 * n))) ≡ x
        → (x ≡ tree.Map (pairs_in x)) × (length (pairs_in x) ≡ n) × (length (parts_in x) ≡ 2 * n)
    seen-Map s n l e =
        let run = run_at heap s (2 * n) in
        let long = length-run heap s (2 * n) l in
        let are = sym (pairs-Map (paired run)) ∙ ap pairs_in e in
        let parts = sym (parts-Map (paired run)) ∙ ap parts_in e in
        (sym e ∙ ap (λ ts. tree.Map ts) are, ap length (sym are) ∙ length-paired n run long, ap length (sym parts) ∙ ap length (in_turn-paired n run long) ∙ long)

    pub seen-Closure : (k s n : ℕ) → s + n ≤ length heap → tree.Closure (get_or t.origins k no_origin) (run_at heap s n) ≡ x → IsFun x × (length (parts_in x) ≡ n)
    seen-Closure k s n l e =
        let o = get_or t.origins k no_origin in let run = run_at heap s n in
        let are = sym (parts-Closure o run) ∙ ap parts_in e in
        let origin = sym (origin-Closure o run) ∙ ap origin_in e in
        (sym e ∙ (λ i. tree.Closure (origin i) (are i)), ap length (sym are) ∙ length-run heap s n l)

    -- what a tail adds to a list's depth
    pub tail-depth : (k : Kind) (h : TermTree) → value t heap k ≡ x → depth_of (cons_tree h x) ≡ 1 + max (depth_of h) (tail_depth k (depth_of x))
    tail-depth kind.Nil h e = ap (λ y. depth_of (cons_tree h y)) (sym e) ∙ depth-cons-Nil h
    tail-depth (kind.Cons a b) h e =
        let is = cons-is-List (term_at heap a) (term_at heap b) in
        let list : x ≡ tree.List is.0 is.1 = sym e ∙ is.2 in
        ap (λ y. depth_of (cons_tree h y)) list ∙ depth-cons-List h is.0 is.1 ∙ ap (λ y. 1 + max (depth_of h) (depth_of y - 1)) (sym list)
    tail-depth (kind.Int n) h e = other h (tree.Int n) (other-Int n) e
    tail-depth (kind.Atom k) h e = other h (tree.Atom (get_or t.atoms k [])) (other-Atom (get_or t.atoms k [])) e
    tail-depth (kind.Bin k) h e = other h (tree.Bin (get_or t.binaries k [])) (other-Bin (get_or t.binaries k [])) e
    tail-depth (kind.Tuple s n) h e = other h (tree.Tuple (run_at heap s n)) (other-Tuple (run_at heap s n)) e
    tail-depth (kind.Map s n) h e = other h (tree.Map (paired (run_at heap s (2 * n)))) (other-Map (paired (run_at heap s (2 * n)))) e
    tail-depth (kind.Closure k s n) h e =
        other h (tree.Closure (get_or t.origins k no_origin) (run_at heap s n)) (other-Closure (get_or t.origins k no_origin) (run_at heap s n)) e

pub tail_depth-few : (k : Kind) (depth : ℕ) → tail_depth k depth ≤ depth
tail_depth-few kind.Nil depth = omega arith
tail_depth-few (kind.Cons a b) depth = omega arith
tail_depth-few k depth = omega arith
