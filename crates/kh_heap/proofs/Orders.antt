-- How terms of a heap compare: lists by their heads and then by what is left, terms of two kinds by their ranks.
use Rattle.std.proofs.Common.{◌≡◌, ℕ, zero, suc, ◌+◌, ◌*◌, ◌<◌, min, Bool, true, false, List, [], ◌∷◌, length, map, drop, get_or, ℤ, ◌&&◌, refl, sym, ap, ◌∙◌, arith}
use mathlib.Core.Bool.{true≢false}
use native.Mathlib.Nat.{not-suc-le-zero, le_of_suc-le-suc}
use Rattle.std.proofs.lemmas.List.{at_drop_more, length-map}
use Rattle.std.specs.Cmp.Lexicographic.{slice_cmp}
use Rattle.std.specs.Prelude.{◌↔◌}
use Rattle.std.specs.declared.cmp.Ordering.{Ordering}
use Rattle.std.specs.declared.cmp.Ordering.TheVariants.{Less, Equal, Greater}
use Rattle.std.specs.Ordering.{nat_cmp, ordering_then, is_eq}
use Rattle.kh_term.specs.declared.term.Term.{Term}
use Rattle.kh_term.specs.declared.tree.TermTree.{TermTree, out-TermTree}
use Rattle.kh_term.specs.declared.tree.TermTree.TheVariants as tree
use Rattle.kh_term.specs.declared.tree.TermTree.TheVariants.{outs-Int, outs-Atom, outs-Bin, outs-Nil, outs-List, outs-Tuple, outs-Map, outs-Closure}
use Rattle.kh_term.specs.declared.tree.TermTree.TheOpen.{TermTree-F}
use Rattle.kh_term.specs.declared.tree.TermTree.TheOpen as layer
use Rattle.kh_term.specs.Lemmas.Alike.{numbers, is_equal}
use Rattle.kh_term.specs.Lemmas.Fits.{ends_list}
use Rattle.kh_term.specs.Lemmas.Induction.{by_parts}
use Rattle.kh_term.specs.Lemmas.Layers.{joined}
use Rattle.kh_term.specs.Name.{origin_cmp}
use Rattle.kh_term.proofs.Same.{same_exactly}
use Rattle.kh_term.specs.Lemmas.Orders.{other-Nil, order-Int, order-Atom, order-Bin, order-Nil, order-List, order-Tuple, order-Map, order-Closure, alike-Atom, alike-Bin, alike-List, alike-Tuple, alike-Map, alike-Closure, decided, parts_by_shared, pairs_by_shared, IsByKind}
use Rattle.kh_term.specs.Order.{term_cmp, compare_shared, compare_parts, compare_pairs, rank_of, Compared, compared, compare_lists, compare_layers, compare_alike}
use Rattle.kh_term.specs.WellFormed.{IsTerm, is_list, is_list_of}
use Rattle.kh_heap.specs.declared.view.View.{View}
use Rattle.kh_heap.specs.declared.view.View.TheVariants as view
use Rattle.kh_heap.specs.Heap.{term_at, cons_tree}
use Rattle.kh_heap.specs.Parts.{text_in, bytes_in, origin_in, pairs_in, parts_in, in_turn, side}
use Rattle.kh_heap.specs.View.{IsSeen, HasPairs, rank_seen}
use Rattle.kh_heap.proofs.Measures.{by_tail, cons-is-List}
use Rattle.kh_heap.proofs.Seen.{parts-Map}

-- the ranks of two terms differ
abbrev Apart : TermTree → TermTree → Type 0
Apart a b = nat_cmp (rank_of (out-TermTree a)) (rank_of (out-TermTree b)) ≡ Equal → ⊥

layered : (a b : TermTree) (l : TermTree-F TermTree) (x : TermTree-F Compared) → out-TermTree a ≡ l → rank_of x ≡ rank_of l → term_cmp a b ≡ compare_layers x b → Apart a b → IsByKind a b
layered a b l x o r e apart =
    let same : rank_of x ≡ rank_of (out-TermTree a) = r ∙ sym (ap rank_of o) in
    let rank = rank_of (out-TermTree b) in
    e ∙ decided (nat_cmp (rank_of x) rank) (compare_alike x (out-TermTree b)) (λ h. apart (ap (λ (k : ℕ). nat_cmp k rank) (sym same) ∙ h))
    ∙ ap (λ (k : ℕ). nat_cmp k rank) same

-- terms of two ranks compare by these
pub by_rank : (a b : TermTree) → Apart a b → IsByKind a b
by_rank a b = by_parts (λ a. Apart a b → IsByKind a b) record {
  at_int = λ n. layered (tree.Int n) b (layer.Int n) (layer.Int n) (outs-Int n) refl (order-Int n b);
  at_atom = λ text. layered (tree.Atom text) b (layer.Atom text) (layer.Atom text) (outs-Atom text) refl (order-Atom text b);
  at_bin = λ bytes. layered (tree.Bin bytes) b (layer.Bin bytes) (layer.Bin bytes) (outs-Bin bytes) refl (order-Bin bytes b);
  at_nil = layered tree.Nil b layer.Nil layer.Nil outs-Nil refl (order-Nil b);
  at_list = λ xs t each tail. layered (tree.List xs t) b (layer.List xs t) (layer.List (map compared xs) (compared t)) (outs-List xs t) refl (order-List xs t b);
  at_tuple = λ xs each. layered (tree.Tuple xs) b (layer.Tuple xs) (layer.Tuple (map compared xs)) (outs-Tuple xs) refl (order-Tuple xs b);
  at_map = λ ps each. layered (tree.Map ps) b (layer.Map ps) (layer.Map (map (λ p. (compared p.0, compared p.1)) ps)) (outs-Map ps) refl (order-Map ps b);
  at_closure = λ o xs each. layered (tree.Closure o xs) b (layer.Closure o xs) (layer.Closure o (map compared xs)) (outs-Closure o xs) refl (order-Closure o xs b);
} a

no_six : (l : TermTree-F TermTree) → is_list l ≡ false → rank_of l ≡ 6 → ⊥
no_six (layer.List xs t) e r = true≢false e
no_six (layer.Int n) e r = omega (arith, r)
no_six (layer.Atom text) e r = omega (arith, r)
no_six (layer.Bin bytes) e r = omega (arith, r)
no_six layer.Nil e r = omega (arith, r)
no_six (layer.Tuple xs) e r = omega (arith, r)
no_six (layer.Map ps) e r = omega (arith, r)
no_six (layer.Closure o xs) e r = omega (arith, r)

list-rank : (xs : List TermTree) (t : TermTree) → rank_of (out-TermTree (tree.List xs t)) ≡ 6
list-rank xs t = ap rank_of (outs-List xs t)

-- what is left of a list against an end, and the other way round
list-end : (xs : List TermTree) (t s : TermTree) → is_list_of xs t ≡ true → is_list (out-TermTree s) ≡ false → compare_lists (map compared xs) (compared t) [] s ≡ term_cmp (tree.List xs t) s
list-end [] t s l e = absurd (true≢false (sym l))
list-end (x ∷ xs) t s l e =
    let rank = rank_of (out-TermTree s) in
    ap (λ (k : ℕ). nat_cmp k rank) (sym (list-rank (x ∷ xs) t))
    ∙ sym (by_rank (tree.List (x ∷ xs) t) s (λ h. no_six (out-TermTree s) e (sym (numbers (rank_of (out-TermTree (tree.List (x ∷ xs) t))) rank h) ∙ list-rank (x ∷ xs) t)))

end-list : (t : TermTree) (ys : List TermTree) (s : TermTree) → is_list (out-TermTree t) ≡ false → is_list_of ys s ≡ true → compare_lists [] (compared t) ys s ≡ term_cmp t (tree.List ys s)
end-list t [] s e l = absurd (true≢false (sym l))
end-list t (y ∷ ys) s e l =
    let rank = rank_of (out-TermTree t) in
    ap (λ (k : ℕ). nat_cmp rank k) (sym (list-rank (y ∷ ys) s))
    ∙ sym (by_rank t (tree.List (y ∷ ys) s) (λ h. no_six (out-TermTree t) e (numbers rank (rank_of (out-TermTree (tree.List (y ∷ ys) s))) h ∙ list-rank (y ∷ ys) s)))

-- a head in front of a tail compares by the head, and then by the tail
module _ (h g : TermTree) where
  -- the one in front of t against the other's
  abbrev Beside : TermTree → TermTree → TermTree → TermTree → Type 0
  Beside t c s d = term_cmp c d ≡ ordering_then (term_cmp h g) (term_cmp t s)

  lists : (xs : List TermTree) (t : TermTree) (ys : List TermTree) (s : TermTree) → Beside (tree.List xs t) (tree.List (h ∷ xs) t) (tree.List ys s) (tree.List (g ∷ ys) s)
  lists xs t ys s = alike-List (h ∷ xs) (g ∷ ys) t s ∙ ap (ordering_then (term_cmp h g)) (sym (alike-List xs ys t s))

  left : (xs : List TermTree) (t s : TermTree) → IsTerm (tree.List xs t) → is_list (out-TermTree s) ≡ false → Beside (tree.List xs t) (tree.List (h ∷ xs) t) s (tree.List (g ∷ []) s)
  left xs t s fit e = alike-List (h ∷ xs) (g ∷ []) t s ∙ ap (ordering_then (term_cmp h g)) (list-end xs t s (ends_list xs t fit) e)

  right : (t : TermTree) (ys : List TermTree) (s : TermTree) → is_list (out-TermTree t) ≡ false → IsTerm (tree.List ys s) → Beside t (tree.List (h ∷ []) t) (tree.List ys s) (tree.List (g ∷ ys) s)
  right t ys s e fit = alike-List (h ∷ []) (g ∷ ys) t s ∙ ap (ordering_then (term_cmp h g)) (end-list t ys s e (ends_list ys s fit))

  ends : (t s : TermTree) → Beside t (tree.List (h ∷ []) t) s (tree.List (g ∷ []) s)
  ends t s = alike-List (h ∷ []) (g ∷ []) t s

  against-list : (xs : List TermTree) (t s : TermTree) → IsTerm (tree.List xs t) → IsTerm s → Beside (tree.List xs t) (tree.List (h ∷ xs) t) s (cons_tree g s)
  against-list xs t s fit = by_tail g (λ s d. IsTerm s → Beside (tree.List xs t) (tree.List (h ∷ xs) t) s d) record {
    at_list = λ ys u fits. lists xs t ys u;
    at_nil = λ fits. left xs t tree.Nil fit (ap is_list outs-Nil);
    at_other = λ u is fits. left xs t u fit is.no_list;
  } s

  against-end : (t s : TermTree) → is_list (out-TermTree t) ≡ false → IsTerm s → Beside t (tree.List (h ∷ []) t) s (cons_tree g s)
  against-end t s e = by_tail g (λ s d. IsTerm s → Beside t (tree.List (h ∷ []) t) s d) record {
    at_list = λ ys u fits. right t ys u e fits;
    at_nil = λ fits. ends t tree.Nil;
    at_other = λ u is fits. ends t u;
  } s

  pub cmp-cons : (t s : TermTree) → IsTerm t → IsTerm s → term_cmp (cons_tree h t) (cons_tree g s) ≡ ordering_then (term_cmp h g) (term_cmp t s)
  cmp-cons t s fit fits = by_tail h (λ t c. IsTerm t → Beside t c s (cons_tree g s)) record {
    at_list = λ xs u f. against-list xs u s f fits;
    at_nil = λ f. against-end tree.Nil s (ap is_list outs-Nil) fits;
    at_other = λ u is f. against-end u s is.no_list fits;
  } t fit

-- ---- equality

-- two terms compare equal exactly where they are the same
pub equal_same : (a b : TermTree) → IsTerm a → IsTerm b → (term_cmp a b ≡ Equal) ↔ (a ≡ b)
equal_same a b fit fits =
    let x : Term = record { node = a; fits = fit } in
    let y : Term = record { node = b; fits = fits } in
    let there : a ≡ b → term_cmp a b ≡ Equal = λ e. ap (λ z. term_cmp a z) (sym e) ∙ (same_exactly x x).1 refl in
    (λ e. ap (λ (t : Term). t.node) ((same_exactly x y).0 e), there)

pub equal_told : (o : Ordering) (a b : TermTree) → IsTerm a → IsTerm b → o ≡ term_cmp a b → (is_eq o ≡ true) ↔ (a ≡ b)
equal_told o a b fit fits e =
    let both = equal_same a b fit fits in
    (λ h. both.0 (sym e ∙ is_equal o h), λ h. ap is_eq (e ∙ both.1 h))

-- ---- one rule behind another

module _ (x y : TermTree) (o p r : Ordering) (e : term_cmp x y ≡ ordering_then p r) where
  pub first_decides : o ≡ p → (o ≡ Equal → ⊥) → o ≡ term_cmp x y
  first_decides f apart = f ∙ sym (decided p r (λ h. apart (f ∙ h))) ∙ sym e

  pub second_decides : Equal ≡ p → o ≡ r → o ≡ term_cmp x y
  second_decides f g = g ∙ ap (λ q. ordering_then q r) f ∙ sym e

then-equal : (o : Ordering) → ordering_then o Equal ≡ o
then-equal Less = refl
then-equal Equal = refl
then-equal Greater = refl

-- as many parts compare as far as they go
pub as-many : (xs ys : List TermTree) → Equal ≡ nat_cmp (length xs) (length ys) → compare_shared (map compared xs) ys ≡ compare_parts (map compared xs) ys
as-many xs ys e =
    sym (then-equal (compare_shared (map compared xs) ys)) ∙ ap (ordering_then (compare_shared (map compared xs) ys)) e ∙ sym (parts_by_shared xs ys)

-- captured values: as far as both go, and then by their number
module _ (xs ys : List TermTree) (o : Ordering) (e : o ≡ compare_shared (map compared xs) ys) where
  pub captured-equal : o ≡ Equal → nat_cmp (length xs) (length ys) ≡ compare_parts (map compared xs) ys
  captured-equal h = ap (λ q. ordering_then q (nat_cmp (length xs) (length ys))) (sym h ∙ e) ∙ sym (parts_by_shared xs ys)

  pub captured-differ : (o ≡ Equal → ⊥) → o ≡ compare_parts (map compared xs) ys
  captured-differ h =
      let n = nat_cmp (length xs) (length ys) in
      sym (decided o n h) ∙ ap (λ q. ordering_then q n) e ∙ sym (parts_by_shared xs ys)

-- pairs: the keys, and then the values
abbrev half_cmp : ℕ → List (TermTree × TermTree) → List (TermTree × TermTree) → Ordering
half_cmp h ps qs = compare_shared (map compared (map (side h) ps)) (map (side h) qs)

module _ (ps qs : List (TermTree × TermTree)) (same : length ps ≡ length qs) where
  halves : compare_pairs ps qs ≡ ordering_then (half_cmp 0 ps qs) (half_cmp 1 ps qs)
  halves =
      pairs_by_shared ps qs same
      ∙ (λ j. ordering_then (compare_shared (sym (joined (side 0) compared ps) j) (map (side 0) qs)) (compare_shared (sym (joined (side 1) compared ps) j) (map (side 1) qs)))

  pub keys-equal : (o : Ordering) → Equal ≡ half_cmp 0 ps qs → o ≡ half_cmp 1 ps qs → o ≡ compare_pairs ps qs
  keys-equal o e f = f ∙ ap (λ q. ordering_then q (half_cmp 1 ps qs)) e ∙ sym halves

  pub keys-differ : (o : Ordering) → o ≡ half_cmp 0 ps qs → (o ≡ Equal → ⊥) → o ≡ compare_pairs ps qs
  keys-differ o e h = sym (decided o (half_cmp 1 ps qs) h) ∙ ap (λ q. ordering_then q (half_cmp 1 ps qs)) e ∙ sym halves

-- ---- two of a kind

pub tuple-cmp : (x y : TermTree) → x ≡ tree.Tuple (parts_in x) → y ≡ tree.Tuple (parts_in y)
    → term_cmp x y ≡ ordering_then (nat_cmp (length (parts_in x)) (length (parts_in y))) (compare_parts (map compared (parts_in x)) (parts_in y))
tuple-cmp x y p q = (λ j. term_cmp (p j) (q j)) ∙ alike-Tuple (parts_in x) (parts_in y)

pub map-cmp : (x y : TermTree) → x ≡ tree.Map (pairs_in x) → y ≡ tree.Map (pairs_in y)
    → term_cmp x y ≡ ordering_then (nat_cmp (length (pairs_in x)) (length (pairs_in y))) (compare_pairs (pairs_in x) (pairs_in y))
map-cmp x y p q = (λ j. term_cmp (p j) (q j)) ∙ alike-Map (pairs_in x) (pairs_in y)

pub function-cmp : (x y : TermTree) → x ≡ tree.Closure (origin_in x) (parts_in x) → y ≡ tree.Closure (origin_in y) (parts_in y)
    → term_cmp x y ≡ ordering_then (origin_cmp (origin_in x) (origin_in y)) (compare_parts (map compared (parts_in x)) (parts_in y))
function-cmp x y p q = (λ j. term_cmp (p j) (q j)) ∙ alike-Closure (origin_in x) (origin_in y) (parts_in x) (parts_in y)

pub atom-cmp : (x y : TermTree) → x ≡ tree.Atom (text_in x) → y ≡ tree.Atom (text_in y) → term_cmp x y ≡ slice_cmp nat_cmp (text_in x) (text_in y)
atom-cmp x y p q = (λ j. term_cmp (p j) (q j)) ∙ alike-Atom (text_in x) (text_in y)

pub bin-cmp : (x y : TermTree) → x ≡ tree.Bin (bytes_in x) → y ≡ tree.Bin (bytes_in y) → term_cmp x y ≡ slice_cmp nat_cmp (bytes_in x) (bytes_in y)
bin-cmp x y p q = (λ j. term_cmp (p j) (q j)) ∙ alike-Bin (bytes_in x) (bytes_in y)

-- ---- parts in turn, as far as both go

module _ (xs ys : List TermTree) (i : ℕ) where
  -- what is left to compare
  abbrev pub from_here : ℕ → Ordering
  from_here n = compare_shared (map compared (drop n xs)) (drop n ys)

  shared-at : i < length xs → i < length ys → from_here i ≡ ordering_then (term_cmp (get_or xs i tree.Nil) (get_or ys i tree.Nil)) (from_here (i + 1))
  shared-at l m =
      at_drop_more (λ us. compare_shared (map compared us) (drop i ys)) xs i tree.Nil l
      ∙ at_drop_more (λ vs. compare_shared (map compared (get_or xs i tree.Nil ∷ drop (i + 1) xs)) vs) ys i tree.Nil m

  module _ (o : Ordering) (x y : TermTree) (l : i < length xs) (m : i < length ys) (first : x ≡ get_or xs i tree.Nil) (second : y ≡ get_or ys i tree.Nil) (e : o ≡ term_cmp x y) where
    same : o ≡ term_cmp (get_or xs i tree.Nil) (get_or ys i tree.Nil)
    same = e ∙ (λ j. term_cmp (first j) (second j))

    -- where two parts are equal, the others decide
    pub shared-step : o ≡ Equal → from_here (i + 1) ≡ from_here i
    shared-step h = ap (λ p. ordering_then p (from_here (i + 1))) (sym h ∙ same) ∙ sym (shared-at l m)

    -- the first two that differ decide
    pub shared-stop : (o ≡ Equal → ⊥) → o ≡ from_here i
    shared-stop h = sym (decided o (from_here (i + 1)) h) ∙ ap (λ p. ordering_then p (from_here (i + 1))) same ∙ sym (shared-at l m)

pub shared-end : (xs ys : List TermTree) (i : ℕ) → i ≡ min (length xs) (length ys) → compare_shared (map compared (drop i xs)) (drop i ys) ≡ Equal
shared-end [] ys zero e = refl
shared-end [] ys (suc i) e = absurd (omega (arith, e))
shared-end (x ∷ xs) [] zero e = refl
shared-end (x ∷ xs) [] (suc i) e = absurd (omega (arith, e))
shared-end (x ∷ xs) (y ∷ ys) zero e = absurd (omega (arith, e))
shared-end (x ∷ xs) (y ∷ ys) (suc i) e = shared-end xs ys i (omega (arith, e))

-- the key or the value of the i-th pair
pub in_turn-at : (ps : List (TermTree × TermTree)) (i h : ℕ) → i < length ps → h < 2 → get_or (in_turn ps) (2 * i + h) tree.Nil ≡ get_or (map (side h) ps) i tree.Nil
in_turn-at [] i h l m = absurd (not-suc-le-zero l)
in_turn-at (p ∷ ps) zero zero l m = refl
in_turn-at (p ∷ ps) zero (suc zero) l m = refl
in_turn-at (p ∷ ps) zero (suc (suc h)) l m = absurd (omega (arith, m))
in_turn-at (p ∷ ps) (suc i) h l m =
    let next : 2 * suc i + h ≡ suc (suc (2 * i + h)) = omega arith in
    ap (λ (n : ℕ). get_or (in_turn (p ∷ ps)) n tree.Nil) next ∙ in_turn-at ps i h (le_of_suc-le-suc l) m

-- ---- kinds, as views tell them

pub rank-seen : (heap : List TermTree) (x : TermTree) (v : View) → IsSeen heap x v → rank_of (out-TermTree x) ≡ rank_seen v
rank-seen heap x (view.Int n) s = ap (λ y. rank_of (out-TermTree y)) s ∙ ap rank_of (outs-Int n)
rank-seen heap x view.Atom s = ap (λ y. rank_of (out-TermTree y)) s ∙ ap rank_of (outs-Atom (text_in x))
rank-seen heap x (view.Bin n) s = ap (λ y. rank_of (out-TermTree y)) s.0 ∙ ap rank_of (outs-Bin (bytes_in x))
rank-seen heap x view.Nil s = ap (λ y. rank_of (out-TermTree y)) s ∙ ap rank_of outs-Nil
rank-seen heap x (view.Cons a b) s =
    let is = cons-is-List (term_at heap a) (term_at heap b) in
    ap (λ y. rank_of (out-TermTree y)) (s.0 ∙ is.2) ∙ ap rank_of (outs-List is.0 is.1)
rank-seen heap x (view.Tuple n) s = ap (λ y. rank_of (out-TermTree y)) s.0 ∙ ap rank_of (outs-Tuple (parts_in x))
rank-seen heap x (view.Map n) s = ap (λ y. rank_of (out-TermTree y)) s.0 ∙ ap rank_of (outs-Map (pairs_in x))
rank-seen heap x (view.Closure n) s = ap (λ y. rank_of (out-TermTree y)) s.0 ∙ ap rank_of (outs-Closure (origin_in x) (parts_in x))

-- terms of two kinds compare by their kinds
pub apart-kinds : (heap : List TermTree) (x y : TermTree) (v w : View) → IsSeen heap x v → IsSeen heap y w → (rank_seen v ≡ rank_seen w → ⊥) → IsByKind x y
apart-kinds heap x y v w s u h =
    by_rank x y (λ e. h (sym (rank-seen heap x v s) ∙ numbers (rank_of (out-TermTree x)) (rank_of (out-TermTree y)) e ∙ rank-seen heap y w u))

seen-list : (heap : List TermTree) (x : TermTree) (h t : ℕ) → IsSeen heap x (view.Cons h t) → is_list (out-TermTree x) ≡ true
seen-list heap x h t s =
    let is = cons-is-List (term_at heap h) (term_at heap t) in
    ap (λ y. is_list (out-TermTree y)) (s.0 ∙ is.2) ∙ ap is_list (outs-List is.0 is.1)

-- nil and anything, and a list and what is none
pub left-kinds : (heap : List TermTree) (x y : TermTree) (v w : View) → IsSeen heap x v → IsSeen heap y w → (is_list (out-TermTree x) && is_list (out-TermTree y)) ≡ false
    → ((n : ℤ) → v ≡ view.Int n → ⊥) → (v ≡ view.Atom → ⊥) → ((n : ℕ) → v ≡ view.Bin n → ⊥) → ((n : ℕ) → v ≡ view.Tuple n → ⊥)
    → ((n : ℕ) → v ≡ view.Map n → ⊥) → ((n : ℕ) → v ≡ view.Closure n → ⊥) → IsByKind x y
left-kinds heap x y (view.Int n) w s u e a b c d f g = absurd (a n refl)
left-kinds heap x y view.Atom w s u e a b c d f g = absurd (b refl)
left-kinds heap x y (view.Bin n) w s u e a b c d f g = absurd (c n refl)
left-kinds heap x y (view.Tuple n) w s u e a b c d f g = absurd (d n refl)
left-kinds heap x y (view.Map n) w s u e a b c d f g = absurd (f n refl)
left-kinds heap x y (view.Closure n) w s u e a b c d f g = absurd (g n refl)
left-kinds heap x y view.Nil w s u e a b c d f g = other-Nil x y s
left-kinds heap x y (view.Cons h t) w s u e a b c d f g = apart-kinds heap x y (view.Cons h t) w s u (lists w u)
  where
    lists : (w : View) → IsSeen heap y w → 6 ≡ rank_seen w → ⊥
    lists (view.Cons i k) q r = true≢false (sym (λ j. seen-list heap x h t s j && seen-list heap y i k q j) ∙ e)
    lists (view.Int n) q r = omega (arith, r)
    lists view.Atom q r = omega (arith, r)
    lists (view.Bin n) q r = omega (arith, r)
    lists view.Nil q r = omega (arith, r)
    lists (view.Tuple n) q r = omega (arith, r)
    lists (view.Map n) q r = omega (arith, r)
    lists (view.Closure n) q r = omega (arith, r)

-- the kind of no integer, and so on
pub no-Int : (w : View) → ((n : ℤ) → w ≡ view.Int n → ⊥) → 0 ≡ rank_seen w → ⊥
no-Int (view.Int n) h e = h n refl
no-Int w h e = omega (arith, e)

pub no-Atom : (w : View) → (w ≡ view.Atom → ⊥) → 1 ≡ rank_seen w → ⊥
no-Atom view.Atom h e = h refl
no-Atom w h e = omega (arith, e)

pub no-Closure : (w : View) → ((n : ℕ) → w ≡ view.Closure n → ⊥) → 2 ≡ rank_seen w → ⊥
no-Closure (view.Closure n) h e = h n refl
no-Closure w h e = omega (arith, e)

pub no-Tuple : (w : View) → ((n : ℕ) → w ≡ view.Tuple n → ⊥) → 3 ≡ rank_seen w → ⊥
no-Tuple (view.Tuple n) h e = h n refl
no-Tuple w h e = omega (arith, e)

pub no-Map : (w : View) → ((n : ℕ) → w ≡ view.Map n → ⊥) → 4 ≡ rank_seen w → ⊥
no-Map (view.Map n) h e = h n refl
no-Map w h e = omega (arith, e)

pub no-Bin : (w : View) → ((n : ℕ) → w ≡ view.Bin n → ⊥) → 7 ≡ rank_seen w → ⊥
no-Bin (view.Bin n) h e = h n refl
no-Bin w h e = omega (arith, e)

-- ---- along two lists

module _ (h g t s x y : TermTree) (first : x ≡ cons_tree h t) (second : y ≡ cons_tree g s) (fit : IsTerm t) (fits : IsTerm s) (o : Ordering) (e : o ≡ term_cmp h g) where
  split : term_cmp x y ≡ ordering_then o (term_cmp t s)
  split = (λ j. term_cmp (first j) (second j)) ∙ cmp-cons h g t s fit fits ∙ ap (λ p. ordering_then p (term_cmp t s)) (sym e)

  -- where the heads are equal, what is left decides
  pub along : o ≡ Equal → term_cmp t s ≡ term_cmp x y
  along k = ap (λ p. ordering_then p (term_cmp t s)) (sym k) ∙ sym split

  pub heads-differ : (o ≡ Equal → ⊥) → o ≡ term_cmp x y
  heads-differ k = sym (decided o (term_cmp t s) k) ∙ sym split

-- one of two that is no list
pub end-first : (x y : TermTree) → is_list (out-TermTree x) ≡ false → (is_list (out-TermTree x) && is_list (out-TermTree y)) ≡ false
end-first x y e = ap (λ (b : Bool). b && is_list (out-TermTree y)) e

pub end-second : (x y : TermTree) → is_list (out-TermTree y) ≡ false → (is_list (out-TermTree x) && is_list (out-TermTree y)) ≡ false
end-second x y e = ap (λ (b : Bool). is_list (out-TermTree x) && b) e ∙ and_false (is_list (out-TermTree x))
  where
    and_false : (b : Bool) → (b && false) ≡ false
    and_false true = refl
    and_false false = refl

-- ---- the keys or the values of a map

pub half-at : (x : TermTree) (n i h : ℕ) → HasPairs x n → i < n → h < 2 → get_or (parts_in x) (2 * i + h) tree.Nil ≡ get_or (map (side h) (pairs_in x)) i tree.Nil
half-at x n i h has l m =
    ap (λ ts. get_or ts (2 * i + h) tree.Nil) (ap parts_in has.0 ∙ parts-Map (pairs_in x)) ∙ in_turn-at (pairs_in x) i h (omega (arith, l, has.1)) m

pub length-half : (x : TermTree) (n h : ℕ) → HasPairs x n → length (map (side h) (pairs_in x)) ≡ n
length-half x n h has = length-map (pairs_in x) (side h) ∙ has.1
