-- What the order says of each variant.
use Rattle.std.proofs.Common.{subst, ◌≡◌, ◌<◌, ℕ, List, [], ◌∷◌, length, map, refl, ap, sym, ◌∙◌, ℤ, arith}
use Rattle.std.specs.declared.cmp.Ordering.{Ordering}
use Rattle.std.specs.declared.cmp.Ordering.TheVariants.{Less, Equal, Greater}
use Rattle.std.specs.Ordering.{nat_cmp, int_cmp, ordering_then, MatchOrdering}
use Rattle.std.specs.Cmp.{ranks}
use Rattle.std.specs.Cmp.Lexicographic.{slice_cmp}
use Rattle.kh_term.specs.declared.name.Origin.{Origin}
use Rattle.kh_term.specs.declared.tree.TermTree.{TermTree, out-TermTree}
use Rattle.kh_term.specs.declared.tree.TermTree.TheVariants as tree
use Rattle.kh_term.specs.declared.tree.TermTree.TheVariants.{outs-Int, outs-Atom, outs-Bin, outs-Nil, outs-List, outs-Tuple, outs-Map, outs-Closure, rolls-Int, rolls-Atom, rolls-Bin, rolls-Nil, rolls-List, rolls-Tuple, rolls-Map, rolls-Closure}
use Rattle.kh_term.specs.declared.tree.TermTree.TheViews.{roll-TermTree, roll-out-TermTree}
use Rattle.kh_term.specs.declared.tree.TermTree.TheOpen.{TermTree-F}
use Rattle.kh_term.specs.declared.tree.TermTree.TheOpen as layer
use Rattle.kh_term.specs.declared.tree.TermTree.TheFolds.{para-roll-TermTree}
use Rattle.std.proofs.lemmas.List.{length-map}
use Rattle.kh_term.specs.Lemmas.Layers.{joined}
use Rattle.kh_term.specs.Name.{origin_cmp}
use Rattle.kh_term.specs.Order.{term_cmp, rank_of, compared, Compared, compare_layers, compare_alike, compare_parts, compare_lists, compare_pairs, compare_shared}

-- ---- the layer of the first term

pub order-Int : (n : ℤ) (t : TermTree) → term_cmp (tree.Int n) t ≡ compare_layers (layer.Int n) t
order-Int n t = ap (λ x. term_cmp x t) (sym (rolls-Int n)) ∙ ap (λ f. f t) (para-roll-TermTree (TermTree → Ordering) compare_layers (layer.Int n))

pub order-Atom : (text : List ℕ) (t : TermTree) → term_cmp (tree.Atom text) t ≡ compare_layers (layer.Atom text) t
order-Atom text t = ap (λ x. term_cmp x t) (sym (rolls-Atom text)) ∙ ap (λ f. f t) (para-roll-TermTree (TermTree → Ordering) compare_layers (layer.Atom text))

pub order-Bin : (bytes : List ℕ) (t : TermTree) → term_cmp (tree.Bin bytes) t ≡ compare_layers (layer.Bin bytes) t
order-Bin bytes t = ap (λ x. term_cmp x t) (sym (rolls-Bin bytes)) ∙ ap (λ f. f t) (para-roll-TermTree (TermTree → Ordering) compare_layers (layer.Bin bytes))

pub order-Nil : (t : TermTree) → term_cmp tree.Nil t ≡ compare_layers layer.Nil t
order-Nil t = ap (λ x. term_cmp x t) (sym rolls-Nil) ∙ ap (λ f. f t) (para-roll-TermTree (TermTree → Ordering) compare_layers layer.Nil)

pub order-List : (xs : List TermTree) (tail t : TermTree) → term_cmp (tree.List xs tail) t ≡ compare_layers (layer.List (map compared xs) (compared tail)) t
order-List xs tail t = ap (λ x. term_cmp x t) (sym (rolls-List xs tail)) ∙ ap (λ f. f t) (para-roll-TermTree (TermTree → Ordering) compare_layers (layer.List xs tail))

pub order-Tuple : (xs : List TermTree) (t : TermTree) → term_cmp (tree.Tuple xs) t ≡ compare_layers (layer.Tuple (map compared xs)) t
order-Tuple xs t = ap (λ x. term_cmp x t) (sym (rolls-Tuple xs)) ∙ ap (λ f. f t) (para-roll-TermTree (TermTree → Ordering) compare_layers (layer.Tuple xs))

pub order-Map : (ps : List (TermTree × TermTree)) (t : TermTree) → term_cmp (tree.Map ps) t ≡ compare_layers (layer.Map (map (λ p. (compared p.0, compared p.1)) ps)) t
order-Map ps t = ap (λ x. term_cmp x t) (sym (rolls-Map ps)) ∙ ap (λ f. f t) (para-roll-TermTree (TermTree → Ordering) compare_layers (layer.Map ps))

pub order-Closure : (origin : Origin) (env : List TermTree) (t : TermTree) → term_cmp (tree.Closure origin env) t ≡ compare_layers (layer.Closure origin (map compared env)) t
order-Closure origin env t = ap (λ x. term_cmp x t) (sym (rolls-Closure origin env)) ∙ ap (λ f. f t) (para-roll-TermTree (TermTree → Ordering) compare_layers (layer.Closure origin env))

-- ---- two of one kind

-- what the layer of the second term is
pub seen : (x : TermTree-F Compared) (t : TermTree) (l : TermTree-F TermTree) → out-TermTree t ≡ l → compare_layers x t ≡ ordering_then (nat_cmp (rank_of x) (rank_of l)) (compare_alike x l)
seen x t l e = ap (λ m. ordering_then (nat_cmp (rank_of x) (rank_of m)) (compare_alike x m)) e

pub alike-Int : (m n : ℤ) → term_cmp (tree.Int m) (tree.Int n) ≡ int_cmp m n
alike-Int m n = order-Int m (tree.Int n) ∙ seen (layer.Int m) (tree.Int n) _ (outs-Int n)

pub alike-Atom : (x y : List ℕ) → term_cmp (tree.Atom x) (tree.Atom y) ≡ slice_cmp nat_cmp x y
alike-Atom x y = order-Atom x (tree.Atom y) ∙ seen (layer.Atom x) (tree.Atom y) _ (outs-Atom y)

pub alike-Bin : (x y : List ℕ) → term_cmp (tree.Bin x) (tree.Bin y) ≡ slice_cmp nat_cmp x y
alike-Bin x y = order-Bin x (tree.Bin y) ∙ seen (layer.Bin x) (tree.Bin y) _ (outs-Bin y)

pub alike-Nil : term_cmp tree.Nil tree.Nil ≡ Equal
alike-Nil = order-Nil tree.Nil ∙ seen layer.Nil tree.Nil _ outs-Nil

pub alike-List : (xs ys : List TermTree) (s t : TermTree) → term_cmp (tree.List xs s) (tree.List ys t) ≡ compare_lists (map compared xs) (compared s) ys t
alike-List xs ys s t = order-List xs s (tree.List ys t) ∙ seen (layer.List (map compared xs) (compared s)) (tree.List ys t) _ (outs-List ys t)

pub alike-Tuple : (xs ys : List TermTree) → term_cmp (tree.Tuple xs) (tree.Tuple ys) ≡ ordering_then (nat_cmp (length xs) (length ys)) (compare_parts (map compared xs) ys)
alike-Tuple xs ys =
    order-Tuple xs (tree.Tuple ys) ∙ (seen (layer.Tuple (map compared xs)) (tree.Tuple ys) _ (outs-Tuple ys)
    ∙ ap (λ n. ordering_then (nat_cmp n (length ys)) (compare_parts (map compared xs) ys)) (length-map xs compared))

pub alike-Map : (ps qs : List (TermTree × TermTree)) → term_cmp (tree.Map ps) (tree.Map qs) ≡ ordering_then (nat_cmp (length ps) (length qs)) (compare_pairs ps qs)
alike-Map ps qs =
    let both : (TermTree × TermTree) → Compared × Compared = λ p. (compared p.0, compared p.1) in
    order-Map ps (tree.Map qs) ∙ (seen (layer.Map (map both ps)) (tree.Map qs) _ (outs-Map qs)
    ∙ (λ i. ordering_then (nat_cmp (length-map ps both i) (length qs))
    (ordering_then (compare_parts (joined both (λ p. p.0) ps i) (map (λ q. q.0) qs)) (compare_parts (joined both (λ p. p.1) ps i) (map (λ q. q.1) qs)))))

pub alike-Closure : (a b : Origin) (xs ys : List TermTree) → term_cmp (tree.Closure a xs) (tree.Closure b ys) ≡ ordering_then (origin_cmp a b) (compare_parts (map compared xs) ys)
alike-Closure a b xs ys = order-Closure a xs (tree.Closure b ys) ∙ seen (layer.Closure a (map compared xs)) (tree.Closure b ys) _ (outs-Closure b ys)

-- ---- two of two kinds

-- only the kinds of two terms count
abbrev pub IsByKind : TermTree → TermTree → Type 0
IsByKind a b = term_cmp a b ≡ nat_cmp (rank_of (out-TermTree a)) (rank_of (out-TermTree b))

back : (t : TermTree) (l : TermTree-F TermTree) → out-TermTree t ≡ l → t ≡ roll-TermTree l
back t l e = sym (roll-out-TermTree t) ∙ ap roll-TermTree e

by_kind : (x : TermTree-F Compared) (l : TermTree-F TermTree) → Type 0
by_kind x l = ordering_then (nat_cmp (rank_of x) (rank_of l)) (compare_alike x l) ≡ nat_cmp (rank_of x) (rank_of l)

kind-Int : (m : ℤ) (l : TermTree-F TermTree) → ((n : ℤ) → l ≡ layer.Int n → ⊥) → by_kind (layer.Int m) l
unfolding by_kind
kind-Int m (layer.Int n) apart = absurd (apart n refl)
kind-Int m l apart = refl

pub other-Int : (a b : TermTree) (m : ℤ) → a ≡ tree.Int m → ((n : ℤ) → b ≡ tree.Int n → ⊥) → IsByKind a b
unfolding by_kind
other-Int a b m e apart =
    ap (λ y. term_cmp y b) e ∙ (order-Int m b ∙ (kind-Int m (out-TermTree b) (λ n k. apart n (back b _ k ∙ rolls-Int n))
    ∙ ap (λ n. nat_cmp n (rank_of (out-TermTree b))) (sym (ap (λ y. rank_of (out-TermTree y)) e ∙ ap rank_of (outs-Int m)))))

kind-Atom : (text : List ℕ) (l : TermTree-F TermTree) → ((y : List ℕ) → l ≡ layer.Atom y → ⊥) → by_kind (layer.Atom text) l
unfolding by_kind
kind-Atom text (layer.Atom y) apart = absurd (apart y refl)
kind-Atom text l apart = refl

pub other-Atom : (a b : TermTree) (text : List ℕ) → a ≡ tree.Atom text → ((y : List ℕ) → b ≡ tree.Atom y → ⊥) → IsByKind a b
unfolding by_kind
other-Atom a b text e apart =
    ap (λ y. term_cmp y b) e ∙ (order-Atom text b ∙ (kind-Atom text (out-TermTree b) (λ y k. apart y (back b _ k ∙ rolls-Atom y))
    ∙ ap (λ n. nat_cmp n (rank_of (out-TermTree b))) (sym (ap (λ y. rank_of (out-TermTree y)) e ∙ ap rank_of (outs-Atom text)))))

kind-Bin : (bytes : List ℕ) (l : TermTree-F TermTree) → ((y : List ℕ) → l ≡ layer.Bin y → ⊥) → by_kind (layer.Bin bytes) l
unfolding by_kind
kind-Bin bytes (layer.Bin y) apart = absurd (apart y refl)
kind-Bin bytes l apart = refl

pub other-Bin : (a b : TermTree) (bytes : List ℕ) → a ≡ tree.Bin bytes → ((y : List ℕ) → b ≡ tree.Bin y → ⊥) → IsByKind a b
unfolding by_kind
other-Bin a b bytes e apart =
    ap (λ y. term_cmp y b) e ∙ (order-Bin bytes b ∙ (kind-Bin bytes (out-TermTree b) (λ y k. apart y (back b _ k ∙ rolls-Bin y))
    ∙ ap (λ n. nat_cmp n (rank_of (out-TermTree b))) (sym (ap (λ y. rank_of (out-TermTree y)) e ∙ ap rank_of (outs-Bin bytes)))))

kind-List : (xs : List Compared) (s : Compared) (l : TermTree-F TermTree) → ((ys : List TermTree) (t : TermTree) → l ≡ layer.List ys t → ⊥) → by_kind (layer.List xs s) l
unfolding by_kind
kind-List xs s (layer.List ys t) apart = absurd (apart ys t refl)
kind-List xs s l apart = refl

pub other-List : (a b : TermTree) (xs : List TermTree) (s : TermTree) → a ≡ tree.List xs s → ((ys : List TermTree) (t : TermTree) → b ≡ tree.List ys t → ⊥) → IsByKind a b
unfolding by_kind
other-List a b xs s e apart =
    ap (λ y. term_cmp y b) e ∙ (order-List xs s b ∙ (kind-List (map compared xs) (compared s) (out-TermTree b) (λ ys t k. apart ys t (back b _ k ∙ rolls-List ys t))
    ∙ ap (λ n. nat_cmp n (rank_of (out-TermTree b))) (sym (ap (λ y. rank_of (out-TermTree y)) e ∙ ap rank_of (outs-List xs s)))))

kind-Tuple : (xs : List Compared) (l : TermTree-F TermTree) → ((ys : List TermTree) → l ≡ layer.Tuple ys → ⊥) → by_kind (layer.Tuple xs) l
unfolding by_kind
kind-Tuple xs (layer.Tuple ys) apart = absurd (apart ys refl)
kind-Tuple xs l apart = refl

pub other-Tuple : (a b : TermTree) (xs : List TermTree) → a ≡ tree.Tuple xs → ((ys : List TermTree) → b ≡ tree.Tuple ys → ⊥) → IsByKind a b
unfolding by_kind
other-Tuple a b xs e apart =
    ap (λ y. term_cmp y b) e ∙ (order-Tuple xs b ∙ (kind-Tuple (map compared xs) (out-TermTree b) (λ ys k. apart ys (back b _ k ∙ rolls-Tuple ys))
    ∙ ap (λ n. nat_cmp n (rank_of (out-TermTree b))) (sym (ap (λ y. rank_of (out-TermTree y)) e ∙ ap rank_of (outs-Tuple xs)))))

kind-Map : (ps : List (Compared × Compared)) (l : TermTree-F TermTree) → ((qs : List (TermTree × TermTree)) → l ≡ layer.Map qs → ⊥) → by_kind (layer.Map ps) l
unfolding by_kind
kind-Map ps (layer.Map qs) apart = absurd (apart qs refl)
kind-Map ps l apart = refl

pub other-Map : (a b : TermTree) (ps : List (TermTree × TermTree)) → a ≡ tree.Map ps → ((qs : List (TermTree × TermTree)) → b ≡ tree.Map qs → ⊥) → IsByKind a b
unfolding by_kind
other-Map a b ps e apart =
    ap (λ y. term_cmp y b) e ∙ (order-Map ps b ∙ (kind-Map (map (λ p. (compared p.0, compared p.1)) ps) (out-TermTree b) (λ qs k. apart qs (back b _ k ∙ rolls-Map qs))
    ∙ ap (λ n. nat_cmp n (rank_of (out-TermTree b))) (sym (ap (λ y. rank_of (out-TermTree y)) e ∙ ap rank_of (outs-Map ps)))))

kind-Closure : (origin : Origin) (env : List Compared) (l : TermTree-F TermTree) → ((o : Origin) (ys : List TermTree) → l ≡ layer.Closure o ys → ⊥) → by_kind (layer.Closure origin env) l
unfolding by_kind
kind-Closure origin env (layer.Closure o ys) apart = absurd (apart o ys refl)
kind-Closure origin env l apart = refl

pub other-Closure : (a b : TermTree) (origin : Origin) (env : List TermTree) → a ≡ tree.Closure origin env → ((o : Origin) (ys : List TermTree) → b ≡ tree.Closure o ys → ⊥) → IsByKind a b
unfolding by_kind
other-Closure a b origin env e apart =
    ap (λ y. term_cmp y b) e ∙ (order-Closure origin env b ∙ (kind-Closure origin (map compared env) (out-TermTree b) (λ o ys k. apart o ys (back b _ k ∙ rolls-Closure o ys))
    ∙ ap (λ n. nat_cmp n (rank_of (out-TermTree b))) (sym (ap (λ y. rank_of (out-TermTree y)) e ∙ ap rank_of (outs-Closure origin env)))))

kind-Nil : (l : TermTree-F TermTree) → by_kind layer.Nil l
unfolding by_kind
kind-Nil (layer.Int n) = refl
kind-Nil l = refl

pub other-Nil : (a b : TermTree) → a ≡ tree.Nil → IsByKind a b
unfolding by_kind
other-Nil a b e =
    ap (λ y. term_cmp y b) e ∙ (order-Nil b ∙ (kind-Nil (out-TermTree b)
    ∙ ap (λ n. nat_cmp n (rank_of (out-TermTree b))) (sym (ap (λ y. rank_of (out-TermTree y)) e ∙ ap rank_of outs-Nil))))

-- ---- step by step

-- an answer that tells two apart stands
pub decided : (o r : Ordering) → (o ≡ Equal → ⊥) → ordering_then o r ≡ o
decided Less r apart = refl
decided Equal r apart = absurd (apart refl)
decided Greater r apart = refl

-- ---- as far as both go, and then by their ends

then_assoc : (o p r : Ordering) → ordering_then (ordering_then o p) r ≡ ordering_then o (ordering_then p r)
then_assoc Less p r = refl
then_assoc Equal p r = refl
then_assoc Greater p r = refl

then_equal : (o : Ordering) → ordering_then o Equal ≡ o
then_equal Less = refl
then_equal Equal = refl
then_equal Greater = refl

pub parts_equal : (cs : List Compared) (ys : List TermTree) → length cs ≡ length ys → compare_parts cs ys ≡ ordering_then (compare_shared cs ys) Equal
parts_equal [] [] h = refl
parts_equal [] (y ∷ ys) h = absurd (omega arith)
parts_equal (x ∷ xs) [] h = absurd (omega arith)
parts_equal (x ∷ xs) (y ∷ ys) h =
    let shorter : length xs ≡ length ys = omega arith in
    ap (ordering_then (x.1 y)) (parts_equal xs ys shorter) ∙ sym (then_assoc (x.1 y) (compare_shared xs ys) Equal)

pub parts_less : (cs : List Compared) (ys : List TermTree) → length cs < length ys → compare_parts cs ys ≡ ordering_then (compare_shared cs ys) Less
parts_less [] [] h = absurd (omega arith)
parts_less [] (y ∷ ys) h = refl
parts_less (x ∷ xs) [] h = absurd (omega arith)
parts_less (x ∷ xs) (y ∷ ys) h =
    let shorter : length xs < length ys = omega arith in
    ap (ordering_then (x.1 y)) (parts_less xs ys shorter) ∙ sym (then_assoc (x.1 y) (compare_shared xs ys) Less)

pub parts_greater : (cs : List Compared) (ys : List TermTree) → length ys < length cs → compare_parts cs ys ≡ ordering_then (compare_shared cs ys) Greater
parts_greater [] [] h = absurd (omega arith)
parts_greater [] (y ∷ ys) h = absurd (omega arith)
parts_greater (x ∷ xs) [] h = refl
parts_greater (x ∷ xs) (y ∷ ys) h =
    let shorter : length ys < length xs = omega arith in
    ap (ordering_then (x.1 y)) (parts_greater xs ys shorter) ∙ sym (then_assoc (x.1 y) (compare_shared xs ys) Greater)

pub lists_equal : (s : Compared) (t : TermTree) (cs : List Compared) (ys : List TermTree) → length cs ≡ length ys → compare_lists cs s ys t ≡ ordering_then (compare_shared cs ys) (s.1 t)
lists_equal s t [] [] h = refl
lists_equal s t [] (y ∷ ys) h = absurd (omega arith)
lists_equal s t (x ∷ xs) [] h = absurd (omega arith)
lists_equal s t (x ∷ xs) (y ∷ ys) h =
    let shorter : length xs ≡ length ys = omega arith in
    ap (ordering_then (x.1 y)) (lists_equal s t xs ys shorter) ∙ sym (then_assoc (x.1 y) (compare_shared xs ys) (s.1 t))

pub lists_less : (s : Compared) (t : TermTree) (cs : List Compared) (ys : List TermTree) → length cs < length ys → compare_lists cs s ys t ≡ ordering_then (compare_shared cs ys) (nat_cmp (rank_of (out-TermTree s.0)) 6)
lists_less s t [] [] h = absurd (omega arith)
lists_less s t [] (y ∷ ys) h = refl
lists_less s t (x ∷ xs) [] h = absurd (omega arith)
lists_less s t (x ∷ xs) (y ∷ ys) h =
    let shorter : length xs < length ys = omega arith in
    ap (ordering_then (x.1 y)) (lists_less s t xs ys shorter) ∙ sym (then_assoc (x.1 y) (compare_shared xs ys) (nat_cmp (rank_of (out-TermTree s.0)) 6))

pub lists_greater : (s : Compared) (t : TermTree) (cs : List Compared) (ys : List TermTree) → length ys < length cs → compare_lists cs s ys t ≡ ordering_then (compare_shared cs ys) (nat_cmp 6 (rank_of (out-TermTree t)))
lists_greater s t [] [] h = absurd (omega arith)
lists_greater s t [] (y ∷ ys) h = absurd (omega arith)
lists_greater s t (x ∷ xs) [] h = refl
lists_greater s t (x ∷ xs) (y ∷ ys) h =
    let shorter : length ys < length xs = omega arith in
    ap (ordering_then (x.1 y)) (lists_greater s t xs ys shorter) ∙ sym (then_assoc (x.1 y) (compare_shared xs ys) (nat_cmp 6 (rank_of (out-TermTree t))))

pub parts_shared : (cs : List Compared) (ys : List TermTree) → compare_parts cs ys ≡ ordering_then (compare_shared cs ys) (nat_cmp (length cs) (length ys))
parts_shared cs ys = go (nat_cmp (length cs) (length ys)) (ranks (length cs) (length ys))
  where
    go : (o : Ordering) → MatchOrdering o (length cs < length ys) (length cs ≡ length ys) (length ys < length cs) → compare_parts cs ys ≡ ordering_then (compare_shared cs ys) o
    go Less h = parts_less cs ys h
    go Equal h = parts_equal cs ys h
    go Greater h = parts_greater cs ys h

pub parts_by_shared : (xs ys : List TermTree) → compare_parts (map compared xs) ys ≡ ordering_then (compare_shared (map compared xs) ys) (nat_cmp (length xs) (length ys))
parts_by_shared xs ys = parts_shared (map compared xs) ys ∙ ap (λ n. ordering_then (compare_shared (map compared xs) ys) (nat_cmp n (length ys))) (length-map xs compared)

pub pairs_by_shared : (ps qs : List (TermTree × TermTree)) → length ps ≡ length qs → compare_pairs ps qs ≡ ordering_then (compare_shared (map (λ p. compared p.0) ps) (map (λ q. q.0) qs)) (compare_shared (map (λ p. compared p.1) ps) (map (λ q. q.1) qs))
pairs_by_shared ps qs h =
    let first : (TermTree × TermTree) → Compared = λ p. compared p.0 in
    let second : (TermTree × TermTree) → Compared = λ p. compared p.1 in
    let key : (TermTree × TermTree) → TermTree = λ q. q.0 in
    let value : (TermTree × TermTree) → TermTree = λ q. q.1 in
    let keys = parts_equal (map first ps) (map key qs) (length-map ps first ∙ (h ∙ sym (length-map qs key))) ∙ then_equal _ in
    let values = parts_equal (map second ps) (map value qs) (length-map ps second ∙ (h ∙ sym (length-map qs value))) ∙ then_equal _ in
    λ i. ordering_then (keys i) (values i)

pub two_closures : (a b : TermTree) (x y : Origin) (xs ys : List TermTree) (o : Ordering) → a ≡ tree.Closure x xs → b ≡ tree.Closure y ys → Equal ≡ origin_cmp x y → o ≡ compare_parts (map compared xs) ys → term_cmp a b ≡ o
two_closures a b x y xs ys o e f k r = (λ i. term_cmp (e i) (f i)) ∙ (alike-Closure x y xs ys ∙ ((λ i. ordering_then (sym k i) (compare_parts (map compared xs) ys)) ∙ sym r))

-- ---- two lists

-- what an answer says of two numbers
pub told : (m n : ℕ) (o : Ordering) → o ≡ nat_cmp m n → MatchOrdering o (m < n) (m ≡ n) (n < m)
told m n o e = subst (λ p. MatchOrdering p (m < n) (m ≡ n) (n < m)) (sym e) (ranks m n)

pub list_less : (a b : TermTree) (xs ys : List TermTree) (s t : TermTree) → a ≡ tree.List xs s → b ≡ tree.List ys t → Equal ≡ compare_shared (map compared xs) ys → Less ≡ nat_cmp (length xs) (length ys) → term_cmp a b ≡ nat_cmp (rank_of (out-TermTree s)) 6
list_less a b xs ys s t e f k h =
    (λ i. term_cmp (e i) (f i)) ∙ (alike-List xs ys s t ∙ (lists_less (compared s) t (map compared xs) ys (subst (λ n. n < length ys) (sym (length-map xs compared)) (told (length xs) (length ys) Less h))
    ∙ ap (λ o. ordering_then o (nat_cmp (rank_of (out-TermTree s)) 6)) (sym k)))

pub list_greater : (a b : TermTree) (xs ys : List TermTree) (s t : TermTree) → a ≡ tree.List xs s → b ≡ tree.List ys t → Equal ≡ compare_shared (map compared xs) ys → Greater ≡ nat_cmp (length xs) (length ys) → term_cmp a b ≡ nat_cmp 6 (rank_of (out-TermTree t))
list_greater a b xs ys s t e f k h =
    (λ i. term_cmp (e i) (f i)) ∙ (alike-List xs ys s t ∙ (lists_greater (compared s) t (map compared xs) ys (subst (λ n. length ys < n) (sym (length-map xs compared)) (told (length xs) (length ys) Greater h))
    ∙ ap (λ o. ordering_then o (nat_cmp 6 (rank_of (out-TermTree t)))) (sym k)))

pub list_equal : (a b : TermTree) (xs ys : List TermTree) (s t : TermTree) → a ≡ tree.List xs s → b ≡ tree.List ys t → Equal ≡ compare_shared (map compared xs) ys → Equal ≡ nat_cmp (length xs) (length ys) → term_cmp a b ≡ term_cmp s t
list_equal a b xs ys s t e f k h =
    (λ i. term_cmp (e i) (f i)) ∙ (alike-List xs ys s t ∙ (lists_equal (compared s) t (map compared xs) ys (length-map xs compared ∙ told (length xs) (length ys) Equal h)
    ∙ ap (λ o. ordering_then o (term_cmp s t)) (sym k)))

-- whatever the lengths are
lists_shared : (s : Compared) (t : TermTree) (cs : List Compared) (ys : List TermTree) → (r : Ordering) × (compare_lists cs s ys t ≡ ordering_then (compare_shared cs ys) r)
lists_shared s t cs ys = go (nat_cmp (length cs) (length ys)) (ranks (length cs) (length ys))
  where
    go : (o : Ordering) → MatchOrdering o (length cs < length ys) (length cs ≡ length ys) (length ys < length cs) → (r : Ordering) × (compare_lists cs s ys t ≡ ordering_then (compare_shared cs ys) r)
    go Less h = (nat_cmp (rank_of (out-TermTree s.0)) 6, lists_less s t cs ys h)
    go Equal h = (s.1 t, lists_equal s t cs ys h)
    go Greater h = (nat_cmp 6 (rank_of (out-TermTree t)), lists_greater s t cs ys h)

pub list_decided : (a b : TermTree) (xs ys : List TermTree) (s t : TermTree) (o : Ordering) → a ≡ tree.List xs s → b ≡ tree.List ys t → o ≡ compare_shared (map compared xs) ys → (o ≡ Equal → ⊥) → term_cmp a b ≡ o
list_decided a b xs ys s t o e f k apart =
    let ends = lists_shared (compared s) t (map compared xs) ys in
    (λ i. term_cmp (e i) (f i)) ∙ (alike-List xs ys s t ∙ (ends.1 ∙ (ap (λ p. ordering_then p ends.0) (sym k) ∙ decided o ends.0 apart)))

pub ruleset kinds = (alike-Int, alike-Atom, alike-Bin, alike-Nil, alike-List, alike-Tuple, alike-Map, alike-Closure, decided)
