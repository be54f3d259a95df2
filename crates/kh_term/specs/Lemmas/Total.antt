-- The order of terms is a total one.
use Rattle.std.proofs.Common.{◌≡◌, ◌<◌, ℕ, Bool, true, false, not, IsTrue, List, [], ◌∷◌, ◌++◌, length, map, append_assoc, refl, ap, sym, ◌∙◌, subst, ℤ, pos, negsuc}
use Rattle.std.specs.declared.cmp.Ordering.{Ordering}
use Rattle.std.specs.declared.cmp.Ordering.TheVariants.{Less, Equal, Greater}
use Rattle.std.specs.Ordering.{nat_cmp, int_cmp, ordering_then, MatchOrdering}
use Rattle.std.specs.Cmp.{IsTotalOrder, ranks, on_total, int_cmp_total}
use Rattle.std.specs.Cmp.Lexicographic.{slice_cmp, lists_total}
use Rattle.kh_term.specs.declared.name.Origin.{Origin}
use Rattle.kh_term.specs.declared.term.Term.{Term}
use Rattle.kh_term.specs.declared.tree.TermTree.{TermTree, out-TermTree}
use Rattle.kh_term.specs.declared.tree.TermTree.TheVariants as tree
use Rattle.kh_term.specs.declared.tree.TermTree.TheVariants.{outs-Int, outs-Atom, outs-Bin, outs-Nil, outs-List, outs-Tuple, outs-Map, outs-Closure, rolls-Int, rolls-Atom, rolls-Bin, rolls-Nil, rolls-List, rolls-Tuple, rolls-Map, rolls-Closure}
use Rattle.kh_term.specs.declared.tree.TermTree.TheViews.{roll-TermTree, roll-out-TermTree}
use Rattle.kh_term.specs.declared.tree.TermTree.TheOpen.{TermTree-F}
use Rattle.kh_term.specs.declared.tree.TermTree.TheOpen as layer
use Rattle.kh_term.specs.WellFormed.{IsTerm, is_list, is_list_of}
use Rattle.kh_term.specs.Order.{term_cmp, rank_of, compare_parts, compare_pairs, compared}
use Rattle.kh_term.specs.Lemmas.Fits.{parts_of_tuple, parts_of_list, tail_of_list, ends_list, parts_of_closure, pairs_of_map, keys_of_map, values_of_map}
use Rattle.kh_term.specs.Lemmas.Induction.{by_parts, Each, OfBoth}
use Rattle.std.proofs.lemmas.List.{length-map}
use Rattle.kh_term.specs.Lemmas.Layers.{joined}
use Rattle.kh_term.specs.Lemmas.Keys.{key, key-Int, key-Atom, key-Bin, key-Nil, key-List, key-Tuple, key-Map, key-Closure, all, ended, compare_keys, int_cmp-pos, texts_keys, Agrees, apart, same_long, ended_parts, chains, then_assoc}
use Rattle.kh_term.specs.Lemmas.Orders.{seen, order-Int, order-Atom, order-Bin, order-Nil, order-List, order-Tuple, order-Map, order-Closure, alike-Int, alike-Atom, alike-Bin, alike-Nil, alike-List, alike-Tuple, alike-Map, alike-Closure}

-- a tree is the one of its layer
pub layered : (b : TermTree) (l : TermTree-F TermTree) → out-TermTree b ≡ l → b ≡ roll-TermTree l
layered b l e = sym (roll-out-TermTree b) ∙ ap roll-TermTree e

-- what is said of two terms goes over to an equal second one
moved : (a b c : TermTree) (u v : List ℤ) → b ≡ c → compare_keys (key a ++ u) (key c ++ v) ≡ ordering_then (term_cmp a c) (compare_keys u v) → compare_keys (key a ++ u) (key b ++ v) ≡ ordering_then (term_cmp a b) (compare_keys u v)
moved a b c u v e h = subst (λ z. compare_keys (key a ++ u) (key z ++ v) ≡ ordering_then (term_cmp a z) (compare_keys u v)) (sym e) h

-- ---- two of one kind

both-Int : (m n : ℤ) (u v : List ℤ) → compare_keys (key (tree.Int m) ++ u) (key (tree.Int n) ++ v) ≡ ordering_then (term_cmp (tree.Int m) (tree.Int n)) (compare_keys u v)
both-Int m n u v = (λ i. compare_keys (key-Int m i ++ u) (key-Int n i ++ v)) ∙ sym (ap (λ o. ordering_then o (compare_keys u v)) (alike-Int m n))

both-Atom : (x y : List ℕ) (u v : List ℤ) → compare_keys (key (tree.Atom x) ++ u) (key (tree.Atom y) ++ v) ≡ ordering_then (term_cmp (tree.Atom x) (tree.Atom y)) (compare_keys u v)
both-Atom x y u v = (λ i. compare_keys (key-Atom x i ++ u) (key-Atom y i ++ v)) ∙ (texts_keys x y u v ∙ sym (ap (λ o. ordering_then o (compare_keys u v)) (alike-Atom x y)))

both-Bin : (x y : List ℕ) (u v : List ℤ) → compare_keys (key (tree.Bin x) ++ u) (key (tree.Bin y) ++ v) ≡ ordering_then (term_cmp (tree.Bin x) (tree.Bin y)) (compare_keys u v)
both-Bin x y u v = (λ i. compare_keys (key-Bin x i ++ u) (key-Bin y i ++ v)) ∙ (texts_keys x y u v ∙ sym (ap (λ o. ordering_then o (compare_keys u v)) (alike-Bin x y)))

both-Nil : (u v : List ℤ) → compare_keys (key tree.Nil ++ u) (key tree.Nil ++ v) ≡ ordering_then (term_cmp tree.Nil tree.Nil) (compare_keys u v)
both-Nil u v = (λ i. compare_keys (key-Nil i ++ u) (key-Nil i ++ v)) ∙ sym (ap (λ o. ordering_then o (compare_keys u v)) alike-Nil)

pub no_list : (xs : List TermTree) (t : TermTree) → IsTrue (is_list_of xs t) → is_list (out-TermTree t) ≡ false
no_list [] t h = absurd (cc)
no_list (x ∷ xs) t h = go (is_list (out-TermTree t)) h
  where
    go : (b : Bool) → not b ≡ true → b ≡ false
    go true e = absurd (cc)
    go false e = refl

both-List : (xs ys : List TermTree) (s t : TermTree) (u v : List ℤ) → Each Agrees xs → Agrees s → IsTerm (tree.List xs s) → IsTerm (tree.List ys t) → compare_keys (key (tree.List xs s) ++ u) (key (tree.List ys t) ++ v) ≡ ordering_then (term_cmp (tree.List xs s) (tree.List ys t)) (compare_keys u v)
both-List xs ys s t u v each agree h k =
    (λ i. compare_keys (key-List xs s i ++ u) (key-List ys t i ++ v))
    ∙ (chains xs ys s t u v each agree (parts_of_list xs s h) (parts_of_list ys t k) (tail_of_list xs s h) (tail_of_list ys t k) (no_list xs s (ends_list xs s h)) (no_list ys t (ends_list ys t k))
    ∙ sym (ap (λ o. ordering_then o (compare_keys u v)) (alike-List xs ys s t)))

-- where the numbers of two lists decide, and where what follows does
by_number : (m n : ℕ) (x y : List ℤ) (r w : Ordering) → (m ≡ n → compare_keys x y ≡ ordering_then r w) → ordering_then (int_cmp (pos m) (pos n)) (compare_keys x y) ≡ ordering_then (ordering_then (nat_cmp m n) r) w
by_number m n x y r w equal = ap (λ o. ordering_then o (compare_keys x y)) (int_cmp-pos m n) ∙ go (nat_cmp m n) (ranks m n)
  where
    go : (o : Ordering) → MatchOrdering o (m < n) (m ≡ n) (n < m) → ordering_then o (compare_keys x y) ≡ ordering_then (ordering_then o r) w
    go Less h = refl
    go Equal h = equal h
    go Greater h = refl

both-Tuple : (xs ys : List TermTree) (u v : List ℤ) → Each Agrees xs → IsTerm (tree.Tuple xs) → IsTerm (tree.Tuple ys) → compare_keys (key (tree.Tuple xs) ++ u) (key (tree.Tuple ys) ++ v) ≡ ordering_then (term_cmp (tree.Tuple xs) (tree.Tuple ys)) (compare_keys u v)
both-Tuple xs ys u v each h k =
    (λ i. compare_keys (key-Tuple xs i ++ u) (key-Tuple ys i ++ v))
    ∙ (by_number (length xs) (length ys) (all (map key xs) ++ u) (all (map key ys) ++ v) (compare_parts (map compared xs) ys) (compare_keys u v)
    (λ e. same_long xs ys u v each (parts_of_tuple xs h) (parts_of_tuple ys k) e)
    ∙ sym (ap (λ o. ordering_then o (compare_keys u v)) (alike-Tuple xs ys)))

regrouped : (x y z u : List ℤ) (n : ℤ) → (x ++ (y ++ (n ∷ (z ++ (negsuc 0 ∷ []))))) ++ u ≡ x ++ (y ++ (n ∷ (z ++ (negsuc 0 ∷ u))))
regrouped x y z u n = simp append_assoc

three : (n a p w : Ordering) → ordering_then n (ordering_then a (ordering_then p w)) ≡ ordering_then (ordering_then (ordering_then n a) p) w
three Less a p w = refl
three Equal a p w = sym (then_assoc a p w)
three Greater a p w = refl

four : (m n a p w : Ordering) → ordering_then m (ordering_then n (ordering_then a (ordering_then p w))) ≡ ordering_then (ordering_then (ordering_then m (ordering_then n a)) p) w
four Less n a p w = refl
four Equal n a p w = three n a p w
four Greater n a p w = refl

both-Closure : (a b : Origin) (xs ys : List TermTree) (u v : List ℤ) → Each Agrees xs → IsTerm (tree.Closure a xs) → IsTerm (tree.Closure b ys) → compare_keys (key (tree.Closure a xs) ++ u) (key (tree.Closure b ys) ++ v) ≡ ordering_then (term_cmp (tree.Closure a xs) (tree.Closure b ys)) (compare_keys u v)
both-Closure a b xs ys u v each h k =
    let z : List ℤ = all (map key xs) ++ (negsuc 0 ∷ u) in
    let w : List ℤ = all (map key ys) ++ (negsuc 0 ∷ v) in
    let modules : Ordering = slice_cmp nat_cmp a.module b.module in
    let names : Ordering = slice_cmp nat_cmp a.name b.name in
    let parts : Ordering = compare_parts (map compared xs) ys in
    (λ i. compare_keys (key-Closure a xs i ++ u) (key-Closure b ys i ++ v))
    ∙ ((λ i. compare_keys (regrouped (ended a.module) (ended a.name) (all (map key xs)) u (pos a.arity) i) (regrouped (ended b.module) (ended b.name) (all (map key ys)) v (pos b.arity) i))
    ∙ (texts_keys a.module b.module (ended a.name ++ (pos a.arity ∷ z)) (ended b.name ++ (pos b.arity ∷ w))
    ∙ (ap (ordering_then modules) (texts_keys a.name b.name (pos a.arity ∷ z) (pos b.arity ∷ w))
    ∙ ((λ i. ordering_then modules (ordering_then names (ordering_then (int_cmp-pos a.arity b.arity i) (ended_parts xs ys u v each (parts_of_closure a xs h) (parts_of_closure b ys k) i))))
    ∙ (four modules names (nat_cmp a.arity b.arity) parts (compare_keys u v)
    ∙ sym (ap (λ o. ordering_then o (compare_keys u v)) (alike-Closure a b xs ys)))))))

keys_each : (ps : List (TermTree × TermTree)) → Each (OfBoth Agrees) ps → Each Agrees (map (λ p. p.0) ps)
keys_each [] each = tt
keys_each (p ∷ ps) each = (each.0.0, keys_each ps each.1)

values_each : (ps : List (TermTree × TermTree)) → Each (OfBoth Agrees) ps → Each Agrees (map (λ p. p.1) ps)
values_each [] each = tt
values_each (p ∷ ps) each = (each.0.1, values_each ps each.1)

-- the keys and the values of pairs
abbrev pub firsts : List (TermTree × TermTree) → List TermTree
firsts ps = map (λ p. p.0) ps

abbrev pub seconds : List (TermTree × TermTree) → List TermTree
seconds ps = map (λ p. p.1) ps

key_of_map : (ps : List (TermTree × TermTree)) → key (tree.Map ps) ≡ pos 4 ∷ pos (length ps) ∷ (all (map key (firsts ps)) ++ all (map key (seconds ps)))
key_of_map ps = key-Map ps ∙ (λ i. pos 4 ∷ pos (length ps) ∷ (all (sym (joined {A = TermTree × TermTree} (λ p. p.0) key ps) i) ++ all (sym (joined {A = TermTree × TermTree} (λ p. p.1) key ps) i)))

pub pairs_as_parts : (ps qs : List (TermTree × TermTree)) → compare_pairs ps qs ≡ ordering_then (compare_parts (map compared (firsts ps)) (firsts qs)) (compare_parts (map compared (seconds ps)) (seconds qs))
pairs_as_parts ps qs = λ i. ordering_then (compare_parts (sym (joined {A = TermTree × TermTree} (λ p. p.0) compared ps) i) (firsts qs)) (compare_parts (sym (joined {A = TermTree × TermTree} (λ p. p.1) compared ps) i) (seconds qs))

both-Map : (ps qs : List (TermTree × TermTree)) (u v : List ℤ) → Each (OfBoth Agrees) ps → IsTerm (tree.Map ps) → IsTerm (tree.Map qs) → compare_keys (key (tree.Map ps) ++ u) (key (tree.Map qs) ++ v) ≡ ordering_then (term_cmp (tree.Map ps) (tree.Map qs)) (compare_keys u v)
both-Map ps qs u v each h k =
    let first : Ordering = compare_parts (map compared (firsts ps)) (firsts qs) in
    let second : Ordering = compare_parts (map compared (seconds ps)) (seconds qs) in
    let hs = pairs_of_map ps h in
    let ks = pairs_of_map qs k in
    (λ i. compare_keys (key_of_map ps i ++ u) (key_of_map qs i ++ v))
    ∙ (by_number (length ps) (length qs) ((all (map key (firsts ps)) ++ all (map key (seconds ps))) ++ u) ((all (map key (firsts qs)) ++ all (map key (seconds qs))) ++ v) (ordering_then first second) (compare_keys u v)
    (λ e. (λ i. compare_keys (append_assoc (all (map key (firsts ps))) (all (map key (seconds ps))) u i) (append_assoc (all (map key (firsts qs))) (all (map key (seconds qs))) v i))
    ∙ (same_long (firsts ps) (firsts qs) (all (map key (seconds ps)) ++ u) (all (map key (seconds qs)) ++ v) (keys_each ps each) (keys_of_map ps hs) (keys_of_map qs ks) (length-map ps (λ p. p.0) ∙ (e ∙ sym (length-map qs (λ p. p.0))))
    ∙ (ap (ordering_then first) (same_long (seconds ps) (seconds qs) u v (values_each ps each) (values_of_map ps hs) (values_of_map qs ks) (length-map ps (λ p. p.1) ∙ (e ∙ sym (length-map qs (λ p. p.1)))))
    ∙ sym (then_assoc first second (compare_keys u v)))))
    ∙ (λ i. ordering_then (ordering_then (nat_cmp (length ps) (length qs)) (sym (pairs_as_parts ps qs) i)) (compare_keys u v))
    ∙ sym (ap (λ o. ordering_then o (compare_keys u v)) (alike-Map ps qs)))

-- ---- any two

pub agrees : (a : TermTree) → Agrees a
agrees = by_parts Agrees record {
  at_int = at-Int;
  at_atom = at-Atom;
  at_bin = at-Bin;
  at_list = at-List;
  at_tuple = at-Tuple;
  at_map = at-Map;
  at_closure = at-Closure;
  at_nil = at-Nil;
}
  where
    at-Int : (n : ℤ) → Agrees (tree.Int n)
    at-Int n b u v h k = go (out-TermTree b) refl
      where
        go : (l : TermTree-F TermTree) → out-TermTree b ≡ l → compare_keys (key (tree.Int n) ++ u) (key b ++ v) ≡ ordering_then (term_cmp (tree.Int n) b) (compare_keys u v)
        go (layer.Int m) e = moved (tree.Int n) b (tree.Int m) u v (layered b _ e ∙ rolls-Int m) (both-Int n m u v)
        go l e = apart (tree.Int n) b u v 0 (rank_of l) h k (ap rank_of (outs-Int n)) (ap rank_of e) refl (order-Int n b ∙ seen (layer.Int n) b l e)

    at-Atom : (x : List ℕ) → Agrees (tree.Atom x)
    at-Atom x b u v h k = go (out-TermTree b) refl
      where
        go : (l : TermTree-F TermTree) → out-TermTree b ≡ l → compare_keys (key (tree.Atom x) ++ u) (key b ++ v) ≡ ordering_then (term_cmp (tree.Atom x) b) (compare_keys u v)
        go (layer.Atom y) e = moved (tree.Atom x) b (tree.Atom y) u v (layered b _ e ∙ rolls-Atom y) (both-Atom x y u v)
        go l e = apart (tree.Atom x) b u v 1 (rank_of l) h k (ap rank_of (outs-Atom x)) (ap rank_of e) refl (order-Atom x b ∙ seen (layer.Atom x) b l e)

    at-Bin : (x : List ℕ) → Agrees (tree.Bin x)
    at-Bin x b u v h k = go (out-TermTree b) refl
      where
        go : (l : TermTree-F TermTree) → out-TermTree b ≡ l → compare_keys (key (tree.Bin x) ++ u) (key b ++ v) ≡ ordering_then (term_cmp (tree.Bin x) b) (compare_keys u v)
        go (layer.Bin y) e = moved (tree.Bin x) b (tree.Bin y) u v (layered b _ e ∙ rolls-Bin y) (both-Bin x y u v)
        go l e = apart (tree.Bin x) b u v 7 (rank_of l) h k (ap rank_of (outs-Bin x)) (ap rank_of e) refl (order-Bin x b ∙ seen (layer.Bin x) b l e)

    at-List : (xs : List TermTree) (s : TermTree) → Each Agrees xs → Agrees s → Agrees (tree.List xs s)
    at-List xs s each agree b u v h k = go (out-TermTree b) refl
      where
        go : (l : TermTree-F TermTree) → out-TermTree b ≡ l → compare_keys (key (tree.List xs s) ++ u) (key b ++ v) ≡ ordering_then (term_cmp (tree.List xs s) b) (compare_keys u v)
        go (layer.List ys t) e = moved (tree.List xs s) b (tree.List ys t) u v (layered b _ e ∙ rolls-List ys t) (both-List xs ys s t u v each agree h (subst IsTerm (layered b _ e ∙ rolls-List ys t) k))
        go l e = apart (tree.List xs s) b u v 6 (rank_of l) h k (ap rank_of (outs-List xs s)) (ap rank_of e) refl (order-List xs s b ∙ seen (layer.List (map compared xs) (compared s)) b l e)

    at-Tuple : (xs : List TermTree) → Each Agrees xs → Agrees (tree.Tuple xs)
    at-Tuple xs each b u v h k = go (out-TermTree b) refl
      where
        go : (l : TermTree-F TermTree) → out-TermTree b ≡ l → compare_keys (key (tree.Tuple xs) ++ u) (key b ++ v) ≡ ordering_then (term_cmp (tree.Tuple xs) b) (compare_keys u v)
        go (layer.Tuple ys) e = moved (tree.Tuple xs) b (tree.Tuple ys) u v (layered b _ e ∙ rolls-Tuple ys) (both-Tuple xs ys u v each h (subst IsTerm (layered b _ e ∙ rolls-Tuple ys) k))
        go l e = apart (tree.Tuple xs) b u v 3 (rank_of l) h k (ap rank_of (outs-Tuple xs)) (ap rank_of e) refl (order-Tuple xs b ∙ seen (layer.Tuple (map compared xs)) b l e)

    at-Map : (ps : List (TermTree × TermTree)) → Each (OfBoth Agrees) ps → Agrees (tree.Map ps)
    at-Map ps each b u v h k = go (out-TermTree b) refl
      where
        go : (l : TermTree-F TermTree) → out-TermTree b ≡ l → compare_keys (key (tree.Map ps) ++ u) (key b ++ v) ≡ ordering_then (term_cmp (tree.Map ps) b) (compare_keys u v)
        go (layer.Map qs) e = moved (tree.Map ps) b (tree.Map qs) u v (layered b _ e ∙ rolls-Map qs) (both-Map ps qs u v each h (subst IsTerm (layered b _ e ∙ rolls-Map qs) k))
        go l e = apart (tree.Map ps) b u v 4 (rank_of l) h k (ap rank_of (outs-Map ps)) (ap rank_of e) refl (order-Map ps b ∙ seen (layer.Map (map (λ p. (compared p.0, compared p.1)) ps)) b l e)

    at-Closure : (o : Origin) (xs : List TermTree) → Each Agrees xs → Agrees (tree.Closure o xs)
    at-Closure o xs each b u v h k = go (out-TermTree b) refl
      where
        go : (l : TermTree-F TermTree) → out-TermTree b ≡ l → compare_keys (key (tree.Closure o xs) ++ u) (key b ++ v) ≡ ordering_then (term_cmp (tree.Closure o xs) b) (compare_keys u v)
        go (layer.Closure p ys) e = moved (tree.Closure o xs) b (tree.Closure p ys) u v (layered b _ e ∙ rolls-Closure p ys) (both-Closure o p xs ys u v each h (subst IsTerm (layered b _ e ∙ rolls-Closure p ys) k))
        go l e = apart (tree.Closure o xs) b u v 2 (rank_of l) h k (ap rank_of (outs-Closure o xs)) (ap rank_of e) refl (order-Closure o xs b ∙ seen (layer.Closure o (map compared xs)) b l e)

    at-Nil : Agrees tree.Nil
    at-Nil b u v h k = go (out-TermTree b) refl
      where
        go : (l : TermTree-F TermTree) → out-TermTree b ≡ l → compare_keys (key tree.Nil ++ u) (key b ++ v) ≡ ordering_then (term_cmp tree.Nil b) (compare_keys u v)
        go layer.Nil e = moved tree.Nil b tree.Nil u v (layered b _ e ∙ rolls-Nil) (both-Nil u v)
        go l e = apart tree.Nil b u v 5 (rank_of l) h k (ap rank_of outs-Nil) (ap rank_of e) refl (order-Nil b ∙ seen layer.Nil b l e)

-- ---- the order

then_equal : (o : Ordering) → ordering_then o Equal ≡ o
then_equal Less = refl
then_equal Equal = refl
then_equal Greater = refl

-- terms compare as their integers do
pub as_keys : (x y : Term) → compare_keys (key x.node ++ []) (key y.node ++ []) ≡ term_cmp x.node y.node
as_keys x y = agrees x.node y.node [] [] x.fits y.fits ∙ then_equal (term_cmp x.node y.node)

abbrev pub cmp_terms : Term → Term → Ordering
cmp_terms x y = term_cmp x.node y.node

pub terms_total : IsTotalOrder cmp_terms
terms_total = subst IsTotalOrder (λ i x y. as_keys x y i) (on_total (λ t. key t.node ++ []) (lists_total int_cmp_total))
