-- Terms that compare equal are the same.
use Rattle.kh_term.specs.Lemmas.Alike.{both_equal, numbers, texts, origins}
use Rattle.kh_term.proofs.OneTree.{same_node}
use Rattle.kh_term.specs.Whole.{whole, whole_where}
use borrow.Author.Tests.{eqb-false}
use Rattle.std.proofs.Common.{Bool, true, nat_eq, ◌↔◌, ◌≡◌, ℕ, false, List, [], ◌∷◌, length, map, refl, ap, sym, ◌∙◌, subst, ℤ}
use Rattle.std.specs.declared.cmp.Ordering.{Ordering}
use Rattle.std.specs.declared.cmp.Ordering.TheVariants.{Less, Equal, Greater}
use Rattle.std.specs.Ordering.{nat_cmp, int_cmp, ordering_then, is_eq}
use Rattle.std.specs.Cmp.{tied_itself}
use Rattle.std.specs.Cmp.Lexicographic.{slice_cmp}
use Rattle.std.proofs.lemmas.Cmp.{ranked, int_ranked}
use Rattle.kh_term.specs.declared.name.Origin.{Origin}
use Rattle.kh_term.specs.declared.term.Term.{Term}
use Rattle.kh_term.specs.declared.tree.TermTree.{TermTree, out-TermTree}
use Rattle.kh_term.specs.declared.tree.TermTree.TheVariants as tree
use Rattle.kh_term.specs.declared.tree.TermTree.TheVariants.{rolls-Int, rolls-Atom, rolls-Bin, rolls-Nil, rolls-List, rolls-Tuple, rolls-Map, rolls-Closure}
use Rattle.kh_term.specs.declared.tree.TermTree.TheOpen.{TermTree-F}
use Rattle.kh_term.specs.declared.tree.TermTree.TheOpen as layer
use Rattle.kh_term.specs.Name.{origin_cmp}
use Rattle.kh_term.specs.WellFormed.{faults_of, IsTerm, AreTerms, is_list}
use Rattle.kh_term.specs.Order.{term_cmp, compare_parts, compare_lists, compare_pairs, compared}
use Rattle.kh_term.specs.Lemmas.Fits.{fits_front, fits_behind, parts_of_tuple, parts_of_list, tail_of_list, ends_list, parts_of_closure, pairs_of_map, keys_of_map, values_of_map}
use Rattle.kh_term.specs.Lemmas.Induction.{by_parts, Each, OfBoth}
use Rattle.kh_term.specs.Lemmas.Keys.{not_six, six_not}
use Rattle.kh_term.specs.Lemmas.Orders.{seen, order-Int, order-Atom, order-Bin, order-Nil, order-List, order-Tuple, order-Map, order-Closure, alike-Int, alike-Atom, alike-Bin, alike-List, alike-Tuple, alike-Map, alike-Closure}
use Rattle.kh_term.specs.Lemmas.Total.{terms_total, layered, no_list, firsts, seconds, pairs_as_parts}

not_equal : (o : Ordering) → is_eq o ≡ false → o ≡ Equal → ⊥
not_equal Less h e = cc
not_equal Equal h e = cc
not_equal Greater h e = cc

abbrev Same : TermTree → Type 0
Same a = (b : TermTree) → IsTerm a → IsTerm b → term_cmp a b ≡ Equal → a ≡ b

parts : (xs ys : List TermTree) → Each Same xs → AreTerms xs → AreTerms ys → compare_parts (map compared xs) ys ≡ Equal → xs ≡ ys
parts [] [] each h k e = refl
parts [] (y ∷ ys) each h k e = absurd (cc)
parts (x ∷ xs) [] each h k e = absurd (cc)
parts (x ∷ xs) (y ∷ ys) each h k e =
    let both = both_equal (term_cmp x y) _ e in
    λ i. each.0 y (fits_front x xs h) (fits_front y ys k) both.0 i ∷ parts xs ys each.1 (fits_behind x xs h) (fits_behind y ys k) both.1 i

lists : (xs ys : List TermTree) (s t : TermTree) → Each Same xs → Same s → AreTerms xs → AreTerms ys → IsTerm s → IsTerm t → is_list (out-TermTree s) ≡ false → is_list (out-TermTree t) ≡ false → compare_lists (map compared xs) (compared s) ys t ≡ Equal → (xs ≡ ys) × (s ≡ t)
lists [] [] s t each same h k hs ht ns nt e = (refl, same t hs ht e)
lists [] (y ∷ ys) s t each same h k hs ht ns nt e = absurd (not_equal _ (not_six (out-TermTree s) ns) e)
lists (x ∷ xs) [] s t each same h k hs ht ns nt e = absurd (not_equal _ (six_not (out-TermTree t) nt) e)
lists (x ∷ xs) (y ∷ ys) s t each same h k hs ht ns nt e =
    let both = both_equal (term_cmp x y) _ e in
    let first : x ≡ y = each.0 y (fits_front x xs h) (fits_front y ys k) both.0 in
    let behind = lists xs ys s t each.1 same (fits_behind x xs h) (fits_behind y ys k) hs ht ns nt both.1 in
    (λ i. first i ∷ behind.0 i, behind.1)

keys_each : (ps : List (TermTree × TermTree)) → Each (OfBoth Same) ps → Each Same (firsts ps)
keys_each [] each = tt
keys_each (p ∷ ps) each = (each.0.0, keys_each ps each.1)

values_each : (ps : List (TermTree × TermTree)) → Each (OfBoth Same) ps → Each Same (seconds ps)
values_each [] each = tt
values_each (p ∷ ps) each = (each.0.1, values_each ps each.1)

pairs : (ps qs : List (TermTree × TermTree)) → firsts ps ≡ firsts qs → seconds ps ≡ seconds qs → ps ≡ qs
pairs [] [] e f = refl
pairs [] (q ∷ qs) e f = absurd (cc)
pairs (p ∷ ps) [] e f = absurd (cc)
pairs (p ∷ ps) (q ∷ qs) e f =
    let first : p.0 ≡ q.0 = cc in
    let second : p.1 ≡ q.1 = cc in
    let keys : firsts ps ≡ firsts qs = cc in
    let values : seconds ps ≡ seconds qs = cc in
    λ i. (first i, second i) ∷ pairs ps qs keys values i

pub same : (a : TermTree) → Same a
same = by_parts Same record {
  at_int = at-Int;
  at_atom = at-Atom;
  at_bin = at-Bin;
  at_list = at-List;
  at_tuple = at-Tuple;
  at_map = at-Map;
  at_closure = at-Closure;
  at_nil = at-Nil;
}
  where
    at-Int : (n : ℤ) → Same (tree.Int n)
    at-Int n b h k q = go (out-TermTree b) refl
      where
        go : (l : TermTree-F TermTree) → out-TermTree b ≡ l → tree.Int n ≡ b
        go (layer.Int m) e =
            let f = layered b _ e ∙ rolls-Int m in
            let kt : IsTerm (tree.Int m) = subst IsTerm f k in
            let r : int_cmp n m ≡ Equal = sym (ap (term_cmp (tree.Int n)) f ∙ alike-Int n m) ∙ q in
            ap tree.Int (int_ranked n m Equal (sym r)) ∙ sym f
        go l e = absurd (not_equal _ refl (sym (order-Int n b ∙ seen (layer.Int n) b l e) ∙ q))

    at-Atom : (x : List ℕ) → Same (tree.Atom x)
    at-Atom x b h k q = go (out-TermTree b) refl
      where
        go : (l : TermTree-F TermTree) → out-TermTree b ≡ l → tree.Atom x ≡ b
        go (layer.Atom y) e =
            let f = layered b _ e ∙ rolls-Atom y in
            let kt : IsTerm (tree.Atom y) = subst IsTerm f k in
            let r : slice_cmp nat_cmp x y ≡ Equal = sym (ap (term_cmp (tree.Atom x)) f ∙ alike-Atom x y) ∙ q in
            ap tree.Atom (texts x y r) ∙ sym f
        go l e = absurd (not_equal _ refl (sym (order-Atom x b ∙ seen (layer.Atom x) b l e) ∙ q))

    at-Bin : (x : List ℕ) → Same (tree.Bin x)
    at-Bin x b h k q = go (out-TermTree b) refl
      where
        go : (l : TermTree-F TermTree) → out-TermTree b ≡ l → tree.Bin x ≡ b
        go (layer.Bin y) e =
            let f = layered b _ e ∙ rolls-Bin y in
            let kt : IsTerm (tree.Bin y) = subst IsTerm f k in
            let r : slice_cmp nat_cmp x y ≡ Equal = sym (ap (term_cmp (tree.Bin x)) f ∙ alike-Bin x y) ∙ q in
            ap tree.Bin (texts x y r) ∙ sym f
        go l e = absurd (not_equal _ refl (sym (order-Bin x b ∙ seen (layer.Bin x) b l e) ∙ q))

    at-List : (xs : List TermTree) (s : TermTree) → Each Same xs → Same s → Same (tree.List xs s)
    at-List xs s each alike b h k q = go (out-TermTree b) refl
      where
        go : (l : TermTree-F TermTree) → out-TermTree b ≡ l → tree.List xs s ≡ b
        go (layer.List ys t) e =
            let f = layered b _ e ∙ rolls-List ys t in
            let kt : IsTerm (tree.List ys t) = subst IsTerm f k in
            let r : compare_lists (map compared xs) (compared s) ys t ≡ Equal = sym (ap (term_cmp (tree.List xs s)) f ∙ alike-List xs ys s t) ∙ q in
            (let d = lists xs ys s t each alike (parts_of_list xs s h) (parts_of_list ys t kt) (tail_of_list xs s h) (tail_of_list ys t kt) (no_list xs s (ends_list xs s h)) (no_list ys t (ends_list ys t kt)) r in λ i. tree.List (d.0 i) (d.1 i)) ∙ sym f
        go l e = absurd (not_equal _ refl (sym (order-List xs s b ∙ seen (layer.List (map compared xs) (compared s)) b l e) ∙ q))

    at-Tuple : (xs : List TermTree) → Each Same xs → Same (tree.Tuple xs)
    at-Tuple xs each b h k q = go (out-TermTree b) refl
      where
        go : (l : TermTree-F TermTree) → out-TermTree b ≡ l → tree.Tuple xs ≡ b
        go (layer.Tuple ys) e =
            let f = layered b _ e ∙ rolls-Tuple ys in
            let kt : IsTerm (tree.Tuple ys) = subst IsTerm f k in
            let r : ordering_then (nat_cmp (length xs) (length ys)) (compare_parts (map compared xs) ys) ≡ Equal = sym (ap (term_cmp (tree.Tuple xs)) f ∙ alike-Tuple xs ys) ∙ q in
            ap tree.Tuple (parts xs ys each (parts_of_tuple xs h) (parts_of_tuple ys kt) (both_equal _ _ r).1) ∙ sym f
        go l e = absurd (not_equal _ refl (sym (order-Tuple xs b ∙ seen (layer.Tuple (map compared xs)) b l e) ∙ q))

    at-Map : (ps : List (TermTree × TermTree)) → Each (OfBoth Same) ps → Same (tree.Map ps)
    at-Map ps each b h k q = go (out-TermTree b) refl
      where
        go : (l : TermTree-F TermTree) → out-TermTree b ≡ l → tree.Map ps ≡ b
        go (layer.Map qs) e =
            let f = layered b _ e ∙ rolls-Map qs in
            let kt : IsTerm (tree.Map qs) = subst IsTerm f k in
            let r : ordering_then (nat_cmp (length ps) (length qs)) (compare_pairs ps qs) ≡ Equal = sym (ap (term_cmp (tree.Map ps)) f ∙ alike-Map ps qs) ∙ q in
            (let d = both_equal _ _ (sym (pairs_as_parts ps qs) ∙ (both_equal _ _ r).1) in ap tree.Map (pairs ps qs (parts (firsts ps) (firsts qs) (keys_each ps each) (keys_of_map ps (pairs_of_map ps h)) (keys_of_map qs (pairs_of_map qs kt)) d.0) (parts (seconds ps) (seconds qs) (values_each ps each) (values_of_map ps (pairs_of_map ps h)) (values_of_map qs (pairs_of_map qs kt)) d.1))) ∙ sym f
        go l e = absurd (not_equal _ refl (sym (order-Map ps b ∙ seen (layer.Map (map (λ p. (compared p.0, compared p.1)) ps)) b l e) ∙ q))

    at-Closure : (o : Origin) (xs : List TermTree) → Each Same xs → Same (tree.Closure o xs)
    at-Closure o xs each b h k q = go (out-TermTree b) refl
      where
        go : (l : TermTree-F TermTree) → out-TermTree b ≡ l → tree.Closure o xs ≡ b
        go (layer.Closure p ys) e =
            let f = layered b _ e ∙ rolls-Closure p ys in
            let kt : IsTerm (tree.Closure p ys) = subst IsTerm f k in
            let r : ordering_then (origin_cmp o p) (compare_parts (map compared xs) ys) ≡ Equal = sym (ap (term_cmp (tree.Closure o xs)) f ∙ alike-Closure o p xs ys) ∙ q in
            (λ i. tree.Closure (origins o p (both_equal _ _ r).0 i) (parts xs ys each (parts_of_closure o xs h) (parts_of_closure p ys kt) (both_equal _ _ r).1 i)) ∙ sym f
        go l e = absurd (not_equal _ refl (sym (order-Closure o xs b ∙ seen (layer.Closure o (map compared xs)) b l e) ∙ q))

    at-Nil : Same tree.Nil
    at-Nil b h k q = go (out-TermTree b) refl
      where
        go : (l : TermTree-F TermTree) → out-TermTree b ≡ l → tree.Nil ≡ b
        go layer.Nil e = sym (layered b _ e ∙ rolls-Nil)
        go l e = absurd (not_equal _ refl (sym (order-Nil b ∙ seen layer.Nil b l e) ∙ q))

-- terms that compare equal are one
pub same_term : (x y : Term) → term_cmp x.node y.node ≡ Equal → x ≡ y
same_term x y e = same_node x y (same x.node y.node x.fits y.fits e)

-- and one term compares equal with itself
pub same_exactly : (x y : Term) → (term_cmp x.node y.node ≡ Equal) ↔ (x ≡ y)
same_exactly x y = (same_term x y, λ e. ap (λ z. term_cmp x.node z.node) (sym e) ∙ tied_itself terms_total x)

-- the term of a term's tree is the term
pub whole_is : (x : Term) (n : TermTree) → x.node ≡ n → whole n ≡ x
whole_is x n e = go (nat_eq (faults_of n) 0) refl
  where
    go : (b : Bool) (f : nat_eq (faults_of n) 0 ≡ b) → whole_where n b f ≡ x
    go true f = same_node (whole_where n true f) x (sym e)
    go false f = absurd (eqb-false (faults_of n) 0 f (ap faults_of (sym e) ∙ x.fits))
