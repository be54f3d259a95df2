-- A pattern of data without `_` matches the equal term alone.
use Rattle.std.proofs.Common.{◌≡◌, ◌||◌, ◌&&◌, ℕ, Bool, true, false, true≢false, List, [], ◌∷◌, length, map, nat_eq, codes, refl, ap, sym, subst, ◌∙◌, ℤ, arith}
use Rattle.std.proofs.lemmas.Bool.{and_from, and_parts, eq-eqb, eqb-true}
use Rattle.std.proofs.lemmas.Slice.Eq.{bytes_eq-Decides}
use Rattle.std.proofs.lemmas.Cmp.{ranked}
use Rattle.std.specs.declared.cmp.Ordering.{Ordering}
use Rattle.std.specs.declared.cmp.Ordering.TheVariants.{Less, Equal, Greater}
use Rattle.std.specs.Ordering.{is_eq, int_cmp, nat_cmp}
use Rattle.std.specs.Cmp.{Equal-is, int_cmp_total, nat_cmp_total, tied_itself}
use Rattle.kh_term.specs.Order.{term_cmp}
use Rattle.kh_term.proofs.OneTree.{same_node}
use Rattle.std.specs.List.{list_any}
use Rattle.std.specs.Str.{bytes_eq}
use Rattle.kh_term.proofs.Same.{same}
use Rattle.kh_term.specs.Lemmas.Fits.{parts_of_tuple, parts_of_list, tail_of_list, fits_front, fits_behind, pairs_of_map, keys_of_map, values_of_map}
use Rattle.kh_term.specs.Lemmas.Induction.{Each, OfBoth, by_parts}
use Rattle.kh_term.specs.Lemmas.Orders.{alike-Int}
use Rattle.kh_term.specs.Lemmas.Total.{layered, terms_total}
use Rattle.kh_term.specs.declared.name.Origin.{Origin}
use Rattle.kh_term.specs.declared.term.Term.{Term}
use Rattle.kh_term.specs.declared.tree.TermTree.{TermTree, out-TermTree}
use Rattle.kh_term.specs.declared.tree.TermTree.TheOpen.{TermTree-F}
use Rattle.kh_term.specs.declared.tree.TermTree.TheOpen as layer
use Rattle.kh_term.specs.declared.tree.TermTree.TheVariants as tree
use Rattle.kh_term.specs.declared.tree.TermTree.TheVariants.{outs-Int, outs-Atom, outs-Bin, outs-Nil, outs-List, outs-Tuple, outs-Map, rolls-Int, rolls-Atom, rolls-Bin, rolls-Nil, rolls-List, rolls-Tuple, rolls-Map, rolls-Closure}
use Rattle.kh_term.specs.declared.tree.TermTree.TheFolds.{fold-roll-TermTree}
use Rattle.kh_term.specs.WellFormed.{IsTerm, AreTerms}
use Rattle.kh_cond.specs.Laws.{EachMatchesItself, PlainPatternMatchesOne}
use Rattle.kh_cond.specs.Matching.{bin_match, int_match, is_wildcard, list_match, map_match, match_entries, match_rest, match_shared, matched, matched_pair, matches_data, nil_match, text_match, tuple_match}
use Rattle.kh_cond.specs.Wildcards.{has_wildcard, wild_step}
use Rattle.kh_cond.proofs.MatchLayers.{length_matched, length_matched_pairs, matches-Int, matches-Atom, matches-Bin, matches-Nil, matches-List, matches-Tuple, matches-Map, matches-Closure}

any_mapped : {A : Type 0} (f : A → Bool) (xs : List A) → list_any (λ x. x) (map f xs) ≡ list_any f xs
any_mapped f [] = refl
any_mapped f (x ∷ xs) = ap (λ b. f x || b) (any_mapped f xs)

any_value : (f : TermTree → Bool) (ps : List (TermTree × TermTree)) → list_any (λ p. p.1) (map {A = TermTree × TermTree} {B = Bool × Bool} (λ p. (f p.0, f p.1)) ps) ≡ list_any (λ p. f p.1) ps
any_value f [] = refl
any_value f (p ∷ ps) = ap (λ b. f p.1 || b) (any_value f ps)

wild-Atom : (text : List ℕ) → has_wildcard (tree.Atom text) ≡ bytes_eq text (codes "_")
wild-Atom text = ap has_wildcard (sym (rolls-Atom text)) ∙ fold-roll-TermTree Bool wild_step (layer.Atom text)

wild-List : (ps : List TermTree) (t : TermTree) → has_wildcard (tree.List ps t) ≡ (list_any has_wildcard ps || has_wildcard t)
wild-List ps t =
    ap has_wildcard (sym (rolls-List ps t)) ∙ (fold-roll-TermTree Bool wild_step (layer.List ps t) ∙ ap (λ b. b || has_wildcard t) (any_mapped has_wildcard ps))

wild-Tuple : (ps : List TermTree) → has_wildcard (tree.Tuple ps) ≡ list_any has_wildcard ps
wild-Tuple ps = ap has_wildcard (sym (rolls-Tuple ps)) ∙ (fold-roll-TermTree Bool wild_step (layer.Tuple ps) ∙ any_mapped has_wildcard ps)

wild-Map : (ps : List (TermTree × TermTree)) → has_wildcard (tree.Map ps) ≡ list_any (λ p. has_wildcard p.1) ps
wild-Map ps = ap has_wildcard (sym (rolls-Map ps)) ∙ (fold-roll-TermTree Bool wild_step (layer.Map ps) ∙ any_value has_wildcard ps)

or_parts : (x y : Bool) → (x || y) ≡ false → (x ≡ false) × (y ≡ false)
or_parts true y e = absurd (true≢false e)
or_parts false y e = (refl, e)

or_last : (x y : Bool) → x ≡ false → (x || y) ≡ true → y ≡ true
or_last true y e h = absurd (true≢false e)
or_last false y e h = h

-- a term without `_` matches itself alone
Only : TermTree → Type 0
Only p = (d : TermTree) → IsTerm p → IsTerm d → has_wildcard p ≡ false → matches_data p d ≡ true → p ≡ d

wildcard_is_wild : (t : TermTree) → is_wildcard (out-TermTree t) ≡ true → has_wildcard t ≡ true
wildcard_is_wild t h = go (out-TermTree t) refl h
  where
    go : (l : TermTree-F TermTree) → out-TermTree t ≡ l → is_wildcard l ≡ true → has_wildcard t ≡ true
    go (layer.Atom text) e h = ap has_wildcard (layered t _ e ∙ rolls-Atom text) ∙ (wild-Atom text ∙ h)
    go l e h = absurd (true≢false (sym h))

shared_only : (ps ys : List TermTree) → Each Only ps → AreTerms ps → AreTerms ys → list_any has_wildcard ps ≡ false → length ps ≡ length ys →
    match_shared (map matched ps) ys ≡ true → ps ≡ ys
unfolding Only
shared_only [] [] each h k w n m = refl
shared_only [] (y ∷ ys) each h k w n m = absurd (omega (arith, n))
shared_only (p ∷ ps) [] each h k w n m = absurd (omega (arith, n))
shared_only (p ∷ ps) (y ∷ ys) each h k w n m =
    let both = and_parts (matches_data p y) (match_shared (map matched ps) ys) m in
    let wild = or_parts (has_wildcard p) (list_any has_wildcard ps) w in
    let fewer : length ps ≡ length ys = omega (arith, n) in
    λ i. each.0 y (fits_front p ps h) (fits_front y ys k) wild.0 both.0 i
    ∷ shared_only ps ys each.1 (fits_behind p ps h) (fits_behind y ys k) wild.1 fewer both.1 i

entries_only : (ps qs : List (TermTree × TermTree)) → Each (OfBoth Only) ps → AreTerms (map (λ p. p.0) ps) → AreTerms (map (λ p. p.1) ps) →
    AreTerms (map (λ q. q.0) qs) → AreTerms (map (λ q. q.1) qs) → list_any (λ p. has_wildcard p.1) ps ≡ false → length ps ≡ length qs →
    match_entries (map matched_pair ps) qs ≡ true → ps ≡ qs
unfolding Only
entries_only [] [] each hk hv kk kv w n m = refl
entries_only [] (q ∷ qs) each hk hv kk kv w n m = absurd (omega (arith, n))
entries_only (p ∷ ps) [] each hk hv kk kv w n m = absurd (omega (arith, n))
entries_only (p ∷ ps) (q ∷ qs) each hk hv kk kv w n m =
    let outer = and_parts (is_eq (term_cmp p.0 q.0) && matches_data p.1 q.1) (match_entries (map matched_pair ps) qs) m in
    let inner = and_parts (is_eq (term_cmp p.0 q.0)) (matches_data p.1 q.1) outer.0 in
    let wild = or_parts (has_wildcard p.1) (list_any (λ r. has_wildcard r.1) ps) w in
    let fewer : length ps ≡ length qs = omega (arith, n) in
    let key : p.0 ≡ q.0 =
    same p.0 q.0 (fits_front p.0 (map (λ r. r.0) ps) hk) (fits_front q.0 (map (λ r. r.0) qs) kk) ((Equal-is (term_cmp p.0 q.0)).0 inner.0) in
    let value : p.1 ≡ q.1 =
    each.0.1 q.1 (fits_front p.1 (map (λ r. r.1) ps) hv) (fits_front q.1 (map (λ r. r.1) qs) kv) wild.0 inner.1 in
    let rest : ps ≡ qs =
    entries_only ps qs each.1 (fits_behind p.0 (map (λ r. r.0) ps) hk) (fits_behind p.1 (map (λ r. r.1) ps) hv)
    (fits_behind q.0 (map (λ r. r.0) qs) kk) (fits_behind q.1 (map (λ r. r.1) qs) kv) wild.1 fewer outer.1 in
    λ i. (key i, value i) ∷ rest i

-- ---- each kind

only_int : (n : ℤ) → Only (tree.Int n)
unfolding Only
only_int n d h k w m = go (out-TermTree d) refl (sym (matches-Int n d) ∙ m)
  where
    go : (l : TermTree-F TermTree) → out-TermTree d ≡ l → int_match n l ≡ true → tree.Int n ≡ d
    go (layer.Int z) e m =
        let is : d ≡ tree.Int z = layered d _ e ∙ rolls-Int z in
        same (tree.Int n) (tree.Int z) h (subst IsTerm is k) (alike-Int n z ∙ (Equal-is (int_cmp n z)).0 m) ∙ sym is
    go l e m = absurd (true≢false (sym m))

only_atom : (text : List ℕ) → Only (tree.Atom text)
unfolding Only
only_atom text d h k w m =
    go (out-TermTree d) refl (or_last (bytes_eq text (codes "_")) (text_match text (out-TermTree d)) (sym (wild-Atom text) ∙ w) (sym (matches-Atom text d) ∙ m))
  where
    go : (l : TermTree-F TermTree) → out-TermTree d ≡ l → text_match text l ≡ true → tree.Atom text ≡ d
    go (layer.Atom u) e m = sym (layered d _ e ∙ (rolls-Atom u ∙ ap tree.Atom (sym ((bytes_eq-Decides text u).0 m))))
    go l e m = absurd (true≢false (sym m))

only_bin : (bytes : List ℕ) → Only (tree.Bin bytes)
unfolding Only
only_bin bytes d h k w m = go (out-TermTree d) refl (sym (matches-Bin bytes d) ∙ m)
  where
    go : (l : TermTree-F TermTree) → out-TermTree d ≡ l → bin_match bytes l ≡ true → tree.Bin bytes ≡ d
    go (layer.Bin u) e m = sym (layered d _ e ∙ (rolls-Bin u ∙ ap tree.Bin (sym ((bytes_eq-Decides bytes u).0 m))))
    go l e m = absurd (true≢false (sym m))

only_nil : Only tree.Nil
unfolding Only
only_nil d h k w m = go (out-TermTree d) refl (sym (matches-Nil d) ∙ m)
  where
    go : (l : TermTree-F TermTree) → out-TermTree d ≡ l → nil_match l ≡ true → tree.Nil ≡ d
    go layer.Nil e m = sym (layered d _ e ∙ rolls-Nil)
    go l e m = absurd (true≢false (sym m))

rest_only : (ps ys : List TermTree) (t r : TermTree) (o : Ordering) → o ≡ nat_cmp (length ps) (length ys) → has_wildcard t ≡ false →
    match_rest o (matched t) r ≡ true → (length ps ≡ length ys) × (matches_data t r ≡ true)
rest_only ps ys t r Less e w m = absurd (true≢false (sym (wildcard_is_wild t m) ∙ w))
rest_only ps ys t r Equal e w m = (ranked (length ps) (length ys) Equal e, m)
rest_only ps ys t r Greater e w m = absurd (true≢false (sym m))

only_list : (ps : List TermTree) (t : TermTree) → Each Only ps → Only t → Only (tree.List ps t)
unfolding Only
only_list ps t each tail d h k w m = go (out-TermTree d) refl (sym (matches-List ps t d) ∙ m)
  where
    go : (l : TermTree-F TermTree) → out-TermTree d ≡ l → list_match (map matched ps) (matched t) l ≡ true → tree.List ps t ≡ d
    go (layer.List ys r) e m =
        let is : d ≡ tree.List ys r = layered d _ e ∙ rolls-List ys r in
        let k' : IsTerm (tree.List ys r) = subst IsTerm is k in
        let wild = or_parts (list_any has_wildcard ps) (has_wildcard t) (sym (wild-List ps t) ∙ w) in
        let both = and_parts (match_shared (map matched ps) ys) (match_rest (nat_cmp (length (map matched ps)) (length ys)) (matched t) r) m in
        let here : match_rest (nat_cmp (length ps) (length ys)) (matched t) r ≡ true =
        ap (λ n. match_rest (nat_cmp n (length ys)) (matched t) r) (sym (length_matched ps)) ∙ both.1 in
        let end = rest_only ps ys t r (nat_cmp (length ps) (length ys)) refl wild.1 here in
        let parts : ps ≡ ys = shared_only ps ys each (parts_of_list ps t h) (parts_of_list ys r k') wild.0 end.0 both.0 in
        let last : t ≡ r = tail r (tail_of_list ps t h) (tail_of_list ys r k') wild.1 end.1 in
        (λ i. tree.List (parts i) (last i)) ∙ sym is
    go l e m = absurd (true≢false (sym m))

only_tuple : (ps : List TermTree) → Each Only ps → Only (tree.Tuple ps)
unfolding Only
only_tuple ps each d h k w m = go (out-TermTree d) refl (sym (matches-Tuple ps d) ∙ m)
  where
    go : (l : TermTree-F TermTree) → out-TermTree d ≡ l → tuple_match (map matched ps) l ≡ true → tree.Tuple ps ≡ d
    go (layer.Tuple ys) e m =
        let is : d ≡ tree.Tuple ys = layered d _ e ∙ rolls-Tuple ys in
        let both = and_parts (nat_eq (length (map matched ps)) (length ys)) (match_shared (map matched ps) ys) m in
        let many : length ps ≡ length ys = sym (length_matched ps) ∙ eqb-true _ _ both.0 in
        ap tree.Tuple (shared_only ps ys each (parts_of_tuple ps h) (parts_of_tuple ys (subst IsTerm is k)) (sym (wild-Tuple ps) ∙ w) many both.1) ∙ sym is
    go l e m = absurd (true≢false (sym m))

only_map : (ps : List (TermTree × TermTree)) → Each (OfBoth Only) ps → Only (tree.Map ps)
unfolding Only
only_map ps each d h k w m = go (out-TermTree d) refl (sym (matches-Map ps d) ∙ m)
  where
    go : (l : TermTree-F TermTree) → out-TermTree d ≡ l → map_match (map matched_pair ps) l ≡ true → tree.Map ps ≡ d
    go (layer.Map qs) e m =
        let is : d ≡ tree.Map qs = layered d _ e ∙ rolls-Map qs in
        let here = pairs_of_map ps h in
        let there = pairs_of_map qs (subst IsTerm is k) in
        let both = and_parts (nat_eq (length (map matched_pair ps)) (length qs)) (match_entries (map matched_pair ps) qs) m in
        let many : length ps ≡ length qs = sym (length_matched_pairs ps) ∙ eqb-true _ _ both.0 in
        ap tree.Map (entries_only ps qs each (keys_of_map ps here) (values_of_map ps here) (keys_of_map qs there) (values_of_map qs there)
        (sym (wild-Map ps) ∙ w) many both.1) ∙ sym is
    go l e m = absurd (true≢false (sym m))

only_closure : (origin : Origin) (env : List TermTree) → Each Only env → Only (tree.Closure origin env)
unfolding Only
only_closure origin env each d h k w m =
    same (tree.Closure origin env) d h k ((Equal-is (term_cmp (tree.Closure origin env) d)).0 (sym (matches-Closure origin env d) ∙ m))

only : (p : TermTree) → Only p
only = by_parts Only record {
  at_int = only_int;
  at_atom = only_atom;
  at_bin = only_bin;
  at_nil = only_nil;
  at_list = only_list;
  at_tuple = only_tuple;
  at_map = only_map;
  at_closure = only_closure;
}

pub plain_only : PlainPatternMatchesOne
unfolding Only
plain_only p d w m = same_node p d (only p.node d.node p.fits d.fits w m)

-- ---- a term matches itself

Self : TermTree → Type 0
Self p = IsTerm p → matches_data p p ≡ true

or_behind : (x y : Bool) → y ≡ true → (x || y) ≡ true
or_behind true y h = refl
or_behind false y h = h

same_bytes : (bytes : List ℕ) → bytes_eq bytes bytes ≡ true
same_bytes bytes = (bytes_eq-Decides bytes bytes).1 refl

same_number : (n : ℕ) → nat_eq n n ≡ true
same_number n = eq-eqb n n refl

-- an equal term compares so
same_term_cmp : (t : TermTree) → IsTerm t → is_eq (term_cmp t t) ≡ true
same_term_cmp t h = let x : Term = record { node = t; fits = h } in ap is_eq (tied_itself terms_total x)

shared_self : (ps : List TermTree) → Each Self ps → AreTerms ps → match_shared (map matched ps) ps ≡ true
unfolding Self
shared_self [] each h = refl
shared_self (p ∷ ps) each h = and_from _ _ (each.0 (fits_front p ps h)) (shared_self ps each.1 (fits_behind p ps h))

entries_self : (ps : List (TermTree × TermTree)) → Each (OfBoth Self) ps → AreTerms (map (λ p. p.0) ps) → AreTerms (map (λ p. p.1) ps) →
    match_entries (map matched_pair ps) ps ≡ true
unfolding Self
entries_self [] each hk hv = refl
entries_self (p ∷ ps) each hk hv =
    and_from _ _
    (and_from _ _ (same_term_cmp p.0 (fits_front p.0 (map (λ r. r.0) ps) hk)) (each.0.1 (fits_front p.1 (map (λ r. r.1) ps) hv)))
    (entries_self ps each.1 (fits_behind p.0 (map (λ r. r.0) ps) hk) (fits_behind p.1 (map (λ r. r.1) ps) hv))

self_int : (n : ℤ) → Self (tree.Int n)
unfolding Self
self_int n h = matches-Int n (tree.Int n) ∙ (ap (int_match n) (outs-Int n) ∙ ap is_eq (tied_itself int_cmp_total n))

self_atom : (text : List ℕ) → Self (tree.Atom text)
unfolding Self
self_atom text h =
    matches-Atom text (tree.Atom text) ∙ or_behind (bytes_eq text (codes "_")) (text_match text (out-TermTree (tree.Atom text))) (ap (text_match text) (outs-Atom text) ∙ same_bytes text)

self_bin : (bytes : List ℕ) → Self (tree.Bin bytes)
unfolding Self
self_bin bytes h = matches-Bin bytes (tree.Bin bytes) ∙ (ap (bin_match bytes) (outs-Bin bytes) ∙ same_bytes bytes)

self_nil : Self tree.Nil
unfolding Self
self_nil h = matches-Nil tree.Nil ∙ ap nil_match outs-Nil

self_list : (ps : List TermTree) (t : TermTree) → Each Self ps → Self t → Self (tree.List ps t)
unfolding Self
self_list ps t each tail h =
    let many : nat_cmp (length (map matched ps)) (length ps) ≡ Equal =
    ap (λ n. nat_cmp n (length ps)) (length_matched ps) ∙ tied_itself nat_cmp_total (length ps) in
    let rest : match_rest (nat_cmp (length (map matched ps)) (length ps)) (matched t) t ≡ true =
    ap (λ o. match_rest o (matched t) t) many ∙ tail (tail_of_list ps t h) in
    matches-List ps t (tree.List ps t)
    ∙ (ap (list_match (map matched ps) (matched t)) (outs-List ps t) ∙ and_from _ _ (shared_self ps each (parts_of_list ps t h)) rest)

self_tuple : (ps : List TermTree) → Each Self ps → Self (tree.Tuple ps)
unfolding Self
self_tuple ps each h =
    let many : nat_eq (length (map matched ps)) (length ps) ≡ true = ap (λ n. nat_eq n (length ps)) (length_matched ps) ∙ same_number (length ps) in
    matches-Tuple ps (tree.Tuple ps)
    ∙ (ap (tuple_match (map matched ps)) (outs-Tuple ps) ∙ and_from _ _ many (shared_self ps each (parts_of_tuple ps h)))

self_map : (ps : List (TermTree × TermTree)) → Each (OfBoth Self) ps → Self (tree.Map ps)
unfolding Self
self_map ps each h =
    let here = pairs_of_map ps h in
    let many : nat_eq (length (map matched_pair ps)) (length ps) ≡ true =
    ap (λ n. nat_eq n (length ps)) (length_matched_pairs ps) ∙ same_number (length ps) in
    matches-Map ps (tree.Map ps)
    ∙ (ap (map_match (map matched_pair ps)) (outs-Map ps) ∙ and_from _ _ many (entries_self ps each (keys_of_map ps here) (values_of_map ps here)))

self_closure : (origin : Origin) (env : List TermTree) → Each Self env → Self (tree.Closure origin env)
unfolding Self
self_closure origin env each h = matches-Closure origin env (tree.Closure origin env) ∙ same_term_cmp (tree.Closure origin env) h

self : (p : TermTree) → Self p
self = by_parts Self record {
  at_int = self_int;
  at_atom = self_atom;
  at_bin = self_bin;
  at_nil = self_nil;
  at_list = self_list;
  at_tuple = self_tuple;
  at_map = self_map;
  at_closure = self_closure;
}

pub itself : EachMatchesItself
unfolding Self
itself t = self t.node t.fits
