-- Maps from pairs in any order.
use Rattle.std.proofs.Common.{◌≡◌, ◌+◌, ℕ, true, IsTrue, if◌then◌else◌, List, [], ◌∷◌, ◌++◌, map, sum, Option, Some, None, refl, ap, sym, ◌∙◌, subst, arith}
use Rattle.std.specs.declared.cmp.Ordering.{Ordering}
use Rattle.std.specs.declared.cmp.Ordering.TheVariants.{Less, Equal, Greater}
use Rattle.std.specs.BTreeMap.{insert_entry}
use Rattle.std.specs.Cmp.{tied_itself}
use Rattle.std.specs.List.Sorted.{IsStrictlySortedBy}
use Rattle.std.specs.Map.{keys_of}
use Rattle.std.specs.Ordering.{is_eq, is_lt, match_ordering}
use Rattle.std.proofs.lemmas.Bool.{and_from}
use Rattle.kh_term.specs.declared.term.Term.{Term}
use Rattle.kh_term.specs.declared.tree.TermTree.{TermTree}
use Rattle.kh_term.specs.Lookup.{value_at}
use Rattle.kh_term.specs.MapOf.{map_with, map_of, trees_of, last_at, later}
use Rattle.kh_term.specs.Order.{term_cmp}
use Rattle.kh_term.specs.WellFormed.{ArePairs, faults_of, keys_rise}
use Rattle.kh_term.specs.Lemmas.Fits.{no_fault, sum-cons}
use Rattle.kh_term.specs.Lemmas.Total.{cmp_terms, terms_total}
use Rattle.kh_term.proofs.Same.{same}

-- ---- the entries of an ordered map are the pairs of one

parts_fit : (es : List (Term × Term)) → sum (map (λ p. faults_of p.0 + faults_of p.1) (trees_of es)) ≡ 0
parts_fit [] = refl
parts_fit (e ∷ es) =
    omega (arith, sum-cons (faults_of e.0.node + faults_of e.1.node) (map (λ p. faults_of p.0 + faults_of p.1) (trees_of es)), e.0.fits, e.1.fits, parts_fit es)

keys_fit : (es : List (Term × Term)) → IsStrictlySortedBy cmp_terms (keys_of es) → keys_rise (map (λ p. p.0) (trees_of es)) ≡ true
unfolding IsStrictlySortedBy
keys_fit [] s = refl
keys_fit (e ∷ []) s = refl
keys_fit (e ∷ f ∷ es) s = and_from _ _ (ap is_lt s.0.0) (keys_fit (f ∷ es) s.1)

pub pairs_fit : (es : List (Term × Term)) → IsStrictlySortedBy cmp_terms (keys_of es) → ArePairs (trees_of es)
pairs_fit es s = omega (arith, no_fault _ (keys_fit es s), parts_fit es)

-- ---- one pair after another

inserted : (es : List (Term × Term)) (k v : Term) → trees_of (insert_entry cmp_terms es k v) ≡ insert_entry term_cmp (trees_of es) k.node v.node
inserted [] k v = refl
inserted (e ∷ es) k v = go (term_cmp k.node e.0.node) (inserted es k v)
  where
    go : (o : Ordering) → trees_of (insert_entry cmp_terms es k v) ≡ insert_entry term_cmp (trees_of es) k.node v.node → trees_of (match_ordering o ((k, v) ∷ e ∷ es) ((e.0, v) ∷ es) (e ∷ insert_entry cmp_terms es k v)) ≡ match_ordering o ((k.node, v.node) ∷ trees_of (e ∷ es)) ((e.0.node, v.node) ∷ trees_of es) ((e.0.node, e.1.node) ∷ insert_entry term_cmp (trees_of es) k.node v.node)
    go Less h = refl
    go Equal h = refl
    go Greater h = ap (λ ps. (e.0.node, e.1.node) ∷ ps) h

pub next_put : (kept new rest left : List (Term × Term)) (k v : Term) (all : List (TermTree × TermTree)) → rest ≡ (k, v) ∷ left → new ≡ insert_entry cmp_terms kept k v → map_with (trees_of kept) (trees_of rest) ≡ all → map_with (trees_of new) (trees_of left) ≡ all
next_put kept new rest left k v all e put is =
    ap (λ es. map_with es (trees_of left)) (ap trees_of put ∙ inserted kept k v) ∙ (sym (ap (λ es. map_with (trees_of kept) (trees_of es)) e) ∙ is)

pub all_put : (kept rest : List (Term × Term)) (all : List (TermTree × TermTree)) → rest ≡ [] → map_with (trees_of kept) (trees_of rest) ≡ all → trees_of kept ≡ all
all_put kept rest all e is = sym (ap (λ es. map_with (trees_of kept) (trees_of es)) e) ∙ is

pub ruleset map_read = (next_put, all_put)

-- ---- of equal keys the last counts

abbrev entries_with : List (Term × Term) → List (Term × Term) → List (Term × Term)
entries_with kept [] = kept
entries_with kept (p ∷ ps) = entries_with (insert_entry cmp_terms kept p.0 p.1) ps

as_entries : (kept ps : List (Term × Term)) → map_with (trees_of kept) (trees_of ps) ≡ trees_of (entries_with kept ps)
as_entries kept [] = refl
as_entries kept (p ∷ ps) =
    ap (λ es. map_with es (trees_of ps)) (sym (inserted kept p.0 p.1)) ∙ as_entries (insert_entry cmp_terms kept p.0 p.1) ps

-- the value at a key behind an insertion
value_put : (es : List (Term × Term)) (k v key : Term) → value_at key.node (trees_of (insert_entry cmp_terms es k v)) ≡ (if is_eq (term_cmp k.node key.node) then Some v.node else value_at key.node (trees_of es))
value_put [] k v key = refl
value_put (e ∷ es) k v key = go (term_cmp k.node e.0.node) refl (term_cmp k.node key.node) refl (term_cmp e.0.node key.node) refl (value_put es k v key)
  where
    go : (o : Ordering) → term_cmp k.node e.0.node ≡ o → (p : Ordering) → term_cmp k.node key.node ≡ p → (q : Ordering) → term_cmp e.0.node key.node ≡ q
        → value_at key.node (trees_of (insert_entry cmp_terms es k v)) ≡ (if is_eq (term_cmp k.node key.node) then Some v.node else value_at key.node (trees_of es))
        → value_at key.node (trees_of (match_ordering o ((k, v) ∷ e ∷ es) ((e.0, v) ∷ es) (e ∷ insert_entry cmp_terms es k v))) ≡ (if is_eq (term_cmp k.node key.node) then Some v.node else value_at key.node (trees_of (e ∷ es)))
    go Less f p g q h behind = refl
    go Equal f p g q h behind = equal q h
      where
        moved : term_cmp k.node key.node ≡ term_cmp e.0.node key.node
        moved = ap (λ t. term_cmp t key.node) (same k.node e.0.node k.fits e.0.fits f)

        equal : (r : Ordering) → term_cmp e.0.node key.node ≡ r → (if is_eq (term_cmp e.0.node key.node) then Some v.node else value_at key.node (trees_of es)) ≡ (if is_eq (term_cmp k.node key.node) then Some v.node else (if is_eq (term_cmp e.0.node key.node) then Some e.1.node else value_at key.node (trees_of es)))
        equal Less r = simp (moved, r)
        equal Equal r = simp (moved, r)
        equal Greater r = simp (moved, r)
    go Greater f Equal g Equal h behind = absurd (let tied = tied_itself terms_total k in
        let one : k.node ≡ key.node = same k.node key.node k.fits key.fits g in
        let two : e.0.node ≡ key.node = same e.0.node key.node e.0.fits key.fits h in
        let clash : Greater ≡ Equal = sym f ∙ (ap (term_cmp k.node) (two ∙ sym one) ∙ tied) in cc)
    go Greater f Less g q h behind = simp (behind, g)
    go Greater f Greater g q h behind = simp (behind, g)
    go Greater f Equal g Less h behind = simp (behind, g, h)
    go Greater f Equal g Greater h behind = simp (behind, g, h)

value_with : (kept ps : List (Term × Term)) (key : Term) → value_at key.node (trees_of (entries_with kept ps)) ≡ later (last_at key.node (trees_of ps)) (value_at key.node (trees_of kept))
value_with kept [] key = refl
value_with kept (p ∷ ps) key =
    value_with (insert_entry cmp_terms kept p.0 p.1) ps key
    ∙ (ap (later (last_at key.node (trees_of ps))) (value_put kept p.0 p.1 key)
    ∙ go (last_at key.node (trees_of ps)) (term_cmp p.0.node key.node))
  where
    go : (l : Option TermTree) (o : Ordering) → later l (if is_eq o then Some p.1.node else value_at key.node (trees_of kept)) ≡ later (later l (if is_eq o then Some p.1.node else None)) (value_at key.node (trees_of kept))
    go (Some x) o = refl
    go None Less = refl
    go None Equal = refl
    go None Greater = refl

later_none : (o : Option TermTree) → later o None ≡ o
later_none None = refl
later_none (Some x) = refl

pub last_counts : (ps : List (Term × Term)) (key : Term) → value_at key.node (map_of (trees_of ps)) ≡ last_at key.node (trees_of ps)
last_counts ps key =
    ap (value_at key.node) (as_entries [] ps) ∙ (value_with [] ps key ∙ later_none (last_at key.node (trees_of ps)))
