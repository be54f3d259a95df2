-- Which trees are terms, variant by variant, and what their parts are.
use Rattle.std.proofs.Common.{zero, suc, ◌<◌, get_or, slice_get, Some, ◌&&◌, ◌≡◌, ℕ, ◌+◌, ◌^◌, Bool, true, false, not, IsTrue, nat_le, List, [], ◌∷◌, ◌++◌, length, map, sum, refl, ap, sym, ◌∙◌, subst, ℤ, pos, negsuc, of_z, to_z, SFits, arith}
use Rattle.std.specs.Int.{w128}
use Rattle.std.proofs.lemmas.Bool.{and_from}
use Rattle.std.proofs.lemmas.Int.{to_z-of_z}
use Rattle.std.proofs.lemmas.List.Sums.{sum_by-append, sum-map, sum_by-cons, sum_by_push}
use borrow.Author.Tests.{lt-ltb}
use Rattle.kh_term.specs.declared.name.Origin.{Origin}
use Rattle.kh_term.specs.declared.tree.TermTree.{TermTree}
use Rattle.kh_term.specs.declared.tree.TermTree.TheVariants as tree
use Rattle.kh_term.specs.declared.tree.TermTree.TheVariants.{outs-Nil}
use Rattle.kh_term.specs.Text.{is_atom_text, are_bytes}
use Rattle.kh_term.specs.WellFormed.{keys_rise, IsTerm, AreTerms, ArePairs, faults_of, fault_unless, fits_128, is_list_of, is_list, is_origin}
use Rattle.kh_term.specs.Lemmas.Layers.{faults-Int, faults-Atom, faults-Bin, faults-Nil, faults-List, faults-Tuple, faults-Map, faults-Closure}

-- a test that holds breaks no rule
pub no_fault : (b : Bool) → IsTrue b → fault_unless b ≡ 0
no_fault true h = refl
no_fault false h = cc

pub holds : (b : Bool) → fault_unless b ≡ 0 → IsTrue b
holds true h = refl
holds false h = absurd (omega arith)

in_128 : (z : ℤ) → SFits w128 z → fits_128 z ≡ true
in_128 (pos n) h = lt-ltb n (2 ^ 127) h.sfits
in_128 (negsuc n) h = lt-ltb n (2 ^ 127) h.sfits

pub fits-Int : (z : ℤ) → SFits w128 z → IsTerm (tree.Int (to_z w128 (of_z w128 z)))
fits-Int z h = subst (λ n. IsTerm (tree.Int n)) (sym (to_z-of_z w128 z h)) (faults-Int z ∙ ap fault_unless (in_128 z h))

pub fits-Atom : (text : List ℕ) → IsTrue (is_atom_text text) → IsTerm (tree.Atom text)
fits-Atom text h = faults-Atom text ∙ no_fault _ h

pub fits-Bin : (bytes : List ℕ) → IsTrue (are_bytes bytes) → IsTerm (tree.Bin bytes)
fits-Bin bytes h = faults-Bin bytes ∙ no_fault _ h

pub fits-Nil : IsTerm tree.Nil
fits-Nil = faults-Nil

pub fits-Tuple : (parts : List TermTree) → AreTerms parts → IsTerm (tree.Tuple parts)
fits-Tuple parts h = faults-Tuple parts ∙ h

pub fits-List : (parts : List TermTree) (tail : TermTree) → AreTerms parts → IsTerm tail → IsTrue (is_list_of parts tail) → IsTerm (tree.List parts tail)
fits-List parts tail h k o = omega (arith, faults-List parts tail, no_fault _ o)

pub fits-Map : (pairs : List (TermTree × TermTree)) → ArePairs pairs → IsTerm (tree.Map pairs)
fits-Map pairs h = faults-Map pairs ∙ h

pub fits-Closure : (origin : Origin) (env : List TermTree) → IsTrue (is_origin origin) → AreTerms env → IsTrue (nat_le (length env) origin.arity) → IsTerm (tree.Closure origin env)
fits-Closure origin env o h n = omega (arith, faults-Closure origin env, no_fault _ (and_from _ _ o n))

-- a list without a tail of its own
pub fits_proper : (parts : List TermTree) → AreTerms parts → (parts ≡ [] → ⊥) → IsTerm (tree.List parts tree.Nil)
fits_proper [] h n = absurd (n refl)
fits_proper (part ∷ parts) h n = fits-List (part ∷ parts) tree.Nil h fits-Nil (ap (λ x. not (is_list x)) outs-Nil)

pub fits_one_pair : (key value : TermTree) → IsTerm key → IsTerm value → IsTerm (tree.Map ((key, value) ∷ []))
fits_one_pair key value h k = fits-Map ((key, value) ∷ []) (omega (arith, h, k))

-- ---- the parts

pub sum-cons : (x : ℕ) (xs : List ℕ) → sum (x ∷ xs) ≡ x + sum xs
sum-cons x xs = sum_by-cons (λ y. y) x xs

pub sum-pushed : {A : Type 0} (f : A → ℕ) (xs : List A) (x : A) → sum (map f (xs ++ x ∷ [])) ≡ sum (map f xs) + f x
sum-pushed f xs x = sum-map f (xs ++ x ∷ []) ∙ (sum_by_push f xs x ∙ ap (λ n. n + f x) (sym (sum-map f xs)))

pub fits_pushed : (ts : List TermTree) (t : TermTree) → AreTerms ts → IsTerm t → AreTerms (ts ++ t ∷ [])
fits_pushed ts t h k = omega (arith, sum-pushed faults_of ts t)

pub fits_front : (t : TermTree) (ts : List TermTree) → AreTerms (t ∷ ts) → IsTerm t
fits_front t ts h = omega (arith, h, sum-cons (faults_of t) (map faults_of ts))

pub fits_behind : (t : TermTree) (ts : List TermTree) → AreTerms (t ∷ ts) → AreTerms ts
fits_behind t ts h = omega (arith, h, sum-cons (faults_of t) (map faults_of ts))

pub fits_more : (t : TermTree) (ts : List TermTree) → IsTerm t → AreTerms ts → AreTerms (t ∷ ts)
fits_more t ts h k = omega (arith, h, k, sum-cons (faults_of t) (map faults_of ts))

pub parts_of_tuple : (parts : List TermTree) → IsTerm (tree.Tuple parts) → AreTerms parts
parts_of_tuple parts h = sym (faults-Tuple parts) ∙ h

pub parts_of_list : (parts : List TermTree) (tail : TermTree) → IsTerm (tree.List parts tail) → AreTerms parts
parts_of_list parts tail h = omega (arith, h, faults-List parts tail)

pub tail_of_list : (parts : List TermTree) (tail : TermTree) → IsTerm (tree.List parts tail) → IsTerm tail
tail_of_list parts tail h = omega (arith, h, faults-List parts tail)

-- a list has an element, and its tail is no list
pub ends_list : (parts : List TermTree) (tail : TermTree) → IsTerm (tree.List parts tail) → IsTrue (is_list_of parts tail)
ends_list parts tail h =
    let none : fault_unless (is_list_of parts tail) ≡ 0 = omega (arith, h, faults-List parts tail) in holds _ none

pub parts_of_closure : (origin : Origin) (env : List TermTree) → IsTerm (tree.Closure origin env) → AreTerms env
parts_of_closure origin env h = omega (arith, h, faults-Closure origin env)

-- the origin is one, and the captured values are no more than its arity
pub origin_of_closure : (origin : Origin) (env : List TermTree) → IsTerm (tree.Closure origin env) → IsTrue (is_origin origin && nat_le (length env) origin.arity)
origin_of_closure origin env h =
    let none : fault_unless (is_origin origin && nat_le (length env) origin.arity) ≡ 0 = omega (arith, h, faults-Closure origin env) in
    holds _ none

pub pairs_of_map : (pairs : List (TermTree × TermTree)) → IsTerm (tree.Map pairs) → ArePairs pairs
pairs_of_map pairs h = sym (faults-Map pairs) ∙ h

pub keys_rise_in : (pairs : List (TermTree × TermTree)) → ArePairs pairs → IsTrue (keys_rise (map (λ p. p.0) pairs))
keys_rise_in pairs h =
    let none : fault_unless (keys_rise (map (λ p. p.0) pairs)) ≡ 0 = omega (arith, h) in holds _ none

pub keys_of_pairs : (pairs : List (TermTree × TermTree)) → sum (map (λ p. faults_of p.0 + faults_of p.1) pairs) ≡ 0 → AreTerms (map (λ p. p.0) pairs)
keys_of_pairs [] h = refl
keys_of_pairs (p ∷ pairs) h =
    let split = sum-cons (faults_of p.0 + faults_of p.1) (map (λ q. faults_of q.0 + faults_of q.1) pairs) in
    let none : sum (map (λ q. faults_of q.0 + faults_of q.1) pairs) ≡ 0 = omega (arith, h, split) in
    let first : IsTerm p.0 = omega (arith, h, split) in
    fits_more p.0 (map (λ q. q.0) pairs) first (keys_of_pairs pairs none)

pub values_of_pairs : (pairs : List (TermTree × TermTree)) → sum (map (λ p. faults_of p.0 + faults_of p.1) pairs) ≡ 0 → AreTerms (map (λ p. p.1) pairs)
values_of_pairs [] h = refl
values_of_pairs (p ∷ pairs) h =
    let split = sum-cons (faults_of p.0 + faults_of p.1) (map (λ q. faults_of q.0 + faults_of q.1) pairs) in
    let none : sum (map (λ q. faults_of q.0 + faults_of q.1) pairs) ≡ 0 = omega (arith, h, split) in
    let first : IsTerm p.1 = omega (arith, h, split) in
    fits_more p.1 (map (λ q. q.1) pairs) first (values_of_pairs pairs none)

pub keys_of_map : (pairs : List (TermTree × TermTree)) → ArePairs pairs → AreTerms (map (λ p. p.0) pairs)
keys_of_map pairs h = keys_of_pairs pairs (omega (arith, h))

pub values_of_map : (pairs : List (TermTree × TermTree)) → ArePairs pairs → AreTerms (map (λ p. p.1) pairs)
values_of_map pairs h = values_of_pairs pairs (omega (arith, h))

-- each of several terms, and each key and value of pairs
pub part_of : (ts : List TermTree) (i : ℕ) (t : TermTree) → AreTerms ts → i < length ts → t ≡ get_or ts i t → IsTerm t
part_of [] i t h within e = absurd (omega arith)
part_of (x ∷ ts) zero t h within e = subst IsTerm (sym e) (fits_front x ts h)
part_of (x ∷ ts) (suc i) t h within e = part_of ts i t (fits_behind x ts h) (omega arith) e

-- the term, the key and the value at a place
pub at_place : (ts : List TermTree) (i : ℕ) (t : TermTree) → AreTerms ts → Some t ≡ slice_get ts i → IsTerm t
at_place [] i t h e = absurd (cc)
at_place (x ∷ ts) zero t h e = let same : x ≡ t = cc in subst IsTerm same (fits_front x ts h)
at_place (x ∷ ts) (suc i) t h e = at_place ts i t (fits_behind x ts h) e

pair_at : (ps : List (TermTree × TermTree)) (i : ℕ) (p : TermTree × TermTree) → sum (map (λ q. faults_of q.0 + faults_of q.1) ps) ≡ 0 → Some p ≡ slice_get ps i → IsTerm p.0 × IsTerm p.1
pair_at [] i p h e = absurd (cc)
pair_at (q ∷ ps) zero p h e =
    let split = sum-cons (faults_of q.0 + faults_of q.1) (map (λ r. faults_of r.0 + faults_of r.1) ps) in
    let same : q ≡ p = cc in subst (λ r. IsTerm r.0 × IsTerm r.1) same (omega (arith, h, split), omega (arith, h, split))
pair_at (q ∷ ps) (suc i) p h e =
    let split = sum-cons (faults_of q.0 + faults_of q.1) (map (λ r. faults_of r.0 + faults_of r.1) ps) in
    let none : sum (map (λ r. faults_of r.0 + faults_of r.1) ps) ≡ 0 = omega (arith, h, split) in pair_at ps i p none e

pub key_at : (ps : List (TermTree × TermTree)) (i : ℕ) (p : TermTree × TermTree) → ArePairs ps → Some p ≡ slice_get ps i → IsTerm p.0
key_at ps i p h e = (pair_at ps i p (omega (arith, h)) e).0

pub value_beside : (ps : List (TermTree × TermTree)) (i : ℕ) (p : TermTree × TermTree) → ArePairs ps → Some p ≡ slice_get ps i → IsTerm p.1
value_beside ps i p h e = (pair_at ps i p (omega (arith, h)) e).1

pub key_of : (pairs : List (TermTree × TermTree)) (i : ℕ) (p : TermTree × TermTree) → ArePairs pairs → i < length pairs → p ≡ get_or pairs i p → IsTerm p.0
key_of pairs i p h within e = go pairs i (keys_of_map pairs h) within e
  where
    go : (ps : List (TermTree × TermTree)) (k : ℕ) → AreTerms (map (λ q. q.0) ps) → k < length ps → p ≡ get_or ps k p → IsTerm p.0
    go [] k fit inside same = absurd (omega arith)
    go (q ∷ ps) zero fit inside same = subst (λ r. IsTerm r.0) (sym same) (fits_front q.0 (map (λ r. r.0) ps) fit)
    go (q ∷ ps) (suc k) fit inside same = go ps k (fits_behind q.0 (map (λ r. r.0) ps) fit) (omega arith) same

pub value_of : (pairs : List (TermTree × TermTree)) (i : ℕ) (p : TermTree × TermTree) → ArePairs pairs → i < length pairs → p ≡ get_or pairs i p → IsTerm p.1
value_of pairs i p h within e = go pairs i (values_of_map pairs h) within e
  where
    go : (ps : List (TermTree × TermTree)) (k : ℕ) → AreTerms (map (λ q. q.1) ps) → k < length ps → p ≡ get_or ps k p → IsTerm p.1
    go [] k fit inside same = absurd (omega arith)
    go (q ∷ ps) zero fit inside same = subst (λ r. IsTerm r.1) (sym same) (fits_front q.1 (map (λ r. r.1) ps) fit)
    go (q ∷ ps) (suc k) fit inside same = go ps k (fits_behind q.1 (map (λ r. r.1) ps) fit) (omega arith) same

pub fits_joined : (xs ys : List TermTree) → AreTerms xs → AreTerms ys → AreTerms (xs ++ ys)
fits_joined xs ys h k = sum-map faults_of (xs ++ ys) ∙ (sum_by-append faults_of xs ys ∙ omega (arith, h, k, sum-map faults_of xs, sum-map faults_of ys))

-- more elements in front of those of a list
pub fits_in_front : (xs ys : List TermTree) (t : TermTree) → AreTerms xs → IsTerm (tree.List ys t) → IsTerm (tree.List (xs ++ ys) t)
fits_in_front [] ys t h k = k
fits_in_front (x ∷ xs) ys t h k =
    fits-List (x ∷ (xs ++ ys)) t (fits_joined (x ∷ xs) ys h (parts_of_list ys t k)) (tail_of_list ys t k) (some ys (ends_list ys t k))
  where
    some : (zs : List TermTree) → IsTrue (is_list_of zs t) → IsTrue (is_list_of (x ∷ (xs ++ zs)) t)
    some [] e = absurd (cc)
    some (z ∷ zs) e = e

pub ruleset terms = (fits-Int, fits-Atom, fits-Bin, fits-Nil, fits-Tuple, fits-List, fits-Map, fits-Closure, fits_proper, fits_one_pair, fits_pushed, fits_front, fits_behind, fits_more)

-- what the parts of a term are, for a caller that takes them
pub ruleset parts = (parts_of_tuple, parts_of_list, tail_of_list, parts_of_closure, pairs_of_map, keys_of_map, values_of_map, part_of, key_of, value_of, at_place, key_at, value_beside)
