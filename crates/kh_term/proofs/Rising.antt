-- Keys that rise.
use Rattle.std.proofs.Common.{◌≡◌, ◌<◌, ◌≤◌, ℕ, zero, suc, ◌+◌, ◌-◌, true, IsTrue, if◌then◌else◌, List, [], ◌∷◌, ◌++◌, length, map, slice_get, get_or, Some, None, refl, ap, sym, ◌∙◌, arith}
use Rattle.std.specs.declared.cmp.Ordering.{Ordering}
use Rattle.std.specs.declared.cmp.Ordering.TheVariants.{Less, Equal, Greater}
use Rattle.std.specs.Cmp.{alike_right}
use Rattle.std.specs.List.Sorted.{IsNonDecreasingBy}
use Rattle.std.specs.Ordering.{is_lt, is_eq, ordering_index}
use Rattle.std.proofs.lemmas.Bool.{and_from, and_parts}
use Rattle.kh_term.specs.declared.tree.TermTree.{TermTree}
use Rattle.kh_term.specs.Order.{term_cmp}
use Rattle.kh_term.specs.Lookup.{rises_after, value_at}
use Rattle.kh_term.specs.WellFormed.{IsTerm, AreTerms, ArePairs, keys_rise, faults_of}
use Rattle.kh_term.specs.Lemmas.Fits.{no_fault, sum-pushed, keys_rise_in, fits_front, fits_behind}
use Rattle.kh_term.specs.Lemmas.Total.{terms_total}

-- what the last pair says
pub after_last : (ps : List (TermTree × TermTree)) (key : TermTree) (p : TermTree × TermTree) → slice_get ps (length ps - 1) ≡ Some p → rises_after ps key ≡ is_lt (term_cmp p.0 key)
after_last [] key p e = absurd (cc)
after_last (q ∷ []) key p e = let same : q ≡ p = cc in ap (λ r. is_lt (term_cmp r.0 key)) same
after_last (q ∷ r ∷ ps) key p e =
    let next : suc (length (r ∷ ps) - 1) ≡ length (q ∷ r ∷ ps) - 1 = omega arith in
    after_last (r ∷ ps) key p (ap (slice_get (q ∷ r ∷ ps)) next ∙ e)

pub after_none : (ps : List (TermTree × TermTree)) (key : TermTree) → slice_get ps (length ps - 1) ≡ None → rises_after ps key ≡ true
after_none [] key e = refl
after_none (q ∷ []) key e = absurd (cc)
after_none (q ∷ r ∷ ps) key e =
    let next : suc (length (r ∷ ps) - 1) ≡ length (q ∷ r ∷ ps) - 1 = omega arith in
    after_none (r ∷ ps) key (ap (slice_get (q ∷ r ∷ ps)) next ∙ e)

pub ruleset lasts = (after_last, after_none)

rises_pushed : (ps : List (TermTree × TermTree)) (key value : TermTree) → IsTrue (keys_rise (map (λ p. p.0) ps)) → IsTrue (rises_after ps key) → IsTrue (keys_rise (map (λ p. p.0) (ps ++ (key, value) ∷ [])))
rises_pushed [] key value h r = refl
rises_pushed (p ∷ []) key value h r = and_from _ _ r refl
rises_pushed (p ∷ q ∷ ps) key value h r =
    let both = and_parts _ _ h in and_from _ _ both.0 (rises_pushed (q ∷ ps) key value both.1 r)

pub pairs_pushed : (ps : List (TermTree × TermTree)) (key value : TermTree) → ArePairs ps → IsTerm key → IsTerm value → IsTrue (rises_after ps key) → ArePairs (ps ++ (key, value) ∷ [])
pairs_pushed ps key value h k v r =
    omega (arith, h, k, v, no_fault _ (rises_pushed ps key value (keys_rise_in ps h) r), sum-pushed (λ p. faults_of p.0 + faults_of p.1) ps (key, value))

-- ---- the order of three terms

below : (a b c : TermTree) → IsTerm a → IsTerm b → IsTerm c → term_cmp a b ≡ Less → term_cmp b c ≡ Less → term_cmp a c ≡ Less
below a b c ha hb hc = terms_total.trans record { node = a; fits = ha } record { node = b; fits = hb } record { node = c; fits = hc }

below_same : (a b c : TermTree) → IsTerm a → IsTerm b → IsTerm c → term_cmp a b ≡ Less → term_cmp b c ≡ Equal → term_cmp a c ≡ Less
below_same a b c ha hb hc e f = sym (alike_right terms_total record { node = b; fits = hb } record { node = c; fits = hc } record { node = a; fits = ha } f) ∙ e

-- What isn't below a key is followed by greater ones.
follows : (k l key : TermTree) → IsTerm k → IsTerm l → IsTerm key → term_cmp k l ≡ Less → (term_cmp k key ≡ Less → ⊥) → term_cmp l key ≡ Greater
follows k l key hk hl h e apart = go (term_cmp l key) refl
  where
    go : (o : Ordering) → term_cmp l key ≡ o → o ≡ Greater
    go Less f = absurd (apart (below k l key hk hl h e f))
    go Equal f = absurd (apart (below_same k l key hk hl h e f))
    go Greater f = refl

less_of : (o : Ordering) → is_lt o ≡ true → o ≡ Less
less_of Less e = refl
less_of Equal e = absurd (cc)
less_of Greater e = absurd (cc)

not_less : (o : Ordering) → o ≡ Greater → o ≡ Less → ⊥
not_less o e f = cc

rise_behind : (k : TermTree) (ks : List TermTree) → IsTrue (keys_rise (k ∷ ks)) → IsTrue (keys_rise ks)
rise_behind k [] h = refl
rise_behind k (l ∷ ks) h = (and_parts _ _ h).1

-- the keys behind one that isn't below a key are greater
greater_behind : (p : TermTree × TermTree) (ps : List (TermTree × TermTree)) (key : TermTree) → IsTrue (keys_rise (map (λ q. q.0) (p ∷ ps))) → AreTerms (map (λ q. q.0) (p ∷ ps)) → IsTerm key → (term_cmp p.0 key ≡ Less → ⊥) → (i : ℕ) (d : TermTree × TermTree) → i < length ps → term_cmp (get_or ps i d).0 key ≡ Greater
greater_behind p [] key h t k apart i d within = absurd (omega arith)
greater_behind p (q ∷ ps) key h t k apart i d within =
    let both = and_parts _ _ h in
    let behind : AreTerms (map (λ r. r.0) (q ∷ ps)) = fits_behind p.0 (map (λ r. r.0) (q ∷ ps)) t in
    let first : term_cmp q.0 key ≡ Greater = follows p.0 q.0 key (fits_front p.0 (map (λ r. r.0) (q ∷ ps)) t) (fits_front q.0 (map (λ r. r.0) ps) behind) k (less_of _ both.0) apart in
    at_or_behind i first within (λ j inside. greater_behind q ps key both.1 behind k (λ e. not_less _ first e) j d inside)
  where
    at_or_behind : (i : ℕ) → term_cmp q.0 key ≡ Greater → i < length (q ∷ ps) → ((j : ℕ) → j < length ps → term_cmp (get_or ps j d).0 key ≡ Greater) → term_cmp (get_or (q ∷ ps) i d).0 key ≡ Greater
    at_or_behind zero first within later = first
    at_or_behind (suc j) first within later = later j (omega arith)

index_most : (o : Ordering) → ordering_index o ≤ 2
index_most Less = omega arith
index_most Equal = omega arith
index_most Greater = omega arith

-- the answers rise
pub answers_rise : (ps : List (TermTree × TermTree)) (key : TermTree) → IsTrue (keys_rise (map (λ q. q.0) ps)) → AreTerms (map (λ q. q.0) ps) → IsTerm key → IsNonDecreasingBy (λ p. ordering_index (term_cmp p.0 key)) ps
answers_rise [] key h t k i j d le within = absurd (omega arith)
answers_rise (p ∷ ps) key h t k zero zero d le within = omega arith
answers_rise (p ∷ ps) key h t k zero (suc j) d le within = go (term_cmp p.0 key) refl
  where
    go : (o : Ordering) → term_cmp p.0 key ≡ o → ordering_index o ≤ ordering_index (term_cmp (get_or ps j d).0 key)
    go Less e = omega arith
    go Equal e = omega (arith, ap ordering_index (greater_behind p ps key h t k (λ f. cc) j d (omega arith)))
    go Greater e = omega (arith, ap ordering_index (greater_behind p ps key h t k (λ f. cc) j d (omega arith)))
answers_rise (p ∷ ps) key h t k (suc i) zero d le within = absurd (omega arith)
answers_rise (p ∷ ps) key h t k (suc i) (suc j) d le within =
    answers_rise ps key (rise_behind p.0 (map (λ q. q.0) ps) h) (fits_behind p.0 (map (λ q. q.0) ps) t) k i j d (omega arith) (omega arith)

-- ---- look-ups

-- the value beside the key at a place
pub value_found : (ps : List (TermTree × TermTree)) (key : TermTree) (i : ℕ) (d : TermTree × TermTree) → IsTrue (keys_rise (map (λ q. q.0) ps)) → AreTerms (map (λ q. q.0) ps) → IsTerm key → i < length ps → term_cmp (get_or ps i d).0 key ≡ Equal → Some (get_or ps i d).1 ≡ value_at key ps
value_found [] key i d h t k within e = absurd (omega arith)
value_found (p ∷ ps) key zero d h t k within e = ap (λ o. if is_eq o then Some p.1 else value_at key ps) (sym e)
value_found (p ∷ ps) key (suc i) d h t k within e =
    go (term_cmp p.0 key) refl (value_found ps key i d (rise_behind p.0 (map (λ q. q.0) ps) h) (fits_behind p.0 (map (λ q. q.0) ps) t) k (omega arith) e)
  where
    go : (o : Ordering) → term_cmp p.0 key ≡ o → Some (get_or ps i d).1 ≡ value_at key ps → Some (get_or ps i d).1 ≡ (if is_eq o then Some p.1 else value_at key ps)
    go Less f later = later
    go Equal f later = absurd (clash (greater_behind p ps key h t k (λ g. cc) i d (omega arith)))
      where
        clash : term_cmp (get_or ps i d).0 key ≡ Greater → ⊥
        clash g = cc
    go Greater f later = later

-- no value where no key is the key
pub value_missing : (ps : List (TermTree × TermTree)) (key : TermTree) → ((i : ℕ) (d : TermTree × TermTree) → i < length ps → term_cmp (get_or ps i d).0 key ≡ Equal → ⊥) → None ≡ value_at key ps
value_missing [] key apart = refl
value_missing (p ∷ ps) key apart = go (term_cmp p.0 key) refl (value_missing ps key (λ i d within. apart (suc i) d (omega arith)))
  where
    go : (o : Ordering) → term_cmp p.0 key ≡ o → None ≡ value_at key ps → None ≡ (if is_eq o then Some p.1 else value_at key ps)
    go Less f later = later
    go Equal f later = absurd (apart zero p (omega arith) f)
    go Greater f later = later
