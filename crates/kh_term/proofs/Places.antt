-- Where keys stand among pairs.
use borrow.Author.Tests.{ltb-true, ltb-false}
use Rattle.std.proofs.Common.{Bool, true, false, nat_lt, IsTrue, OnOk, OnErr, ◌++◌, ◌≡◌, ◌<◌, ℕ, zero, suc, List, [], ◌∷◌, length, map, get_or, Some, None, Result, Ok, Err, refl, ap, sym, ◌∙◌, subst, arith}
use Rattle.std.specs.declared.cmp.Ordering.{Ordering}
use Rattle.std.specs.declared.cmp.Ordering.TheVariants.{Less, Equal, Greater}
use Rattle.std.specs.Cmp.{tied_itself}
use Rattle.std.specs.List.Sorted.{IsBinarySearchResult, IsSearchInRange, IsPartitionPoint}
use Rattle.kh_term.specs.declared.term.Term.{Term}
use Rattle.kh_term.specs.declared.tree.TermTree.{TermTree}
use Rattle.kh_term.specs.Lookup.{IsPlaceOf, value_at, rises_after}
use Rattle.kh_term.specs.Order.{term_cmp}
use Rattle.kh_term.specs.WellFormed.{IsTerm, AreTerms, ArePairs}
use Rattle.kh_term.specs.Lemmas.Fits.{fits_front, fits_behind, keys_of_map, keys_rise_in}
use Rattle.kh_term.proofs.Rising.{pairs_pushed, answers_rise, value_found, value_missing}
use Rattle.kh_term.specs.Lemmas.Total.{terms_total}
use Rattle.kh_term.proofs.Same.{same}

-- each part of each pair is a term
key_at : (ps : List (TermTree × TermTree)) (i : ℕ) (d : TermTree × TermTree) → AreTerms (map (λ p. p.0) ps) → i < length ps → IsTerm (get_or ps i d).0
key_at [] i d h within = absurd (omega arith)
key_at (p ∷ ps) zero d h within = fits_front p.0 (map (λ q. q.0) ps) h
key_at (p ∷ ps) (suc i) d h within = key_at ps i d (fits_behind p.0 (map (λ q. q.0) ps) h) (omega arith)

pub value_fits : (ps : List (TermTree × TermTree)) (i : ℕ) (d : TermTree × TermTree) → AreTerms (map (λ p. p.1) ps) → i < length ps → IsTerm (get_or ps i d).1
value_fits [] i d h within = absurd (omega arith)
value_fits (p ∷ ps) zero d h within = fits_front p.1 (map (λ q. q.1) ps) h
value_fits (p ∷ ps) (suc i) d h within = value_fits ps i d (fits_behind p.1 (map (λ q. q.1) ps) h) (omega arith)

pub searched : (ps : List (TermTree × TermTree)) (key : Term) (r : Result ℕ ℕ) → ArePairs ps → IsSearchInRange r (length ps) → IsBinarySearchResult (λ p. term_cmp p.0 key.node) ps r → IsPlaceOf key.node ps r
searched ps key (Ok at) h within found =
    (within, λ d. same (get_or ps at d).0 key.node (key_at ps at d (keys_of_map ps h) within) key.fits (found d))
searched ps key (Err at) h within found =
    (within, found (answers_rise ps key.node (keys_rise_in ps h) (keys_of_map ps h) key.fits))

pub value_is : (ps : List (TermTree × TermTree)) (key : Term) (at : ℕ) (d : TermTree × TermTree) → ArePairs ps → at < length ps → (get_or ps at d).0 ≡ key.node → Some (get_or ps at d).1 ≡ value_at key.node ps
value_is ps key at d h within e =
    value_found ps key.node at d (keys_rise_in ps h) (keys_of_map ps h) key.fits within (ap (λ k. term_cmp k key.node) e ∙ tied_itself terms_total key)

clash_less : {o : Ordering} → o ≡ Less → o ≡ Equal → ⊥
clash_less e f = cc

clash_greater : {o : Ordering} → o ≡ Greater → o ≡ Equal → ⊥
clash_greater e f = cc

pub no_value : (ps : List (TermTree × TermTree)) (key : TermTree) (at : ℕ) → IsPartitionPoint (λ p. term_cmp p.0 key ≡ Less) (λ p. term_cmp p.0 key ≡ Greater) ps at → None ≡ value_at key ps
no_value ps key at parted = value_missing ps key apart
  where
    apart : (i : ℕ) (d : TermTree × TermTree) → i < length ps → term_cmp (get_or ps i d).0 key ≡ Equal → ⊥
    apart i d within e = at_or_behind (nat_lt i at) refl
      where
        at_or_behind : (b : Bool) → nat_lt i at ≡ b → ⊥
        at_or_behind true f = clash_less (parted.0 i d (omega arith) (ltb-true i at f)) e
        at_or_behind false f = clash_greater (parted.1 i d (ltb-false i at f) within) e

-- the pairs after a push, whether or not there was memory
pub pushed_or_not : {A E : Type 0} (r : Result A E) (new old : List (TermTree × TermTree)) (key value : Term) → ArePairs old → IsTrue (rises_after old key.node) → OnOk r (new ≡ old ++ (key.node, value.node) ∷ []) → OnErr r (new ≡ old) → ArePairs new
pushed_or_not (Ok x) new old key value h rises e f = subst ArePairs (sym e) (pairs_pushed old key.node value.node h key.fits value.fits rises)
pushed_or_not (Err x) new old key value h rises e f = subst ArePairs (sym f) h
