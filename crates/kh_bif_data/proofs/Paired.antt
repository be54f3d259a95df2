-- Tuples of two elements as pairs.
use Rattle.std.proofs.Common.{◌≡◌, ℕ, zero, suc, ◌+◌, ◌<◌, List, [], ◌∷◌, ◌++◌, length, get_or, refl, sym, ap, subst, ◌∙◌, arith}
use Rattle.std.specs.Prelude.{Option, Some, None}
use Rattle.kh_term.specs.declared.tree.TermTree.{TermTree}
use Rattle.kh_term.specs.declared.tree.TermTree.TheVariants as tree
use Rattle.kh_term.specs.Lemmas.Fits.{fits_front, parts_of_tuple}
use Rattle.kh_term.specs.WellFormed.{IsTerm, AreTerms}
use Rattle.kh_heap.specs.declared.view.View.{View}
use Rattle.kh_heap.specs.declared.view.View.TheVariants as view
use Rattle.kh_heap.specs.Parts.{parts_in}
use Rattle.kh_heap.specs.View.{IsSeen}
use Rattle.kh_bif_data.specs.Asked.{of_some}
use Rattle.kh_bif_data.specs.Maps.{all_pairs, in_front, pair_in, pair_of}
use Rattle.kh_bif_data.proofs.Asking.{tuple_seen, no_tuple}
use Rattle.kh_bif_data.proofs.Ordered.{Pairs}

-- ---- one tuple

two_parts : (ts : List TermTree) → length ts ≡ 2 → Some (get_or ts 0 tree.Nil, get_or ts 1 tree.Nil) ≡ pair_in ts
two_parts [] e = absurd (omega (arith, e))
two_parts (x ∷ []) e = absurd (omega (arith, e))
two_parts (x ∷ y ∷ []) e = refl
two_parts (x ∷ y ∷ z ∷ ts) e = absurd (omega (arith, e))

other_parts : (ts : List TermTree) → (length ts ≡ 2 → ⊥) → None ≡ pair_in ts
other_parts [] h = refl
other_parts (x ∷ []) h = refl
other_parts (x ∷ y ∷ []) h = absurd (h refl)
other_parts (x ∷ y ∷ z ∷ ts) h = refl

first_fits : (ts : List TermTree) → AreTerms ts → 0 < length ts → IsTerm (get_or ts 0 tree.Nil)
first_fits [] h l = absurd (omega (arith, l))
first_fits (x ∷ xs) h l = fits_front x xs h

module _ (heap : List TermTree) (t : TermTree) (n : ℕ) (seen : IsSeen heap t (view.Tuple n)) where
  by_parts : pair_in (parts_in t) ≡ pair_of t
  by_parts = sym (ap (λ (o : Option (List TermTree)). of_some o None pair_in) (tuple_seen heap t n seen))

  pub pair_seen : (x y : TermTree) → n ≡ 2 → x ≡ get_or (parts_in t) 0 tree.Nil → y ≡ get_or (parts_in t) 1 tree.Nil → Some (x, y) ≡ pair_of t
  pair_seen x y two e f = (λ i. Some (e i, f i)) ∙ two_parts (parts_in t) (seen.1 ∙ two) ∙ by_parts

  pub no_pair : (n ≡ 2 → ⊥) → None ≡ pair_of t
  no_pair h = other_parts (parts_in t) (λ e. h (sym seen.1 ∙ e)) ∙ by_parts

  pub key_fits : (x : TermTree) → IsTerm t → 0 < n → x ≡ get_or (parts_in t) 0 tree.Nil → IsTerm x
  key_fits x fits some e =
      subst IsTerm (sym e) (first_fits (parts_in t) (parts_of_tuple (parts_in t) (subst IsTerm seen.0 fits)) (omega (arith, some, seen.1)))

pub no_tuple_pair : (heap : List TermTree) (t : TermTree) (v : View) → IsSeen heap t v → ((n : ℕ) → v ≡ view.Tuple n → ⊥) → None ≡ pair_of t
no_tuple_pair heap t v s h = sym (ap (λ (o : Option (List TermTree)). of_some o None pair_in) (no_tuple heap t v s h))

-- ---- all tuples

one_pair : (p : Option (TermTree × TermTree)) (q : TermTree × TermTree) (ps : Pairs) → Some [] ≡ Some ps → p ≡ Some q → in_front p (Some []) ≡ Some (ps ++ q ∷ [])
one_pair p q ps e f =
    let none : [] ≡ ps = cc in
    ap (λ o. in_front o (Some [])) f ∙ ap (λ us. Some (us ++ q ∷ [])) none

more_pairs : (p : Option (TermTree × TermTree)) (rest longer : Option Pairs) (q : TermTree × TermTree) (ps : Pairs) → in_front p rest ≡ Some ps
    → ((qs : Pairs) → rest ≡ Some qs → longer ≡ Some (qs ++ q ∷ [])) → in_front p longer ≡ Some (ps ++ q ∷ [])
more_pairs (Some p) (Some qs) longer q ps e h =
    let all : p ∷ qs ≡ ps = cc in
    ap (in_front (Some p)) (h qs refl) ∙ ap (λ us. Some (us ++ q ∷ [])) all
more_pairs (Some p) None longer q ps e h = absurd (cc)
more_pairs None rest longer q ps e h = absurd (cc)

pub all_pushed : (ts : List TermTree) (t : TermTree) (ps : Pairs) (q : TermTree × TermTree) → all_pairs ts ≡ Some ps → pair_of t ≡ Some q → all_pairs (ts ++ t ∷ []) ≡ Some (ps ++ q ∷ [])
all_pushed [] t ps q e f = one_pair (pair_of t) q ps e f
all_pushed (x ∷ xs) t ps q e f = more_pairs (pair_of x) (all_pairs xs) (all_pairs (xs ++ t ∷ [])) q ps e (λ qs g. all_pushed xs t qs q g f)

none_behind : (p : Option (TermTree × TermTree)) (rest : Option Pairs) → rest ≡ None → in_front p rest ≡ None
none_behind (Some p) rest e = ap (in_front (Some p)) e
none_behind None rest e = refl

pub all_none : (ts : List TermTree) (i : ℕ) (d : TermTree) → i < length ts → pair_of (get_or ts i d) ≡ None → all_pairs ts ≡ None
all_none [] i d l e = absurd (omega (arith, l))
all_none (x ∷ xs) zero d l e = ap (λ o. in_front o (all_pairs xs)) e
all_none (x ∷ xs) (suc i) d l e = none_behind (pair_of x) (all_pairs xs) (all_none xs i d (omega (arith, l)) e)

short : (p : Option (TermTree × TermTree)) (rest : Option Pairs) (ps : Pairs) (n : ℕ) → in_front p rest ≡ Some ps → ((qs : Pairs) → rest ≡ Some qs → length qs ≡ n) → length ps ≡ suc n
short (Some p) (Some qs) ps n e h =
    let all : p ∷ qs ≡ ps = cc in
    omega (arith, ap length all, h qs refl)
short (Some p) None ps n e h = absurd (cc)
short None rest ps n e h = absurd (cc)

-- as many pairs as tuples
pub all_length : (ts : List TermTree) (ps : Pairs) → all_pairs ts ≡ Some ps → length ps ≡ length ts
all_length [] ps e =
    let none : [] ≡ ps = cc in
    sym (ap length none)
all_length (t ∷ ts) ps e = short (pair_of t) (all_pairs ts) ps (length ts) e (λ qs f. all_length ts qs f)
