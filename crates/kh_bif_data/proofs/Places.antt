-- Places that are counted from 1, and what stands there.
use Rattle.std.proofs.Common.{◌≡◌, ℕ, zero, suc, ◌+◌, ◌-◌, ◌<◌, ◌≤◌, Bool, true, false, nat_lt, List, length, get_or, refl, sym, ap, ◌∙◌, ℤ, pos, negsuc, arith}
use Rattle.std.specs.Prelude.{Option, Some, None, slice_get, unsigned_abs, if◌then◌else◌, ◌<ℤ◌, ◌≤ℤ◌}
use Rattle.std.proofs.lemmas.Bool.{ltb-true}
use Rattle.std.proofs.lemmas.Int.{ints}
use Rattle.std.proofs.lemmas.Option.{slice_get-get_or, slice_get_past}
use borrow.Author.Tests.{lt-ltb}
use Rattle.kh_term.specs.declared.tree.TermTree.{TermTree}
use Rattle.kh_term.specs.declared.tree.TermTree.TheVariants as tree
use Rattle.kh_heap.specs.declared.view.View.{View}
use Rattle.kh_heap.specs.declared.view.View.TheVariants as view
use Rattle.kh_heap.specs.Parts.{parts_in}
use Rattle.kh_heap.specs.View.{IsSeen}
use Rattle.kh_bif_data.specs.Asked.{of_some}
use Rattle.kh_bif_data.specs.Lists.{from_zero, has_at, is_term}
use Rattle.kh_bif_data.specs.Tuples.{place_in}
use Rattle.kh_bif_data.proofs.Asking.{tuple_seen, no_tuple}

-- ---- counted from 1

none_from : (n count : ℕ) (b : Bool) → nat_lt n count ≡ b → count ≤ n → None ≡ (if b then Some n else None)
none_from n count true e h = absurd (omega (arith, ltb-true n count e))
none_from n count false e h = refl

pub place_below : (z : ℤ) (count : ℕ) → z <ℤ pos 1 → None ≡ place_in z count
place_below (pos zero) count h = refl
place_below (pos (suc n)) count h = absurd (omega (arith, ints))
place_below (negsuc n) count h = refl

pub place_above : (z : ℤ) (count : ℕ) → pos count <ℤ z → None ≡ place_in z count
place_above (pos zero) count h = refl
place_above (pos (suc n)) count h = none_from n count (nat_lt n count) refl (omega (arith, ints))
place_above (negsuc n) count h = refl

pub place_within : (z : ℤ) (count r : ℕ) → z ≤ℤ pos count → z ≡ pos (r + 1) → Some r ≡ place_in z count
place_within (pos zero) count r h e = absurd (omega (arith, ints))
place_within (pos (suc n)) count r h e =
    let same : r ≡ n = omega (arith, ints) in
    let s : nat_lt n count ≡ true = lt-ltb n count (omega (arith, ints)) in
    ap (λ (k : ℕ). Some k) same ∙ sym (ap (λ (b : Bool). if b then Some n else None) s)
place_within (negsuc n) count r h e = absurd (omega (arith, ints))

one_of : (n count r : ℕ) (b : Bool) → nat_lt n count ≡ b → (if b then Some n else None) ≡ Some r → r < count
one_of n count r true e f =
    let same : n ≡ r = cc in
    omega (arith, same, ltb-true n count e)
one_of n count r false e f = absurd (cc)

-- a place is one of so many
pub place_one_of : (z : ℤ) (count r : ℕ) → place_in z count ≡ Some r → r < count
place_one_of (pos zero) count r e = absurd (cc)
place_one_of (pos (suc n)) count r e = one_of n count r (nat_lt n count) refl e
place_one_of (negsuc n) count r e = absurd (cc)

pub zero_below : (z : ℤ) → z <ℤ pos 1 → None ≡ from_zero z
zero_below (pos zero) h = refl
zero_below (pos (suc n)) h = absurd (omega (arith, ints))
zero_below (negsuc n) h = refl

pub zero_above : (z : ℤ) (k r : ℕ) → pos 1 ≤ℤ z → k ≡ unsigned_abs z → r + 1 ≡ k → Some r ≡ from_zero z
zero_above (pos zero) k r h e f = absurd (omega (arith, ints))
zero_above (pos (suc n)) k r h e f =
    let same : r ≡ n = omega (arith, e, f) in
    ap (λ (i : ℕ). Some i) same
zero_above (negsuc n) k r h e f = absurd (omega (arith, ints))

-- ---- what stands at a place of a tuple

module _ (heap : List TermTree) (key t : TermTree) (place : ℕ) where
  stands : (n : ℕ) → IsSeen heap t (view.Tuple n) → has_at key place t ≡ of_some (slice_get (parts_in t) place) false (is_term key)
  stands n s = ap (λ (o : Option (List TermTree)). of_some o false (λ ts. of_some (slice_get ts place) false (is_term key))) (tuple_seen heap t n s)

  pub has_there : (n : ℕ) (x : TermTree) → IsSeen heap t (view.Tuple n) → place < length (parts_in t) → x ≡ get_or (parts_in t) place tree.Nil → is_term key x ≡ has_at key place t
  has_there n x s within e =
      ap (is_term key) e
      ∙ sym (stands n s ∙ ap (λ (o : Option TermTree). of_some o false (is_term key)) (slice_get-get_or (parts_in t) place tree.Nil within))

  pub has_past : (n : ℕ) → IsSeen heap t (view.Tuple n) → length (parts_in t) ≤ place → false ≡ has_at key place t
  has_past n s past = sym (stands n s ∙ ap (λ (o : Option TermTree). of_some o false (is_term key)) (slice_get_past (parts_in t) place past))

  pub has_none : (v : View) → IsSeen heap t v → ((n : ℕ) → v ≡ view.Tuple n → ⊥) → false ≡ has_at key place t
  has_none v s h = sym (ap (λ (o : Option (List TermTree)). of_some o false (λ ts. of_some (slice_get ts place) false (is_term key))) (no_tuple heap t v s h))
