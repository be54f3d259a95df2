-- Marks of slots against catches, under each change of a frame.
use Rattle.std.proofs.Common.{◌≡◌, ℕ, zero, suc, ◌+◌, ◌-◌, ◌<◌, ◌≤◌, ◌==◌, ◌||◌, Bool, true, false, cond, List, [], ◌∷◌, ◌++◌, length, take, drop, map, replicate, refl, sym, ◌∙◌, ap, arith, slice_set, slice_get, Option, Some, None}
use Rattle.std.specs.List.{list_any}
use Rattle.std.proofs.lemmas.Bool.Decides.{nat_tests}
use Rattle.std.proofs.lemmas.Grind.{common_steps}
use Rattle.kh_frames.specs.Frame.{is_marked, is_mark, is_free, lowered}
use Rattle.kh_frames.specs.Valid.{mark_at, catches_of}
use Rattle.kh_frames.specs.declared.state.Slot.{Slot}
use Rattle.kh_frames.specs.declared.state.Slot.TheVariants.{Absent, Holds, Marked}

differ : (j : ℕ) → (0 == suc j) ≡ false
differ j = grind (arith, nat_tests)

differ' : (i : ℕ) → (suc i == 0) ≡ false
differ' i = grind (arith, nat_tests)

alike : (i j : ℕ) → (i == j) ≡ (suc i == suc j)
alike i j = grind (arith, nat_tests)

same : (i : ℕ) → (i == i) ≡ true
same i = grind (arith, nat_tests)

or_false : (b : Bool) → (b || false) ≡ b
or_false true = refl
or_false false = refl

or_assoc : (a b c : Bool) → (a || (b || c)) ≡ ((a || b) || c)
or_assoc true b c = refl
or_assoc false b c = refl

or_more : (a b c : Bool) → (a || b) ≡ true → (b ≡ true → c ≡ true) → (a || c) ≡ true
or_more true b c h more = refl
or_more false b c h more = more h

or_true : (b : Bool) → (b || true) ≡ true
or_true true = refl
or_true false = refl

pub counts_itself : (i : ℕ) → cond {A = ℕ} (i == i) 1 0 ≡ 1
counts_itself i = ap (λ b. cond b 1 0) (same i)

-- a frame of n absent slots
abbrev pub new_slots : {V : Type 0} → ℕ → List (Slot V)
new_slots n = replicate n Absent

-- none of them is marked
pub mark_of_new : (V : Type 0) (n j : ℕ) → mark_at (slice_get (new_slots {V = V} n) j) ≡ 0
mark_of_new V zero j = refl
mark_of_new V (suc n) zero = refl
mark_of_new V (suc n) (suc j) = mark_of_new V n j

module _ {V : Type 0} where
  -- a mark counts once
  pub mark_at_most : (s : Option (Slot V)) → mark_at s ≤ 1
  mark_at_most None = omega arith
  mark_at_most (Some Absent) = omega arith
  mark_at_most (Some (Holds v)) = omega arith
  mark_at_most (Some Marked) = omega arith

  -- a free slot has no mark
  pub free_unmarked : (s : Option (Slot V)) → is_free s ≡ true → mark_at s ≡ 0
  free_unmarked None h = refl
  free_unmarked (Some Absent) h = refl
  free_unmarked (Some (Holds v)) h = refl
  free_unmarked (Some Marked) h = cc

  pub free_within : (ss : List (Slot V)) (i : ℕ) → is_free (slice_get ss i) ≡ true → i < length ss
  free_within [] i h = absurd cc
  free_within (s ∷ ss) zero h = omega arith
  free_within (s ∷ ss) (suc i) h = let below : i < length ss = free_within ss i h in omega arith

  -- the marks after slot i is set
  pub mark_of_set : (ss : List (Slot V)) (i j : ℕ) (s : Slot V) → i < length ss → mark_at (slice_get (slice_set ss i s) j) ≡ cond (i == j) (mark_at (Some s)) (mark_at (slice_get ss j))
  mark_of_set [] i j s h = absurd (omega arith)
  mark_of_set (x ∷ ss) zero zero s h = refl
  mark_of_set (x ∷ ss) zero (suc j) s h = sym (ap (λ b. cond b (mark_at (Some s)) (mark_at (slice_get ss j))) (differ j))
  mark_of_set (x ∷ ss) (suc i) zero s h = sym (ap (λ b. cond b (mark_at (Some s)) (mark_at (Some x))) (differ' i))
  mark_of_set (x ∷ ss) (suc i) (suc j) s h =
      let below : i < length ss = omega arith in
      mark_of_set ss i j s below ∙ ap (λ b. cond b (mark_at (Some s)) (mark_at (slice_get ss j))) (alike i j)

  -- a marked slot is one of the frame's
  pub marked_within : (ss : List (Slot V)) (i : ℕ) → 0 < mark_at (slice_get ss i) → i < length ss
  marked_within [] i h = absurd (omega arith)
  marked_within (s ∷ ss) zero h = omega arith
  marked_within (s ∷ ss) (suc i) h = let below : i < length ss = marked_within ss i h in omega arith

  -- the marks behind the first n slots
  pub mark_of_drop : (n : ℕ) (ss : List (Slot V)) (j : ℕ) → mark_at (slice_get (drop n ss) j) ≡ mark_at (slice_get ss (j + n))
  mark_of_drop zero ss j = ap (λ k. mark_at (slice_get ss k)) (let e : j ≡ j + 0 = omega arith in e)
  mark_of_drop (suc n) [] j = refl
  mark_of_drop (suc n) (s ∷ ss) j = mark_of_drop n ss j ∙ ap (λ k. mark_at (slice_get (s ∷ ss) k)) (let e : suc (j + n) ≡ j + suc n = omega arith in e)

  marks_next : (ss : List (Slot V)) (i : ℕ) → list_any is_marked (take (suc i) ss) ≡ (list_any is_marked (take i ss) || is_mark (slice_get ss i))
  marks_next [] zero = refl
  marks_next [] (suc i) = refl
  marks_next (s ∷ ss) zero = or_false (is_marked s)
  marks_next (s ∷ ss) (suc i) = ap (λ b. is_marked s || b) (marks_next ss i) ∙ or_assoc (is_marked s) (list_any is_marked (take i ss)) (is_mark (slice_get ss i))

  -- one slot more is looked at
  pub marks_more : (ss : List (Slot V)) (i : ℕ) → list_any is_marked (take (i + 1) ss) ≡ (list_any is_marked (take i ss) || is_mark (slice_get ss i))
  marks_more ss i = ap (λ k. list_any is_marked (take k ss)) (let e : i + 1 ≡ suc i = omega arith in e) ∙ marks_next ss i

  -- none of more is marked where none is
  marked_before : (ss : List (Slot V)) (i n : ℕ) → i ≤ n → list_any is_marked (take i ss) ≡ true → list_any is_marked (take n ss) ≡ true
  marked_before ss zero n h found = absurd cc
  marked_before ss (suc i) zero h found = absurd (omega arith)
  marked_before [] (suc i) (suc n) h found = absurd cc
  marked_before (s ∷ ss) (suc i) (suc n) h found = or_more (is_marked s) (list_any is_marked (take i ss)) (list_any is_marked (take n ss)) found (marked_before ss i n (omega arith))

  -- a mark among the first n slots is found
  pub found_mark : (n : ℕ) (ss : List (Slot V)) (i : ℕ) → is_mark (slice_get ss i) ≡ true → i < n → list_any is_marked (take n ss) ≡ true
  found_mark n ss i h below =
      let here : list_any is_marked (take (i + 1) ss) ≡ true = marks_more ss i ∙ ap (λ b. list_any is_marked (take i ss) || b) h ∙ or_true (list_any is_marked (take i ss)) in
      marked_before ss (i + 1) n (omega arith) here

  -- where none of the first n slots is marked
  pub none_marked : (n : ℕ) (ss : List (Slot V)) → list_any is_marked (take n ss) ≡ false → (i : ℕ) → i < n → mark_at (slice_get ss i) ≡ 0
  none_marked zero ss h i below = absurd (omega arith)
  none_marked (suc n) [] h i below = refl
  none_marked (suc n) (Marked ∷ ss) h i below = cc
  none_marked (suc n) (Absent ∷ ss) h zero below = refl
  none_marked (suc n) (Holds v ∷ ss) h zero below = refl
  none_marked (suc n) (Absent ∷ ss) h (suc i) below = none_marked n ss h i (omega arith)
  none_marked (suc n) (Holds v ∷ ss) h (suc i) below = none_marked n ss h i (omega arith)

module _ {P : Type 0} where
  -- a call without marks has no catch
  pub no_catch : (cs : List (ℕ × P)) → ((i : ℕ) → catches_of cs i ≡ 0) → cs ≡ []
  no_catch [] h = refl
  no_catch (c ∷ cs) h = let here = counts_itself c.0 in let none = h c.0 in absurd (omega (arith, none, here))

  -- a catch of a slot that has none isn't there
  lowest : (n : ℕ) (c : ℕ × P) (cs : List (ℕ × P)) → (c.0 < n → catches_of (c ∷ cs) c.0 ≡ 0) → n ≤ c.0
  lowest n c cs h = let here = counts_itself c.0 in grind (arith, h, here)

  -- catches that are lowered, where none marks one of the first n slots
  pub lowered_catches : (n : ℕ) (cs : List (ℕ × P)) → ((i : ℕ) → i < n → catches_of cs i ≡ 0) → (j : ℕ) → catches_of (lowered n cs) j ≡ catches_of cs (j + n)
  lowered_catches n [] h j = refl
  lowered_catches n (c ∷ cs) h j =
      let rest : catches_of (lowered n cs) j ≡ catches_of cs (j + n) = lowered_catches n cs (λ i below. let e : catches_of (c ∷ cs) i ≡ 0 = h i below in omega arith) j in
      let above : n ≤ c.0 = lowest n c cs (h c.0) in
      let here : cond (c.0 - n == j) 1 0 ≡ cond (c.0 == j + n) 1 0 = grind (arith, nat_tests) in
      ap (λ k. k + catches_of (lowered n cs) j) here ∙ ap (λ k. cond (c.0 == j + n) 1 0 + k) rest

-- one entry of a count by slots set where it was 0, raised to 1, and lowered to 0
module _ (m : ℕ → ℕ) (i j : ℕ) where
  pub set_at_0 : (a : ℕ) → a ≡ 0 → m i ≡ 0 → cond (i == j) a (m j) ≡ m j
  set_at_0 a e h = grind (arith, nat_tests, e, h)

  pub raised_to_1 : m i ≡ 0 → cond {A = ℕ} (i == j) 1 0 + m j ≡ cond {A = ℕ} (i == j) 1 (m j)
  raised_to_1 h = grind (arith, nat_tests, h)

pub lowered_to_0 : (c m : ℕ → ℕ) (i : ℕ) → ((j : ℕ) → cond {A = ℕ} (i == j) 1 0 + c j ≡ m j) → m i ≤ 1 → (j : ℕ) → c j ≡ cond {A = ℕ} (i == j) 0 (m j)
lowered_to_0 c m i h most j = let here = h i in let one = counts_itself i in let there = h j in grind (arith, nat_tests, here, one, there, most)
