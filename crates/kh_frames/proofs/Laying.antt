-- The rules of calls on their stacks.
use Rattle.std.proofs.Common.{◌≡◌, ℕ, zero, suc, ◌+◌, ◌-◌, ◌<◌, ◌≤◌, ◌==◌, ◌||◌, ◌&&◌, not, Bool, true, false, cond, List, [], ◌∷◌, ◌++◌, length, take, drop, map, replicate, refl, sym, subst, ◌∙◌, ap, arith, slice_set, slice_get, Option, Some, None, is_some, nat_le, nat_lt, ◌⊎◌, inl, inr}
use Rattle.std.proofs.lemmas.Bool.{cases_lt}
use Rattle.std.proofs.lemmas.List.{length-take-le, length-drop, length-take, length-map, length-set, length-append, length-replicate, drop-set-lt, drop-take}
use Rattle.std.specs.List.{list_any}
use Rattle.std.proofs.lemmas.Bool.Decides.{nat_tests}
use Rattle.std.proofs.lemmas.Grind.{common_steps}
use Rattle.kh_frames.specs.State.{Call, Calls}
use Rattle.kh_frames.specs.Frame.{slots, with_slot, is_free, is_marked, lowered, newest_slot, is_empty, has_slots}
use Rattle.kh_frames.specs.Rules.{Answer, becomes, within, if_so, filled, caught, trimmed, taken, taken_of, unless_taken, goes_on, slots_of_all, has_room, slot_of, running_with, allocated, unwound}
use Rattle.kh_frames.specs.Answers.{Led}
use Rattle.kh_frames.specs.Valid.{mark_at, catches_of, IsTied, AreTied, IsWithin}
use Rattle.kh_frames.specs.Stored.{size, frame_on, catch_at, call_on, slots_below, marks_below, calls_on, calls_of, IsLaid, Fits}
use Rattle.kh_frames.proofs.Reversed.{dropped}
use Rattle.kh_frames.proofs.Marks.{new_slots, counts_itself, set_at_0, raised_to_1, lowered_to_0, free_unmarked, free_within, mark_of_set, mark_of_new, mark_at_most, marked_within, mark_of_drop, none_marked, no_catch, lowered_catches}
use Rattle.kh_frames.specs.declared.state.Slot.{Slot}
use Rattle.kh_frames.specs.declared.state.Slot.TheVariants.{Absent, Holds, Marked}
use Rattle.kh_frames.specs.declared.state.Place.{Place}
use Rattle.kh_frames.specs.declared.state.Extent.{Extent}
use Rattle.kh_frames.specs.declared.state.Mark.{Mark}
use Rattle.kh_frames.specs.declared.state.Waiting.{Waiting}
use Rattle.kh_heap.specs.declared.reference.Ref.{Ref}

abbrev Slots : Type 0
Slots = List (Slot Ref)

abbrev absent : Slot Ref
absent = Absent

-- the slots of a frame are as many as its size
pub frame_size : (f : Option ℕ) (ss : Slots) → size f ≤ length ss → length (slots (frame_on f ss)) ≡ size f
frame_size None ss h = refl
frame_size (Some n) ss h = length-take-le n ss h

-- waiting calls take up all that is below
laid_slots : (ws : List Waiting) (ss : Slots) (ms : List Mark) → IsLaid ws ss ms → slots_of_all (calls_on ws ss ms) ≡ length ss
laid_slots [] ss ms h = sym h.0
laid_slots (w ∷ ws) ss ms h =
    let top = frame_size w.extent.frame ss h.0 in
    let rest = laid_slots ws (slots_below w.extent ss) (marks_below w.extent ms) h.2 in
    let left = length-drop (size w.extent.frame) ss in
    omega (arith, top, rest, left)

waiting_count : (ws : List Waiting) (ss : Slots) (ms : List Mark) → length (calls_on ws ss ms) ≡ length ws
waiting_count [] ss ms = refl
waiting_count (w ∷ ws) ss ms = ap suc (waiting_count ws (slots_below w.extent ss) (marks_below w.extent ms))

module _ (e : Extent) (ws : List Waiting) (ss : Slots) (ms : List Mark) (fits : Fits e ws ss ms) where
  -- the slots of all frames, and the calls that wait
  all_slots : length (slots (frame_on e.frame ss)) + slots_of_all (calls_on ws (slots_below e ss) (marks_below e ms)) + length (calls_on ws (slots_below e ss) (marks_below e ms)) ≡ length ss + length ws
  all_slots =
      let top = frame_size e.frame ss fits.frame in
      let rest = laid_slots ws (slots_below e ss) (marks_below e ms) fits.laid in
      let left = length-drop (size e.frame) ss in
      let count = waiting_count ws (slots_below e ss) (marks_below e ms) in
      let within = fits.frame in
      omega (arith, top, rest, left, count, within)

  pub fits_within : IsWithin (calls_of e ws ss ms)
  fits_within = let all = all_slots in let limit = fits.limit in omega (arith, all, limit)

  pub room : (n : ℕ) → has_room (calls_of e ws ss ms) n ≡ nat_le (length ss + length ws + n) 100000
  room n = ap (λ k. nat_le (k + n) 100000) all_slots

  pub within_limit : (n : ℕ) (b : Bool) (now : Calls Ref Place) → calls_of e ws ss ms ≡ now → b ≡ has_room now n → b ≡ true → length ss + length ws + n ≤ 100000
  within_limit n b now seen answer holds =
      let fit : nat_le (length ss + length ws + n) 100000 ≡ true = sym (room n) ∙ ap (λ s. has_room s n) seen ∙ sym answer ∙ holds in
      grind (arith, nat_tests)

-- no catches are one's own where all marks are below
own_none : (e : Extent) (ms : List Mark) → length ms ≤ e.base → take (length ms - e.base) ms ≡ []
own_none e ms h = ap (λ k. take k ms) (let none : length ms - e.base ≡ 0 = omega arith in none)

-- where a call has no catch of its own, all marks are below
all_below : (e : Extent) (n : ℕ) (ms : List Mark) → e.base ≤ length ms → map (catch_at n) (take (length ms - e.base) ms) ≡ [] → length ms ≡ e.base
all_below e n ms h none =
    let few : length (map (catch_at n) (take (length ms - e.base) ms)) ≡ 0 = ap length none in
    let own = length-map (take (length ms - e.base) ms) (catch_at n) in
    let taken = length-take (length ms - e.base) ms in
    omega (arith, few, own, taken)

-- and the marks are as they were
left_marks : (e : Extent) (n : ℕ) (ms : List Mark) → e.base ≤ length ms → map (catch_at n) (take (length ms - e.base) ms) ≡ [] → marks_below e ms ≡ ms
left_marks e n ms h none = ap (λ k. drop k ms) (let all = all_below e n ms h none in let zero_own : length ms - e.base ≡ 0 = omega (arith, all) in zero_own)

-- a call begins without a frame, above the one that waits
pub fits_suspended : (e : Extent) (back : Place) (ws : List Waiting) (ss : Slots) (ms : List Mark) → Fits e ws ss ms → length ss + length ws + 1 ≤ 100000
    → Fits (record { frame = None; base = length ms }) (record { back = back; extent = e } ∷ ws) ss ms
fits_suspended e back ws ss ms fits room =
    let none : length ms - length ms ≡ 0 = omega arith in
    record {
      frame = omega arith;
      base = omega arith;
      laid = subst (λ k. IsLaid (record { back = back; extent = e } ∷ ws) ss (drop k ms)) (sym none) (fits.frame, fits.base, fits.laid);
      running = λ i. ap (λ k. catches_of (map (catch_at (length ss)) (take k ms)) i) none;
      waiting = subst (λ k. AreTied (calls_on (record { back = back; extent = e } ∷ ws) ss (drop k ms))) (sym none) (fits.running, fits.waiting);
      limit = omega arith;
    }

-- a frame of absent slots on top of the slots
module _ (base : ℕ) (ws : List Waiting) (ss : Slots) (ms : List Mark) (fits : Fits (record { frame = None; base = base }) ws ss ms) where
  unframed_below : length ms ≡ base
  unframed_below = all_below (record { frame = None; base = base }) (length ss) ms fits.base (no_catch (map (catch_at (length ss)) (take (length ms - base) ms)) fits.running)

  no_own : length ms - base ≡ 0
  no_own = let h = unframed_below in omega arith

  new_front : (n : ℕ) → take n (new_slots n ++ ss) ≡ new_slots n
  new_front n = grind (arith, common_steps)

  new_rest : (n : ℕ) → drop n (new_slots n ++ ss) ≡ ss
  new_rest n = dropped n (new_slots n) ss (length-replicate n absent)

  pub fits_allocated : (n : ℕ) → length ss + length ws + n ≤ 100000 → Fits (record { frame = Some n; base = base }) ws (new_slots n ++ ss) ms
  fits_allocated n h =
      let long = length-append (new_slots n) ss in
      let many = length-replicate n absent in
      record {
        frame = omega (arith, long, many);
        base = fits.base;
        laid = subst (λ l. IsLaid ws l (drop (length ms - base) ms)) (sym (new_rest n)) fits.laid;
        running = λ i. ap (λ k. catches_of (map (catch_at (length (new_slots n ++ ss))) (take k ms)) i) no_own ∙ sym (ap (λ l. mark_at (slice_get l i)) (new_front n) ∙ mark_of_new Ref n i);
        waiting = subst (λ l. AreTied (calls_on ws l (drop (length ms - base) ms))) (sym (new_rest n)) fits.waiting;
        limit = omega (arith, long, many);
      }

  pub allocated_is : (n : ℕ) → calls_of (record { frame = Some n; base = base }) ws (new_slots n ++ ss) ms
      ≡ running_with (calls_of (record { frame = None; base = base }) ws ss ms) (Some (new_slots n)) (map (catch_at (length ss)) (take (length ms - base) ms))
  allocated_is n =
      let none : map (catch_at (length (new_slots n ++ ss))) (take (length ms - base) ms) ≡ map (catch_at (length ss)) (take (length ms - base) ms)
      = ap (λ k. map (catch_at (length (new_slots n ++ ss))) (take k ms)) no_own ∙ sym (ap (λ k. map (catch_at (length ss)) (take k ms)) no_own) in
      λ i. record { running = record { frame = Some (new_front n i); catches = none i }; waiting = calls_on ws (new_rest n i) (drop (length ms - base) ms) }

-- a slot of the frame on top set, and other marks of its call
take_set_in : (n i : ℕ) (ss : Slots) (s : Slot Ref) → take n (slice_set ss i s) ≡ slice_set (take n ss) i s
take_set_in zero i ss s = refl
take_set_in (suc n) i [] s = refl
take_set_in (suc n) zero (x ∷ ss) s = refl
take_set_in (suc n) (suc i) (x ∷ ss) s = ap (λ l. x ∷ l) (take_set_in n i ss s)

module _ (n base : ℕ) (ws : List Waiting) (ss : Slots) (ms : List Mark) (fits : Fits (record { frame = Some n; base = base }) ws ss ms) (i : ℕ) (s : Slot Ref) (below : i < n) where
  set_is : calls_of (record { frame = Some n; base = base }) ws (slice_set ss i s) ms
      ≡ running_with (calls_of (record { frame = Some n; base = base }) ws ss ms) (Some (slice_set (take n ss) i s)) (map (catch_at (length ss)) (take (length ms - base) ms))
  set_is = λ t. record {
    running = record { frame = Some (take_set_in n i ss s t); catches = map (catch_at (length-set ss i s t)) (take (length ms - base) ms) };
    waiting = calls_on ws (drop-set-lt n ss i s below t) (drop (length ms - base) ms);
  }

  fits_changed : (other : List Mark) → base ≤ length other → drop (length other - base) other ≡ drop (length ms - base) ms
      → ((j : ℕ) → catches_of (map (catch_at (length ss)) (take (length other - base) other)) j ≡ mark_at (slice_get (slice_set (take n ss) i s) j))
      → Fits (record { frame = Some n; base = base }) ws (slice_set ss i s) other
  fits_changed other h rest tied =
      let long = length-set ss i s in
      let slots_same = drop-set-lt n ss i s below in
      record {
        frame = let f = fits.frame in omega (arith, long, f);
        base = h;
        laid = subst (λ l. IsLaid ws l (drop (length other - base) other)) (sym slots_same) (subst (λ l. IsLaid ws (drop n ss) l) (sym rest) fits.laid);
        running = λ j. ap (λ k. catches_of (map (catch_at k) (take (length other - base) other)) j) long ∙ tied j ∙ sym (ap (λ l. mark_at (slice_get l j)) (take_set_in n i ss s));
        waiting = subst (λ l. AreTied (calls_on ws l (drop (length other - base) other))) (sym slots_same) (subst (λ l. AreTied (calls_on ws (drop n ss) l)) (sym rest) fits.waiting);
        limit = let l = fits.limit in omega (arith, long, l);
      }

-- the same where it is known of the frame that there is none
pub fits_new : (f : Option ℕ) → f ≡ None → (base : ℕ) (ws : List Waiting) (ss : Slots) (ms : List Mark) → Fits (record { frame = f; base = base }) ws ss ms
    → (n : ℕ) → length ss + length ws + n ≤ 100000 → Fits (record { frame = Some n; base = base }) ws (new_slots n ++ ss) ms
fits_new None none base ws ss ms fits n h = fits_allocated base ws ss ms fits n h
fits_new (Some k) none base ws ss ms fits n h = absurd cc

pub allocated_new : (f : Option ℕ) → f ≡ None → (base : ℕ) (ws : List Waiting) (ss : Slots) (ms : List Mark) → Fits (record { frame = f; base = base }) ws ss ms
    → (n : ℕ) → has_room (calls_of (record { frame = f; base = base }) ws ss ms) n ≡ true
    → allocated n (calls_of (record { frame = f; base = base }) ws ss ms) ≡ becomes (calls_of (record { frame = Some n; base = base }) ws (new_slots n ++ ss) ms)
allocated_new None none base ws ss ms fits n h =
    let c = calls_of (record { frame = None; base = base }) ws ss ms in
    ap (λ b. within b (running_with c (Some (new_slots n)) c.running.catches)) h ∙ ap becomes (sym (allocated_is base ws ss ms fits n))
allocated_new (Some k) none base ws ss ms fits n h = absurd cc

-- the slots of a frame are no more than its size
slot_below : (n : ℕ) (ss : Slots) (i : ℕ) → n ≤ length ss → i < length (take n ss) → i < n
slot_below n ss i h within = let long = length-take-le n ss h in omega (arith, long, within)

abbrev slot_on : Option ℕ → Slots → ℕ → Option (Slot Ref)
slot_on f ss i = slice_get (slots (frame_on f ss)) i

-- a value in a free slot
pub fits_filled : (f : Option ℕ) (base : ℕ) (ws : List Waiting) (ss : Slots) (ms : List Mark) → Fits (record { frame = f; base = base }) ws ss ms
    → (i : ℕ) (v : Ref) → is_free (slot_on f ss i) ≡ true → Fits (record { frame = f; base = base }) ws (slice_set ss i (Holds v)) ms
fits_filled None base ws ss ms fits i v free = absurd cc
fits_filled (Some n) base ws ss ms fits i v free =
    let within = free_within (take n ss) i free in
    let below = slot_below n ss i fits.frame within in
    let none = free_unmarked (slice_get (take n ss) i) free in
    fits_changed n base ws ss ms fits i (Holds v) below ms fits.base refl
    (λ j. fits.running j ∙ sym (mark_of_set (take n ss) i j (Holds v) within ∙ set_at_0 (λ k. mark_at (slice_get (take n ss) k)) i j 0 refl none))

pub filled_is : (f : Option ℕ) (base : ℕ) (ws : List Waiting) (ss : Slots) (ms : List Mark) → Fits (record { frame = f; base = base }) ws ss ms
    → (i : ℕ) (v : Ref) → is_free (slot_on f ss i) ≡ true
    → filled i v (calls_of (record { frame = f; base = base }) ws ss ms) ≡ becomes (calls_of (record { frame = f; base = base }) ws (slice_set ss i (Holds v)) ms)
filled_is None base ws ss ms fits i v free = absurd cc
filled_is (Some n) base ws ss ms fits i v free =
    let c = calls_of (record { frame = Some n; base = base }) ws ss ms in
    ap (λ b. if_so b (becomes (running_with c (Some (slice_set (take n ss) i (Holds v))) c.running.catches))) free
    ∙ ap becomes (sym (set_is n base ws ss ms fits i (Holds v) (slot_below n ss i fits.frame (free_within (take n ss) i free))))

-- a mark more on top
module _ (m : Mark) (ms : List Mark) (base : ℕ) (h : base ≤ length ms) where
  own_more : length (m ∷ ms) - base ≡ suc (length ms - base)
  own_more = omega arith

  rest_same : drop (length (m ∷ ms) - base) (m ∷ ms) ≡ drop (length ms - base) ms
  rest_same = ap (λ k. drop k (m ∷ ms)) own_more

  own_of : (l : ℕ) → map (catch_at l) (take (length (m ∷ ms) - base) (m ∷ ms)) ≡ catch_at l m ∷ map (catch_at l) (take (length ms - base) ms)
  own_of l = ap (λ k. map (catch_at l) (take k (m ∷ ms))) own_more

-- a catch more, in a free slot
pub fits_caught : (f : Option ℕ) (base : ℕ) (ws : List Waiting) (ss : Slots) (ms : List Mark) → Fits (record { frame = f; base = base }) ws ss ms
    → (i : ℕ) (m : Mark) → is_free (slot_on f ss i) ≡ true → m.height ≡ length ss - i
    → Fits (record { frame = f; base = base }) ws (slice_set ss i Marked) (m ∷ ms)
fits_caught None base ws ss ms fits i m free high = absurd cc
fits_caught (Some n) base ws ss ms fits i m free high =
    let within = free_within (take n ss) i free in
    let below = slot_below n ss i fits.frame within in
    let none = free_unmarked (slice_get (take n ss) i) free in
    let place : length ss - m.height ≡ i = let l = fits.frame in omega arith in
    let marks = λ (k : ℕ). mark_at (slice_get (take n ss) k) in
    fits_changed n base ws ss ms fits i Marked below (m ∷ ms) (let b = fits.base in omega arith) (rest_same m ms base fits.base)
    (λ j. ap (λ cs. catches_of cs j) (own_of m ms base fits.base (length ss)) ∙ ap (λ s. cond {A = ℕ} (s == j) 1 0 + catches_of (map (catch_at (length ss)) (take (length ms - base) ms)) j) place
    ∙ ap (λ k. cond {A = ℕ} (i == j) 1 0 + k) (fits.running j) ∙ raised_to_1 marks i j none ∙ sym (mark_of_set (take n ss) i j Marked within))

pub caught_is : (f : Option ℕ) (base : ℕ) (ws : List Waiting) (ss : Slots) (ms : List Mark) → Fits (record { frame = f; base = base }) ws ss ms
    → (i : ℕ) (m : Mark) → is_free (slot_on f ss i) ≡ true → m.height ≡ length ss - i
    → caught i m.to (calls_of (record { frame = f; base = base }) ws ss ms) ≡ becomes (calls_of (record { frame = f; base = base }) ws (slice_set ss i Marked) (m ∷ ms))
caught_is None base ws ss ms fits i m free high = absurd cc
caught_is (Some n) base ws ss ms fits i m free high =
    let below = slot_below n ss i fits.frame (free_within (take n ss) i free) in
    let place : length ss - m.height ≡ i = let l = fits.frame in omega arith in
    let c = calls_of (record { frame = Some n; base = base }) ws ss ms in
    let caught_now = running_with c (Some (slice_set (take n ss) i Marked)) ((i, m.to) ∷ c.running.catches) in
    let own : map (catch_at (length (slice_set ss i Marked))) (take (length (m ∷ ms) - base) (m ∷ ms)) ≡ (i, m.to) ∷ c.running.catches
    = ap (λ l. map (catch_at l) (take (length (m ∷ ms) - base) (m ∷ ms))) (length-set ss i Marked) ∙ own_of m ms base fits.base (length ss) ∙ ap (λ s. (s, m.to) ∷ c.running.catches) place in
    let below_same : calls_on ws (drop n (slice_set ss i Marked)) (drop (length (m ∷ ms) - base) (m ∷ ms)) ≡ c.waiting
    = ap (λ l. calls_on ws l (drop (length (m ∷ ms) - base) (m ∷ ms))) (drop-set-lt n ss i Marked below) ∙ ap (calls_on ws (drop n ss)) (rest_same m ms base fits.base) in
    let after : calls_of (record { frame = Some n; base = base }) ws (slice_set ss i Marked) (m ∷ ms) ≡ caught_now
    = λ t. record { running = record { frame = Some (take_set_in n i ss Marked t); catches = own t }; waiting = below_same t } in
    ap (λ b. if_so b (becomes caught_now)) free ∙ ap becomes (sym after)

-- Where the call that runs has a catch, all marks below are its base, and the newest catch is the mark on top.
own_some : (base l : ℕ) (m : Mark) (ms : List Mark) (s : ℕ) → newest_slot (map (catch_at l) (take (length (m ∷ ms) - base) (m ∷ ms))) ≡ Some s → base ≤ length ms
own_some base l m ms s found = elim (cases_lt (length ms) base) [ inl h ↦ absurd (none_own h) | inr h ↦ h ] where
  none_own : length ms < base → ⊥
  none_own h =
      let none : length (m ∷ ms) - base ≡ 0 = omega arith in
      let gone : newest_slot (map (catch_at l) (take (length (m ∷ ms) - base) (m ∷ ms))) ≡ None = ap (λ k. newest_slot (map (catch_at l) (take k (m ∷ ms)))) none in
      cc

newest_is : (base l : ℕ) (m : Mark) (ms : List Mark) (s : ℕ) → newest_slot (map (catch_at l) (take (length (m ∷ ms) - base) (m ∷ ms))) ≡ Some s → l - m.height ≡ s
newest_is base l m ms s found =
    let same : newest_slot (map (catch_at l) (take (length (m ∷ ms) - base) (m ∷ ms))) ≡ Some (l - m.height) = ap newest_slot (own_of m ms base (own_some base l m ms s found) l) in
    cc

-- the mark of the newest catch is in the frame
marked_slot : (f : Option ℕ) (base : ℕ) (ws : List Waiting) (ss : Slots) (m : Mark) (ms : List Mark) → Fits (record { frame = f; base = base }) ws ss (m ∷ ms)
    → (s : ℕ) → newest_slot (map (catch_at (length ss)) (take (length (m ∷ ms) - base) (m ∷ ms))) ≡ Some s
    → cond {A = ℕ} (s == s) 1 0 + catches_of (map (catch_at (length ss)) (take (length ms - base) ms)) s ≡ mark_at (slot_on f ss s)
marked_slot f base ws ss m ms fits s found =
    let h = own_some base (length ss) m ms s found in
    let place = newest_is base (length ss) m ms s found in
    sym (ap (λ k. cond {A = ℕ} (k == s) 1 0 + catches_of (map (catch_at (length ss)) (take (length ms - base) ms)) s) place)
    ∙ sym (ap (λ cs. catches_of cs s) (own_of m ms base h (length ss))) ∙ fits.running s

-- a catch of the call that runs is taken
pub fits_taken : (f : Option ℕ) (base : ℕ) (ws : List Waiting) (ss : Slots) (m : Mark) (ms : List Mark) → Fits (record { frame = f; base = base }) ws ss (m ∷ ms)
    → (s : ℕ) → newest_slot (map (catch_at (length ss)) (take (length (m ∷ ms) - base) (m ∷ ms))) ≡ Some s
    → (s < length ss) × Fits (record { frame = f; base = base }) ws (slice_set ss s Absent) ms
    × (taken (calls_of (record { frame = f; base = base }) ws ss (m ∷ ms)) ≡ Some (m.to, calls_of (record { frame = f; base = base }) ws (slice_set ss s Absent) ms))
fits_taken None base ws ss m ms fits s found =
    let one = counts_itself s in let none = marked_slot None base ws ss m ms fits s found in absurd (omega (arith, one, none))
fits_taken (Some n) base ws ss m ms fits s found =
    let h = own_some base (length ss) m ms s found in
    let place = newest_is base (length ss) m ms s found in
    let one = counts_itself s in
    let counted = marked_slot (Some n) base ws ss m ms fits s found in
    let within = marked_within (take n ss) s (omega (arith, one, counted)) in
    let below = slot_below n ss s fits.frame within in
    let rest = rest_same m ms base h in
    let marks = λ (k : ℕ). mark_at (slice_get (take n ss) k) in
    let own = λ (k : ℕ). catches_of (map (catch_at (length ss)) (take (length ms - base) ms)) k in
    let old = λ (j : ℕ). sym (ap (λ k. cond {A = ℕ} (k == j) 1 0 + own j) place) ∙ sym (ap (λ cs. catches_of cs j) (own_of m ms base h (length ss))) ∙ fits.running j in
    let after = fits_changed n base ws ss (m ∷ ms) fits s Absent below ms h (sym rest)
    (λ j. lowered_to_0 own marks s old (mark_at_most (slice_get (take n ss) s)) j ∙ sym (mark_of_set (take n ss) s j Absent within)) in
    let c = calls_of (record { frame = Some n; base = base }) ws ss (m ∷ ms) in
    let catches : taken_of c c.running.catches ≡ Some (m.to, running_with c (Some (slice_set (take n ss) s Absent)) (map (catch_at (length ss)) (take (length ms - base) ms)))
    = ap (taken_of c) (own_of m ms base h (length ss)) ∙ ap (λ k. Some (m.to, running_with c (Some (slice_set (take n ss) k Absent)) (map (catch_at (length ss)) (take (length ms - base) ms)))) place in
    let same : running_with c (Some (slice_set (take n ss) s Absent)) (map (catch_at (length ss)) (take (length ms - base) ms)) ≡ calls_of (record { frame = Some n; base = base }) ws (slice_set ss s Absent) ms
    = λ t. record {
      running = record { frame = Some (sym (take_set_in n s ss Absent) t); catches = map (catch_at (sym (length-set ss s Absent) t)) (take (length ms - base) ms) };
      waiting = calls_on ws (sym (drop-set-lt n ss s Absent below) t) (rest t);
    } in
    (let l = fits.frame in omega (arith, below, l), after, catches ∙ ap (λ k. Some (m.to, k)) same)

-- a call without catches of its own ends
pub fits_left : (e : Extent) (w : Waiting) (ws : List Waiting) (ss : Slots) (ms : List Mark) → Fits e (w ∷ ws) ss ms
    → map (catch_at (length ss)) (take (length ms - e.base) ms) ≡ [] → Fits w.extent ws (slots_below e ss) ms
fits_left e w ws ss ms fits none =
    let rest = left_marks e (length ss) ms fits.base none in
    let laid = subst (λ l. IsLaid (w ∷ ws) (slots_below e ss) l) rest fits.laid in
    let tied = subst (λ l. AreTied (calls_on (w ∷ ws) (slots_below e ss) l)) rest fits.waiting in
    let fewer = length-drop (size e.frame) ss in
    let limit = fits.limit in
    record { frame = laid.0; base = laid.1; laid = laid.2; running = tied.0; waiting = tied.1; limit = omega (arith, fewer, limit) }

pub left_is : (e : Extent) (w : Waiting) (ws : List Waiting) (ss : Slots) (ms : List Mark) → Fits e (w ∷ ws) ss ms
    → map (catch_at (length ss)) (take (length ms - e.base) ms) ≡ [] → goes_on (calls_of e (w ∷ ws) ss ms).waiting ≡ Some (w.back, calls_of w.extent ws (slots_below e ss) ms)
left_is e w ws ss ms fits none =
    ap (λ l. goes_on (calls_on (w ∷ ws) (slots_below e ss) l)) (left_marks e (length ss) ms fits.base none)

-- whether any call has a catch
any_own : (e : Extent) (l : ℕ) (ms : List Mark) → e.base ≤ length ms → is_some (newest_slot (map (catch_at l) (take (length ms - e.base) ms))) ≡ nat_lt e.base (length ms)
any_own e l [] h = let none : nat_lt e.base 0 ≡ false = grind (arith, nat_tests) in ap (λ k. is_some (newest_slot (map (catch_at l) (take k [])))) (let zero_own : 0 - e.base ≡ 0 = omega arith in zero_own) ∙ sym none
any_own e l (m ∷ ms) h = elim (cases_lt e.base (length (m ∷ ms))) [
  | inl some ↦ some_own some
  | inr none ↦ no_own_mark none
] where
  some_own : e.base < length (m ∷ ms) → is_some (newest_slot (map (catch_at l) (take (length (m ∷ ms) - e.base) (m ∷ ms)))) ≡ nat_lt e.base (length (m ∷ ms))
  some_own some =
      let test : nat_lt e.base (length (m ∷ ms)) ≡ true = grind (arith, nat_tests) in
      ap (λ cs. is_some (newest_slot cs)) (own_of m ms e.base (omega arith) l) ∙ sym test

  no_own_mark : length (m ∷ ms) ≤ e.base → is_some (newest_slot (map (catch_at l) (take (length (m ∷ ms) - e.base) (m ∷ ms)))) ≡ nat_lt e.base (length (m ∷ ms))
  no_own_mark none =
      let test : nat_lt e.base (length (m ∷ ms)) ≡ false = grind (arith, nat_tests) in
      let zero_own : length (m ∷ ms) - e.base ≡ 0 = omega arith in
      ap (λ k. is_some (newest_slot (map (catch_at l) (take k (m ∷ ms))))) zero_own ∙ sym test

-- the same where the marks are known by what was taken off them
pub taken_off : (f : Option ℕ) (base : ℕ) (ws : List Waiting) (ss : Slots) (m : Mark) (ms all : List Mark) (now : Calls Ref Place)
    → calls_of (record { frame = f; base = base }) ws ss all ≡ now → Fits (record { frame = f; base = base }) ws ss all → all ≡ m ∷ ms
    → (s : ℕ) → newest_slot now.running.catches ≡ Some s
    → (s < length ss) × Fits (record { frame = f; base = base }) ws (slice_set ss s Absent) ms
    × (taken now ≡ Some (m.to, calls_of (record { frame = f; base = base }) ws (slice_set ss s Absent) ms))
taken_off f base ws ss m ms all now seen fits is s found =
    let here = subst (λ w. Fits (record { frame = f; base = base }) ws ss w) is fits in
    let newest : newest_slot (map (catch_at (length ss)) (take (length (m ∷ ms) - base) (m ∷ ms))) ≡ Some s
    = ap (λ w. newest_slot (map (catch_at (length ss)) (take (length w - base) w))) (sym is) ∙ ap (λ c. newest_slot c.running.catches) seen ∙ found in
    let all_facts = fits_taken f base ws ss m ms here s newest in
    (all_facts.0, all_facts.1, ap taken (sym seen) ∙ ap (λ w. taken (calls_of (record { frame = f; base = base }) ws ss w)) is ∙ all_facts.2)

-- no catch is there without a mark
pub unmarked : (e : Extent) (ws : List Waiting) (ss : Slots) (ms : List Mark) (now : Calls Ref Place) → calls_of e ws ss ms ≡ now → slice_get ms 0 ≡ None
    → newest_slot now.running.catches ≡ None
unmarked e ws ss [] now seen none = sym (ap (λ c. newest_slot c.running.catches) seen) ∙ ap (λ k. newest_slot (map (catch_at (length ss)) (take k []))) (let zero_own : 0 - e.base ≡ 0 = omega arith in zero_own)
unmarked e ws ss (m ∷ ms) now seen none = absurd cc

-- nothing waits where nothing is taken off
pub none_waits : (e : Extent) (ws : List Waiting) (ss : Slots) (ms : List Mark) (now : Calls Ref Place) → calls_of e ws ss ms ≡ now → slice_get ws 0 ≡ None → goes_on now.waiting ≡ None
none_waits e [] ss ms now seen none = sym (ap (λ c. goes_on c.waiting) seen)
none_waits e (w ∷ ws) ss ms now seen none = absurd cc

-- a call ends that is known by what was taken off the calls that wait
pub left_off : (e : Extent) (w : Waiting) (ws all : List Waiting) (ss : Slots) (ms : List Mark) (now : Calls Ref Place)
    → calls_of e all ss ms ≡ now → Fits e all ss ms → all ≡ w ∷ ws → now.running.catches ≡ []
    → Fits w.extent ws (slots_below e ss) ms × (goes_on now.waiting ≡ Some (w.back, calls_of w.extent ws (slots_below e ss) ms))
left_off e w ws all ss ms now seen fits is none =
    let here = subst (λ l. Fits e l ss ms) is fits in
    let bare = ap (λ c. c.running.catches) seen ∙ none in
    (fits_left e w ws ss ms here bare, sym (ap (λ c. goes_on c.waiting) seen) ∙ ap (λ l. goes_on (calls_of e l ss ms).waiting) is ∙ left_is e w ws ss ms here bare)

-- a call without a frame has no catch
pub unframed_bare : (f : Option ℕ) (base : ℕ) (ws : List Waiting) (ss : Slots) (ms : List Mark) (now : Calls Ref Place)
    → calls_of (record { frame = f; base = base }) ws ss ms ≡ now → Fits (record { frame = f; base = base }) ws ss ms → f ≡ None → now.running.catches ≡ []
unframed_bare None base ws ss ms now seen fits none = sym (ap (λ c. c.running.catches) seen) ∙ no_catch (map (catch_at (length ss)) (take (length ms - base) ms)) fits.running
unframed_bare (Some n) base ws ss ms now seen fits none = absurd cc

-- a call that has a mark of its own takes it
is_taken : (c : Calls Ref Place) (cs : List (ℕ × Place)) → is_some (taken_of c cs) ≡ is_some (newest_slot cs)
is_taken c [] = refl
is_taken c (k ∷ cs) = refl

some_unless : {A : Type 0} (x y : Option A) → is_some (unless_taken x y) ≡ (is_some x || is_some y)
some_unless None y = refl
some_unless (Some x) y = refl

-- the marks below a call are its base
below_count : (e : Extent) (ms : List Mark) → e.base ≤ length ms → length (marks_below e ms) ≡ e.base
below_count e ms h = let left = length-drop (length ms - e.base) ms in omega (arith, left)

either : (a b l : ℕ) → a ≤ l → b ≡ a → (nat_lt a l || nat_lt 0 b) ≡ nat_lt 0 l
either a b l h e = grind (arith, nat_tests)

-- whether any call has a catch
pub any_catch : (e : Extent) (ws : List Waiting) (ss : Slots) (ms : List Mark) → e.base ≤ length ms → IsLaid ws (slots_below e ss) (marks_below e ms)
    → is_some (unwound (call_on e ss ms) (calls_on ws (slots_below e ss) (marks_below e ms))) ≡ nat_lt 0 (length ms)
any_catch e [] ss ms h laid =
    let last : e.base ≡ 0 = sym (below_count e ms h) ∙ laid.1 in
    is_taken (record { running = call_on e ss ms; waiting = [] }) (call_on e ss ms).catches ∙ any_own e (length ss) ms h ∙ ap (λ k. nat_lt k (length ms)) last
any_catch e (w ∷ ws) ss ms h laid =
    let below = marks_below e ms in
    let rest = calls_on (w ∷ ws) (slots_below e ss) below in
    let own : is_some (taken (record { running = call_on e ss ms; waiting = rest })) ≡ nat_lt e.base (length ms)
    = is_taken (record { running = call_on e ss ms; waiting = rest }) (call_on e ss ms).catches ∙ any_own e (length ss) ms h in
    let further : is_some (unwound (call_on w.extent (slots_below e ss) below) (calls_on ws (slots_below w.extent (slots_below e ss)) (marks_below w.extent below))) ≡ nat_lt 0 (length below)
    = any_catch w.extent ws (slots_below e ss) below laid.1 laid.2 in
    some_unless (taken (record { running = call_on e ss ms; waiting = rest })) (unwound (call_on w.extent (slots_below e ss) below) (calls_on ws (slots_below w.extent (slots_below e ss)) (marks_below w.extent below)))
    ∙ ap (λ b. b || is_some (unwound (call_on w.extent (slots_below e ss) below) (calls_on ws (slots_below w.extent (slots_below e ss)) (marks_below w.extent below)))) own
    ∙ ap (λ b. nat_lt e.base (length ms) || b) further ∙ either e.base (length below) (length ms) h (below_count e ms h)

-- a call that has a catch of its own takes the newest
taken_some : {V P : Type 0} (c : Calls V P) (cs : List (ℕ × P)) (other : Option (P × Calls V P)) → is_empty cs ≡ false → unless_taken (taken_of c cs) other ≡ taken_of c cs
taken_some c [] other h = absurd cc
taken_some c (k ∷ cs) other h = refl

own_unwound : {V P : Type 0} (running : Call V P) (waiting : List (P × Call V P)) → is_empty running.catches ≡ false
    → unwound running waiting ≡ taken (record { running = running; waiting = waiting })
own_unwound running [] h = refl
own_unwound running (w ∷ ws) h = taken_some (record { running = running; waiting = w ∷ ws }) running.catches (unwound w.1 ws) h

none_taken : {V P : Type 0} (c : Calls V P) (cs : List (ℕ × P)) → is_empty cs ≡ false → taken_of c cs ≡ None → ⊥
none_taken c [] h none = cc
none_taken c (k ∷ cs) h none = cc

pub led_on : {V P : Type 0} (c entry new : Calls V P) (r : Option P) → unwound c.running c.waiting ≡ unwound entry.running entry.waiting → is_empty c.running.catches ≡ false
    → Led (taken c) c r new → Led (unwound entry.running entry.waiting) entry r new
led_on c entry new (Some to) same own led = sym same ∙ own_unwound c.running c.waiting own ∙ led
led_on c entry new None same own led = absurd (none_taken c c.running.catches own led.0)

-- a frame without its first n slots
dropped_twice : {X : Type 0} (n k : ℕ) (xs : List X) → drop k (drop n xs) ≡ drop (n + k) xs
dropped_twice n k xs = grind (arith, common_steps)

taken_twice : {X : Type 0} (n k : ℕ) (xs : List X) → take n (take (n + k) xs) ≡ take n xs
taken_twice n k xs = grind (arith, common_steps)

lowered_own : (l n : ℕ) (ms : List Mark) → map (catch_at (l - n)) ms ≡ lowered n (map (catch_at l) ms)
lowered_own l n [] = refl
lowered_own l n (m ∷ ms) =
    let place : l - n - m.height ≡ l - m.height - n = omega arith in
    ap (λ s. (s, m.to) ∷ map (catch_at (l - n)) ms) place ∙ ap (λ cs. (l - m.height - n, m.to) ∷ cs) (lowered_own l n ms)

module _ (n rest base : ℕ) (ws : List Waiting) (ss : Slots) (ms : List Mark) (fits : Fits (record { frame = Some (n + rest); base = base }) ws ss ms) (free : list_any is_marked (take n ss) ≡ false) where
  trimmed_front : take rest (drop n ss) ≡ drop n (take (n + rest) ss)
  trimmed_front = sym (drop-take n rest ss)

  trimmed_own : map (catch_at (length (drop n ss))) (take (length ms - base) ms) ≡ lowered n (map (catch_at (length ss)) (take (length ms - base) ms))
  trimmed_own = ap (λ l. map (catch_at l) (take (length ms - base) ms)) (length-drop n ss) ∙ lowered_own (length ss) n (take (length ms - base) ms)

  none_below : (i : ℕ) → i < n → catches_of (map (catch_at (length ss)) (take (length ms - base) ms)) i ≡ 0
  none_below i h = fits.running i ∙ none_marked n (take (n + rest) ss) (ap (list_any is_marked) (taken_twice n rest ss) ∙ free) i h

  fits_trimmed : Fits (record { frame = Some rest; base = base }) ws (drop n ss) ms
  fits_trimmed =
      let fewer = length-drop n ss in
      let frame = fits.frame in
      let limit = fits.limit in
      record {
        frame = omega (arith, fewer, frame);
        base = fits.base;
        laid = subst (λ l. IsLaid ws l (drop (length ms - base) ms)) (sym (dropped_twice n rest ss)) fits.laid;
        running = λ j. ap (λ cs. catches_of cs j) trimmed_own ∙ lowered_catches n (map (catch_at (length ss)) (take (length ms - base) ms)) none_below j ∙ fits.running (j + n)
            ∙ sym (mark_of_drop n (take (n + rest) ss) j) ∙ sym (ap (λ l. mark_at (slice_get l j)) trimmed_front);
        waiting = subst (λ l. AreTied (calls_on ws l (drop (length ms - base) ms))) (sym (dropped_twice n rest ss)) fits.waiting;
        limit = omega (arith, fewer, limit);
      }

  sized : has_slots (Some (take (n + rest) ss)) (n + rest) ≡ true
  sized = let long = length-take-le (n + rest) ss fits.frame in grind (arith, nat_tests, long)

  trimmed_is : trimmed n rest (calls_of (record { frame = Some (n + rest); base = base }) ws ss ms) ≡ becomes (calls_of (record { frame = Some rest; base = base }) ws (drop n ss) ms)
  trimmed_is =
      let c = calls_of (record { frame = Some (n + rest); base = base }) ws ss ms in
      let after = running_with c (Some (drop n (take (n + rest) ss))) (lowered n c.running.catches) in
      let unmarked_front : list_any is_marked (take n (take (n + rest) ss)) ≡ false = ap (list_any is_marked) (taken_twice n rest ss) ∙ free in
      let same : calls_of (record { frame = Some rest; base = base }) ws (drop n ss) ms ≡ after
      = λ i. record { running = record { frame = Some (trimmed_front i); catches = trimmed_own i }; waiting = calls_on ws (dropped_twice n rest ss i) (drop (length ms - base) ms) } in
      ap (λ b. if_so (b && not (list_any is_marked (take n (take (n + rest) ss)))) (becomes after)) sized
      ∙ ap (λ b. if_so (not b) (becomes after)) unmarked_front ∙ ap becomes (sym same)

pub fits_cut : (f : Option ℕ) (k n rest base : ℕ) (ws : List Waiting) (ss : Slots) (ms : List Mark) → f ≡ Some k → k ≡ n + rest → Fits (record { frame = f; base = base }) ws ss ms
    → list_any is_marked (take n ss) ≡ false → Fits (record { frame = Some rest; base = base }) ws (drop n ss) ms
fits_cut f k n rest base ws ss ms is e fits free =
    fits_trimmed n rest base ws ss ms (subst (λ g. Fits (record { frame = g; base = base }) ws ss ms) (is ∙ ap (λ l. Some l) e) fits) free

pub cut_is : (f : Option ℕ) (k n rest base : ℕ) (ws : List Waiting) (ss : Slots) (ms : List Mark) → f ≡ Some k → k ≡ n + rest → Fits (record { frame = f; base = base }) ws ss ms
    → list_any is_marked (take n ss) ≡ false → trimmed n rest (calls_of (record { frame = f; base = base }) ws ss ms) ≡ becomes (calls_of (record { frame = Some rest; base = base }) ws (drop n ss) ms)
cut_is f k n rest base ws ss ms is e fits free =
    let known = is ∙ ap (λ l. Some l) e in
    ap (λ g. trimmed n rest (calls_of (record { frame = g; base = base }) ws ss ms)) known
    ∙ trimmed_is n rest base ws ss ms (subst (λ g. Fits (record { frame = g; base = base }) ws ss ms) known fits) free
