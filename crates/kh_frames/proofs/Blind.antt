-- The rules say the same of renamed states.
use Rattle.std.proofs.Common.{◌≡◌, ℕ, zero, suc, ◌+◌, ◌-◌, ◌==◌, ◌&&◌, ◌||◌, not, nat_le, Bool, true, false, List, [], ◌∷◌, ◌++◌, length, take, drop, map, replicate, refl, sym, ◌∙◌, ap, slice_set, slice_get, slice_index_or, Option, Some, None}
use Rattle.std.specs.List.{list_any}
use Rattle.std.specs.Option.{option_map}
use Rattle.std.proofs.lemmas.List.{map-append, map-set, length-map, take-map, drop-map}
use Rattle.std.proofs.lemmas.Option.{slice_get-map}
use Rattle.kh_frames.specs.State.{Call, Calls, State}
use Rattle.kh_frames.specs.Frame.{register, written, slots, held, is_free, is_marked, is_unframed, has_slots, with_slot, is_empty, is_newest, lowered}
use Rattle.kh_frames.specs.Rules.{Answer, bad_code, past_limit, becomes, answered, if_so, within, unless_taken, slots_of_all, has_room, running_with, slot_of, with_calls, on_calls, with_lead, fetched, stored, filled, suspended, goes_on, resumed, resumed_to, unframed, allocated, deallocated, trimmed, caught, taken, taken_of, ended_by, ended, unwound, raised_to, raised, settled}
use Rattle.kh_frames.specs.Renamed.{rename_slot, rename_catch, rename_call, rename_waiting, rename_calls, rename_pending, rename, rename_lead, RulesAreBlind}
use Rattle.kh_frames.specs.declared.state.Slot.{Slot}
use Rattle.kh_frames.specs.declared.state.Slot.TheVariants.{Absent, Holds, Marked}
use Rattle.kh_instr.specs.declared.operand.Reg.{Reg}
use Rattle.kh_instr.specs.declared.operand.Reg.TheVariants.{X, Y}
use Rattle.kh_term.specs.declared.kinds.Class.{Class}

-- what comes of a rule, changed
answered-if_so : {A B : Type 0} (f : A → B) (b : Bool) (a : Answer A) → if_so b (answered f a) ≡ answered f (if_so b a)
answered-if_so f true a = refl
answered-if_so f false a = refl

answered-within : {A B : Type 0} (f : A → B) (b : Bool) (a : A) → within b (f a) ≡ answered f (within b a)
answered-within f true a = refl
answered-within f false a = refl

map-replicate : {A B : Type 0} (f : A → B) (n : ℕ) (a : A) → replicate n (f a) ≡ map f (replicate n a)
map-replicate f zero a = refl
map-replicate f (suc n) a = ap (λ l. f a ∷ l) (map-replicate f n a)

option-unless_taken : {A B : Type 0} (f : A → B) (a b : Option A) → unless_taken (option_map f a) (option_map f b) ≡ option_map f (unless_taken a b)
option-unless_taken f None b = refl
option-unless_taken f (Some x) b = refl

module _ {V W P Q : Type 0} (value : V → W) (place : P → Q) where
  abbrev new_slot : Slot V → Slot W
  new_slot = rename_slot value place

  abbrev new_catch : ℕ × P → ℕ × Q
  new_catch = rename_catch value place

  abbrev new_waiting : P × Call V P → Q × Call W Q
  new_waiting = rename_waiting value place

  abbrev new_calls : Calls V P → Calls W Q
  new_calls = rename_calls value place

  abbrev new_state : State V P → State W Q
  new_state = rename value place

  abbrev new_frame : Option (List (Slot V)) → Option (List (Slot W))
  new_frame = option_map (map new_slot)

  -- a place to go on at, with the calls there
  abbrev new_lead : P × Calls V P → Q × Calls W Q
  new_lead (to, c) = (place to, new_calls c)

  -- slots
  slots_renamed : (f : Option (List (Slot V))) → slots (new_frame f) ≡ map new_slot (slots f)
  slots_renamed None = refl
  slots_renamed (Some ss) = refl

  held_renamed : (s : Option (Slot V)) → held (option_map new_slot s) ≡ option_map value (held s)
  held_renamed None = refl
  held_renamed (Some Absent) = refl
  held_renamed (Some (Holds v)) = refl
  held_renamed (Some Marked) = refl

  free_renamed : (s : Option (Slot V)) → is_free (option_map new_slot s) ≡ is_free s
  free_renamed None = refl
  free_renamed (Some Absent) = refl
  free_renamed (Some (Holds v)) = refl
  free_renamed (Some Marked) = refl

  marked_renamed : (s : Slot V) → is_marked (new_slot s) ≡ is_marked s
  marked_renamed Absent = refl
  marked_renamed (Holds v) = refl
  marked_renamed Marked = refl

  any_renamed : (ss : List (Slot V)) → list_any is_marked (map new_slot ss) ≡ list_any is_marked ss
  any_renamed [] = refl
  any_renamed (s ∷ ss) = λ i. marked_renamed s i || any_renamed ss i

  slot_renamed : (c : Calls V P) (n : ℕ) → slot_of (new_calls c) n ≡ option_map new_slot (slot_of c n)
  slot_renamed c n = ap (λ ss. slice_get ss n) (slots_renamed c.running.frame) ∙ slice_get-map new_slot (slots c.running.frame) n

  is_free_renamed : (c : Calls V P) (n : ℕ) → is_free (slot_of (new_calls c) n) ≡ is_free (slot_of c n)
  is_free_renamed c n = ap is_free (slot_renamed c n) ∙ free_renamed (slot_of c n)

  with_slot_renamed : (f : Option (List (Slot V))) (i : ℕ) (s : Slot V) → with_slot (new_frame f) i (new_slot s) ≡ new_frame (with_slot f i s)
  with_slot_renamed None i s = refl
  with_slot_renamed (Some ss) i s = ap (λ l. Some l) (sym (map-set new_slot ss i s))

  unframed_renamed : (f : Option (List (Slot V))) → is_unframed (new_frame f) ≡ is_unframed f
  unframed_renamed None = refl
  unframed_renamed (Some ss) = refl

  sized_renamed : (f : Option (List (Slot V))) (n : ℕ) → has_slots (new_frame f) n ≡ has_slots f n
  sized_renamed None n = refl
  sized_renamed (Some ss) n = ap (λ l. l == n) (length-map ss new_slot)

  -- catches
  empty_renamed : (cs : List (ℕ × P)) → is_empty (map new_catch cs) ≡ is_empty cs
  empty_renamed [] = refl
  empty_renamed (c ∷ cs) = refl

  newest_renamed : (slot : ℕ) (cs : List (ℕ × P)) → is_newest slot (map new_catch cs) ≡ is_newest slot cs
  newest_renamed slot [] = refl
  newest_renamed slot ((s, to) ∷ cs) = refl

  lowered_renamed : (n : ℕ) (cs : List (ℕ × P)) → lowered n (map new_catch cs) ≡ map new_catch (lowered n cs)
  lowered_renamed n [] = refl
  lowered_renamed n ((slot, to) ∷ cs) = ap (λ l. (slot - n, place to) ∷ l) (lowered_renamed n cs)

  -- room
  frame_length : (f : Option (List (Slot V))) → length (slots (new_frame f)) ≡ length (slots f)
  frame_length f = ap length (slots_renamed f) ∙ length-map (slots f) new_slot

  all_slots_renamed : (ws : List (P × Call V P)) → slots_of_all (map new_waiting ws) ≡ slots_of_all ws
  all_slots_renamed [] = refl
  all_slots_renamed ((back, call) ∷ ws) = λ i. frame_length call.frame i + all_slots_renamed ws i

  room_renamed : (c : Calls V P) (n : ℕ) → has_room (new_calls c) n ≡ has_room c n
  room_renamed c n =
      λ i. nat_le (frame_length c.running.frame i + all_slots_renamed c.waiting i + length-map c.waiting new_waiting i + n) 100000

  -- the rules of calls
  suspended_renamed : (back : P) (c : Calls V P) → suspended (place back) (new_calls c) ≡ answered new_calls (suspended back c)
  suspended_renamed back c =
      let after : Calls V P = record { running = record { frame = None; catches = [] }; waiting = (back, c.running) ∷ c.waiting } in
      ap (λ b. within b (new_calls after)) (room_renamed c 1) ∙ answered-within new_calls (has_room c 1) after

  goes_on_renamed : (ws : List (P × Call V P)) → goes_on (map new_waiting ws) ≡ option_map new_lead (goes_on ws)
  goes_on_renamed [] = refl
  goes_on_renamed ((back, call) ∷ ws) = refl

  resumed_renamed : (c : Calls V P) → resumed (new_calls c) ≡ answered (option_map new_lead) (resumed c)
  resumed_renamed c =
      (λ i. if_so (unframed_renamed c.running.frame i) (becomes (goes_on_renamed c.waiting i)))
      ∙ answered-if_so (option_map new_lead) (is_unframed c.running.frame) (becomes (goes_on c.waiting))

  no_frame_renamed : (c : Calls V P) → unframed (new_calls c) ≡ answered new_calls (unframed c)
  no_frame_renamed c = ap (λ b. if_so b (becomes (new_calls c))) (unframed_renamed c.running.frame) ∙ answered-if_so new_calls (is_unframed c.running.frame) (becomes c)

  allocated_renamed : (n : ℕ) (c : Calls V P) → allocated n (new_calls c) ≡ answered new_calls (allocated n c)
  allocated_renamed n c =
      let after = running_with c (Some (replicate n Absent)) c.running.catches in
      let renamed : running_with (new_calls c) (Some (replicate n Absent)) (map new_catch c.running.catches) ≡ new_calls after
      = ap (λ ss. running_with (new_calls c) (Some ss) (map new_catch c.running.catches)) (map-replicate new_slot n Absent) in
      (λ i. if_so (unframed_renamed c.running.frame i) (within (room_renamed c n i) (renamed i)))
      ∙ ap (if_so (is_unframed c.running.frame)) (answered-within new_calls (has_room c n) after)
      ∙ answered-if_so new_calls (is_unframed c.running.frame) (within (has_room c n) after)

  deallocated_renamed : (n : ℕ) (c : Calls V P) → deallocated n (new_calls c) ≡ answered new_calls (deallocated n c)
  deallocated_renamed n c =
      let after = running_with c None [] in
      (λ i. if_so (sized_renamed c.running.frame n i && empty_renamed c.running.catches i) (becomes (new_calls after)))
      ∙ answered-if_so new_calls (has_slots c.running.frame n && is_empty c.running.catches) (becomes after)

  trimmed_renamed : (n rest : ℕ) (c : Calls V P) → trimmed n rest (new_calls c) ≡ answered new_calls (trimmed n rest c)
  trimmed_renamed n rest c =
      let ss = slots c.running.frame in
      let after = running_with c (Some (drop n ss)) (lowered n c.running.catches) in
      let marks : list_any is_marked (take n (slots (new_frame c.running.frame))) ≡ list_any is_marked (take n ss)
      = ap (λ l. list_any is_marked (take n l)) (slots_renamed c.running.frame) ∙ ap (list_any is_marked) (take-map new_slot n ss) ∙ any_renamed (take n ss) in
      let front : drop n (slots (new_frame c.running.frame)) ≡ map new_slot (drop n ss)
      = ap (drop n) (slots_renamed c.running.frame) ∙ drop-map new_slot n ss in
      (λ i. if_so (sized_renamed c.running.frame (n + rest) i && not (marks i)) (becomes (running_with (new_calls c) (Some (front i)) (lowered_renamed n c.running.catches i))))
      ∙ answered-if_so new_calls (has_slots c.running.frame (n + rest) && not (list_any is_marked (take n ss))) (becomes after)

  caught_renamed : (slot : ℕ) (to : P) (c : Calls V P) → caught slot (place to) (new_calls c) ≡ answered new_calls (caught slot to c)
  caught_renamed slot to c =
      let after = running_with c (with_slot c.running.frame slot Marked) ((slot, to) ∷ c.running.catches) in
      (λ i. if_so (is_free_renamed c slot i) (becomes (running_with (new_calls c) (with_slot_renamed c.running.frame slot Marked i) ((slot, place to) ∷ map new_catch c.running.catches))))
      ∙ answered-if_so new_calls (is_free (slot_of c slot)) (becomes after)

  filled_renamed : (n : ℕ) (v : V) (c : Calls V P) → filled n (value v) (new_calls c) ≡ answered new_calls (filled n v c)
  filled_renamed n v c =
      let after = running_with c (with_slot c.running.frame n (Holds v)) c.running.catches in
      (λ i. if_so (is_free_renamed c n i) (becomes (running_with (new_calls c) (with_slot_renamed c.running.frame n (Holds v) i) (map new_catch c.running.catches))))
      ∙ answered-if_so new_calls (is_free (slot_of c n)) (becomes after)

  taken_of_renamed : (c : Calls V P) (cs : List (ℕ × P)) → taken_of (new_calls c) (map new_catch cs) ≡ option_map new_lead (taken_of c cs)
  taken_of_renamed c [] = refl
  taken_of_renamed c ((slot, to) ∷ cs) =
      ap (λ f. Some (place to, running_with (new_calls c) f (map new_catch cs))) (with_slot_renamed c.running.frame slot Absent)

  taken_renamed : (c : Calls V P) → taken (new_calls c) ≡ option_map new_lead (taken c)
  taken_renamed c = taken_of_renamed c c.running.catches

  ended_by_renamed : (l : Option (P × Calls V P)) → ended_by (option_map new_lead l) ≡ answered new_calls (ended_by l)
  ended_by_renamed None = refl
  ended_by_renamed (Some (to, c)) = refl

  ended_renamed : (slot : ℕ) (c : Calls V P) → ended slot (new_calls c) ≡ answered new_calls (ended slot c)
  ended_renamed slot c =
      (λ i. if_so (newest_renamed slot c.running.catches i) (ended_by (taken_renamed c i)))
      ∙ ap (if_so (is_newest slot c.running.catches)) (ended_by_renamed (taken c))
      ∙ answered-if_so new_calls (is_newest slot c.running.catches) (ended_by (taken c))

  unwound_renamed : (call : Call V P) (ws : List (P × Call V P)) → unwound (rename_call value place call) (map new_waiting ws) ≡ option_map new_lead (unwound call ws)
  unwound_renamed call [] = taken_renamed (record { running = call; waiting = [] })
  unwound_renamed call ((back, below) ∷ ws) =
      let here : Calls V P = record { running = call; waiting = (back, below) ∷ ws } in
      (λ i. unless_taken (taken_renamed here i) (unwound_renamed below ws i)) ∙ option-unless_taken new_lead (taken here) (unwound below ws)

  -- the rules of states
  on_calls_renamed : (s : State V P) (a : Answer (Calls W Q)) (b : Answer (Calls V P)) → a ≡ answered new_calls b
      → answered (with_calls (new_state s)) a ≡ answered new_state (answered (with_calls s) b)
  on_calls_renamed s a b same = ap (answered (with_calls (new_state s))) same ∙ through b where
    through : (b : Answer (Calls V P)) → answered (with_calls (new_state s)) (answered new_calls b) ≡ answered new_state (answered (with_calls s) b)
    through bad_code = refl
    through past_limit = refl
    through (becomes c) = refl

  leads_renamed : (s : State V P) (l : Answer (Option (P × Calls V P)))
      → answered (option_map (with_lead (new_state s))) (answered (option_map new_lead) l) ≡ answered (option_map (rename_lead value place)) (answered (option_map (with_lead s)) l)
  leads_renamed s bad_code = refl
  leads_renamed s past_limit = refl
  leads_renamed s (becomes None) = refl
  leads_renamed s (becomes (Some (to, c))) = refl

  register_renamed : (xs : List (Option V)) (n : ℕ) → register (map (option_map value) xs) n ≡ option_map value (register xs n)
  register_renamed [] n = refl
  register_renamed (x ∷ xs) zero = refl
  register_renamed (x ∷ xs) (suc n) = register_renamed xs n

  fetched_renamed : (r : Reg) (s : State V P) → fetched r (new_state s) ≡ option_map value (fetched r s)
  fetched_renamed (X n) s = register_renamed s.registers n
  fetched_renamed (Y n) s = ap held (slot_renamed s.calls n) ∙ held_renamed (slot_of s.calls n)

  written_renamed : (xs : List (Option V)) (n : ℕ) (v : V) → written (map (option_map value) xs) n (value v) ≡ map (option_map value) (written xs n v)
  written_renamed xs n v =
      let more = λ (k : ℕ). replicate (n + 1 - k) (option_map value None) in
      let grown : map (option_map value) xs ++ more (length (map (option_map value) xs)) ≡ map (option_map value) (xs ++ replicate (n + 1 - length xs) None)
      = ap (λ k. map (option_map value) xs ++ more k) (length-map xs (option_map value))
      ∙ ap (λ l. map (option_map value) xs ++ l) (map-replicate (option_map value) (n + 1 - length xs) None)
      ∙ sym (map-append (option_map value) xs (replicate (n + 1 - length xs) None)) in
      ap (λ l. slice_set l n (Some (value v))) grown ∙ sym (map-set (option_map value) (xs ++ replicate (n + 1 - length xs) None) n (Some v))

  stored_renamed : (r : Reg) (v : V) (s : State V P) → stored r (value v) (new_state s) ≡ answered new_state (stored r v s)
  stored_renamed (X n) v s = ap (λ xs. becomes (record { registers = xs; calls = new_calls s.calls; pending = option_map (rename_pending value place) s.pending })) (written_renamed s.registers n v)
  stored_renamed (Y n) v s = on_calls_renamed s (filled n (value v) (new_calls s.calls)) (filled n v s.calls) (filled_renamed n v s.calls)

  raised_to_renamed : (class : Class) (reason : V) (s : State V P) (l : Option (P × Calls V P))
      → raised_to class (value reason) (new_state s) (option_map new_lead l) ≡ option_map (rename_lead value place) (raised_to class reason s l)
  raised_to_renamed class reason s None = refl
  raised_to_renamed class reason s (Some (to, c)) = refl

  pub rules_are_blind : RulesAreBlind value place
  rules_are_blind = record {
    get = fetched_renamed;
    set = stored_renamed;
    suspend = λ back s. on_calls_renamed s (suspended (place back) (new_calls s.calls)) (suspended back s.calls) (suspended_renamed back s.calls);
    resume = λ s. ap (answered (option_map (with_lead (new_state s)))) (resumed_renamed s.calls) ∙ leads_renamed s (resumed s.calls);
    no_frame = λ s. on_calls_renamed s (unframed (new_calls s.calls)) (unframed s.calls) (no_frame_renamed s.calls);
    allocate = λ n s. on_calls_renamed s (allocated n (new_calls s.calls)) (allocated n s.calls) (allocated_renamed n s.calls);
    deallocate = λ n s. on_calls_renamed s (deallocated n (new_calls s.calls)) (deallocated n s.calls) (deallocated_renamed n s.calls);
    trim = λ n rest s. on_calls_renamed s (trimmed n rest (new_calls s.calls)) (trimmed n rest s.calls) (trimmed_renamed n rest s.calls);
    push_catch = λ slot to s. on_calls_renamed s (caught slot (place to) (new_calls s.calls)) (caught slot to s.calls) (caught_renamed slot to s.calls);
    end_catch = λ slot s. on_calls_renamed s (ended slot (new_calls s.calls)) (ended slot s.calls) (ended_renamed slot s.calls);
    raise = λ class reason s. ap (raised_to class (value reason) (new_state s)) (unwound_renamed s.calls.running s.calls.waiting) ∙ raised_to_renamed class reason s (unwound s.calls.running s.calls.waiting);
    end_pending = λ s. refl;
  }
