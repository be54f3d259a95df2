-- What each call of the frames answers and leaves, as a function of the state. None looks at a value or at a place.
use Rattle.std.specs.Prelude.{ℕ, ◌+◌, ◌==◌, ◌&&◌, not, nat_le, Bool, true, false, List, [], ◌∷◌, length, take, drop, map, slice_get, replicate, Some, None}
use Rattle.std.specs.List.{list_any}
use Rattle.std.specs.Option.{option_map}
use Rattle.std.specs.declared.option.Option.{Option}
use Rattle.kh_frames.specs.Frame.{register, written, slots, held, is_free, is_marked, is_unframed, has_slots, with_slot, is_empty, is_newest, lowered}
use Rattle.kh_frames.specs.State.{Call, Calls, State}
use Rattle.kh_frames.specs.declared.state.Slot.{Slot}
use Rattle.kh_frames.specs.declared.state.Slot.TheVariants.{Absent, Holds, Marked}
use Rattle.kh_instr.specs.declared.operand.Reg.{Reg}
use Rattle.kh_instr.specs.declared.operand.Reg.TheVariants.{X, Y}
use Rattle.kh_term.specs.declared.kinds.Class.{Class}

-- what a rule says: the code is bad, the limit would be passed, or this comes of it
pub data Answer (A : Type 0) : Type 0 where
  bad_code : Answer A
  past_limit : Answer A
  becomes : A → Answer A

-- an answer with what comes of it changed
abbrev pub answered : {A B : Type 0} → (A → B) → Answer A → Answer B
answered f bad_code = bad_code
answered f past_limit = past_limit
answered f (becomes a) = becomes (f a)

-- this where the test holds, else bad code
abbrev pub if_so : {A : Type 0} → Bool → Answer A → Answer A
if_so true answer = answer
if_so false answer = bad_code

-- the first, or else the second
abbrev pub unless_taken : {A : Type 0} → Option A → Option A → Option A
unless_taken None b = b
unless_taken (Some a) b = Some a

-- this where the test holds, else past the limit
abbrev pub within : {A : Type 0} → Bool → A → Answer A
within true after = becomes after
within false after = past_limit

module _ {V P : Type 0} where
  -- the slots of all frames
  abbrev pub slots_of_all : List (P × Call V P) → ℕ
  slots_of_all [] = 0
  slots_of_all ((back, call) ∷ calls) = length (slots call.frame) + slots_of_all calls

  -- whether the slots of all frames, the waiting calls and n more are at most 100,000
  abbrev pub has_room : Calls V P → ℕ → Bool
  has_room c n = nat_le (length (slots c.running.frame) + slots_of_all c.waiting + length c.waiting + n) 100000

  -- the calls with this frame and these catches in the call that runs
  abbrev pub running_with : Calls V P → Option (List (Slot V)) → List (ℕ × P) → Calls V P
  running_with c frame catches = record { running = record { frame = frame; catches = catches }; waiting = c.waiting }

  -- the slot i of the call that runs, if there is one
  abbrev pub slot_of : Calls V P → ℕ → Option (Slot V)
  slot_of c i = slice_get (slots c.running.frame) i

  -- the call that runs waits for a place, and one without a frame begins
  abbrev pub suspended : P → Calls V P → Answer (Calls V P)
  suspended back c = within (has_room c 1) (record { running = record { frame = None; catches = [] }; waiting = (back, c.running) ∷ c.waiting })

  -- the newest call that waits goes on, at its place
  abbrev pub goes_on : List (P × Call V P) → Option (P × Calls V P)
  goes_on [] = None
  goes_on ((back, call) ∷ calls) = Some (back, record { running = call; waiting = calls })

  -- a call without a frame ends
  abbrev pub resumed : Calls V P → Answer (Option (P × Calls V P))
  resumed c = if_so (is_unframed c.running.frame) (becomes (goes_on c.waiting))

  -- nothing changes where there is no frame
  abbrev pub unframed : Calls V P → Answer (Calls V P)
  unframed c = if_so (is_unframed c.running.frame) (becomes c)

  -- a frame of n absent slots, where there is none
  abbrev pub allocated : ℕ → Calls V P → Answer (Calls V P)
  allocated n c = if_so (is_unframed c.running.frame) (within (has_room c n) (running_with c (Some (replicate n Absent)) c.running.catches))

  -- no frame, where there is one of n slots, and no catch in it
  abbrev pub deallocated : ℕ → Calls V P → Answer (Calls V P)
  deallocated n c = if_so (has_slots c.running.frame n && is_empty c.running.catches) (becomes (running_with c None []))

  -- a frame without its first n slots, of which none is marked, where there are this many behind them
  abbrev pub trimmed : ℕ → ℕ → Calls V P → Answer (Calls V P)
  trimmed n rest c = if_so (has_slots c.running.frame (n + rest) && not (list_any is_marked (take n (slots c.running.frame))))
      (becomes (running_with c (Some (drop n (slots c.running.frame))) (lowered n c.running.catches)))

  -- a catch more, whose slot, which was free, is marked
  abbrev pub caught : ℕ → P → Calls V P → Answer (Calls V P)
  caught slot to c = if_so (is_free (slot_of c slot)) (becomes (running_with c (with_slot c.running.frame slot Marked) ((slot, to) ∷ c.running.catches)))

  -- the newest catch of the call that runs is gone, and its slot is absent: the place that it leads to, and the calls then
  abbrev pub taken_of : Calls V P → List (ℕ × P) → Option (P × Calls V P)
  taken_of c [] = None
  taken_of c ((slot, to) ∷ catches) = Some (to, running_with c (with_slot c.running.frame slot Absent) catches)

  abbrev pub taken : Calls V P → Option (P × Calls V P)
  taken c = taken_of c c.running.catches

  -- the newest catch of the call that runs, where it is one of this slot, is gone, and its slot is absent
  abbrev pub ended_by : Option (P × Calls V P) → Answer (Calls V P)
  ended_by None = bad_code
  ended_by (Some (to, c)) = becomes c

  abbrev pub ended : ℕ → Calls V P → Answer (Calls V P)
  ended slot c = if_so (is_newest slot c.running.catches) (ended_by (taken c))

  -- the newest catch of all calls is taken: its call runs, and the calls that are newer are gone
  abbrev pub unwound : Call V P → List (P × Call V P) → Option (P × Calls V P)
  unwound running [] = taken (record { running = running; waiting = [] })
  unwound running ((back, call) ∷ calls) = unless_taken (taken (record { running = running; waiting = (back, call) ∷ calls })) (unwound call calls)

  -- the value of a register, if it holds one
  abbrev pub fetched : Reg → State V P → Option V
  fetched (X n) s = register s.registers n
  fetched (Y n) s = held (slot_of s.calls n)

  -- the state with other calls
  abbrev pub with_calls : State V P → Calls V P → State V P
  with_calls s c = record { registers = s.registers; calls = c; pending = s.pending }

  -- what a rule of calls says of a state
  abbrev pub on_calls : (Calls V P → Answer (Calls V P)) → State V P → Answer (State V P)
  on_calls rule s = answered (with_calls s) (rule s.calls)

  -- what `resume` says of a state
  abbrev pub with_lead : State V P → P × Calls V P → P × State V P
  with_lead s (to, c) = (to, with_calls s c)

  abbrev pub resumed_to : State V P → Answer (Option (P × State V P))
  resumed_to s = answered (option_map (with_lead s)) (resumed s.calls)

  -- a value in a slot of the call that runs, which was free
  abbrev pub filled : ℕ → V → Calls V P → Answer (Calls V P)
  filled i v c = if_so (is_free (slot_of c i)) (becomes (running_with c (with_slot c.running.frame i (Holds v)) c.running.catches))

  -- a value in a register
  abbrev pub stored : Reg → V → State V P → Answer (State V P)
  stored (X n) v s = becomes (record { registers = written s.registers n v; calls = s.calls; pending = s.pending })
  stored (Y n) v s = on_calls (filled n v) s

  -- an exception goes to the newest catch, if there is one: the place that it leads to, and the state there
  abbrev pub raised_to : Class → V → State V P → Option (P × Calls V P) → Option (P × State V P)
  raised_to class reason s None = None
  raised_to class reason s (Some (to, c)) = Some (to, record { registers = s.registers; calls = c; pending = Some (class, reason) })

  abbrev pub raised : Class → V → State V P → Option (P × State V P)
  raised class reason s = raised_to class reason s (unwound s.calls.running s.calls.waiting)

  -- no exception is pending
  abbrev pub settled : State V P → State V P
  settled s = record { registers = s.registers; calls = s.calls; pending = None }

  -- one call without a frame
  abbrev pub one_call : Calls V P
  one_call = record { running = record { frame = None; catches = [] }; waiting = [] }

  -- every register absent, one call without a frame, and nothing pending
  abbrev pub begun : State V P
  begun = record { registers = []; calls = one_call; pending = None }
