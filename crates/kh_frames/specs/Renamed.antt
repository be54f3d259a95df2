-- A state with each value and each place renamed: the rules don't look at them.
use Rattle.std.specs.Prelude.{◌≡◌, ℕ, List, map, Some, None}
use Rattle.std.specs.Option.{option_map}
use Rattle.std.specs.declared.option.Option.{Option}
use Rattle.kh_frames.specs.State.{Call, Calls, State}
use Rattle.kh_frames.specs.Rules.{Answer, answered, on_calls, fetched, stored, suspended, resumed_to, unframed, allocated, deallocated, trimmed, caught, ended, raised, settled}
use Rattle.kh_frames.specs.declared.state.Slot.{Slot}
use Rattle.kh_frames.specs.declared.state.Slot.TheVariants.{Absent, Holds, Marked}
use Rattle.kh_instr.specs.declared.operand.Reg.{Reg}
use Rattle.kh_term.specs.declared.kinds.Class.{Class}

module _ {V W P Q : Type 0} (value : V → W) (place : P → Q) where
  abbrev pub rename_slot : Slot V → Slot W
  rename_slot Absent = Absent
  rename_slot (Holds v) = Holds (value v)
  rename_slot Marked = Marked

  abbrev pub rename_catch : ℕ × P → ℕ × Q
  rename_catch (slot, to) = (slot, place to)

  abbrev pub rename_call : Call V P → Call W Q
  rename_call c = record { frame = option_map (map rename_slot) c.frame; catches = map rename_catch c.catches }

  abbrev pub rename_waiting : P × Call V P → Q × Call W Q
  rename_waiting (back, call) = (place back, rename_call call)

  abbrev pub rename_calls : Calls V P → Calls W Q
  rename_calls c = record { running = rename_call c.running; waiting = map rename_waiting c.waiting }

  abbrev pub rename_pending : Class × V → Class × W
  rename_pending (class, reason) = (class, value reason)

  abbrev pub rename : State V P → State W Q
  rename s = record { registers = map (option_map value) s.registers; calls = rename_calls s.calls; pending = option_map rename_pending s.pending }

  -- a place to go on at, with the state there
  abbrev pub rename_lead : P × State V P → Q × State W Q
  rename_lead (to, s) = (place to, rename s)

  -- what each rule says of a renamed state is what it says of the state, renamed
  pub record RulesAreBlind : Type 0 where
    pub get : (r : Reg) (s : State V P) → fetched r (rename s) ≡ option_map value (fetched r s)
    pub set : (r : Reg) (v : V) (s : State V P) → stored r (value v) (rename s) ≡ answered rename (stored r v s)
    pub suspend : (back : P) (s : State V P) → on_calls (suspended (place back)) (rename s) ≡ answered rename (on_calls (suspended back) s)
    pub resume : (s : State V P) → resumed_to (rename s) ≡ answered (option_map rename_lead) (resumed_to s)
    pub no_frame : (s : State V P) → on_calls unframed (rename s) ≡ answered rename (on_calls unframed s)
    pub allocate : (n : ℕ) (s : State V P) → on_calls (allocated n) (rename s) ≡ answered rename (on_calls (allocated n) s)
    pub deallocate : (n : ℕ) (s : State V P) → on_calls (deallocated n) (rename s) ≡ answered rename (on_calls (deallocated n) s)
    pub trim : (n rest : ℕ) (s : State V P) → on_calls (trimmed n rest) (rename s) ≡ answered rename (on_calls (trimmed n rest) s)
    pub push_catch : (slot : ℕ) (to : P) (s : State V P) → on_calls (caught slot (place to)) (rename s) ≡ answered rename (on_calls (caught slot to) s)
    pub end_catch : (slot : ℕ) (s : State V P) → on_calls (ended slot) (rename s) ≡ answered rename (on_calls (ended slot) s)
    pub raise : (class : Class) (reason : V) (s : State V P) → raised class (value reason) (rename s) ≡ option_map rename_lead (raised class reason s)
    pub end_pending : (s : State V P) → settled (rename s) ≡ rename (settled s)
