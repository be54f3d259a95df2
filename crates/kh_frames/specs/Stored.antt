-- How the calls lie on three stacks, each as its list from the top: the slots of all frames, the marks of all catches, and the calls that wait.
use Rattle.std.specs.Prelude.{◌≡◌, ℕ, ◌+◌, ◌-◌, ◌≤◌, List, [], ◌∷◌, length, take, drop, map, Some, None}
use Rattle.std.specs.declared.option.Option.{Option}
use Rattle.kh_frames.specs.State.{Call, Calls}
use Rattle.kh_frames.specs.Valid.{IsTied, AreTied}
use Rattle.kh_frames.specs.declared.state.Slot.{Slot}
use Rattle.kh_frames.specs.declared.state.Place.{Place}
use Rattle.kh_frames.specs.declared.state.Extent.{Extent}
use Rattle.kh_frames.specs.declared.state.Mark.{Mark}
use Rattle.kh_frames.specs.declared.state.Waiting.{Waiting}
use Rattle.kh_heap.specs.declared.reference.Ref.{Ref}

-- the slots of a call; none without a frame
abbrev pub size : Option ℕ → ℕ
size None = 0
size (Some n) = n

-- the frame on top of the slots
abbrev pub frame_on : Option ℕ → List (Slot Ref) → Option (List (Slot Ref))
frame_on None slots = None
frame_on (Some n) slots = Some (take n slots)

-- a mark as a catch, in the frame on top of this many slots
abbrev pub catch_at : ℕ → Mark → ℕ × Place
catch_at height m = (height - m.height, m.to)

-- the call on top of the slots and marks
abbrev pub call_on : Extent → List (Slot Ref) → List Mark → Call Ref Place
call_on e slots marks = record { frame = frame_on e.frame slots; catches = map (catch_at (length slots)) (take (length marks - e.base) marks) }

-- the slots and the marks below the call on top
abbrev pub slots_below : Extent → List (Slot Ref) → List (Slot Ref)
slots_below e slots = drop (size e.frame) slots

abbrev pub marks_below : Extent → List Mark → List Mark
marks_below e marks = drop (length marks - e.base) marks

-- the calls below one another, the newest on top
abbrev pub calls_on : List Waiting → List (Slot Ref) → List Mark → List (Place × Call Ref Place)
calls_on [] slots marks = []
calls_on (w ∷ ws) slots marks = (w.back, call_on w.extent slots marks) ∷ calls_on ws (slots_below w.extent slots) (marks_below w.extent marks)

-- the call that runs on top, and those that wait below it
abbrev pub calls_of : Extent → List Waiting → List (Slot Ref) → List Mark → Calls Ref Place
calls_of e ws slots marks = record { running = call_on e slots marks; waiting = calls_on ws (slots_below e slots) (marks_below e marks) }

-- the calls take up both stacks
abbrev pub IsLaid : List Waiting → List (Slot Ref) → List Mark → Type 0
IsLaid [] slots marks = (length slots ≡ 0) × (length marks ≡ 0)
IsLaid (w ∷ ws) slots marks = (size w.extent.frame ≤ length slots) × (w.extent.base ≤ length marks) × IsLaid ws (slots_below w.extent slots) (marks_below w.extent marks)

-- what holds of the stacks
pub record Fits (e : Extent) (ws : List Waiting) (slots : List (Slot Ref)) (marks : List Mark) : Type 0 where
  pub frame : size e.frame ≤ length slots
  pub base : e.base ≤ length marks
  pub laid : IsLaid ws (slots_below e slots) (marks_below e marks)
  pub running : IsTied (call_on e slots marks)
  pub waiting : AreTied (calls_on ws (slots_below e slots) (marks_below e marks))
  pub limit : length slots + length ws ≤ 100000
