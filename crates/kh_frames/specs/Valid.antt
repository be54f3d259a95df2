-- What holds of every state that the calls can reach.
use Rattle.std.specs.Prelude.{◌≡◌, ℕ, ◌+◌, ◌≤◌, ◌==◌, Bool, true, false, cond, List, [], ◌∷◌, length, slice_get, Some, None, is_some}
use Rattle.std.specs.declared.option.Option.{Option}
use Rattle.kh_frames.specs.State.{Call, Calls, State}
use Rattle.kh_frames.specs.Frame.{slots, is_marked}
use Rattle.kh_frames.specs.Rules.{slots_of_all}
use Rattle.kh_frames.specs.declared.state.Slot.{Slot}

-- the last x register is written
abbrev pub ends_written : {V : Type 0} → List (Option V) → Bool
ends_written [] = true
ends_written (x ∷ []) = is_some x
ends_written (x ∷ y ∷ ys) = ends_written (y ∷ ys)

-- 1 at a marked slot, and else 0
abbrev pub mark_at : {V : Type 0} → Option (Slot V) → ℕ
mark_at None = 0
mark_at (Some s) = cond (is_marked s) 1 0

-- how many of these catches mark slot i
abbrev pub catches_of : {P : Type 0} → List (ℕ × P) → ℕ → ℕ
catches_of [] i = 0
catches_of (c ∷ cs) i = cond (c.0 == i) 1 0 + catches_of cs i

module _ {V P : Type 0} where
  -- the marks of a call's frame are exactly the slots of its catches, each once; so a call without a frame has no catch
  abbrev pub IsTied : Call V P → Type 0
  IsTied call = (i : ℕ) → catches_of call.catches i ≡ mark_at (slice_get (slots call.frame) i)

  abbrev pub AreTied : List (P × Call V P) → Type 0
  AreTied [] = Unit {0}
  AreTied ((back, call) ∷ calls) = IsTied call × AreTied calls

  -- the slots of all frames and the calls that wait are at most 100,000
  abbrev pub IsWithin : Calls V P → Type 0
  IsWithin c = length (slots c.running.frame) + slots_of_all c.waiting + length c.waiting ≤ 100000

  -- what holds of every state: the last x register is written, marks and catches agree in each call, and the limit holds
  pub record IsValid (s : State V P) : Type 0 where
    pub registers : ends_written s.registers ≡ true
    pub running : IsTied s.calls.running
    pub waiting : AreTied s.calls.waiting
    pub limit : IsWithin s.calls
