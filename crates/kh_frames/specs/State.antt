-- The state of the frames: values of any type in registers and slots, places of any type in calls and catches.
use Rattle.std.specs.Prelude.{ℕ, List}
use Rattle.std.specs.declared.option.Option.{Option}
use Rattle.kh_frames.specs.declared.state.Slot.{Slot}
use Rattle.kh_term.specs.declared.kinds.Class.{Class}

module _ (V P : Type 0) where
  -- a call: its frame, if it has one, and its own catches, newest first, each as the slot that it marks and the place that it leads to
  pub record Call : Type 0 where
    pub frame : Option (List (Slot V))
    pub catches : List (ℕ × P)

  -- the call that runs, and the calls that wait, newest first, each with the place at which it goes on
  pub record Calls : Type 0 where
    pub running : Call
    pub waiting : List (P × Call)

  -- the x registers, each written or absent, the last one written; the calls; the pending exception, if there is one
  pub record State : Type 0 where
    pub registers : List (Option V)
    pub calls : Calls
    pub pending : Option (Class × V)
