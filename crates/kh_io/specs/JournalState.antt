-- What a journal in memory is.
use Rattle.std.specs.Prelude.{ℕ, List, ◌+◌, ◌≤◌}
use Rattle.kh_io.specs.Call.{Call, cost}

-- the calls so far, and the room for calls
pub record JournalState : Type 0 where
  pub calls : List Call
  pub room : ℕ

-- one more call that moves n bytes is within the room
abbrev pub Fits : List Call → ℕ → ℕ → Type 0
Fits calls room n = cost calls + 64 + n ≤ room
