-- A session: the commands of a script, executed from a state on, and what a crash leaves meanwhile.
use Rattle.std.specs.Prelude.{◌≡◌, ℕ, ◌+◌, ◌-◌, ◌<◌, ◌≤◌, ◌⊎◌, IsTrue, List, [], ◌∷◌, ◌++◌, length, take}
use Rattle.kh_io.specs.declared.files.Files.{Files}
use Rattle.kh_io.specs.Told.{IsFrontOf}
use Rattle.kh_io.specs.Disk.{AreImages}
use Rattle.kh_io.specs.View.{View}
use Rattle.kh_read.specs.declared.form.Form.{Form}
use Rattle.kh_store.specs.State.{State, store_logs, state_after, text_of}
use Rattle.kh_store.specs.Recovery.{Recovered, Recovers}

-- the files recover to a state, with the stamp of a moment
abbrev pub RecoversAt : State → View → Files → ℕ → Type 0
RecoversAt state v files s = (s ≡ v.stamp) × Recovers files (Recovered state)

-- or with no greater one
abbrev pub RecoversBy : State → View → Files → ℕ → Type 0
RecoversBy state v files s = (s ≤ v.stamp) × Recovers files (Recovered state)

-- The files recover to the state after the first k commands, and the sink had taken no more than the replies to these.
pub record HasPrefix (first : State) (forms : List Form) (from : ℕ) (files : Files) (s : ℕ) : Type 0 where
  pub k : ℕ
  pub within : k ≤ length forms
  pub recovers : Recovers files (Recovered (state_after (take k forms) first))
  pub taken : s ≤ from + length (text_of (take k forms) first)

-- The files recover to the state after the first k commands, and every command whose reply begins within the bytes that the sink
-- had taken since the stamp at entry is among these.
pub record KeepsAnswered (first : State) (forms : List Form) (from : ℕ) (files : Files) (s : ℕ) : Type 0 where
  pub k : ℕ
  pub within : k ≤ length forms
  pub recovers : Recovers files (Recovered (state_after (take k forms) first))
  pub answered : (j : ℕ) → j < length forms → length (text_of (take j forms) first) < s - from → j < k

-- A session that was cut off: commands were answered, at most so many behind them were executed, and a front of the replies to these was given.
-- A crash from then on leaves the state after the answered ones, or after all of these.
pub record CutOff (limit : ℕ) (first : State) (w : View) : Type 0 where
  pub answered : List Form
  pub last : List Form
  pub few : length last ≤ limit
  pub part : List ℕ
  pub reply : IsFrontOf part (text_of last (state_after answered first))
  pub images : (files : Files) → AreImages w.image files
      → Recovers files (Recovered (state_after answered first)) ⊎ Recovers files (Recovered (state_after (answered ++ last) first))

-- It was cut off at one command that is logged, and of its reply nothing was given.
pub record IsInDoubt (first : State) (w : View) (session : CutOff 1 first w) : Type 0 where
  pub form : Form
  pub alone : session.last ≡ form ∷ []
  pub logged : IsTrue (store_logs form (state_after session.answered first))
  pub none : session.part ≡ []
