-- What the files of a store recover to: the commands in the log of file 1, applied in order. It knows nothing of reads.
use Rattle.std.specs.Prelude.{◌≡◌, ℕ, ℤ, ◌+◌, List, [], ◌∷◌, Option, Some, None, IsTrue}
use Rattle.kh_term.specs.declared.name.Name.{Name}
use Rattle.kh_io.specs.declared.files.Files.{Files}
use Rattle.kh_log.specs.Records.{records_of, lacking_in}
use Rattle.kh_read.specs.declared.form.Form.TheVariants as form
use Rattle.kh_store.specs.Command.{IsPut}
use Rattle.kh_store.specs.State.{State, empty, store_logs, store_after}

-- what files recover to: a state, or their first damage by its file and its offset
pub data Recovery : Type 0 where
  Recovered : State → Recovery
  Damaged : ℕ → ℕ → Recovery

-- These bytes are no command, or one that the store in this state wouldn't have logged.
abbrev pub IsNoRecord : List ℕ → State → Type 0
IsNoRecord bytes s = (path : List Name) (number : ℤ) → IsPut bytes path number → IsTrue (store_logs (form.Put path number) s) → ⊥

-- Records in order from a state on: each is a command that the store in that state would have logged, and is applied; the first
-- that isn't is damage, at the offset of its length.
pub data Replays : State → List (List ℕ) → Recovery → Type 0 where
  ends : (s : State) → Replays s [] (Recovered s)
  applies : (s : State) (bytes : List ℕ) (path : List Name) (number : ℤ) (more : List (List ℕ)) (end : Recovery)
      → IsPut bytes path number → IsTrue (store_logs (form.Put path number) s)
      → Replays (store_after (form.Put path number) s) more end → Replays s (bytes ∷ more) end
  refuses : (s : State) (bytes : List ℕ) (more : List (List ℕ)) → IsNoRecord bytes s → Replays s (bytes ∷ more) (Damaged 1 (s.span + 1))

-- A record that lacks bytes is damage, met before any record is applied.
abbrev pub ReplaysUnless : Option ℕ → List (List ℕ) → Recovery → Type 0
ReplaysUnless (Some offset) records end = end ≡ Damaged 1 offset
ReplaysUnless None records end = Replays empty records end

-- what these files recover to
abbrev pub Recovers : Files → Recovery → Type 0
Recovers files end = ReplaysUnless (lacking_in files.l0) (records_of files.l0) end

-- Files recover to one thing, and no two.
pub record OneRecovery : Type 0 where
  pub some : (files : Files) → (end : Recovery) × Recovers files end
  pub one : (files : Files) (end last : Recovery) → Recovers files end → Recovers files last → end ≡ last
