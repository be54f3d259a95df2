-- How a store is opened: its log is begun where there is none, and the records are applied.
use Rattle.std.specs.Prelude.{◌≡◌, ◌<◌, ℕ, ℤ, List, length, slice_get, Option, Some, None, IsTrue, IfSome}
use Rattle.kh_term.specs.declared.name.Name.{Name}
use Rattle.kh_read.specs.declared.form.Form.TheVariants as form
use Rattle.kh_io.specs.View.{View}
use Rattle.kh_log.specs.Log.{Place, Holds, passed}
use Rattle.kh_log.specs.declared.error.LogError.{LogError}
use Rattle.kh_log.specs.declared.error.LogError.TheVariants as log_error
use Rattle.kh_store.specs.declared.store.OpenError.{OpenError}
use Rattle.kh_store.specs.declared.store.OpenError.TheVariants as open_error
use Rattle.kh_store.specs.Command.{IsPut}
use Rattle.kh_store.specs.State.{State, command_limit, store_logs, store_after}
use Rattle.kh_store.specs.Store.{IsShort}

-- the file was told, and had fewer than 2 bytes
abbrev pub WasShort : Option (List ℕ) → Type 0
WasShort (Some bytes) = IsShort bytes
WasShort None = ⊥

-- These bytes are a record that the store in a state would have logged, and this is the state after it.
pub record IsRecord (bytes : List ℕ) (old new : State) : Type 0 where
  pub path : List Name
  pub number : ℤ
  pub put : IsPut bytes path number
  pub logged : IsTrue (store_logs (form.Put path number) old)
  pub after : new ≡ store_after (form.Put path number) old

-- a record with these bytes was left, and was read
pub record Passes (old new : Place) (bytes : List ℕ) : Type 0 where
  pub left : old.read < old.records
  pub is : new ≡ passed old bytes

-- the record of this number is longer than any command
pub record IsTooLong (records : List (List ℕ)) (number : ℕ) : Type 0 where
  pub bytes : List ℕ
  pub there : slice_get records number ≡ Some bytes
  pub long : command_limit < length bytes

-- why no store was opened where the log of file 1 wasn't
abbrev pub opening_error : LogError → OpenError
opening_error log_error.DiskFault = open_error.DiskFault
opening_error (log_error.NotALog offset) = open_error.Damaged 1 offset
opening_error log_error.NoMemory = open_error.NoMemory

-- the log of file 1, of which no record was read
pub record IsUnread (log : Place) (v : View) : Type 0 where
  pub file : log.file ≡ 1
  pub none : log.read ≡ 0
  pub found : IfSome (v.seen 1) (Holds log)
