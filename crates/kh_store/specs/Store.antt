-- A store that is open, and what a crash leaves while its calls run.
use Rattle.std.specs.Prelude.{◌≡◌, ◌≢◌, ◌⊎◌, ℕ, ◌<◌, ◌≤◌, Bool, true, false, List, [], ◌∷◌, length, IfSome, IsTrue}
use Rattle.kh_term.specs.declared.tree.TermTree.{TermTree}
use Rattle.kh_io.specs.declared.files.Files.{Files}
use Rattle.kh_io.specs.Disk.{IsSafe}
use Rattle.kh_io.specs.View.{View}
use Rattle.kh_io.specs.Frames.{Leaves}
use Rattle.kh_log.specs.Records.{records_of, IsClosedAt}
use Rattle.kh_log.specs.Log.{Place, Holds}
use Rattle.kh_read.specs.declared.form.Form.{Form}
use Rattle.kh_store.specs.Tree.{Node}
use Rattle.kh_store.specs.State.{State, empty, store_logs, store_reply, store_after}
use Rattle.kh_store.specs.Recovery.{Recovered, Replays, Recovers}

-- The tree of a store that is open, its place in the log, and whether the disk has failed in one of its calls.
pub record Opened : Type 0 where
  pub nodes : List Node
  pub place : Place
  pub failed : Bool

-- its state
abbrev pub state_of : Opened → State
state_of store = record { nodes = store.nodes; span = store.place.last }

-- The store stands in its files: the disk hasn't failed in its calls, and a crash leaves of each file what a read gives. File 1, where
-- that is told, is the log that the store's calls found or left, with its last gate closed, and recovers to the store's state.
pub record Stands (store : Opened) (v : View) : Type 0 where
  pub works : store.failed ≡ false
  pub safe : IsSafe (v.seen 1) (v.image 1)
  pub others : (file : ℕ) → file < 4 → file ≢ 1 → IsSafe (v.seen file) (v.image file)
  pub found : IfSome (v.seen 1) (Holds store.place)
  pub closed : IfSome (v.seen 1) (IsClosedAt store.place.last)
  pub recovers : IfSome (v.seen 1) (λ bytes. Replays empty (records_of bytes) (Recovered (state_of store)))

-- a command was executed: its reply, and the state after it
abbrev pub Executes : Form → (old new : State) → TermTree → Type 0
Executes form old new reply = (reply ≡ store_reply form old) × (new ≡ store_after form old)

-- The disk has failed in a command that is logged: the state is as before it, and no other command will be executed.
pub record LeavesInDoubt (form : Form) (old new : Opened) : Type 0 where
  pub logged : IsTrue (store_logs form (state_of old))
  pub same : state_of new ≡ state_of old
  pub failed : new.failed ≡ true

-- a file of fewer than 2 bytes, which holds no record
abbrev pub IsShort : List ℕ → Type 0
IsShort bytes = length bytes < 2

-- what a read gives of file 1 before and after: the same, or it was so short, and is
abbrev pub StaysOrShort : (was now : List ℕ) → Type 0
StaysOrShort was now = (now ≡ was) ⊎ (IsShort was × IsShort now)

-- What a read gives of file 1 before a log is begun in it, and after: the same where it had 2 bytes or more, and else the one byte `00`.
abbrev pub Begun : (was now : List ℕ) → Type 0
Begun was now = ((2 ≤ length was) × (now ≡ was)) ⊎ (IsShort was × (now ≡ 0 ∷ []))

-- what a crash might have left of a file, or, where that was short, something else that is
abbrev pub IsOrShort : (image : List ℕ → Type 0) (was_short : Type 0) → List ℕ → Type 0
IsOrShort image was_short bytes = image bytes ⊎ (IsShort bytes × was_short)

-- What a crash while a store is opened may leave: what a crash at entry might have left, or of file 1 alone something else that is shorter
-- than 2 bytes, where it was so. The stamp is as it was.
abbrev pub Opening : View → Files → ℕ → Type 0
Opening v = Leaves 1 (IsOrShort (v.image 1) (IfSome (v.seen 1) IsShort)) v

-- What a crash while a command is executed may leave: files that recover to the state before it or to the state after it. The
-- stamp is as it was.
pub record Executing (form : Form) (old : State) (given : ℕ) (files : Files) (s : ℕ) : Type 0 where
  pub stamp : s ≡ given
  pub recovers : Recovers files (Recovered old) ⊎ Recovers files (Recovered (store_after form old))
