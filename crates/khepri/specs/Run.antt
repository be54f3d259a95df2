-- What a whole run does.
use Rattle.std.specs.Prelude.{◌≡◌, ℕ, ◌-◌, ◌<◌, ◌^◌, ◌⊎◌, codes, List, [], ◌∷◌, ◌++◌, Result, Ok, Err, pos}
use Rattle.kh_term.specs.declared.tree.TermTree.{TermTree}
use Rattle.kh_term.specs.declared.tree.TermTree.TheVariants as tree
use Rattle.kh_io.specs.declared.files.Files.{Files}
use Rattle.kh_io.specs.Told.{Told, Kept, Extends, IsFrontOf}
use Rattle.kh_io.specs.Disk.{AreImages}
use Rattle.kh_io.specs.View.{View}
use Rattle.kh_io.specs.Frames.{During, OfView}
use Rattle.kh_text_defs.specs.Shown.{shown_line}
use Rattle.kh_read.specs.declared.form.Form.{Form}
use Rattle.khepri.specs.declared.session.Stop.{Stop}
use Rattle.khepri.specs.declared.session.Stop.TheVariants as stop
use Rattle.kh_store.specs.Machine.{word}
use Rattle.kh_store.specs.State.{State, state_after, text_of}
use Rattle.kh_store.specs.Recovery.{Recovery, Recovered, Damaged, Recovers}
use Rattle.khepri.specs.Script.{Ending, AtEnd, AtFault, Unfinished, WholeScript, FrontScript}
use Rattle.khepri.specs.Session.{KeepsAnswered, CutOff, IsInDoubt}

-- the status of a run that ended early
abbrev pub stop_status : Stop → ℕ
stop_status stop.Damaged = 1
stop_status stop.Syntax = 2
stop_status stop.ReadFault = 3
stop_status stop.WriteFault = 4
stop_status stop.DiskFault = 5
stop_status stop.NoMemory = 6
stop_status stop.TooLong = 9

-- the status of a run
abbrev pub run_status : Result (Unit {0}) Stop → ℕ
run_status (Ok done) = 0
run_status (Err why) = stop_status why

-- the status that says how a script ends
abbrev pub ending_status : Ending → ℕ
ending_status AtEnd = 0
ending_status AtFault = 2
ending_status Unfinished = 9

-- a write or a call of the disk failed, or memory ran out
abbrev pub IsUnreported : ℕ → Type 0
IsUnreported status = (status ≡ 4) ⊎ ((status ≡ 5) ⊎ (status ≡ 6))

-- a read failed, or one of these
abbrev pub IsCutOff : ℕ → Type 0
IsCutOff status = (status ≡ 3) ⊎ IsUnreported status

-- What has passed a run: the input at entry, what of it wasn't taken, and the bytes that were given.
pub record Passed : Type 0 where
  pub input : List ℕ
  pub rest : List ℕ
  pub given : List ℕ

-- a crash at any moment leaves what a crash at entry might have left, or every command that was answered, and none but these
abbrev pub Keeps : State → List Form → (v w : View) → Type 0
Keeps first forms v w = During (λ files s. OfView v files s ⊎ KeepsAnswered first forms v.stamp files s) v w

-- The run was cut off: of these commands a front was answered, and at most one more was executed.
pub record PartAnswered (first : State) (forms : List Form) (given : List ℕ) (v w : View) : Type 0 where
  pub cut : CutOff 1 first w
  pub front : IsFrontOf (cut.answered ++ cut.last) forms
  pub text : given ≡ text_of cut.answered first ++ cut.part
  pub crash : Keeps first (cut.answered ++ cut.last) v w

-- The run ended before any input was taken: nothing was given, and a crash leaves what it might have left at entry, or what recovers to
-- the same state.
pub record NotBegun (first : State) (passed : Passed) (v w : View) : Type 0 where
  pub input : passed.rest ≡ passed.input
  pub none : passed.given ≡ []
  pub images : (files : Files) → AreImages w.image files → AreImages v.image files ⊎ Recovers files (Recovered first)

-- A run from a state on gave these bytes: a front of the replies to the commands of the input. One list of commands serves the text and
-- what a crash leaves.
pub record Ran (first : State) (status : ℕ) (passed : Passed) (v w : View) : Type 0 where
  pub forms : List Form
  pub ending : Ending
  pub script : WholeScript passed.input forms ending
  pub front : IsFrontOf passed.given (text_of forms first)
  -- the status says how the script ends, or why the run was cut off
  pub how : (status ≡ ending_status ending) ⊎ IsCutOff status
  -- 0: all was read and answered
  pub done : status ≡ 0 → (passed.given ≡ text_of forms first) × (passed.rest ≡ [])
  -- 2 and 9: what is before the fault, and before the limit, was answered
  pub syntax : status ≡ 2 → passed.given ≡ text_of forms first
  pub too_long : status ≡ 9 → passed.given ≡ text_of forms first
  -- 3: the lines that had come whole were answered
  pub read_fault : status ≡ 3 → (taken : List ℕ) × (come : List Form) × (passed.input ≡ taken ++ passed.rest)
      × FrontScript taken come Unfinished × IsFrontOf come forms × (passed.given ≡ text_of come first)
  -- 4: some commands were answered, and at most one more was executed
  pub write_fault : status ≡ 4 → PartAnswered first forms passed.given v w
  -- 5: nothing was taken nor given; or one command that is logged is in doubt, and those before it were answered
  pub disk_fault : status ≡ 5 → NotBegun first passed v w
      ⊎ ((part : PartAnswered first forms passed.given v w) × IsInDoubt first w part.cut)
  -- 6: nothing was taken nor given; or some commands were answered, and at most one more was executed
  pub no_memory : status ≡ 6 → NotBegun first passed v w ⊎ PartAnswered first forms passed.given v w
  pub crash : Keeps first forms v w
  -- 0: a crash from then on leaves the state after all commands
  pub last : status ≡ 0 → (files : Files) → AreImages w.image files → Recovers files (Recovered (state_after forms first))

-- what a run gives, where the host tells its input and what the sink has taken
abbrev pub Ends : State → ℕ → (v w : View) → Type 0
Ends first status v w = Told v.left w.left (λ input rest. Extends v.given w.given (λ given.
    Ran first status (record { input = input; rest = rest; given = given }) v w))

-- `{damaged,File,Offset}`
abbrev pub damage_tree : ℕ → ℕ → TermTree
damage_tree file offset = tree.Tuple (word (codes "damaged") ∷ tree.Int (pos file) ∷ tree.Int (pos offset) ∷ [])

-- its line
abbrev pub damage_line : ℕ → ℕ → List ℕ
damage_line file offset = shown_line (damage_tree file offset)

-- A run over damaged files takes no input and gives the line that says where they are damaged, or a front of it. A read of the files
-- gives what it gave, and a crash leaves what it might have left at entry. The status is 1 unless a call fails or memory runs out.
pub record Reports (file offset status : ℕ) (v w : View) : Type 0 where
  pub line : Extends v.given w.given (λ given. IsFrontOf given (damage_line file offset) × (status ≡ 1 → given ≡ damage_line file offset))
  pub input : Kept v.left w.left
  pub reads : (this : ℕ) → this < 4 → Kept (v.seen this) (w.seen this)
  pub crash : During (λ files s. AreImages v.image files) v w
  pub how : (status ≡ 1) ⊎ IsUnreported status
  -- 5: nothing was given
  pub disk_fault : status ≡ 5 → Kept v.given w.given

-- what a run does by what the files at entry recover to
abbrev pub Runs : Recovery → ℕ → (v w : View) → Type 0
Runs (Recovered first) status v w = Ends first status v w
Runs (Damaged file offset) status v w = Reports file offset status v w

-- these files are damaged
abbrev pub FindsDamage : Files → Type 0
FindsDamage files = (file : ℕ) × (offset : ℕ) × Recovers files (Damaged file offset)

-- a count that hasn't risen, and isn't at the end of its type
pub record Stood (old new : ℕ) : Type 0 where
  pub same : new ≡ old
  pub room : new < 2 ^ 64 - 1

-- no count of faults has risen
pub record NoneRose (v w : View) : Type 0 where
  pub reads : Stood v.faults.reads w.faults.reads
  pub writes : Stood v.faults.writes w.faults.writes
  pub disk : Stood v.faults.disk w.faults.disk

-- The status says how the run ends, unless memory ran out: 1 where the files are damaged, else 0 at the end of the script, 2 at bytes
-- that are no form, 9 past the limit.
abbrev pub TellsEnding : ℕ → Recovery → (v w : View) → Type 0
TellsEnding status (Recovered first) v w = Told v.left w.left (λ input rest. Told v.given w.given (λ a b.
    (forms : List Form) (ending : Ending) → WholeScript input forms ending → (status ≡ 6) ⊎ (status ≡ ending_status ending)))
TellsEnding status (Damaged file offset) v w = (status ≡ 6) ⊎ (status ≡ 1)

-- Each input has a list of commands and an ending, and no two.
pub record OneScript : Type 0 where
  pub some : (input : List ℕ) → (forms : List Form) × (ending : Ending) × WholeScript input forms ending
  pub one : (input : List ℕ) (forms others : List Form) (ending last : Ending) → WholeScript input forms ending → WholeScript input others last
      → (forms ≡ others) × (ending ≡ last)
