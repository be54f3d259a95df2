-- What calls leave alone, from the view v at entry to the view w at exit. Each of these words composes: it holds of two calls, one
-- behind the other, where it holds of each.
use Rattle.std.specs.Prelude.{◌≡◌, ◌≢◌, ◌⊎◌, ℕ, ◌<◌, ◌≤◌, List, All, Option, Some, IsSome}
use Rattle.kh_io.specs.declared.files.Files.{Files}
use Rattle.kh_io.specs.Call.{Call, IsOfDisk, IsAsking}
use Rattle.kh_io.specs.Told.{Told, Kept, Extends, Rose}
use Rattle.kh_io.specs.Disk.{file_of, AreImages, TellsFiles, Stays, IsSafe}
use Rattle.kh_io.specs.View.{View}

-- all files stay
abbrev pub FilesStay : (v w : View) → Type 0
FilesStay v w = (file : ℕ) → file < 4 → Stays (v.seen file) (w.seen file) (v.image file) (w.image file)

-- all files but this one stay
abbrev pub OthersStay : ℕ → (v w : View) → Type 0
OthersStay this v w = (file : ℕ) → file < 4 → file ≢ this → Stays (v.seen file) (w.seen file) (v.image file) (w.image file)

-- a crash leaves of each file what a read gives
abbrev pub AreSafe : View → Type 0
AreSafe v = (file : ℕ) → file < 4 → IsSafe (v.seen file) (v.image file)

-- The input and the sink aren't touched: no byte is taken nor given, and no call of them is made.
pub record StreamsStay (v w : View) : Type 0 where
  pub stamp : w.stamp ≡ v.stamp
  pub input : Kept v.left w.left
  pub sink : Kept v.given w.given
  pub reads : w.faults.reads ≡ v.faults.reads
  pub writes : w.faults.writes ≡ v.faults.writes
  pub calls : Extends v.journal w.journal (All IsOfDisk)

-- Calls that touch the input alone leave the sink: no byte is given, and the counts of failed writes and of the disk's faults stand.
pub record SinkStays (v w : View) : Type 0 where
  pub stamp : w.stamp ≡ v.stamp
  pub sink : Kept v.given w.given
  pub writes : w.faults.writes ≡ v.faults.writes
  pub disk : w.faults.disk ≡ v.faults.disk

-- Calls that touch the sink alone leave the input, and the counts of failed reads and of the disk's faults stand.
pub record InputStays (v w : View) : Type 0 where
  pub stamp : v.stamp ≤ w.stamp
  pub input : Kept v.left w.left
  pub reads : w.faults.reads ≡ v.faults.reads
  pub disk : w.faults.disk ≡ v.faults.disk

-- A count of faults rose where it is named as the cause, and else it stands. It never falls.
pub record Cause (named : Type 0) (old new : ℕ) : Type 0 where
  pub fault : named → Rose old new
  pub no_fault : (named → ⊥) → new ≡ old
  pub no_fewer : old ≤ new

-- the disk as the cause
abbrev pub DiskCause : Type 0 → (v w : View) → Type 0
DiskCause named v w = Cause named v.faults.disk w.faults.disk

-- all three, of a call of the host
pub record Causes (by_read by_write by_disk : Type 0) (v w : View) : Type 0 where
  pub reads : Cause by_read v.faults.reads w.faults.reads
  pub writes : Cause by_write v.faults.writes w.faults.writes
  pub disk : Cause by_disk v.faults.disk w.faults.disk

-- Time goes on in a call: a crash since t might have left what it might have left before the call, or what it may leave now,
-- with a stamp from that at entry to that at exit.
pub record Elapses (v w : View) : Type 0 where
  pub later : v.moment ≤ w.moment
  pub nothing_else : (t : ℕ) (files : Files) (s : ℕ) → t ≤ v.moment → w.since t files s
      → v.since t files s ⊎ (AreImages w.image files × (v.stamp ≤ s) × (s ≤ w.stamp))
  pub keeps : TellsFiles w.seen → (t : ℕ) (files : Files) (s : ℕ) → t ≤ v.moment → v.since t files s → w.since t files s

-- A crash at any moment since entry leaves files and a stamp of which P holds.
pub record During (P : Files → ℕ → Type 0) (v w : View) : Type 0 where
  pub later : v.moment ≤ w.moment
  pub each : (files : Files) (s : ℕ) → w.since v.moment files s → P files s
  -- for a run that began earlier
  pub earlier : (t : ℕ) (files : Files) (s : ℕ) → t ≤ v.moment → w.since t files s → v.since t files s ⊎ P files s

-- what a crash at this moment may leave, with the stamp of this moment
pub record OfView (v : View) (files : Files) (s : ℕ) : Type 0 where
  pub images : AreImages v.image files
  pub stamp : s ≡ v.stamp

-- what a crash may leave while the files aren't touched: what it might have left before, with a stamp of the span
pub record Untouched (v w : View) (files : Files) (s : ℕ) : Type 0 where
  pub images : AreImages v.image files
  pub at_least : v.stamp ≤ s
  pub at_most : s ≤ w.stamp

-- What a crash may leave while one file is written: of that file bytes of which P holds, and of each other what it might have left
-- before. The stamp is as it was.
pub record Leaves (file : ℕ) (P : List ℕ → Type 0) (v : View) (files : Files) (s : ℕ) : Type 0 where
  pub own : P (file_of files file)
  pub others : (other : ℕ) → other < 4 → other ≢ file → v.image other (file_of files other)
  pub stamp : s ≡ v.stamp

-- Calls that only read: the files stay, time goes on, the streams stay, and no other call is made.
pub record Asks (v w : View) : Type 0 where
  pub files : FilesStay v w
  pub during : During (OfView v) v w
  pub streams : StreamsStay v w
  pub calls : Extends v.journal w.journal (All IsAsking)

-- Calls that write one file: the other files stay, and so do the streams; what a read gives of the file is told at exit only where it was
-- at entry. A crash meanwhile leaves what has P.
pub record WritesFile (file : ℕ) (P : Files → ℕ → Type 0) (v w : View) : Type 0 where
  pub own : Told (v.seen file) (w.seen file) (λ _ _. Unit {0})
  pub others : OthersStay file v w
  pub during : During P v w
  pub streams : StreamsStay v w

-- a fact of what a read gives of a file at entry and at exit, where it is told at exit
abbrev pub FileTold : ℕ → (v w : View) → (List ℕ → List ℕ → Type 0) → Type 0
FileTold file v w P = Told (v.seen file) (w.seen file) P

-- No input is taken, and what is told of a file at exit was told at entry.
pub record TakesNothing (v w : View) : Type 0 where
  pub input : Kept v.left w.left
  pub told : (file : ℕ) → file < 4 → IsSome (w.seen file) → IsSome (v.seen file)

-- a fact of what a read gives of the files at entry, where they are told at exit: then they were told at entry
pub record FilesTold (v w : View) (P : Files → Type 0) : Type 0 where
  pub told : TellsFiles w.seen → (files : Files) × ((file : ℕ) → file < 4 → v.seen file ≡ Some (file_of files file)) × P files
