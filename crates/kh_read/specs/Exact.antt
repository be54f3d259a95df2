-- What reading a form byte by byte says of the bytes.
use Rattle.std.specs.Prelude.{◌≡◌, ◌<◌, ◌≤◌, ℕ, true, List, ◌++◌, length, ◌⊎◌, ⊤}
use Rattle.kh_term.specs.declared.tree.TermTree.{TermTree}
use Rattle.kh_text_defs.specs.declared.mode.Mode.{Mode}
use Rattle.kh_text_defs.specs.Blanks.{may_follow}
use Rattle.kh_text_defs.specs.Faults.{max_levels, BeginsWithin, IsReadable, SyntaxFaultAt, NumberFaultAt, DepthFaultAt, SizeFaultAt}
use Rattle.kh_text_defs.specs.Spelled.{within_limits, Spells, IsForm}
use Rattle.kh_read.specs.State.{Setting, Reading, Ended, Cut, Halted, Syntax, Number, Deep, Large}
use Rattle.kh_read.specs.Steps.{read_on, fresh}

-- within all limits
abbrev pub setting : Mode → Setting
setting mode = record { rules = within_limits mode; levels = max_levels; sized = true }

-- the form at the front of bytes
abbrev pub reading : Mode → List ℕ → Reading
reading mode bytes = read_on (setting mode) fresh 0 bytes

-- The bytes up to a place are a form within all limits that spells the term, and what comes behind it may follow.
pub record Found (mode : Mode) (bytes : List ℕ) (t : TermTree) (end : ℕ) : Type 0 where
  pub form : List ℕ
  pub rest : List ℕ
  pub parts : bytes ≡ form ++ rest
  pub readable : IsReadable mode form t
  pub follows : may_follow rest ≡ true
  pub place : end ≡ length form

-- a form was found; or the bytes begin one and are none; or a fault is met
unfoldable pub IsReading : Mode → List ℕ → Reading → Type 0
IsReading mode bytes (Ended t end) = Found mode bytes t end
IsReading mode bytes Cut = BeginsWithin mode bytes × ((t : TermTree) → IsForm (within_limits mode) max_levels bytes t → ⊥)
IsReading mode bytes (Halted Syntax n) = SyntaxFaultAt mode bytes n
IsReading mode bytes (Halted (Number first) n) = NumberFaultAt mode bytes first
IsReading mode bytes (Halted Deep n) = DepthFaultAt mode bytes n
IsReading mode bytes (Halted Large n) = (first : ℕ) × SizeFaultAt mode bytes first

-- a text spells at most one term
abbrev pub OneTermEach : Type 0
OneTermEach =
    (mode : Mode) (levels : ℕ) (text : List ℕ) (t u : TermTree) → Spells (within_limits mode) levels text t → Spells (within_limits mode) levels text u → t ≡ u

-- a form within all limits is read, where what comes behind it may follow
abbrev pub FormsAreRead : Type 0
FormsAreRead =
    (mode : Mode) (form rest : List ℕ) (t : TermTree) → IsReadable mode form t → may_follow rest ≡ true → reading mode (form ++ rest) ≡ Ended t (length form)

-- Later bytes don't change what was read: a fault, a form with a byte behind it, and a form behind which they may follow.
abbrev pub IsSettled : List ℕ → List ℕ → Reading → Type 0
IsSettled bytes more (Ended t end) = (end < length bytes) ⊎ (may_follow more ≡ true)
IsSettled bytes more Cut = ⊥
IsSettled bytes more (Halted halt n) = ⊤

abbrev pub LaterBytesChangeNothing : Type 0
LaterBytesChangeNothing = (mode : Mode) (bytes more : List ℕ) → IsSettled bytes more (reading mode bytes) → reading mode (bytes ++ more) ≡ reading mode bytes
