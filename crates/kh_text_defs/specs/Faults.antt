-- Which bytes begin a form, and where a fault is met.
use Rattle.std.specs.Prelude.{◌≡◌, ◌<◌, ◌≤◌, ◌+◌, ℕ, Bool, true, false, not, IsTrue, List, [], ◌∷◌, ◌++◌, length, take, drop, slice_range, ◌⊎◌, ℤ}
use Rattle.kh_term.specs.declared.tree.TermTree.{TermTree}
use Rattle.kh_term.specs.Size.{size_of}
use Rattle.kh_term.specs.WellFormed.{fits_128}
use Rattle.kh_text_defs.specs.declared.mode.Mode.{Mode}
use Rattle.kh_text_defs.specs.Blanks.{IsBlank, IsBlankToEnd, may_follow, begins_no_blank}
use Rattle.kh_text_defs.specs.Tokens.{IsInteger}
use Rattle.kh_text_defs.specs.Spelled.{Rules, within_limits, limits_aside, IsForm}

-- how many levels may be open at a time, and how large a term may be
abbrev pub max_levels : ℕ
max_levels = 200

abbrev pub max_size : ℕ
max_size = 1048576

-- The bytes begin a form: with others behind them they are one.
abbrev pub Begins : Rules → ℕ → List ℕ → Type 0
Begins rules levels bytes = (more : List ℕ) × (t : TermTree) × IsForm rules levels (bytes ++ more) t

-- within all limits; with integers of any length; with any number of levels; with all limits aside
abbrev pub BeginsWithin : Mode → List ℕ → Type 0
BeginsWithin mode bytes = Begins (within_limits mode) max_levels bytes

abbrev pub BeginsWithAnyNumber : Mode → List ℕ → Type 0
BeginsWithAnyNumber mode bytes = Begins (limits_aside mode) max_levels bytes

abbrev pub BeginsAtAnyDepth : Mode → List ℕ → Type 0
BeginsAtAnyDepth mode bytes = (levels : ℕ) × Begins (within_limits mode) levels bytes

abbrev pub BeginsAnyhow : Mode → List ℕ → Type 0
BeginsAnyhow mode bytes = (levels : ℕ) × Begins (limits_aside mode) levels bytes

-- a form that is read: within all limits, its size among them
abbrev pub IsReadable : Mode → List ℕ → TermTree → Type 0
IsReadable mode text t = IsForm (within_limits mode) max_levels text t × (size_of t ≤ max_size)

-- The byte at n is the first with which the bytes stop beginning a form within the limits. A form that has ended there
-- was small enough, and may not be followed by that byte.
pub record StopsAt (mode : Mode) (bytes : List ℕ) (n : ℕ) : Type 0 where
  pub inside : n < length bytes
  pub begins : BeginsWithin mode (take n bytes)
  pub stops : BeginsWithin mode (take (n + 1) bytes) → ⊥
  pub ended : (t : TermTree) → IsForm (within_limits mode) max_levels (take n bytes) t → (size_of t ≤ max_size) × (may_follow (drop n bytes) ≡ false)

-- a syntax fault at n: nor do the bytes begin a form with all limits aside
abbrev pub SyntaxFaultAt : Mode → List ℕ → ℕ → Type 0
SyntaxFaultAt mode bytes n = StopsAt mode bytes n × (BeginsAnyhow mode (take (n + 1) bytes) → ⊥)

-- The text is an integer, and is no part of a longer one that begins before it.
abbrev pub IsWholeInteger : List ℕ → ℕ → ℕ → ℤ → Type 0
IsWholeInteger bytes first end number =
    (first < end) × IsInteger (slice_range bytes first end) number
    × ((before : ℕ) (other : ℤ) → before < first → IsInteger (slice_range bytes before end) other → ⊥)

-- An integer that begins at first leaves 128 bits with a digit.
abbrev pub NumberFaultAt : Mode → List ℕ → ℕ → Type 0
NumberFaultAt mode bytes first =
    (n : ℕ) × (number : ℤ) × StopsAt mode bytes n × BeginsWithAnyNumber mode (take (n + 1) bytes)
    × IsWholeInteger bytes first (n + 1) number × (fits_128 number ≡ false)

-- a bracket or a text in double quotes at n opens a level too many
abbrev pub DepthFaultAt : Mode → List ℕ → ℕ → Type 0
DepthFaultAt mode bytes n = StopsAt mode bytes n × BeginsAtAnyDepth mode (take (n + 1) bytes)

-- a form that begins at first, behind blanks, has ended and its term is too large
abbrev pub SizeFaultAt : Mode → List ℕ → ℕ → Type 0
SizeFaultAt mode bytes first =
    (text : List ℕ) × (rest : List ℕ) × (t : TermTree) × IsBlank (take first bytes) × (drop first bytes ≡ text ++ rest)
    × IsTrue (begins_no_blank text) × IsForm (within_limits mode) max_levels text t × (max_size < size_of t)

-- more than blanks is left, which begins a form and is none, and no fault was met
abbrev pub IsUnfinished : Mode → List ℕ → Type 0
IsUnfinished mode bytes =
    BeginsWithin mode bytes × (IsBlankToEnd bytes → ⊥) × ((t : TermTree) → IsForm (within_limits mode) max_levels bytes t → ⊥)
