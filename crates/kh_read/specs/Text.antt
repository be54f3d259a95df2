-- What the bytes from a place on are.
use Rattle.std.specs.Prelude.{◌≡◌, ℕ, ◌+◌, true, List, ◌++◌, length, drop, Result, Ok, Err, ◌⊎◌, ⊤}
use Rattle.kh_term.specs.declared.term.Term.{Term}
use Rattle.kh_text_defs.specs.declared.mode.Mode.{Mode}
use Rattle.kh_text_defs.specs.Blanks.{may_follow}
use Rattle.kh_text_defs.specs.Faults.{IsReadable, SyntaxFaultAt, NumberFaultAt, DepthFaultAt, SizeFaultAt, IsUnfinished}
use Rattle.kh_read.specs.declared.fault.ReadError.{ReadError}
use Rattle.kh_read.specs.declared.fault.ReadError.TheVariants as faults

-- From a place up to another the bytes are a form within all limits that spells the term, and what comes behind may follow.
pub record IsRead (mode : Mode) (bytes : List ℕ) (at : ℕ) (t : Term) (end : ℕ) : Type 0 where
  pub form : List ℕ
  pub rest : List ℕ
  pub parts : drop at bytes ≡ form ++ rest
  pub readable : IsReadable mode form t.node
  pub follows : may_follow rest ≡ true
  pub place : end ≡ at + length form

-- a fault of the bytes from a place on, whose own place counts from their beginning
abbrev pub From : (List ℕ → ℕ → Type 0) → List ℕ → ℕ → ℕ → Type 0
From FaultAt bytes at n = (k : ℕ) × (n ≡ at + k) × FaultAt (drop at bytes) k

-- why no form stands there; of memory nothing is said
abbrev pub IsWhy : Mode → List ℕ → ℕ → ReadError → Type 0
IsWhy mode bytes at (faults.Syntax n) = From (SyntaxFaultAt mode) bytes at n
IsWhy mode bytes at faults.Incomplete = IsUnfinished mode (drop at bytes)
IsWhy mode bytes at (faults.Number n) = From (NumberFaultAt mode) bytes at n
IsWhy mode bytes at (faults.TooDeep n) = From (DepthFaultAt mode) bytes at n
IsWhy mode bytes at (faults.TooLarge n) = From (SizeFaultAt mode) bytes at n
IsWhy mode bytes at faults.NoMemory = ⊤

-- This was answered, unless memory ran out.
abbrev pub Answers : {X : Type 0} → Result X ReadError → X → Type 0
Answers result x = (result ≡ Ok x) ⊎ (result ≡ Err faults.NoMemory)
