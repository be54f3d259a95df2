-- How a call on a heap answers.
use Rattle.std.specs.Prelude.{◌≡◌, ℕ, ◌+◌, ◌≤◌, List, length, Result, Ok, Err, IfOk}
use Rattle.kh_term.specs.declared.tree.TermTree.{TermTree}
use Rattle.kh_heap.specs.declared.error.BifError.{BifError}
use Rattle.kh_heap.specs.declared.error.BifError.TheVariants as error
use Rattle.kh_heap.specs.declared.error.HeapError.{HeapError}
use Rattle.kh_heap.specs.Heap.{Stands, Grew, Limits}
use Rattle.kh_bif_base.specs.Answer.{Answer, Value, Raise}

-- A reference that stands for the value, or this class with a reference that stands for the reason. Memory may be
-- wanting at any time.
abbrev pub Answers : List TermTree → Result ℕ BifError → Answer → Type 0
Answers heap (Ok r) (Value t) = Stands heap r t
Answers heap (Ok r) (Raise c reason) = ⊥
Answers heap (Err (error.Raise class r)) (Value t) = ⊥
Answers heap (Err (error.Raise class r)) (Raise c reason) = (class ≡ c) × Stands heap r reason
Answers heap (Err error.NoMemory) answer = Unit {0}

-- The new heap has each cell of the old one at its place, and at most n behind them.
pub record GrewBy (n : ℕ) (old new : List TermTree) : Type 0 where
  pub grew : Grew old new
  pub cells : length new ≤ length old + n

-- what a heap answered that was asked for a term: a reference that stands for it, or why it made none
pub record Made (heap : List TermTree) (made : Result ℕ HeapError) (t : TermTree) : Type 0 where
  pub term : IfOk made (λ r. Stands heap r t)
  pub limits : Limits made t
