-- What was built of a term on a heap.
use Rattle.std.specs.Prelude.{◌≡◌, ℕ, List, Bool, true, false, Result, Ok, Err}
use Rattle.kh_term.specs.declared.tree.TermTree.{TermTree}
use Rattle.kh_term.specs.Limits.{is_small}
use Rattle.kh_heap.specs.declared.error.HeapError.{HeapError}
use Rattle.kh_heap.specs.declared.error.HeapError.TheVariants as error
use Rattle.kh_heap.specs.Heap.{Stands}

-- A reference that stands for the term, which is within the limits; or it is past them. Memory may be wanting on the
-- way.
abbrev pub Built : List TermTree → TermTree → Result ℕ HeapError → Type 0
Built heap t (Ok r) = Stands heap r t × (is_small t ≡ true)
Built heap t (Err error.TooLarge) = is_small t ≡ false
Built heap t (Err error.NoMemory) = Unit {0}
