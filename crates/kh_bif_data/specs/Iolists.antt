-- Lists of bytes: a binary, nil, or a list whose elements are bytes, binaries and such lists, and whose tail is nil or a
-- binary.
use Rattle.std.specs.Prelude.{◌≡◌, ℕ, ℤ, pos, negsuc, ◌<◌, nat_lt, List, [], ◌∷◌, ◌++◌, Option, Some, None, if◌then◌else◌}
use Rattle.kh_term.specs.declared.tree.TermTree.{TermTree, out-TermTree}
use Rattle.kh_term.specs.declared.tree.TermTree.TheFolds.{para-TermTree}
use Rattle.kh_term.specs.declared.tree.TermTree.TheOpen.{TermTree-F}
use Rattle.kh_term.specs.declared.tree.TermTree.TheOpen as layer
use Rattle.kh_term.specs.declared.tree.TermTree.TheVariants as tree
use Rattle.kh_heap.specs.Heap.{cons_tree}
use Rattle.kh_bif_base.specs.Answer.{Answer, Value, badarg}
use Rattle.kh_bif_data.specs.Asked.{of_some}

-- which bytes a term gives
pub data IsIolist : TermTree → List ℕ → Type 0 where
  binary : (t : TermTree) (bytes : List ℕ) → t ≡ tree.Bin bytes → IsIolist t bytes
  empty : (t : TermTree) → t ≡ tree.Nil → IsIolist t []
  byte_first : (t rest : TermTree) (b : ℕ) (bytes : List ℕ) → b < 256 → IsIolist rest bytes → t ≡ cons_tree (tree.Int (pos b)) rest → IsIolist t (b ∷ bytes)
  nested : (t h rest : TermTree) (bytes xs ys : List ℕ) → IsIolist h xs → IsIolist rest ys → t ≡ cons_tree h rest → bytes ≡ xs ++ ys → IsIolist t bytes

abbrev pub Found : Type 0
Found = TermTree × Option (List ℕ)

-- one byte
abbrev pub byte : ℤ → Option (List ℕ)
byte (pos n) = if nat_lt n 256 then Some (n ∷ []) else None
byte (negsuc n) = None

abbrev pub piece_on : TermTree-F TermTree → Option (List ℕ) → Option (List ℕ)
piece_on (layer.Int n) bytes = byte n
piece_on l bytes = bytes

-- the bytes of an element
abbrev pub piece : Found → Option (List ℕ)
piece p = piece_on (out-TermTree p.0) p.1

-- the bytes of one and then those of another
abbrev pub joined : Option (List ℕ) → Option (List ℕ) → Option (List ℕ)
joined (Some xs) (Some ys) = Some (xs ++ ys)
joined xs ys = None

abbrev pub pieces : List Found → Option (List ℕ) → Option (List ℕ)
pieces [] end = end
pieces (p ∷ ps) end = joined (piece p) (pieces ps end)

abbrev pub iolist_step : TermTree-F Found → Option (List ℕ)
iolist_step (layer.Bin bytes) = Some bytes
iolist_step layer.Nil = Some []
iolist_step (layer.List parts tail) = pieces parts tail.1
iolist_step l = None

-- the bytes of a term, if it is such a list
abbrev pub iolist : TermTree → Option (List ℕ)
iolist = para-TermTree (Option (List ℕ)) iolist_step

-- the bytes of a term that is such a list, and none of another
abbrev pub iolist_bytes : TermTree → List ℕ
iolist_bytes t = of_some (iolist t) [] (λ bytes. bytes)

-- the bytes of a term as an element
abbrev pub piece_of : TermTree → Option (List ℕ)
piece_of t = piece (t, iolist t)

abbrev pub iolist_to_binary : TermTree → Answer
iolist_to_binary t = of_some (iolist t) badarg (λ bytes. Value (tree.Bin bytes))
