-- What is answered of a term that is of the kind that is asked for, and of another.
use Rattle.std.specs.Prelude.{ℕ, Option, Some, None, List, ℤ}
use Rattle.kh_term.specs.declared.tree.TermTree.{TermTree, out-TermTree}
use Rattle.kh_term.specs.declared.tree.TermTree.TheOpen.{TermTree-F}
use Rattle.kh_term.specs.declared.tree.TermTree.TheOpen as layer
use Rattle.kh_bif_base.specs.Answer.{Answer, badarg, badmap}
use Rattle.kh_bif_base.specs.Integers.{integer_in}

-- what is made of a value, and something else where there is none
abbrev pub of_some : {A B : Type 0} → Option A → B → (A → B) → B
of_some (Some x) other f = f x
of_some None other f = other

abbrev pub pairs_on : TermTree-F TermTree → Option (List (TermTree × TermTree))
pairs_on (layer.Map pairs) = Some pairs
pairs_on l = None

-- the keys and values of a map
abbrev pub pairs_of : TermTree → Option (List (TermTree × TermTree))
pairs_of t = pairs_on (out-TermTree t)

abbrev pub tuple_on : TermTree-F TermTree → Option (List TermTree)
tuple_on (layer.Tuple parts) = Some parts
tuple_on l = None

-- the elements of a tuple
abbrev pub tuple_of : TermTree → Option (List TermTree)
tuple_of t = tuple_on (out-TermTree t)

abbrev pub text_on : TermTree-F TermTree → Option (List ℕ)
text_on (layer.Atom text) = Some text
text_on l = None

-- the text of an atom
abbrev pub text_of : TermTree → Option (List ℕ)
text_of t = text_on (out-TermTree t)

abbrev pub bytes_on : TermTree-F TermTree → Option (List ℕ)
bytes_on (layer.Bin bytes) = Some bytes
bytes_on l = None

-- the bytes of a binary
abbrev pub bytes_of : TermTree → Option (List ℕ)
bytes_of t = bytes_on (out-TermTree t)

-- of the pairs of a map; another term is `{badmap,M}`
abbrev pub of_map : TermTree → (List (TermTree × TermTree) → Answer) → Answer
of_map m f = of_some (pairs_of m) (badmap m) f

-- of the elements of a tuple, the text of an atom, the bytes of a binary and an integer
abbrev pub of_tuple : TermTree → (List TermTree → Answer) → Answer
of_tuple t f = of_some (tuple_of t) badarg f

abbrev pub of_text : TermTree → (List ℕ → Answer) → Answer
of_text t f = of_some (text_of t) badarg f

abbrev pub of_bytes : TermTree → (List ℕ → Answer) → Answer
of_bytes t f = of_some (bytes_of t) badarg f

abbrev pub of_integer : TermTree → (ℤ → Answer) → Answer
of_integer t f = of_some (integer_in t) badarg f
