-- The parts of a term: what its kind has, and nothing where it is of another kind.
use Rattle.std.specs.Prelude.{ℕ, zero, suc, List, [], ◌∷◌}
use Rattle.kh_term.specs.declared.name.Origin.{Origin}
use Rattle.kh_term.specs.declared.tree.TermTree.{TermTree, out-TermTree}
use Rattle.kh_term.specs.declared.tree.TermTree.TheOpen.{TermTree-F}
use Rattle.kh_term.specs.declared.tree.TermTree.TheOpen as layer

abbrev pub text_on : TermTree-F TermTree → List ℕ
text_on (layer.Atom text) = text
text_on l = []

-- the text of an atom
abbrev pub text_in : TermTree → List ℕ
text_in t = text_on (out-TermTree t)

abbrev pub bytes_on : TermTree-F TermTree → List ℕ
bytes_on (layer.Bin bytes) = bytes
bytes_on l = []

-- the bytes of a binary
abbrev pub bytes_in : TermTree → List ℕ
bytes_in t = bytes_on (out-TermTree t)

-- the origin of no function
abbrev pub no_origin : Origin
no_origin = record { «module» = []; name = []; arity = 0 }

abbrev pub origin_on : TermTree-F TermTree → Origin
origin_on (layer.Closure origin env) = origin
origin_on l = no_origin

-- the origin of a function
abbrev pub origin_in : TermTree → Origin
origin_in t = origin_on (out-TermTree t)

abbrev pub pairs_on : TermTree-F TermTree → List (TermTree × TermTree)
pairs_on (layer.Map pairs) = pairs
pairs_on l = []

-- the keys and values of a map
abbrev pub pairs_in : TermTree → List (TermTree × TermTree)
pairs_in t = pairs_on (out-TermTree t)

-- keys and values in turn
abbrev pub in_turn : {A : Type 0} → List (A × A) → List A
in_turn [] = []
in_turn (p ∷ ps) = p.0 ∷ p.1 ∷ in_turn ps

abbrev pub parts_on : TermTree-F TermTree → List TermTree
parts_on (layer.Tuple parts) = parts
parts_on (layer.Map pairs) = in_turn pairs
parts_on (layer.Closure origin env) = env
parts_on l = []

-- the elements of a tuple, the captured values of a function, and of a map its keys and values in turn
abbrev pub parts_in : TermTree → List TermTree
parts_in t = parts_on (out-TermTree t)

-- the key (0) or the value of a pair
abbrev pub side : {A : Type 0} → ℕ → A × A → A
side zero p = p.0
side (suc n) p = p.1
