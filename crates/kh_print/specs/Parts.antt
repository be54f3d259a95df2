-- The texts of parts of a term, and what stands between them.
use Rattle.std.specs.Prelude.{ℕ, Bool, true, false, List, [], ◌∷◌, ◌++◌, codes, decimal}
use Rattle.kh_term.specs.declared.tree.TermTree.{TermTree}
use Rattle.kh_term.specs.declared.name.Origin.{Origin}
use Rattle.kh_text_defs.specs.Shown.{shown, shown_atom, shown_tail}

-- a module, a name and an arity, each with the comma after it
abbrev pub shown_origin : Origin → List ℕ
shown_origin origin =
    shown_atom origin.module ++ codes "," ++ shown_atom origin.name ++ codes "," ++ decimal origin.arity ++ codes ","

-- a key and its value
abbrev pub shown_pair : TermTree × TermTree → List ℕ
shown_pair pair = shown pair.0 ++ codes " => " ++ shown pair.1

-- nothing for nil, else a bar and the tail
abbrev pub shown_tail_of : TermTree → List ℕ
shown_tail_of tail = shown_tail (tail, shown tail)

-- what stands before a part: nothing before the first, else a comma
abbrev pub separator : Bool → List ℕ
separator true = []
separator false = 44 ∷ []
