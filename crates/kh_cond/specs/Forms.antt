-- How the parts of conditions are written as terms.
use Rattle.std.specs.Prelude.{ℕ, Bool, List, [], ◌∷◌, map, codes, pos, if◌then◌else◌}
use Rattle.kh_term.specs.Make.{list_of}
use Rattle.kh_term.specs.declared.tree.TermTree.{TermTree}
use Rattle.kh_term.specs.declared.tree.TermTree.TheVariants as tree
use Rattle.kh_cond.specs.declared.cond.Operator.{Operator}
use Rattle.kh_cond.specs.declared.cond.Operator.TheVariants as operator

-- a tuple of a word and an operand
abbrev pub form : List ℕ → TermTree → TermTree
form word operand = tree.Tuple (tree.Atom word ∷ operand ∷ [])

-- the record spelling of a form, which ends with `undefined`
abbrev pub record_form : List ℕ → TermTree → TermTree
record_form word operand = tree.Tuple (tree.Atom word ∷ operand ∷ tree.Atom (codes "undefined") ∷ [])

-- the record spelling of a data match
abbrev pub data_record_form : TermTree → TermTree
data_record_form pattern =
    tree.Tuple (tree.Atom (codes "if_data_matches") ∷ pattern ∷ tree.Nil ∷ tree.Atom (codes "undefined") ∷ [])

-- `true` and `false`
abbrev pub bool_tree : Bool → TermTree
bool_tree b = tree.Atom (if b then codes "true" else codes "false")

-- the word of an operator
abbrev pub operator_word : Operator → List ℕ
operator_word operator.Equal = codes "eq"
operator_word operator.NotEqual = codes "ne"
operator_word operator.Less = codes "lt"
operator_word operator.AtMost = codes "le"
operator_word operator.Greater = codes "gt"
operator_word operator.AtLeast = codes "ge"

-- code points as a list of integers
abbrev pub points_tree : List ℕ → TermTree
points_tree points = list_of (map (λ c. tree.Int (pos c)) points)
