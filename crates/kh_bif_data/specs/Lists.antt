-- Lists: elements and a tail, which is no list.
use Rattle.std.specs.Prelude.{ℕ, suc, ℤ, pos, Bool, true, false, List, [], ◌∷◌, reverse, Option, Some, None, if◌then◌else◌}
use Rattle.std.specs.Prelude.{slice_get}
use Rattle.std.specs.List.{list_any, find}
use Rattle.std.specs.Ordering.{is_eq}
use Rattle.kh_term.specs.declared.tree.TermTree.{TermTree, out-TermTree}
use Rattle.kh_term.specs.declared.tree.TermTree.TheOpen.{TermTree-F}
use Rattle.kh_term.specs.declared.tree.TermTree.TheOpen as layer
use Rattle.kh_term.specs.declared.tree.TermTree.TheVariants as tree
use Rattle.kh_term.specs.Make.{list_with_tail}
use Rattle.kh_term.specs.Order.{term_cmp}
use Rattle.kh_term.specs.Size.{size_of, is_nil}
use Rattle.kh_bif_base.specs.Answer.{Answer, Value, badarg, boolean}
use Rattle.kh_bif_base.specs.Integers.{integer_in}
use Rattle.kh_bif_data.specs.Asked.{of_some, tuple_of, of_integer}

abbrev pub elements_on : TermTree-F TermTree → List TermTree
elements_on (layer.List parts tail) = parts
elements_on l = []

-- the elements of a list before its tail, and none of what is no list
abbrev pub elements : TermTree → List TermTree
elements t = elements_on (out-TermTree t)

abbrev pub ends_on : TermTree-F TermTree → Bool
ends_on layer.Nil = true
ends_on (layer.List parts tail) = is_nil (out-TermTree tail)
ends_on l = false

-- nil, or a list whose tail is nil
abbrev pub ends_in_nil : TermTree → Bool
ends_in_nil t = ends_on (out-TermTree t)

-- the elements of nil or of a list that ends in nil
abbrev pub proper : TermTree → Option (List TermTree)
proper t = if ends_in_nil t then Some (elements t) else None

-- what is answered of the elements of a list that ends in nil
abbrev pub of_list : TermTree → (List TermTree → Answer) → Answer
of_list l f = of_some (proper l) badarg f

-- the elements of a list in front of a tail of any kind
abbrev pub append : TermTree → TermTree → Answer
append l tail = of_list l (λ ts. Value (list_with_tail ts tail))

-- the elements of a list backwards, in front of a tail of any kind
abbrev pub reverse_onto : TermTree → TermTree → Answer
reverse_onto l tail = of_list l (λ ts. Value (list_with_tail (reverse ts) tail))

-- whether a term is this one
abbrev pub is_term : TermTree → TermTree → Bool
is_term x t = is_eq (term_cmp t x)

-- whether some element is this term
abbrev pub member : TermTree → TermTree → Answer
member x l = of_list l (λ ts. boolean (list_any (is_term x) ts))

-- a place that is counted from 1, counted from 0
abbrev pub from_zero : ℤ → Option ℕ
from_zero (pos (suc n)) = Some n
from_zero n = None

-- whether a term is a tuple that has a key at a place, which is counted from 0
abbrev pub has_at : TermTree → ℕ → TermTree → Bool
has_at key n t = of_some (tuple_of t) false (λ parts. of_some (slice_get parts n) false (is_term key))

-- the first element that is such a tuple, and `false` where none is
abbrev pub first_with : TermTree → ℕ → List TermTree → Answer
first_with key n ts = of_some (find (has_at key n) ts) (boolean false) Value

-- the first tuple of a list that has a key at a place
abbrev pub keyfind : TermTree → TermTree → TermTree → Answer
keyfind key place l =
    of_integer place (λ n. of_list l (λ ts. of_some (from_zero n) badarg (λ i. first_with key i ts)))

abbrev pub list_size_on : TermTree-F TermTree → ℕ → ℕ
list_size_on layer.Nil size = size
list_size_on (layer.List parts tail) size = size
list_size_on l size = 0

-- the size of nil or of a list, and 0 of another term
abbrev pub list_size : TermTree → ℕ
list_size t = list_size_on (out-TermTree t) (size_of t)
