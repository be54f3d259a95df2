-- Tuples.
use Rattle.std.specs.Prelude.{ℕ, suc, ℤ, pos, List, length, nat_lt, slice_set, Option, Some, None, if◌then◌else◌}
use Rattle.kh_term.specs.declared.tree.TermTree.{TermTree}
use Rattle.kh_term.specs.declared.tree.TermTree.TheVariants as tree
use Rattle.kh_term.specs.Make.{list_of}
use Rattle.kh_bif_base.specs.Answer.{Answer, Value, badarg}
use Rattle.kh_bif_data.specs.Asked.{of_some, of_integer, of_tuple}
use Rattle.kh_bif_data.specs.Lists.{of_list}

-- a place that is counted from 1, counted from 0, if it is one of so many
abbrev pub place_in : ℤ → ℕ → Option ℕ
place_in (pos (suc n)) count = if nat_lt n count then Some n else None
place_in n count = None

-- a tuple with another element at a place, which is counted from 1
abbrev pub set_element : TermTree → TermTree → TermTree → Answer
set_element place t value =
    of_tuple t (λ parts. of_integer place (λ n.
    of_some (place_in n (length parts)) badarg (λ i. Value (tree.Tuple (slice_set parts i value)))))

abbrev pub tuple_to_list : TermTree → Answer
tuple_to_list t = of_tuple t (λ parts. Value (list_of parts))

abbrev pub list_to_tuple : TermTree → Answer
list_to_tuple l = of_list l (λ ts. Value (tree.Tuple ts))
