-- What a built-in answers, and what it costs beside its step.
use Rattle.std.specs.Prelude.{ℕ, ◌+◌, ◌-◌, ◌/◌, Bool, List, length, Option, Some, None, slice_index_or, is_some}
use Rattle.kh_term.specs.declared.tree.TermTree.{TermTree}
use Rattle.kh_term.specs.declared.tree.TermTree.TheVariants as tree
use Rattle.kh_term.specs.Size.{size_of}
use Rattle.kh_instr.specs.declared.builtin.Builtin.{Builtin}
use Rattle.kh_bif_base.specs.Answer.{Answer, Value, Raise, badarg, limited}
use Rattle.kh_bif_base.specs.Integers.{integer_in}
use Rattle.kh_bif_data.specs.declared.operation.Operation.{Operation}
use Rattle.kh_bif_data.specs.declared.operation.Operation.TheVariants as operation
use Rattle.kh_bif_data.specs.Asked.{of_some, pairs_of, tuple_of, bytes_of}
use Rattle.kh_bif_data.specs.Binaries.{atom_to_binary, integer_to_binary, binary_to_list, binary_to_integer}
use Rattle.kh_bif_data.specs.Iolists.{iolist_to_binary}
use Rattle.kh_bif_data.specs.Lists.{append, reverse_onto, member, keyfind, elements, list_size}
use Rattle.kh_bif_data.specs.Maps.{get, is_key, find_key, put, remove, keys, values, to_list, merge, from_list}
use Rattle.kh_bif_data.specs.Rows.{operation_of, arity_of}
use Rattle.kh_bif_data.specs.Tuples.{set_element, tuple_to_list, list_to_tuple}

-- What an operation answers of its first, its middle and its last argument. Of two the last is the middle one too, and
-- one argument is all three.
abbrev pub done : Operation → TermTree → TermTree → TermTree → Answer
done operation.Get a b c = get a c
done operation.IsKey a b c = is_key a c
done operation.Find a b c = find_key a c
done operation.Put a b c = put a b c
done operation.Remove a b c = remove a c
done operation.Keys a b c = keys a
done operation.Values a b c = values a
done operation.Pairs a b c = to_list a
done operation.Merge a b c = merge a c
done operation.FromList a b c = from_list a
done operation.Append a b c = append a c
done operation.Reverse a b c = reverse_onto a tree.Nil
done operation.ReverseOnto a b c = reverse_onto a c
done operation.Member a b c = member a c
done operation.KeyFind a b c = keyfind a b c
done operation.SetElement a b c = set_element a b c
done operation.TupleToList a b c = tuple_to_list a
done operation.ListToTuple a b c = list_to_tuple a
done operation.AtomToBinary a b c = atom_to_binary a
done operation.IntegerToBinary a b c = integer_to_binary a
done operation.BinaryToList a b c = binary_to_list a
done operation.IolistToBinary a b c = iolist_to_binary a
done operation.BinaryToInteger a b c = binary_to_integer a
done (operation.Raise class) a b c = Raise class a

-- the size of what is answered, 0 where that is no term
abbrev pub size_answered : Answer → ℕ
size_answered (Value t) = size_of t
size_answered (Raise class reason) = 0

-- The number of pairs of a map, of elements of a tuple, and something else of a map: 0 where a term is of another kind.
abbrev pub pair_count : TermTree → ℕ
pair_count m = of_some (pairs_of m) 0 (λ ps. length ps)

abbrev pub element_count : TermTree → ℕ
element_count t = of_some (tuple_of t) 0 (λ ts. length ts)

abbrev pub where_map : TermTree → ℕ → ℕ
where_map m n = of_some (pairs_of m) 0 (λ ps. n)

abbrev pub where_integer : TermTree → ℕ → ℕ
where_integer t n = of_some (integer_in t) 0 (λ i. n)

abbrev pub where_binary : TermTree → ℕ → ℕ
where_binary t n = of_some (bytes_of t) 0 (λ bytes. n)

-- the size of the text or of the bytes that are made, and of the text that is read
abbrev pub text_cost : Operation → TermTree → ℕ
text_cost operation.AtomToBinary a = size_answered (limited (atom_to_binary a))
text_cost operation.IntegerToBinary a = size_answered (limited (integer_to_binary a))
text_cost operation.BinaryToList a = size_answered (limited (binary_to_list a))
text_cost operation.IolistToBinary a = size_answered (limited (iolist_to_binary a))
text_cost operation.BinaryToInteger a = where_binary a (size_of a)
text_cost o a = 0

-- What an operation costs: to look up a key its size, to change a map its pairs too, to make a list or a tuple the
-- elements, to search a list its size, to make a text the size of that.
abbrev pub cost : Operation → TermTree → TermTree → TermTree → ℕ
cost operation.Get a b c = where_map c (size_of a)
cost operation.IsKey a b c = where_map c (size_of a)
cost operation.Find a b c = where_map c (size_of a)
cost operation.Put a b c = where_map c (pair_count c + size_of a)
cost operation.Remove a b c = where_map c (pair_count c + size_of a)
cost operation.Keys a b c = pair_count a
cost operation.Values a b c = pair_count a
cost operation.Pairs a b c = pair_count a
cost operation.Merge a b c = where_map a (where_map c (pair_count a + pair_count c))
cost operation.FromList a b c = length (elements a)
cost operation.Append a b c = length (elements a)
cost operation.Reverse a b c = length (elements a)
cost operation.ReverseOnto a b c = length (elements a)
cost operation.Member a b c = list_size c
cost operation.KeyFind a b c = where_integer b (list_size c)
cost operation.SetElement a b c = where_integer a (element_count b)
cost operation.TupleToList a b c = element_count a
cost operation.ListToTuple a b c = length (elements a)
cost o a b c = text_cost o a

abbrev pub first : List TermTree → TermTree
first args = slice_index_or args 0 tree.Nil

abbrev pub middle : List TermTree → TermTree
middle args = slice_index_or args (length args / 2) tree.Nil

abbrev pub last : List TermTree → TermTree
last args = slice_index_or args (length args - 1) tree.Nil

abbrev pub answer_by : Option Operation → List TermTree → Answer
answer_by (Some o) args = done o (first args) (middle args) (last args)
answer_by None args = badarg

-- what a built-in of this crate answers
abbrev pub answer_of : Builtin → List TermTree → Answer
answer_of b args = answer_by (operation_of b) args

abbrev pub extra_by : Option Operation → List TermTree → ℕ
extra_by (Some o) args = cost o (first args) (middle args) (last args)
extra_by None args = 0

-- what it costs beside its step
abbrev pub extra_of : Builtin → List TermTree → ℕ
extra_of b args = extra_by (operation_of b) args

-- the built-in is one of this crate
abbrev pub is_here : Builtin → Bool
is_here b = is_some (operation_of b)

abbrev pub arity_by : Option Operation → ℕ
arity_by (Some o) = arity_of o
arity_by None = 0

-- how many arguments a built-in of this crate takes
abbrev pub arity : Builtin → ℕ
arity b = arity_by (operation_of b)
