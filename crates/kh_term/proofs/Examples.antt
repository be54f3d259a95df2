-- Worked examples of the definitions, with values that were worked out by hand.
use Rattle.std.proofs.Common.{◌≡◌, [], ◌∷◌, pos, negsuc}
use Rattle.kh_term.specs.declared.tree.TermTree.{TermTree}
use Rattle.kh_term.specs.declared.tree.TermTree.TheVariants as tree
use Rattle.kh_term.specs.declared.tree.TermTree.TheVariants.{outs-Int, outs-Nil, outs-Bin}
use Rattle.kh_term.specs.Packed.{packed_of}
use Rattle.kh_term.specs.Size.{size_of, depth_of}
use Rattle.kh_term.proofs.Layers.{size-Int, size-Atom, size-Bin, size-Nil, size-List, size-Tuple, size-Map, size-Closure, depth-Int, depth-Atom, depth-Bin, depth-Nil, depth-List, depth-Tuple, depth-Map, packed-Int, packed-Atom, packed-Bin, packed-Nil, packed-List, packed-Tuple, packed-Map, packed-Closure}

abbrev one : TermTree
one = tree.Int (pos 1)

abbrev a : TermTree
a = tree.Atom (97 ∷ [])

-- {a,[1,-1],<<"x">>}
abbrev pub example : TermTree
example = tree.Tuple (a ∷ tree.List (one ∷ tree.Int (negsuc 0) ∷ []) tree.Nil ∷ tree.Bin (120 ∷ []) ∷ [])

-- ---- sizes

bytes_0 : size_of (tree.Bin []) ≡ 1
bytes_0 = size-Bin []

bytes_7 : size_of (tree.Bin (1 ∷ 2 ∷ 3 ∷ 4 ∷ 5 ∷ 6 ∷ 7 ∷ [])) ≡ 2
bytes_7 = size-Bin _

bytes_8 : size_of (tree.Bin (1 ∷ 2 ∷ 3 ∷ 4 ∷ 5 ∷ 6 ∷ 7 ∷ 8 ∷ [])) ≡ 2
bytes_8 = size-Bin _

bytes_9 : size_of (tree.Bin (1 ∷ 2 ∷ 3 ∷ 4 ∷ 5 ∷ 6 ∷ 7 ∷ 8 ∷ 9 ∷ [])) ≡ 3
bytes_9 = size-Bin _

-- [1|a]: an element, its size and that of the tail
improper_size : size_of (tree.List (one ∷ []) a) ≡ 3
improper_size = simp (size-List, size-Int, size-Atom)

-- [[]]
nested_size : size_of (tree.List (tree.Nil ∷ []) tree.Nil) ≡ 3
nested_size = simp (size-List, size-Nil)

-- {}, #{} and #{1 => a}
empty_tuple_size : size_of (tree.Tuple []) ≡ 1
empty_tuple_size = size-Tuple []

empty_map_size : size_of (tree.Map []) ≡ 1
empty_map_size = size-Map []

map_size : size_of (tree.Map ((one, a) ∷ [])) ≡ 3
map_size = simp (size-Map, size-Int, size-Atom)

-- #fun{a,b,2,[1]}
closure_size : size_of (tree.Closure record { «module» = 97 ∷ []; name = 98 ∷ []; arity = 2 } (one ∷ [])) ≡ 2
closure_size = simp (size-Closure, size-Int)

pub example_size : size_of example ≡ 9
example_size = simp (size-Tuple, size-Atom, size-List, size-Int, size-Nil, size-Bin)

-- ---- depths

-- [], {} and #{}
nil_depth : depth_of tree.Nil ≡ 1
nil_depth = depth-Nil

empty_tuple_depth : depth_of (tree.Tuple []) ≡ 1
empty_tuple_depth = depth-Tuple []

empty_map_depth : depth_of (tree.Map []) ≡ 1
empty_map_depth = depth-Map []

-- [1]: the nil tail isn't counted
list_depth : depth_of (tree.List (one ∷ []) tree.Nil) ≡ 1
list_depth = simp (depth-List, depth-Int, outs-Nil)

-- [[]]: nil is counted as an element
nested_depth : depth_of (tree.List (tree.Nil ∷ []) tree.Nil) ≡ 2
nested_depth = simp (depth-List, depth-Nil, outs-Nil)

-- [1|<<>>]
improper_depth : depth_of (tree.List (one ∷ []) (tree.Bin [])) ≡ 1
improper_depth = simp (depth-List, depth-Int, depth-Bin, outs-Bin)

-- #{1 => []}
map_depth : depth_of (tree.Map ((one, tree.Nil) ∷ [])) ≡ 2
map_depth = simp (depth-Map, depth-Int, depth-Nil)

pub example_depth : depth_of example ≡ 2
example_depth = simp (depth-Tuple, depth-Atom, depth-List, depth-Int, depth-Bin, outs-Nil)

-- ---- packed bytes

-- 06000000030201610500000002010101 0101ff04030000000178
pub example_packed : packed_of example ≡ 6 ∷ 0 ∷ 0 ∷ 0 ∷ 3 ∷ 2 ∷ 1 ∷ 97 ∷ 5 ∷ 0 ∷ 0 ∷ 0 ∷ 2 ∷ 1 ∷ 1 ∷ 1 ∷ 1 ∷ 1 ∷ 255 ∷ 4 ∷ 3 ∷ 0 ∷ 0 ∷ 0 ∷ 1 ∷ 120 ∷ []
example_packed = simp (packed-Tuple, packed-Atom, packed-List, packed-Int, packed-Nil, packed-Bin)

-- -129, 127, 128 and -128
number_packed : packed_of (tree.Int (negsuc 128)) ≡ 1 ∷ 2 ∷ 255 ∷ 127 ∷ []
number_packed = packed-Int (negsuc 128)

short_number_packed : packed_of (tree.Int (pos 127)) ≡ 1 ∷ 1 ∷ 127 ∷ []
short_number_packed = packed-Int (pos 127)

longer_number_packed : packed_of (tree.Int (pos 128)) ≡ 1 ∷ 2 ∷ 0 ∷ 128 ∷ []
longer_number_packed = packed-Int (pos 128)

least_byte_packed : packed_of (tree.Int (negsuc 127)) ≡ 1 ∷ 1 ∷ 128 ∷ []
least_byte_packed = packed-Int (negsuc 127)

-- #{1 => a}
map_packed : packed_of (tree.Map ((one, a) ∷ [])) ≡ 7 ∷ 0 ∷ 0 ∷ 0 ∷ 1 ∷ 1 ∷ 1 ∷ 1 ∷ 2 ∷ 1 ∷ 97 ∷ []
map_packed = simp (packed-Map, packed-Int, packed-Atom)

-- #fun{a,b,2,[1]}
closure_packed : packed_of (tree.Closure record { «module» = 97 ∷ []; name = 98 ∷ []; arity = 2 } (one ∷ [])) ≡ 8 ∷ 1 ∷ 97 ∷ 1 ∷ 98 ∷ 2 ∷ 1 ∷ 1 ∷ 1 ∷ 1 ∷ []
closure_packed = simp (packed-Closure, packed-Int)
