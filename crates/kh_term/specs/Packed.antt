-- The packed bytes of a term.
use Rattle.std.specs.Prelude.{ℕ, ◌-◌, ◌*◌, ◌%◌, ◌^◌, nat_lt, List, [], ◌∷◌, ◌++◌, length, find, unwrap_or, ℤ, pos, negsuc}
use Rattle.std.specs.List.{flat_map}
use Rattle.std.specs.Int.{to_be_bytes, w32, cast_unsigned, w128, bytes_high_first}
use Rattle.kh_term.specs.declared.tree.TermTree.{TermTree}
use Rattle.kh_term.specs.declared.tree.TermTree.TheOpen.{TermTree-F}
use Rattle.kh_term.specs.declared.tree.TermTree.TheOpen as layer
use Rattle.kh_term.specs.declared.tree.TermTree.TheFolds.{fold-TermTree}

-- the number whose bits, in two's complement, are those behind the sign
abbrev pub behind_sign : ℤ → ℕ
behind_sign (pos n) = n
behind_sign (negsuc n) = n

-- the least number of bytes, 1 to 16, that has room for a sign and this number behind it
abbrev pub least_len : ℕ → ℕ
least_len n =
    unwrap_or (find (λ len. nat_lt n (2 ^ (8 * len - 1))) (1 ∷ 2 ∷ 3 ∷ 4 ∷ 5 ∷ 6 ∷ 7 ∷ 8 ∷ 9 ∷ 10 ∷ 11 ∷ 12 ∷ 13 ∷ 14 ∷ 15 ∷ [])) 16

-- the least number of bytes, 1 to 16, that holds an integer in two's complement
abbrev pub integer_len : ℤ → ℕ
integer_len z = least_len (behind_sign z)

-- an integer in two's complement, big-endian, in the fewest bytes
abbrev pub integer_bytes : ℤ → List ℕ
integer_bytes z = bytes_high_first (integer_len z) (cast_unsigned w128 z % 2 ^ (8 * integer_len z))

-- a length of one byte, and the bytes
abbrev pub short_text : List ℕ → List ℕ
short_text bytes = length bytes ∷ bytes

-- a length of four bytes, big-endian
abbrev pub count_bytes : {A : Type 0} → List A → List ℕ
count_bytes parts = to_be_bytes w32 (length parts)

-- A tag, and then: an integer's length and bytes; the short text of an atom; a binary's length and bytes; nothing for
-- nil; the number of elements of a list, the elements and the tail; a tuple's number and elements; a map's number of
-- pairs and each key with its value; a closure's module and name as short texts, its arity, and the number of its
-- captured values and these.
abbrev pub packed_step : TermTree-F (List ℕ) → List ℕ
packed_step (layer.Int number) = 1 ∷ integer_len number ∷ integer_bytes number
packed_step (layer.Atom text) = 2 ∷ short_text text
packed_step (layer.Bin bytes) = 3 ∷ (count_bytes bytes ++ bytes)
packed_step layer.Nil = 4 ∷ []
packed_step (layer.List parts tail) = 5 ∷ (count_bytes parts ++ (flat_map (λ part. part) parts ++ tail))
packed_step (layer.Tuple parts) = 6 ∷ (count_bytes parts ++ flat_map (λ part. part) parts)
packed_step (layer.Map pairs) = 7 ∷ (count_bytes pairs ++ flat_map (λ p. p.0 ++ p.1) pairs)
packed_step (layer.Closure origin env) =
    8 ∷ (short_text origin.module ++ (short_text origin.name ++ (origin.arity ∷ length env ∷ flat_map (λ part. part) env)))

-- the packed bytes of a term, its only spelling
abbrev pub packed_of : TermTree → List ℕ
packed_of = fold-TermTree (List ℕ) packed_step

-- the packed bytes of several terms, and of the keys and values of several pairs, one after another
abbrev pub all_packed_of : List TermTree → List ℕ
all_packed_of ts = flat_map packed_of ts

abbrev pub pairs_packed_of : List (TermTree × TermTree) → List ℕ
pairs_packed_of ps = flat_map (λ p. packed_of p.0 ++ packed_of p.1) ps
