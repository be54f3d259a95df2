-- Binaries, and the texts of atoms and integers.
use Rattle.std.specs.Prelude.{ℕ, pos, Bool, true, false, ◌&&◌, not, List, [], ◌∷◌, map, if◌then◌else◌}
use Rattle.std.specs.Fmt.{signed_decimal}
use Rattle.std.specs.Str.{all_ascii_digits}
use Rattle.std.specs.Str.Parse.{signed_digits_value, without_leading_sign}
use Rattle.kh_term.specs.declared.tree.TermTree.{TermTree}
use Rattle.kh_term.specs.declared.tree.TermTree.TheVariants as tree
use Rattle.kh_term.specs.Make.{list_of}
use Rattle.kh_bif_base.specs.Answer.{Answer, Value, badarg}
use Rattle.kh_bif_base.specs.Integers.{fitted, number}
use Rattle.kh_bif_data.specs.Asked.{of_text, of_bytes, of_integer}

abbrev pub atom_to_binary : TermTree → Answer
atom_to_binary a = of_text a (λ text. Value (tree.Bin text))

-- the shortest decimal text, with `-` in front where the integer is below 0
abbrev pub integer_to_binary : TermTree → Answer
integer_to_binary t = of_integer t (λ n. Value (tree.Bin (signed_decimal n)))

abbrev pub byte_tree : ℕ → TermTree
byte_tree b = tree.Int (pos b)

abbrev pub binary_to_list : TermTree → Answer
binary_to_list b = of_bytes b (λ bytes. Value (list_of (map byte_tree bytes)))

abbrev pub is_empty : List ℕ → Bool
is_empty [] = true
is_empty (b ∷ bytes) = false

-- whether a text is one sign or none, and then digits, at least one
abbrev pub is_numeral : List ℕ → Bool
is_numeral text = not (is_empty (without_leading_sign text)) && all_ascii_digits (without_leading_sign text)

-- the integer of a text
abbrev pub integer_of_text : List ℕ → Answer
integer_of_text text = if is_numeral text then number (fitted (signed_digits_value 10 text)) else badarg

abbrev pub binary_to_integer : TermTree → Answer
binary_to_integer b = of_bytes b integer_of_text
