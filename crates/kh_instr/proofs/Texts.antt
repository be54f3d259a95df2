-- Words are texts of atoms.
use Rattle.std.proofs.Common.{◌≡◌, ◌<◌, ℕ, zero, suc, List, [], ◌∷◌, length, true, nat_le, nat_lt, IsTrue, refl, arith}
use Rattle.std.proofs.lemmas.Bool.{and_parts}
use Rattle.std.proofs.lemmas.Str.{IsUtf8-from_ascii, is_utf8-from_IsUtf8}
use Rattle.std.specs.List.{list_all}
use Rattle.std.specs.Str.{IsAscii}
use borrow.Author.Tests.{ltb-true}
use Rattle.kh_term.specs.declared.limits.TheConstants.{MOST_NAME_BYTES}
use Rattle.kh_term.specs.Text.{is_atom_text}
use Rattle.kh_instr.specs.declared.test.TypeTest.{TypeTest}
use Rattle.kh_instr.specs.declared.test.TypeTest.TheVariants as type_test
use Rattle.kh_instr.specs.declared.test.Comparison.{Comparison}
use Rattle.kh_instr.specs.declared.test.Comparison.TheVariants as comparison
use Rattle.kh_instr.specs.declared.words.TestName.{TestName}
use Rattle.kh_instr.specs.declared.words.TestName.TheVariants as test_name
use Rattle.kh_instr.specs.declared.words.Word.{Word}
use Rattle.kh_instr.specs.declared.words.Word.TheVariants as word
use Rattle.kh_instr.specs.Words.{word_text, test_text}

are_ascii : (text : List ℕ) → list_all (λ b. nat_lt b 128) text ≡ true → IsAscii text
are_ascii [] h i = omega arith
are_ascii (b ∷ bs) h zero = ltb-true b 128 (and_parts (nat_lt b 128) (list_all (λ b. nat_lt b 128) bs) h).0
are_ascii (b ∷ bs) h (suc i) = are_ascii bs (and_parts (nat_lt b 128) (list_all (λ b. nat_lt b 128) bs) h).1 i

-- a short text of ASCII
ascii_is_text : (text : List ℕ) → list_all (λ b. nat_lt b 128) text ≡ true → nat_le (length text) MOST_NAME_BYTES ≡ true → IsTrue (is_atom_text text)
ascii_is_text text ascii short = rw (short, is_utf8-from_IsUtf8 text (IsUtf8-from_ascii text (are_ascii text ascii))) refl

pub word_is_text : (w : Word) → IsTrue (is_atom_text (word_text w))
word_is_text word.Label = ascii_is_text (word_text word.Label) refl refl
word_is_text w = ascii_is_text (word_text w) refl refl

type_is_text : (k : TypeTest) → IsTrue (is_atom_text (test_text (test_name.Type k)))
type_is_text type_test.Integer = ascii_is_text (test_text (test_name.Type type_test.Integer)) refl refl
type_is_text k = ascii_is_text (test_text (test_name.Type k)) refl refl

comparison_is_text : (k : Comparison) → IsTrue (is_atom_text (test_text (test_name.Compare k)))
comparison_is_text comparison.Lt = ascii_is_text (test_text (test_name.Compare comparison.Lt)) refl refl
comparison_is_text k = ascii_is_text (test_text (test_name.Compare k)) refl refl

pub test_is_text : (n : TestName) → IsTrue (is_atom_text (test_text n))
test_is_text (test_name.Type k) = type_is_text k
test_is_text (test_name.Compare k) = comparison_is_text k
test_is_text test_name.Function2 = ascii_is_text (test_text test_name.Function2) refl refl
test_is_text n = ascii_is_text (test_text n) refl refl
