-- What a word is.
use Rattle.std.proofs.Common.{◌≡◌, ℕ, zero, suc, ◌+◌, ◌<◌, ◌≤◌, true, not, List, [], ◌∷◌, ◌++◌, length, take, Ok, refl, subst, arith}
use Rattle.std.specs.Char.{is_ascii_lowercase}
use Rattle.std.specs.List.{prefix_len, list_all}
use Rattle.std.specs.Str.{IsAscii}
use Rattle.std.proofs.lemmas.Bool.{and_parts, le-leb, not-false}
use Rattle.std.proofs.lemmas.Bool.Decides.{nat_tests}
use Rattle.std.proofs.lemmas.Str.{IsUtf8-from_ascii, is_utf8-from_IsUtf8}
use Rattle.kh_term.specs.Text.{is_atom_text}
use Rattle.kh_text_defs.specs.Atoms.{is_word_byte, is_plain_word, is_reserved, is_plain}
use Rattle.kh_read.specs.Reading.{Fault, front_at, word_at}
use Rattle.kh_read.proofs.Fronts.{front_passes, front_read}
use Rattle.kh_read.proofs.Steps.{passed, bind_ok, ok_is}

word_byte_below : (byte : ℕ) → is_word_byte byte ≡ true → byte < 128
word_byte_below byte h = grind (arith, nat_tests)

-- letters, digits, `_` and `@` are ASCII
pub word_ascii : (text : List ℕ) → list_all is_word_byte text ≡ true → IsAscii text
word_ascii [] h i = omega arith
word_ascii (byte ∷ text) h zero = word_byte_below byte (and_parts (is_word_byte byte) (list_all is_word_byte text) h).0
word_ascii (byte ∷ text) h (suc i) = word_ascii text (and_parts (is_word_byte byte) (list_all is_word_byte text) h).1 i

-- at most 255 of them are the text of an atom
pub word_is_atom_text : (text : List ℕ) → list_all is_word_byte text ≡ true → length text ≤ 255 → is_atom_text text ≡ true
word_is_atom_text text h few =
    rw (le-leb _ _ few, is_utf8-from_IsUtf8 text (IsUtf8-from_ascii text (word_ascii text h))) refl

-- what `word_at` reads
pub record IsWord (text : List ℕ) : Type 0 where
  pub plain : is_plain text ≡ true
  pub short : length text ≤ 255

pub lowercase_word : (byte : ℕ) → is_ascii_lowercase byte ≡ true → is_word_byte byte ≡ true
lowercase_word byte h = grind (arith, nat_tests)

-- a small letter, and the word bytes behind it
plain_front : (first : ℕ) (others : List ℕ) → is_ascii_lowercase first ≡ true
    → is_plain_word (take (prefix_len is_word_byte (first ∷ others)) (first ∷ others)) ≡ true
plain_front first others small =
    let count = prefix_len is_word_byte others in
    let one_more : 1 + count ≡ suc count = omega arith in
    rw (lowercase_word first small, one_more, small) (front_passes is_word_byte others)

pub word_read : (bytes : List ℕ) (x : List ℕ × List ℕ) → word_at bytes ≡ Ok x → IsWord x.0 × (bytes ≡ x.0 ++ x.1)
unfolding word_at
word_read [] x e = absurd cc
word_read (first ∷ others) x e =
    let a = passed (not (is_ascii_lowercase first)) Fault _ x e in
    let b = bind_ok (front_at is_word_byte 255 (first ∷ others)) _ x a.1 in
    let c = passed (is_reserved b.0.0) Fault (Ok b.0) x b.2 in
    let front = front_read is_word_byte 255 (first ∷ others) b.0 b.1 in
    let small : is_ascii_lowercase first ≡ true = not-false (is_ascii_lowercase first) a.0 in
    let word : is_plain_word b.0.0 ≡ true = rw front.is (plain_front first others small) in
    subst (λ (y : List ℕ × List ℕ). IsWord y.0 × (first ∷ others ≡ y.0 ++ y.1)) (ok_is b.0 x c.1)
    (record { plain = rw (word, c.0) refl; short = front.few }, front.parts)
