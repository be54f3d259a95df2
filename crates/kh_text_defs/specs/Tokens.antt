-- Integers, and texts in quotes.
use Rattle.std.specs.Prelude.{◌≡◌, ◌≤◌, ℕ, Bool, ◌&&◌, ◌==◌, not, nat_le, codes, IsTrue, Option, Some, None, List, [], ◌∷◌, ◌++◌, length, ◌⊎◌, if◌then◌else◌, ℤ, pos, neg_ℤ}
use Rattle.std.specs.Char.{IsScalar, encode_utf8, is_ascii_digit, is_ascii_hexdigit}
use Rattle.std.specs.List.{list_all}
use Rattle.std.specs.Str.{encode_utf8_all}
use Rattle.std.specs.Str.Parse.{digits_value}
use Rattle.kh_text_defs.specs.Atoms.{is_plain_word}

-- one digit or more
abbrev pub are_digits : List ℕ → Bool
are_digits text = nat_le 1 (length text) && list_all is_ascii_digit text

-- The text is this integer: digits, perhaps directly behind a minus sign. Leading zeros change nothing.
abbrev pub IsInteger : List ℕ → ℤ → Type 0
IsInteger text number =
    (digits : List ℕ) × IsTrue (are_digits digits)
    × (((text ≡ digits) × (number ≡ pos (digits_value 10 digits))) ⊎ ((text ≡ 45 ∷ digits) × (number ≡ neg_ℤ (pos (digits_value 10 digits)))))

-- What a byte behind a backslash stands for: `\\`, `\'` and `\"` for themselves, `\n`, `\r`, `\t`, and `\s` for a space.
abbrev pub escaped : ℕ → Option ℕ
escaped byte =
    if byte == 92 then Some 92 else if byte == 39 then Some 39 else if byte == 34 then Some 34 else if byte == 110 then Some 10
    else if byte == 114 then Some 13 else if byte == 116 then Some 9 else if byte == 115 then Some 32 else None

-- one to six hexadecimal digits
abbrev pub are_code_digits : List ℕ → Bool
are_code_digits text = nat_le 1 (length text) && nat_le (length text) 6 && list_all is_ascii_hexdigit text

-- A code point in quotes: its UTF-8, where it is neither the quote nor a backslash; or behind a backslash, by a letter or
-- as `\x{H}`. A surrogate is no code point.
pub data Character (quote : ℕ) : List ℕ → ℕ → Type 0 where
  as_it_is : (text : List ℕ) (point : ℕ) → IsScalar point → IsTrue (not (point == quote)) → IsTrue (not (point == 92))
      → text ≡ encode_utf8 point → Character quote text point
  by_letter : (text : List ℕ) (letter point : ℕ) → escaped letter ≡ Some point → text ≡ 92 ∷ letter ∷ [] → Character quote text point
  by_code : (text digits : List ℕ) (point : ℕ) → IsTrue (are_code_digits digits) → digits_value 16 digits ≡ point → IsScalar point
      → text ≡ 92 ∷ 120 ∷ 123 ∷ (digits ++ 125 ∷ []) → Character quote text point

pub data Characters (quote : ℕ) : List ℕ → List ℕ → Type 0 where
  no_character : Characters quote [] []
  one_character : (text first rest : List ℕ) (point : ℕ) (points : List ℕ) → Character quote first point → Characters quote rest points
      → text ≡ first ++ rest → Characters quote text (point ∷ points)

-- code points between two quotes
pub record Quoted (quote : ℕ) (text points : List ℕ) : Type 0 where
  pub inside : List ℕ
  pub characters : Characters quote inside points
  pub parts : text ≡ quote ∷ (inside ++ quote ∷ [])

-- The text of an atom stands as it is, where it has the form of a word, or in single quotes. It has at most 255 bytes.
abbrev pub SpellsAtom : List ℕ → List ℕ → Type 0
SpellsAtom text name =
    (((text ≡ name) × IsTrue (is_plain_word name)) ⊎ ((points : List ℕ) × Quoted 39 text points × (name ≡ encode_utf8_all points)))
    × (length name ≤ 255)
