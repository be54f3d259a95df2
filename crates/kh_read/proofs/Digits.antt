-- What a text of digits is.
use Rattle.std.proofs.Common.{◌≡◌, ℕ, ◌<◌, ◌≤◌, ◌^◌, true, false, ◌&&◌, leb, eqb, List, [], ◌∷◌, length, get_or, refl, ap, arith}
use Rattle.std.specs.Char.{is_ascii_digit}
use Rattle.std.specs.List.{list_all}
use Rattle.std.specs.Str.{all_ascii_digits, IsUtf8}
use Rattle.std.specs.Str.Parse.{AllDigits, IsNumeral, digits_value, without_leading_plus}
use Rattle.std.proofs.lemmas.Bool.{and_parts, leb-true, le-leb}
use Rattle.std.proofs.lemmas.Bool.Decides.{nat_tests}
use Rattle.std.proofs.lemmas.Str.{IsUtf8-from_ascii}
use Rattle.std.proofs.lemmas.Fmt.{IsAscii-from_digits}
use Rattle.std.proofs.lemmas.Str.Parse.{IsNumeralModel, numerals_by_value, tells_all_ascii_digits, digits_value_short, digit_at}
use Rattle.kh_read.specs.Form.{are_digits}

-- what `are_digits` tests
pub record AreDigits (text : List ℕ) : Type 0 where
  pub some : 1 ≤ length text
  pub few : length text ≤ 18
  pub each : all_ascii_digits text ≡ true

pub digits_are : (text : List ℕ) → are_digits text ≡ true → AreDigits text
digits_are text h =
    let outer = and_parts (leb 1 (length text) && leb (length text) 18) (all_ascii_digits text) h in
    let inner = and_parts (leb 1 (length text)) (leb (length text) 18) outer.0 in
    record { some = leb-true _ _ inner.0; few = leb-true _ _ inner.1; each = outer.1 }

abbrev own : IsNumeralModel (λ ds. all_ascii_digits ds ≡ true) (digits_value 10)
own = numerals_by_value (λ ds. all_ascii_digits ds ≡ true) tells_all_ascii_digits

pub all_digits : (text : List ℕ) → AreDigits text → AllDigits 10 text
all_digits text h = own.to text h.each

pub digits_text : (text : List ℕ) → AreDigits text → IsUtf8 text
digits_text text h = IsUtf8-from_ascii text (IsAscii-from_digits text (all_digits text h))

-- the number is below 10^18
pub digits_below : (text : List ℕ) → AreDigits text → digits_value 10 text < 10 ^ 18
digits_below text h = digits_value_short own text 18 h.each h.few

-- no plus stands before digits
pub no_plus : (text : List ℕ) → AreDigits text → without_leading_plus text ≡ text
no_plus text h =
    let first = digit_at text 0 (all_digits text h) h.some in
    let other : eqb (get_or text 0 0) 43 ≡ false = grind (arith, nat_tests) in
    rw other refl

pub digits_parse : (text : List ℕ) → AreDigits text
    → IsNumeral 10 (without_leading_plus text) × (digits_value 10 (without_leading_plus text) < 2 ^ 64)
digits_parse text h = rw (no_plus text h) ((omega (arith, h.some), all_digits text h), omega (arith, digits_below text h))

pub all_digits-list_all : (text : List ℕ) → all_ascii_digits text ≡ list_all is_ascii_digit text
all_digits-list_all [] = refl
all_digits-list_all (b ∷ text) = ap (λ t. is_ascii_digit b && t) (all_digits-list_all text)

-- 1 to 18 bytes that are digits each
pub are_digits_from : (text : List ℕ) → 1 ≤ length text → length text ≤ 18 → list_all is_ascii_digit text ≡ true → are_digits text ≡ true
are_digits_from text some few each = rw (le-leb _ _ some, le-leb _ _ few, all_digits-list_all text) each
