-- Integers that have 128 bits, and the integer of a numeral.
use Rattle.std.proofs.Common.{◌≡◌, ◌<◌, ℕ, ◌+◌, ◌^◌, Bool, true, false, not, ◌&&◌, List, [], ◌∷◌, length, drop, refl, sym, ap, subst, ◌∙◌, ℤ, pos, negsuc, of_z, to_z, SFits, arith}
use Rattle.std.proofs.lemmas.Bool.{ltb-true, and_parts}
use Rattle.std.proofs.lemmas.Bool.Decides.{nat_tests}
use Rattle.std.proofs.lemmas.Str.{IsUtf8-from_ascii}
use Rattle.std.proofs.lemmas.Str.Ascii.{IsAscii-nil, IsAscii-cons}
use Rattle.std.proofs.lemmas.Str.Parse.{tells_all_ascii_digits, numerals_by_value}
use borrow.Author.Tests.{lt-ltb}
use Rattle.std.specs.Int.{w128}
use Rattle.std.specs.Prelude.{Option, Some, None, Result, Ok, Err, FitsSigned, cond, ◌==◌, if◌then◌else◌}
use Rattle.std.specs.Result.{OkIff, result_ok}
use Rattle.std.specs.Str.{all_ascii_digits, IsAscii, IsUtf8}
use Rattle.std.specs.Str.Parse.{IsNumeral, ParsesSigned, signed_digits_value, without_leading_sign}
use Rattle.kh_term.specs.WellFormed.{fits_128}
use Rattle.kh_bif_base.specs.Integers.{fitted}
use Rattle.kh_bif_data.specs.Binaries.{is_empty, is_numeral}

fits : (z : ℤ) → SFits w128 z → fits_128 z ≡ true
fits (pos n) h = lt-ltb n (2 ^ 127) h.sfits
fits (negsuc n) h = lt-ltb n (2 ^ 127) h.sfits

has_bits : (z : ℤ) → fits_128 z ≡ true → SFits w128 z
has_bits (pos n) e = record { sfits = ltb-true n (2 ^ 127) e }
has_bits (negsuc n) e = record { sfits = ltb-true n (2 ^ 127) e }

some_fitted : (r z : ℤ) → SFits w128 z → r ≡ z → Some r ≡ fitted z
some_fitted r z h e =
    let P : Bool → Type 0 = λ b. Some r ≡ (if b then Some z else None) in
    subst P (sym (fits z h)) (ap (λ (n : ℤ). Some n) e)

none_if : (z : ℤ) (b : Bool) → fits_128 z ≡ b → (SFits w128 z → ⊥) → None ≡ (if b then Some z else None)
none_if z true e h = absurd (h (has_bits z e))
none_if z false e h = refl

none_fitted : (z : ℤ) → (SFits w128 z → ⊥) → None ≡ fitted z
none_fitted z h = none_if z (fits_128 z) refl h

-- ---- numerals

some_length : (bs : List ℕ) → not (is_empty bs) ≡ true → 0 < length bs
some_length [] e = absurd (cc)
some_length (b ∷ bs) e = omega arith

pub numeral_is : (text : List ℕ) → is_numeral text ≡ true → IsNumeral 10 (without_leading_sign text)
numeral_is text e =
    let ds = without_leading_sign text in
    let parts = and_parts (not (is_empty ds)) (all_ascii_digits ds) e in
    (some_length ds parts.0, (numerals_by_value (λ ds. all_ascii_digits ds ≡ true) tells_all_ascii_digits).to ds parts.1)

-- ---- its bytes are ASCII

digits_ascii : (ds : List ℕ) → all_ascii_digits ds ≡ true → IsAscii ds
digits_ascii [] e = IsAscii-nil
digits_ascii (c ∷ cs) e =
    let k = tells_all_ascii_digits.parts c cs e in
    IsAscii-cons c cs (omega (arith, k.0)) (digits_ascii cs k.1)

signed_ascii : (c : ℕ) (cs : List ℕ) (minus plus : Bool) → (c == 45) ≡ minus → (c == 43) ≡ plus → all_ascii_digits (cond minus (drop 1 (c ∷ cs)) (drop (cond plus 1 0) (c ∷ cs))) ≡ true → IsAscii (c ∷ cs)
signed_ascii c cs true plus f g e = IsAscii-cons c cs (grind (arith, nat_tests, f)) (digits_ascii cs e)
signed_ascii c cs false true f g e = IsAscii-cons c cs (grind (arith, nat_tests, g)) (digits_ascii cs e)
signed_ascii c cs false false f g e = digits_ascii (c ∷ cs) e

ascii : (text : List ℕ) → all_ascii_digits (without_leading_sign text) ≡ true → IsAscii text
ascii [] e = IsAscii-nil
ascii (c ∷ cs) e = signed_ascii c cs (c == 45) (c == 43) refl refl e

pub numeral_utf8 : (text : List ℕ) → is_numeral text ≡ true → IsUtf8 text
numeral_utf8 text e =
    let ds = without_leading_sign text in
    IsUtf8-from_ascii text (ascii text (and_parts (not (is_empty ds)) (all_ascii_digits ds) e).1)

read_by : {E : Type 0} (text : List ℕ) (r : Result ℤ E) → OkIff r (IsNumeral 10 (without_leading_sign text) × FitsSigned w128 (signed_digits_value 10 text)) (signed_digits_value 10 text) → IsNumeral 10 (without_leading_sign text)
    → result_ok r ≡ fitted (signed_digits_value 10 text)
read_by text (Ok x) h n = some_fitted x (signed_digits_value 10 text) h.0.1 h.1
read_by text (Err e) h n = none_fitted (signed_digits_value 10 text) (λ f. h (n, f))

pub numeral_read : {E : Type 0} (text : List ℕ) (r : Result ℤ E) → ParsesSigned w128 10 text r → is_numeral text ≡ true → result_ok r ≡ fitted (signed_digits_value 10 text)
numeral_read text r h e = read_by text r h (numeral_is text e)
