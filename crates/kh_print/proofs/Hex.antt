-- A byte in hexadecimal digits.
use Rattle.std.proofs.Common.{◌≡◌, ◌∙◌, ap, ℕ, suc, ◌<◌, ◌≤◌, ◌/◌, ◌%◌, ◌==◌, true, false, if◌then◌else◌, List, [], ◌∷◌, arith}
use Rattle.std.proofs.lemmas.Bool.Decides.{nat_tests}
use Rattle.std.specs.Fmt.{digits, digit_glyph, digits_onto}

last_digit : (k n : ℕ) (after : List ℕ) → n < 16 → digits_onto (suc k) 16 false n after ≡ digit_glyph false n ∷ after
last_digit k n after small =
    let none : n / 16 ≡ 0 = omega arith in
    let same : n % 16 ≡ n = omega arith in
    let ends : (n / 16 == 0) ≡ true = grind (arith, nat_tests, none) in
    ap (λ test. if test then digit_glyph false (n % 16) ∷ after else digits_onto k 16 false (n / 16) (digit_glyph false (n % 16) ∷ after)) ends
    ∙ ap (λ r. digit_glyph false r ∷ after) same

next_digit : (k n : ℕ) (after : List ℕ) → 16 ≤ n → digits_onto (suc k) 16 false n after ≡ digits_onto k 16 false (n / 16) (digit_glyph false (n % 16) ∷ after)
next_digit k n after large =
    let more : 0 < n / 16 = omega arith in
    let goes_on : (n / 16 == 0) ≡ false = grind (arith, nat_tests, more) in
    ap (λ test. if test then digit_glyph false (n % 16) ∷ after else digits_onto k 16 false (n / 16) (digit_glyph false (n % 16) ∷ after)) goes_on

pub one_digit : (n : ℕ) → n < 16 → digits 16 false n ≡ digit_glyph false n ∷ []
unfolding digits
one_digit n small = last_digit 63 n [] small

pub two_digits : (n : ℕ) → 16 ≤ n → n < 256 → digits 16 false n ≡ digit_glyph false (n / 16) ∷ digit_glyph false (n % 16) ∷ []
unfolding digits
two_digits n large small = next_digit 63 n [] large ∙ last_digit 62 (n / 16) (digit_glyph false (n % 16) ∷ []) (omega arith)
