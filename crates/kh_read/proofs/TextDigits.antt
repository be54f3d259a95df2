-- Reading the digits of an integer.
use Rattle.std.proofs.Common.{◌≡◌, ◌≤◌, ◌<◌, ℕ, zero, suc, ◌+◌, ◌-◌, ◌*◌, Bool, true, false, not, ◌&&◌, ◌||◌, cond, eqb, List, [], ◌∷◌, ◌++◌, length, inl, inr, refl, sym, ap, subst, ◌∙◌, arith, ℤ, pos, append_assoc}
use Rattle.std.specs.Prelude.{neg_ℤ}
use Rattle.std.specs.Char.{is_ascii_digit, digit_value}
use Rattle.std.specs.List.{list_all}
use Rattle.std.specs.Str.Parse.{digits_value, digits_value_after}
use Rattle.std.proofs.lemmas.Bool.{eqb-true, not_from_false, and_from, le-leb}
use Rattle.std.proofs.lemmas.Bool.Decides.{nat_tests}
use Rattle.std.proofs.lemmas.List.{length-append}
use Rattle.kh_term.specs.WellFormed.{fits_128}
use Rattle.kh_text_defs.specs.Spelled.{Rules, allows}
use Rattle.kh_text_defs.specs.Tokens.{are_digits, IsInteger}
use Rattle.kh_read.specs.State.{Frame, Place, Before, Minus, Digits, State, Setting, Halt, Syntax, Step, Stop, Reading, Cut}
use Rattle.kh_read.specs.Steps.{at, fault, signed, is_byte, digit_of, takes_segment, byte_of, fits_here, misfit, with_digit, begin_integer, step_place, step_digits, step_between, read_on}
use Rattle.kh_read.proofs.TextCore.{spot, byte_goes, byte_stops, at_the_end}
use Rattle.kh_read.proofs.TextReads.{Reads, whole, part, halted}

abbrev pub no_digit : List ℕ → Bool
no_digit [] = true
no_digit (b ∷ rest) = not (is_ascii_digit b)

pub digit_is : (b : ℕ) → is_ascii_digit b ≡ true → digit_value b ≡ digit_of b
digit_is b h = grind (arith, nat_tests)

-- digits behind a magnitude
pub record MoreDigits (rules : Rules) (fs : List Frame) (negative : Bool) (m : ℕ) (text : List ℕ) (n : ℕ) : Type 0 where
  pub each : list_all is_ascii_digit text ≡ true
  pub value : n ≡ digits_value_after 10 m text
  pub fits : fits_here rules fs negative n ≡ true

module _ (σ : Setting) (fs : List Frame) (first : ℕ) (negative : Bool) where
  digit_goes : (m p b : ℕ) → is_ascii_digit b ≡ true → fits_here σ.rules fs negative (m * 10 + digit_of b) ≡ true
      → step_place σ (Digits first negative m) fs p b ≡ at (Digits first negative (m * 10 + digit_of b)) fs
  unfolding step_place step_digits
  digit_goes m p b e f = rw (e, f) refl

  digit_stops : (m p b : ℕ) → is_ascii_digit b ≡ true → fits_here σ.rules fs negative (m * 10 + digit_of b) ≡ false
      → step_place σ (Digits first negative m) fs p b ≡ Stop (misfit fs first)
  unfolding step_place step_digits
  digit_stops m p b e f = rw (e, f) refl

  one_more : (m p b : ℕ) (bytes : List ℕ) (start : Reading) → is_ascii_digit b ≡ true → start ≡ read_on σ (spot (Digits first negative (m * 10 + digit_of b)) fs) (suc p) bytes
      → Reads σ no_digit (MoreDigits σ.rules fs negative (m * 10 + digit_of b)) (λ n. spot (Digits first negative n) fs) (suc p) bytes (read_on σ (spot (Digits first negative (m * 10 + digit_of b)) fs) (suc p) bytes)
      → Reads σ no_digit (MoreDigits σ.rules fs negative m) (λ n. spot (Digits first negative n) fs) p (b ∷ bytes) start
  one_more m p b bytes start e goes (whole u rest n q parts more good h place) =
      whole (b ∷ u) rest n q (ap (λ (t : List ℕ). b ∷ t) parts)
      (record { each = and_from _ _ e more.each; value = more.value ∙ ap (λ d. digits_value_after 10 (m * 10 + d) u) (sym (digit_is b e)); fits = more.fits })
      good (goes ∙ h) (omega (arith, place))
  one_more m p b bytes start e goes (part more n h stands) =
      part more n (goes ∙ h) (record { each = and_from _ _ e stands.each; value = stands.value ∙ ap (λ d. digits_value_after 10 (m * 10 + d) (bytes ++ more)) (sym (digit_is b e)); fits = stands.fits })
  one_more m p b bytes start e goes (halted halt q h) = halted halt q (goes ∙ h)

  pub digits : (text : List ℕ) (m p : ℕ) → fits_here σ.rules fs negative m ≡ true
      → Reads σ no_digit (MoreDigits σ.rules fs negative m) (λ n. spot (Digits first negative n) fs) p text (read_on σ (spot (Digits first negative m) fs) p text)
  digits [] m p fits = whole [] [] m p refl (record { each = refl; value = refl; fits = fits }) refl refl (omega arith)
  digits (b ∷ bytes) m p fits = go (is_ascii_digit b) (fits_here σ.rules fs negative (m * 10 + digit_of b)) refl refl (λ h. digits bytes (m * 10 + digit_of b) (suc p) h)
    where
      go : (d f : Bool) → is_ascii_digit b ≡ d → fits_here σ.rules fs negative (m * 10 + digit_of b) ≡ f
          → (fits_here σ.rules fs negative (m * 10 + digit_of b) ≡ true → Reads σ no_digit (MoreDigits σ.rules fs negative (m * 10 + digit_of b)) (λ n. spot (Digits first negative n) fs) (suc p) bytes (read_on σ (spot (Digits first negative (m * 10 + digit_of b)) fs) (suc p) bytes))
          → Reads σ no_digit (MoreDigits σ.rules fs negative m) (λ n. spot (Digits first negative n) fs) p (b ∷ bytes) (read_on σ (spot (Digits first negative m) fs) p (b ∷ bytes))
      go true true e h more = one_more m p b bytes _ e (byte_goes σ (Digits first negative m) fs p b bytes _ (digit_goes m p b e h)) (more h)
      go true false e h more = halted (misfit fs first) p (byte_stops σ (Digits first negative m) fs p b bytes _ (digit_stops m p b e h))
      go false f e h more = whole [] (b ∷ bytes) m p refl (record { each = refl; value = refl; fits = fits }) (not_from_false _ e) refl (omega arith)

-- ---- whole integers

pub record IntegerOf (rules : Rules) (fs : List Frame) (text : List ℕ) (x : Bool × ℕ) : Type 0 where
  pub is : IsInteger text (signed x.0 x.1)
  pub fits : fits_here rules fs x.0 x.1 ≡ true

pub zero_fits : (rules : Rules) (fs : List Frame) (negative : Bool) → fits_here rules fs negative 0 ≡ true
zero_fits rules fs negative = go negative (takes_segment fs) rules.bounded
  where
    go : (n s b : Bool) → cond s (is_byte n 0) (not b || fits_128 (signed n 0)) ≡ true
    go true true b = refl
    go false true b = refl
    go true false true = refl
    go true false false = refl
    go false false true = refl
    go false false false = refl

-- what fits a segment is a byte
pub byte_is : (negative : Bool) (n : ℕ) → is_byte negative n ≡ true → byte_of n ≡ n
byte_is true n fits = subst (λ (k : ℕ). byte_of k ≡ k) (sym (eqb-true n 0 fits)) refl
byte_is false n fits = ap (λ (t : Bool). cond t n 0) fits

pub some_digits : (b : ℕ) (text : List ℕ) → is_ascii_digit b ≡ true → list_all is_ascii_digit text ≡ true → are_digits (b ∷ text) ≡ true
some_digits b text e each = and_from _ _ (le-leb 1 (length (b ∷ text)) (omega arith)) (and_from _ _ e each)

pub first_value : (b : ℕ) (text : List ℕ) → is_ascii_digit b ≡ true → digits_value 10 (b ∷ text) ≡ digits_value_after 10 (digit_of b) text
first_value b text e = let same : 0 * 10 + digit_value b ≡ digit_of b = omega (arith, digit_is b e) in ap (λ m. digits_value_after 10 m text) same

whole_integer : (rules : Rules) (fs : List Frame) (b : ℕ) (text : List ℕ) (n : ℕ) → is_ascii_digit b ≡ true → MoreDigits rules fs false (digit_of b) text n → IntegerOf rules fs (b ∷ text) (false, n)
whole_integer rules fs b text n e more = record {
  is = (b ∷ text, some_digits b text e more.each, inl (refl, ap pos (more.value ∙ sym (first_value b text e))));
  fits = more.fits;
}

whole_negative : (rules : Rules) (fs : List Frame) (b : ℕ) (text : List ℕ) (n : ℕ) → is_ascii_digit b ≡ true → MoreDigits rules fs true (digit_of b) text n → IntegerOf rules fs (45 ∷ b ∷ text) (true, n)
whole_negative rules fs b text n e more = record {
  is = (b ∷ text, some_digits b text e more.each, inr (refl, ap (λ k. neg_ℤ (pos k)) (more.value ∙ sym (first_value b text e))));
  fits = more.fits;
}

module _ (σ : Setting) (fs : List Frame) (p : ℕ) where
  abbrev pub in_digits : Bool × ℕ → State
  in_digits x = spot (Digits p x.0 x.1) fs

  -- behind the first digit
  rest_of : (negative : Bool) (front : List ℕ) (b q : ℕ) (bytes : List ℕ) (start : Reading) → q ≡ p + length front → is_ascii_digit b ≡ true
      → ((text : List ℕ) (n : ℕ) → MoreDigits σ.rules fs negative (digit_of b) text n → IntegerOf σ.rules fs (front ++ b ∷ text) (negative, n))
      → start ≡ read_on σ (spot (Digits p negative (digit_of b)) fs) (suc q) bytes
      → Reads σ no_digit (MoreDigits σ.rules fs negative (digit_of b)) (λ n. spot (Digits p negative n) fs) (suc q) bytes (read_on σ (spot (Digits p negative (digit_of b)) fs) (suc q) bytes)
      → Reads σ no_digit (IntegerOf σ.rules fs) in_digits p (front ++ b ∷ bytes) start
  rest_of negative front b q bytes start place e is goes (whole u rest n q2 parts more good h place2) =
      whole (front ++ b ∷ u) rest (negative, n) q2 (ap (λ (t : List ℕ). front ++ b ∷ t) parts ∙ sym (append_assoc front (b ∷ u) rest)) (is u n more) good (goes ∙ h) (omega (arith, place, place2, length-append front (b ∷ u)))
  rest_of negative front b q bytes start place e is goes (part more n h stands) =
      part more (negative, n) (goes ∙ h) (subst (λ (t : List ℕ). IntegerOf σ.rules fs t (negative, n)) (sym (append_assoc front (b ∷ bytes) more)) (is (bytes ++ more) n stands))
  rest_of negative front b q bytes start place e is goes (halted halt q2 h) = halted halt q2 (goes ∙ h)

  minus_goes : (q b : ℕ) → is_ascii_digit b ≡ true → fits_here σ.rules fs true (digit_of b) ≡ true → step_place σ (Minus p) fs q b ≡ at (Digits p true (digit_of b)) fs
  unfolding step_place
  minus_goes q b e f = rw (e, f) refl

  minus_stops : (q b : ℕ) → is_ascii_digit b ≡ true → fits_here σ.rules fs true (digit_of b) ≡ false → step_place σ (Minus p) fs q b ≡ Stop (misfit fs p)
  unfolding step_place
  minus_stops q b e f = rw (e, f) refl

  minus_faults : (q b : ℕ) → is_ascii_digit b ≡ false → step_place σ (Minus p) fs q b ≡ fault
  unfolding step_place
  minus_faults q b e = rw e refl

  behind_minus : (q : ℕ) (rest : List ℕ) (start : Reading) → q ≡ suc p → start ≡ read_on σ (spot (Minus p) fs) q rest → Reads σ no_digit (IntegerOf σ.rules fs) in_digits p (45 ∷ rest) start
  behind_minus q [] start place goes =
      part (48 ∷ []) (true, 0) (goes ∙ at_the_end σ (spot (Minus p) fs) q) (record { is = (48 ∷ [], refl, inr (refl, refl)); fits = zero_fits σ.rules fs true })
  behind_minus q (b ∷ bytes) start place goes = go (is_ascii_digit b) (fits_here σ.rules fs true (digit_of b)) refl refl
    where
      go : (d f : Bool) → is_ascii_digit b ≡ d → fits_here σ.rules fs true (digit_of b) ≡ f → Reads σ no_digit (IntegerOf σ.rules fs) in_digits p (45 ∷ b ∷ bytes) start
      go true true e h =
          rest_of true (45 ∷ []) b q bytes start (omega (arith, place)) e (λ text n more. whole_negative σ.rules fs b text n e more)
          (goes ∙ byte_goes σ (Minus p) fs q b bytes _ (minus_goes q b e h)) (digits σ fs p true bytes (digit_of b) (suc q) h)
      go true false e h = halted (misfit fs p) q (goes ∙ byte_stops σ (Minus p) fs q b bytes _ (minus_stops q b e h))
      go false f e h = halted Syntax q (goes ∙ byte_stops σ (Minus p) fs q b bytes _ (minus_faults q b e))

  pub integer : (b : ℕ) (rest : List ℕ) (here : Place) → step_place σ here fs p b ≡ begin_integer σ.rules fs p b
      → Reads σ no_digit (IntegerOf σ.rules fs) in_digits p (b ∷ rest) (read_on σ (spot here fs) p (b ∷ rest))
  integer b rest here begins = go (eqb b 45) (is_ascii_digit b) (fits_here σ.rules fs false (digit_of b)) refl refl refl
    where
      go : (m d f : Bool) → eqb b 45 ≡ m → is_ascii_digit b ≡ d → fits_here σ.rules fs false (digit_of b) ≡ f
          → Reads σ no_digit (IntegerOf σ.rules fs) in_digits p (b ∷ rest) (read_on σ (spot here fs) p (b ∷ rest))
      go true d f e g h =
          let step_is : step_place σ here fs p b ≡ at (Minus p) fs = begins ∙ rw e refl in
          subst (λ (x : ℕ). Reads σ no_digit (IntegerOf σ.rules fs) in_digits p (x ∷ rest) (read_on σ (spot here fs) p (b ∷ rest))) (sym (eqb-true b 45 e))
          (behind_minus (suc p) rest _ refl (byte_goes σ here fs p b rest _ step_is))
      go false true true e g h =
          let step_is : step_place σ here fs p b ≡ at (Digits p false (digit_of b)) fs = begins ∙ rw (e, g, h) refl in
          rest_of false [] b p rest _ (omega arith) g (λ text n more. whole_integer σ.rules fs b text n g more)
          (byte_goes σ here fs p b rest _ step_is) (digits σ fs p false rest (digit_of b) (suc p) h)
      go false true false e g h =
          let step_is : step_place σ here fs p b ≡ Stop (misfit fs p) = begins ∙ rw (e, g, h) refl in
          halted (misfit fs p) p (byte_stops σ here fs p b rest _ step_is)
      go false false f e g h =
          let step_is : step_place σ here fs p b ≡ fault = begins ∙ rw (e, g) refl in
          halted Syntax p (byte_stops σ here fs p b rest _ step_is)
