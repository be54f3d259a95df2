-- The range of an integer by its sign and its magnitude.
use Rattle.std.proofs.Common.{◌≡◌, ◌≤◌, ◌<◌, ℕ, zero, suc, ◌+◌, ◌*◌, ◌^◌, Bool, true, false, cond, ltb, leb, List, refl, sym, ap, ◌∙◌, arith, IsTrue, pos}
use Rattle.std.specs.Prelude.{neg_ℤ}
use Rattle.std.proofs.lemmas.Bool.{ltb-true, lt-ltb, le-ltb, lt-leb, leb-true, ne_eqb, eqb-true}
use Rattle.kh_term.specs.WellFormed.{fits_128}
use Rattle.kh_text_defs.specs.declared.mode.Mode.TheVariants.{Script}
use Rattle.kh_text_defs.specs.Spelled.{within_limits}
use Rattle.kh_read.specs.State.{Frame, Digits, Stop}
use Rattle.kh_read.specs.Steps.{at, signed, is_byte, takes_segment, misfit, with_digit}

pub below-range : (m : ℕ) → fits_128 (signed true m) ≡ leb m (2 ^ 127)
below-range zero = refl
below-range (suc m) = refl

pub above-range : (m : ℕ) → fits_128 (signed false m) ≡ ltb m (2 ^ 127)
above-range m = refl

pub byte_fits : (negative : Bool) (m : ℕ) → IsTrue (is_byte negative m) → IsTrue (fits_128 (signed negative m))
byte_fits true zero is = refl
byte_fits true (suc m) is = let none = eqb-true (suc m) 0 is in absurd (omega (arith, none))
byte_fits false m is = lt-ltb m (2 ^ 127) (omega (arith, ltb-true m 256 is))

-- the integer that has no magnitude of 127 bits
pub least : (negative : Bool) (m : ℕ) → IsTrue (fits_128 (signed negative m)) → 2 ^ 127 ≤ m → signed negative m ≡ neg_ℤ (pos (2 ^ 127))
least true m fits big =
    let most = leb-true m (2 ^ 127) (sym (below-range m) ∙ fits) in
    let same : m ≡ 2 ^ 127 = omega (arith, most, big) in
    ap (λ (k : ℕ). neg_ℤ (pos k)) same
least false m fits big = absurd (let less = ltb-true m (2 ^ 127) fits in omega (arith, less, big))

pub ruleset wholes = (below-range, above-range, byte_fits, least)
