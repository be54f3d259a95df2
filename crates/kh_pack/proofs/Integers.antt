-- Integers as bytes.
use Rattle.std.proofs.Common.{◌≡◌, ℕ, List, ◌++◌, take, ap, ◌∙◌, ℤ, pos, negsuc, SFits, of_z, to_z}
use Rattle.std.specs.Int.{w128, bytes_high_first}
use Rattle.std.proofs.lemmas.List.{take_at}
use Rattle.byteorder.specs.Endian.{low_bytes}
use Rattle.byteorder.specs.Numbers.{length-bytes_high_first}
use Rattle.std.proofs.lemmas.Int.{to_z-of_z}
use Rattle.kh_term.specs.Packed.{behind_sign, integer_len, integer_bytes}
use Rattle.kh_term.proofs.Integers.{Holds, len_holds}

-- an integer of 128 bits has 1 to 16 bytes
pub len_of : (z : ℤ) → SFits w128 z → Holds (behind_sign z) (integer_len z)
len_of (pos n) fits = len_holds n fits.sfits
len_of (negsuc n) fits = len_holds n fits.sfits

-- the length of a number that was passed on
pub len_is : (z : ℤ) (len : ℕ) → SFits w128 z → len ≡ integer_len (to_z w128 (of_z w128 z)) → len ≡ integer_len z
len_is z len fits is = is ∙ ap integer_len (to_z-of_z w128 z fits)

-- the front that was written is the integer's bytes
pub front_is : (z : ℤ) (len : ℕ) (buffer rest : List ℕ) → SFits w128 z → len ≡ integer_len (to_z w128 (of_z w128 z))
    → buffer ≡ bytes_high_first len (low_bytes w128 len (to_z w128 (of_z w128 z))) ++ rest → take len buffer ≡ integer_bytes z
front_is z len buffer rest fits is written =
    ap (λ (b : List ℕ). take len b) written
    ∙ (take_at (bytes_high_first len (low_bytes w128 len (to_z w128 (of_z w128 z)))) rest len (length-bytes_high_first len (low_bytes w128 len (to_z w128 (of_z w128 z))))
    ∙ ((λ i. bytes_high_first (is i) (low_bytes w128 (is i) (to_z w128 (of_z w128 z)))) ∙ ap integer_bytes (to_z-of_z w128 z fits)))
