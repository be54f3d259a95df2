-- The length of a chunk, the places before it, and the chunk of a place.
use Rattle.std.proofs.Common.{◌≡◌, ℕ, zero, suc, ◌+◌, ◌-◌, ◌*◌, ◌/◌, ◌%◌, ◌^◌, ◌<◌, ◌≤◌, min, refl, sym, ap, ◌∙◌, arith, pow-add, pow_mono, pow-suc, pow_pos, add-zero, add-suc, lt_of_not-le, div-add-mod'}
use Rattle.std.proofs.lemmas.Nat.{shl_whole, mod_below}
use Rattle.kh_arena.specs.Sizes.{chunk_len, places_before}

pub chunk_len-small : (k : ℕ) → k ≤ 10 → chunk_len k ≡ 64 * 2 ^ k
unfolding chunk_len
chunk_len-small k l = let same : min k 10 ≡ k = omega (arith, l) in ap (λ n. 64 * 2 ^ n) same

pub chunk_len-large : (k : ℕ) → 10 ≤ k → chunk_len k ≡ 65536
unfolding chunk_len
chunk_len-large k l = let same : min k 10 ≡ 10 = omega (arith, l) in ap (λ n. 64 * 2 ^ n) same

places_before-small : (k : ℕ) → k ≤ 10 → places_before k + 64 ≡ 64 * 2 ^ k
places_before-small zero l = refl
places_before-small (suc k) l = omega (arith, places_before-small k (omega (arith, l)), chunk_len-small k (omega (arith, l)), pow-suc 2 k)

places_before-large : (m : ℕ) → places_before (m + 10) + 64 ≡ 65536 * (m + 1)
unfolding chunk_len
places_before-large zero = refl
places_before-large (suc m) =
    let next : suc m + 10 ≡ suc (m + 10) = omega arith in
    ap (λ k. places_before k + 64) next ∙ omega (arith, places_before-large m, chunk_len-large (m + 10) (omega arith))

-- where t is the leading bit of n
module _ (t n : ℕ) (low : 2 ^ t ≤ n) (high : n < 2 * 2 ^ t) (first : 64 ≤ n) (few : n < 65536) where
  pub top-enough : 6 ≤ t
  top-enough = lt_of_not-le (λ (l : t ≤ 5). let p = pow_mono l in let q : 2 ^ t ≤ 32 = p in absurd (omega (arith, high, first, q)))

  pub top-small : t < 16
  top-small = lt_of_not-le (λ (l : 16 ≤ t). let p = pow_mono l in let q : 65536 ≤ 2 ^ t = p in absurd (omega (arith, low, few, q)))

  top : 64 * 2 ^ (t - 6) ≡ 2 ^ t
  top = let same : 6 + (t - 6) ≡ t = omega (arith, top-enough) in sym (pow-add 2 6 (t - 6)) ∙ ap (λ (k : ℕ). 2 ^ k) same

  pub top-bit : (1 * 2 ^ t) % 2 ^ 64 ≡ 2 ^ t
  top-bit = shl_whole 1 1 t 64 (omega arith) (omega (arith, top-small)) ∙ omega arith

  pub place-small : places_before (t - 6) + (n - 2 ^ t) + 64 ≡ n
  place-small = omega (arith, places_before-small (t - 6) (omega (arith, top-small)), top, low)

  pub offset-small : n - 2 ^ t < chunk_len (t - 6)
  offset-small = omega (arith, chunk_len-small (t - 6) (omega (arith, top-small)), top, high, low)

module _ (n : ℕ) (many : 65536 ≤ n) where
  quotient : 1 ≤ n / 65536
  quotient = omega (arith, many, div-add-mod' n 65536, mod_below n 65536 (omega arith))

  pub place-large : places_before (n / 65536 + 10 - 1) + n % 65536 + 64 ≡ n
  place-large =
      let same : n / 65536 + 10 - 1 ≡ (n / 65536 - 1) + 10 = omega (arith, quotient) in
      ap (λ k. places_before k + n % 65536 + 64) same ∙ omega (arith, places_before-large (n / 65536 - 1), quotient, div-add-mod' n 65536)

  pub offset-large : n % 65536 < chunk_len (n / 65536 + 10 - 1)
  offset-large = omega (arith, chunk_len-large (n / 65536 + 10 - 1) (omega (arith, quotient)), mod_below n 65536 (omega arith))

pub chunk_len-pos : (k : ℕ) → 0 < chunk_len k
unfolding chunk_len
chunk_len-pos k = let p = pow_pos (min k 10) in omega (arith, p)

pub places_before-mono : (j d : ℕ) → places_before j ≤ places_before (j + d)
places_before-mono j zero = omega (arith, ap places_before (add-zero j))
places_before-mono j (suc d) = omega (arith, ap places_before (add-suc j d), places_before-mono j d)

-- a chunk whose first place is before those of m chunks is one of them
pub chunk-before : (k m : ℕ) → places_before k < places_before m → k < m
chunk-before k m l =
    lt_of_not-le (λ (le : m ≤ k).
    let more = places_before-mono m (k - m) in let same : m + (k - m) ≡ k = omega (arith, le) in
    absurd (omega (arith, l, more, ap places_before same)))
