-- Numbers and their bytes, the highest first.
use Rattle.std.proofs.Common.{◌≡◌, ◌<◌, ◌≤◌, ◌^◌, ◌+◌, ◌-◌, ◌*◌, ◌/◌, ◌%◌, ℕ, zero, suc, Bool, true, false, cond, ltb, List, [], ◌∷◌, length, refl, ap, sym, subst, ◌∙◌, arith, ℤ, pos, negsuc, ◌-ℤ◌}
use Rattle.std.proofs.Math.Nat.{mul_assoc, pow-succ', one-le-pow, add-mul-div_right, add-mul-mod_self_right, mod-eq_of_lt}
use Rattle.std.proofs.lemmas.Nat.{div-mul-add}
use Rattle.std.proofs.lemmas.Bool.{ltb-false, le-ltb}
use Rattle.std.proofs.lemmas.Int.{ints}
use Rattle.std.specs.Int.{byte_at, bytes_high_first, w128}
use borrow.Author.Tests.{lt-ltb}
use Rattle.byteorder.specs.Endian.{big_number, twos_complement, low_bytes}
use Rattle.byteorder.specs.Numbers.{big_from-cons, big_from-lt}
use Rattle.kh_term.specs.Packed.{behind_sign}
use Rattle.kh_term.proofs.Integers.{Holds, bits_of, kept-pos, kept-neg}
use Rattle.kh_pack.proofs.Steps.{IsBytes, IsBytes-rest}

-- ---- bytes of numbers

byte_at-pow : (k n : ℕ) → byte_at k n ≡ n / 256 ^ k % 256
byte_at-pow zero n = omega arith
byte_at-pow (suc k) n = refl

some : (k : ℕ) → 0 < 256 ^ k
some k = let least = one-le-pow k 256 (omega arith) in omega arith

wider : (k m : ℕ) → m * 256 ^ suc k ≡ m * 256 * 256 ^ k
wider k m = ap (λ n. m * n) (pow-succ' 256 k) ∙ sym (mul_assoc m 256 (256 ^ k))

-- the highest byte
highest : (k m r : ℕ) → m < 256 → r < 256 ^ k → byte_at k (m * 256 ^ k + r) ≡ m
highest k m r fits small = byte_at-pow k (m * 256 ^ k + r) ∙ (ap (λ n. n % 256) (div-mul-add m (256 ^ k) r small) ∙ mod-eq_of_lt fits)

-- what stands higher changes no byte
byte_low : (k m r : ℕ) → byte_at k (m * 256 ^ suc k + r) ≡ byte_at k r
byte_low k m r =
    let turned : m * 256 ^ suc k + r ≡ r + m * 256 * 256 ^ k = omega (arith, wider k m) in
    byte_at-pow k (m * 256 ^ suc k + r)
    ∙ (ap (λ n. n / 256 ^ k % 256) turned
    ∙ (ap (λ n. n % 256) (add-mul-div_right r (m * 256) (some k))
    ∙ (add-mul-mod_self_right (r / 256 ^ k) m 256 ∙ sym (byte_at-pow k r))))

bytes_low : (k m r : ℕ) → bytes_high_first k (m * 256 ^ k + r) ≡ bytes_high_first k r
bytes_low zero m r = refl
bytes_low (suc k) m r =
    let rest : bytes_high_first k (m * 256 ^ suc k + r) ≡ bytes_high_first k r = ap (λ n. bytes_high_first k (n + r)) (wider k m) ∙ bytes_low k (m * 256) r in
    λ i. byte_low k m r i ∷ rest i

-- the bytes of the number that bytes are
pub bytes_back : (bytes : List ℕ) → IsBytes bytes → bytes_high_first (length bytes) (big_number (length bytes) bytes) ≡ bytes
bytes_back [] fits = refl
bytes_back (byte ∷ bytes) fits =
    let k = length bytes in
    let r = big_number k bytes in
    let small : r < 256 ^ k = big_from-lt 0 k bytes (λ i. fits (suc i)) in
    let is : big_number (suc k) (byte ∷ bytes) ≡ byte * 256 ^ k + r = ap (λ n. byte * 256 ^ k + n) (big_from-cons 0 k byte bytes) in
    let head = highest k byte r (fits 0) small in
    let rest : bytes_high_first k (byte * 256 ^ k + r) ≡ bytes = bytes_low k byte r ∙ bytes_back bytes (IsBytes-rest byte bytes fits) in
    ap (bytes_high_first (suc k)) is ∙ (λ i. head i ∷ rest i)

-- ---- two's complement

twice : (k : ℕ) → 1 ≤ k → 2 ^ (8 * k) ≡ 2 * 2 ^ (8 * k - 1)
twice k low =
    let next : 8 * k ≡ suc (8 * k - 1) = omega arith in
    ap (λ n. 2 ^ n) next ∙ pow-succ' 2 (8 * k - 1)

below_zero : (x m : ℕ) → x < m → pos x -ℤ pos m ≡ negsuc (m - suc x)
below_zero x m less = omega (arith, ints)

complement : (k x : ℕ) (negative : Bool) → ltb x (2 ^ (8 * k - 1)) ≡ negative → twos_complement k x ≡ cond negative (pos x) (pos x -ℤ pos (2 ^ (8 * k)))
complement k x negative is = ap (λ b. cond b (pos x) (pos x -ℤ pos (2 ^ (8 * k)))) is

-- an integer is what its low bytes are
pub low_again : (z : ℤ) (k : ℕ) → Holds (behind_sign z) k → twos_complement k (low_bytes w128 k z) ≡ z
low_again (pos n) k holds =
    let is : ltb n (2 ^ (8 * k - 1)) ≡ true = lt-ltb n (2 ^ (8 * k - 1)) holds.room in
    ap (twos_complement k) (kept-pos n k holds) ∙ complement k n true is
low_again (negsuc n) k holds =
    let whole = twice k holds.some in
    let high : 2 ^ (8 * k - 1) ≤ 2 ^ (8 * k) - suc n = omega (arith, whole, holds.room) in
    let less : 2 ^ (8 * k) - suc n < 2 ^ (8 * k) = omega (arith, whole, holds.room) in
    let is : ltb (2 ^ (8 * k) - suc n) (2 ^ (8 * k - 1)) ≡ false = le-ltb _ _ high in
    let back : 2 ^ (8 * k) - suc (2 ^ (8 * k) - suc n) ≡ n = omega (arith, whole, holds.room) in
    ap (twos_complement k) (kept-neg n k holds) ∙ (complement k (2 ^ (8 * k) - suc n) false is ∙ (below_zero (2 ^ (8 * k) - suc n) (2 ^ (8 * k)) less ∙ ap negsuc back))

-- the low bytes of the integer that a number of k bytes is
pub low_back : (x k : ℕ) → 1 ≤ k → k ≤ 16 → x < 256 ^ k → low_bytes w128 k (twos_complement k x) ≡ x
low_back x k low high small = go (ltb x (2 ^ (8 * k - 1))) refl
  where
    fits : x < 2 ^ (8 * k)
    fits = subst (λ n. x < n) (bits_of k) small

    go : (negative : Bool) → ltb x (2 ^ (8 * k - 1)) ≡ negative → low_bytes w128 k (twos_complement k x) ≡ x
    go true is = ap (low_bytes w128 k) (complement k x true is) ∙ mod-eq_of_lt fits
    go false is =
        let whole = twice k low in
        let above = ltb-false x (2 ^ (8 * k - 1)) is in
        let n : ℕ = 2 ^ (8 * k) - suc x in
        let room : n < 2 ^ (8 * k - 1) = omega (arith, whole, above, fits) in
        let holds : Holds n k = record { room = room; some = low; most = high } in
        let back : 2 ^ (8 * k) - suc n ≡ x = omega (arith, fits) in
        ap (low_bytes w128 k) (complement k x false is ∙ below_zero x (2 ^ (8 * k)) fits) ∙ (kept-neg n k holds ∙ back)
