-- The bytes of an integer.
use borrow.Author.Tests.{ltb-true}
use Rattle.std.proofs.lemmas.Bool.{leb-true, and_parts}
use Rattle.std.proofs.Common.{cond, ◌≡◌, ◌<◌, ◌≤◌, ℕ, zero, suc, ◌+◌, ◌-◌, ◌*◌, ◌%◌, ◌^◌, Bool, true, false, nat_lt, nat_le, Option, Some, None, find, unwrap_or, List, [], ◌∷◌, refl, ap, sym, ◌∙◌, subst, ℤ, pos, negsuc, arith}
use Rattle.std.specs.List.{list_all}
use Rattle.std.proofs.Math.Nat.{mod-eq_of_lt, mul-add-mod_self_left, pow-succ', mul-suc}
use Rattle.std.proofs.Math.Pow.{pow-lt}
use Rattle.std.proofs.lemmas.Nat.{pow-add, pow_pos}
use Rattle.kh_term.specs.WellFormed.{fits_128}
use Rattle.kh_term.specs.Packed.{behind_sign, least_len}

pub bits_of : (i : ℕ) → 256 ^ i ≡ 2 ^ (8 * i)
bits_of zero = refl
bits_of (suc i) =
    let more : 8 * suc i ≡ 8 + 8 * i = omega arith in
    let once : 256 ^ suc i ≡ 256 * 256 ^ i = pow-succ' 256 i in
    once ∙ (ap (λ n. 256 * n) (bits_of i) ∙ (sym (pow-add 2 8 (8 * i)) ∙ ap (λ n. 2 ^ n) (sym more)))

found : (p : ℕ → Bool) (xs : List ℕ) (x : ℕ) → find p xs ≡ Some x → p x ≡ true
found p [] x e = absurd (cc)
found p (y ∷ ys) x e = go (p y) refl e (found p ys x)
  where
    go : (b : Bool) → p y ≡ b → cond b (Some y) (find p ys) ≡ Some x → (find p ys ≡ Some x → p x ≡ true) → p x ≡ true
    go true h f later = let same : y ≡ x = cc in subst (λ z. p z ≡ true) same h
    go false h f later = later f

found_all : (p q : ℕ → Bool) (xs : List ℕ) (x : ℕ) → list_all q xs ≡ true → find p xs ≡ Some x → q x ≡ true
found_all p q [] x all e = absurd (cc)
found_all p q (y ∷ ys) x all e = go (p y) e (found_all p q ys x (and_parts (q y) (list_all q ys) all).1)
  where
    go : (b : Bool) → cond b (Some y) (find p ys) ≡ Some x → (find p ys ≡ Some x → q x ≡ true) → q x ≡ true
    go true f later = let same : y ≡ x = cc in subst (λ z. q z ≡ true) same (and_parts (q y) (list_all q ys) all).0
    go false f later = later f

abbrev shorter : List ℕ
shorter = 1 ∷ 2 ∷ 3 ∷ 4 ∷ 5 ∷ 6 ∷ 7 ∷ 8 ∷ 9 ∷ 10 ∷ 11 ∷ 12 ∷ 13 ∷ 14 ∷ 15 ∷ []

-- the length holds the number behind the sign, and is 1 to 16
pub record Holds (n k : ℕ) : Type 0 where
  pub room : n < 2 ^ (8 * k - 1)
  pub some : 1 ≤ k
  pub most : k ≤ 16

pub len_holds : (n : ℕ) → n < 2 ^ 127 → Holds n (least_len n)
len_holds n small = go (find (λ len. nat_lt n (2 ^ (8 * len - 1))) shorter) refl
  where
    go : (o : Option ℕ) → find (λ len. nat_lt n (2 ^ (8 * len - 1))) shorter ≡ o → Holds n (unwrap_or o 16)
    go None e = record { room = small; some = omega arith; most = omega arith }
    go (Some k) e = record {
      room = ltb-true n (2 ^ (8 * k - 1)) (found (λ len. nat_lt n (2 ^ (8 * len - 1))) shorter k e);
      some = leb-true 1 k (found_all (λ len. nat_lt n (2 ^ (8 * len - 1))) (λ len. nat_le 1 len) shorter k refl e);
      most = leb-true k 16 (found_all (λ len. nat_lt n (2 ^ (8 * len - 1))) (λ len. nat_le len 16) shorter k refl e);
    }

-- what is kept of an integer
pub kept-pos : (n k : ℕ) → Holds n k → n % 2 ^ (8 * k) ≡ n
kept-pos n k h =
    let less : 8 * k - 1 < 8 * k = omega (arith, h.some) in
    let grows : 2 ^ (8 * k - 1) < 2 ^ (8 * k) = pow-lt less in
    mod-eq_of_lt (omega (arith, h.room))

pub different : (m n k : ℕ) → Holds m k → Holds n k → m ≡ 2 ^ (8 * k) - suc n → ⊥
different m n k h i e =
    let next : 8 * k ≡ suc (8 * k - 1) = omega (arith, h.some) in
    let twice : 2 ^ (8 * k) ≡ 2 * 2 ^ (8 * k - 1) = ap (λ q. 2 ^ q) next ∙ pow-succ' 2 (8 * k - 1) in
    absurd (omega (arith, h.room, i.room, twice, e))

pub kept-neg : (n k : ℕ) → Holds n k → (2 ^ 128 - suc n) % 2 ^ (8 * k) ≡ 2 ^ (8 * k) - suc n
kept-neg n k h =
    let m : ℕ = 2 ^ (8 * k) in
    let p : ℕ = 2 ^ (128 - 8 * k) - 1 in
    let less : 8 * k - 1 < 8 * k = omega (arith, h.some) in
    let grows : 2 ^ (8 * k - 1) < m = pow-lt less in
    let apart : 8 * k + (128 - 8 * k) ≡ 128 = omega (arith, h.most) in
    let one : 0 < 2 ^ (128 - 8 * k) = pow_pos (128 - 8 * k) in
    let factor : 2 ^ (128 - 8 * k) ≡ suc p = omega arith in
    let whole : 2 ^ 128 ≡ m * p + m = ap (λ e. 2 ^ e) (sym apart) ∙ (pow-add 2 (8 * k) (128 - 8 * k) ∙ (ap (λ q. m * q) factor ∙ mul-suc m p)) in
    let room : n < m = omega (arith, h.room) in
    let parted : 2 ^ 128 - suc n ≡ m * p + (m - suc n) = ap (λ q. q - suc n) whole ∙ omega arith in
    ap (λ q. q % m) parted ∙ (mul-add-mod_self_left m p (m - suc n) ∙ mod-eq_of_lt (omega arith))

pub fits_behind_sign : (z : ℤ) → fits_128 z ≡ true → behind_sign z < 2 ^ 127
fits_behind_sign (pos n) h = ltb-true n (2 ^ 127) h
fits_behind_sign (negsuc n) h = ltb-true n (2 ^ 127) h
