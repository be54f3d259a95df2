use Rattle.std.proofs.Common.{◌≡◌, ◌<◌, ◌≤◌, ◌-◌, ◌*◌, ◌%◌, ◌^◌, ℕ, suc, Bool, true, false, cond, nat_lt, nat_le, Some, find, unwrap_or, List, [], ◌∷◌, length, get_or, drop, ap, sym, refl, ◌∙◌, arith, add-one, drop-cons}
use Rattle.std.proofs.Math.Nat.{mod-eq_of_lt}
use Rattle.std.proofs.Math.Pow.{pow-lt}
use Rattle.std.proofs.lemmas.Bool.{leb-true}
use Rattle.std.proofs.lemmas.List.Elements.{All-get_or}
use Rattle.std.proofs.lemmas.List.Sums.{AllPass-from_list_all}
use borrow.Author.Tests.{lt-ltb, le-ltb}
use Rattle.kh_term.proofs.packed_lens.least_len.Goals as goal

-- what the search from a place on gives, by whether the element there passes
at_place : (p : ℕ → Bool) (xs : List ℕ) (i d m : ℕ) (b : Bool) → i < length xs → p (get_or xs i d) ≡ b → unwrap_or (find p (drop i xs)) 16 ≡ m → unwrap_or (cond b (Some (get_or xs i d)) (find p (drop (suc i) xs))) 16 ≡ m
at_place p xs i d m b h y e =
    sym (ap (λ b. unwrap_or (cond b (Some (get_or xs i d)) (find p (drop (suc i) xs))) 16) y)
    ∙ (sym (ap (λ ys. unwrap_or (find p ys) 16) (drop-cons xs i d h)) ∙ e)

abbrev shorter : List ℕ
shorter = 1 ∷ 2 ∷ 3 ∷ 4 ∷ 5 ∷ 6 ∷ 7 ∷ 8 ∷ 9 ∷ 10 ∷ 11 ∷ 12 ∷ 13 ∷ 14 ∷ 15 ∷ []

-- the shift loses no bit
shifted : (i : ℕ) → i < length shorter → (1 * 2 ^ (8 * get_or shorter i 0 - 1)) % 2 ^ 128 ≡ 2 ^ (8 * get_or shorter i 0 - 1)
shifted i h =
    let few : get_or shorter i 0 ≤ 15 = leb-true _ 15 (All-get_or (λ n. nat_le n 15 ≡ true) shorter i 0 h (AllPass-from_list_all (λ n. nat_le n 15) shorter refl)) in
    let less : 8 * get_or shorter i 0 - 1 < 128 = omega arith in
    let small : 2 ^ (8 * get_or shorter i 0 - 1) < 2 ^ 128 = pow-lt less in
    let once : 1 * 2 ^ (8 * get_or shorter i 0 - 1) ≡ 2 ^ (8 * get_or shorter i 0 - 1) = omega arith in
    ap (λ n. n % 2 ^ 128) once ∙ mod-eq_of_lt small

holds : (n m k : ℕ) → k ≡ m → n < k → nat_lt n m ≡ true
holds n m k e h = lt-ltb n m (omega arith)

fails : (n m k : ℕ) → k ≡ m → k ≤ n → nat_lt n m ≡ false
fails n m k e h = le-ltb n m (omega arith)

pub returns-then-behind-length : goal.returns-then-behind-length
returns-then-behind-length c =
    let i = c.loop-length.length-index in
    at_place (λ len. nat_lt c.args.behind (2 ^ (8 * len - 1))) shorter i 0 _ true c.loop-length-test.true
    (holds _ _ _ (shifted i c.loop-length-test.true) c.if-behind-length.true) c.loop-length.invariant

pub loop-length-preserved : goal.loop-length-preserved
loop-length-preserved c =
    let i = c.loop-length.length-index in
    rw add-one
    (at_place (λ len. nat_lt c.args.behind (2 ^ (8 * len - 1))) shorter i 0 _ false c.loop-length-test.true
    (fails _ _ _ (shifted i c.loop-length-test.true) c.if-behind-length.false) c.loop-length.invariant)
