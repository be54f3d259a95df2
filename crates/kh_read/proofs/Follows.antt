-- The value of a code point in the midst of its bytes.
use Rattle.std.proofs.Common.{◌≡◌, ◌≤◌, ◌<◌, ℕ, ◌+◌, ◌-◌, ◌*◌, Bool, true, false, cond, eqb, ltb, refl, sym, subst, arith, IsTrue}
use Rattle.std.proofs.lemmas.Bool.{ltb-true, lt-ltb, eqb-true}
use Rattle.kh_read.specs.Bounds.{follow_limit}

pub follow_small : (count value : ℕ) → IsTrue (ltb value (follow_limit count)) → value < 0x100000
follow_small count value = go (eqb count 0) (eqb count 1) (eqb count 2)
  where
    go : (a b c : Bool) → ltb value (cond a 0x100000 (cond b 0x4000 (cond c 0x100 0))) ≡ true → value < 0x100000
    go true b c h = ltb-true value 0x100000 h
    go false true c h = let k = ltb-true value 0x4000 h in omega (arith, k)
    go false false true h = let k = ltb-true value 0x100 h in omega (arith, k)
    go false false false h = let k = ltb-true value 0 h in absurd (omega (arith, k))

pub follow_next : (count value more : ℕ) → 0 < count → IsTrue (ltb value (follow_limit count)) → more < 64 → IsTrue (ltb (value * 64 + more) (follow_limit (count - 1)))
follow_next count value more some h small = go (eqb count 0) (eqb count 1) (eqb count 2) refl refl refl h
  where
    at_count : (k : ℕ) → count ≡ k → ltb (value * 64 + more) (follow_limit (k - 1)) ≡ true → ltb (value * 64 + more) (follow_limit (count - 1)) ≡ true
    at_count k same is = subst (λ (n : ℕ). ltb (value * 64 + more) (follow_limit (n - 1)) ≡ true) (sym same) is

    go : (a b c : Bool) → eqb count 0 ≡ a → eqb count 1 ≡ b → eqb count 2 ≡ c → ltb value (cond a 0x100000 (cond b 0x4000 (cond c 0x100 0))) ≡ true
        → ltb (value * 64 + more) (follow_limit (count - 1)) ≡ true
    go true b c e f g k = let zero_ = eqb-true count 0 e in absurd (omega (arith, zero_, some))
    go false true c e f g k = let less = ltb-true value 0x4000 k in at_count 1 (eqb-true count 1 f) (lt-ltb (value * 64 + more) 0x100000 (omega (arith, less, small)))
    go false false true e f g k = let less = ltb-true value 0x100 k in at_count 2 (eqb-true count 2 g) (lt-ltb (value * 64 + more) 0x4000 (omega (arith, less, small)))
    go false false false e f g k = let none = ltb-true value 0 k in absurd (omega (arith, none))

pub ruleset follows = (follow_small, follow_next)
