-- The longest front of a list that passes a test.
use Rattle.std.proofs.Common.{◌≡◌, ℕ, suc, ◌+◌, ◌≤◌, Bool, true, false, cond, ltb, eqb, List, [], ◌∷◌, ◌++◌, length, take, drop, Ok, refl, sym, subst, arith}
use Rattle.std.proofs.lemmas.Bool.{ltb-false}
use Rattle.std.proofs.lemmas.List.{take-append-drop}
use Rattle.std.proofs.lemmas.List.Folds.{length-prefix_len}
use Rattle.kh_read.specs.Reading.{Cut, Fault, front_at}
use Rattle.kh_read.proofs.Steps.{passed, ok_is}
use Rattle.std.specs.List.{prefix_len, list_all}

-- one element more, which passes the test or doesn't
front_more : {X : Type 0} (p : X → Bool) (x : X) (xs : List X) (n : ℕ) (test : Bool) → p x ≡ test
    → list_all p (take n xs) ≡ true → list_all p (take (cond test (1 + n) 0) (x ∷ xs)) ≡ true
front_more p x xs n true passes rest =
    let one_more : 1 + n ≡ suc n = omega arith in
    rw (one_more, passes) rest
front_more p x xs n false fails rest = refl

-- each element of it passes
pub front_passes : {X : Type 0} (p : X → Bool) (xs : List X) → list_all p (take (prefix_len p xs) xs) ≡ true
front_passes p [] = refl
front_passes p (x ∷ xs) = front_more p x xs (prefix_len p xs) (p x) refl (front_passes p xs)

-- a front that was read
pub record IsFront (test : ℕ → Bool) (most : ℕ) (bytes text rest : List ℕ) : Type 0 where
  pub passes : list_all test text ≡ true
  pub few : length text ≤ most
  pub parts : bytes ≡ text ++ rest
  pub is : text ≡ take (prefix_len test bytes) bytes

pub front_read : (test : ℕ → Bool) (most : ℕ) (bytes : List ℕ) (x : List ℕ × List ℕ) → front_at test most bytes ≡ Ok x → IsFront test most bytes x.0 x.1
front_read test most bytes x e =
    let len = prefix_len test bytes in
    let a = passed (ltb most len) Fault _ x e in
    let b = passed (eqb len (length bytes)) Cut (Ok (take len bytes, drop len bytes)) x a.1 in
    let few = ltb-false most len a.0 in
    let is_len = length-prefix_len test bytes in
    subst (λ (y : List ℕ × List ℕ). IsFront test most bytes y.0 y.1) (ok_is (take len bytes, drop len bytes) x b.1)
    (record { passes = front_passes test bytes; few = omega arith; parts = sym (take-append-drop len bytes); is = refl })
