-- The first place that passes a test.
use Rattle.std.proofs.Common.{◌≡◌, ◌<◌, ◌≤◌, ◌+◌, ℕ, zero, suc, min, Bool, true, false, ◌||◌, ◌⊎◌, inl, inr, Option, Some, None, Result, Ok, Err, refl, ap, sym, ◌∙◌, subst, arith, below_more}
use Rattle.std.proofs.lemmas.Bool.{or_from, or_left, or_right, cases_lt, cases_Bool, both_ways, cases_order}
use Rattle.kh_listing.specs.Outcome.{NonePasses, IsFirst, earlier}

-- the first that passes either of two tests
pub either_first : (p q : ℕ → Bool) (n : ℕ) (a b : Option ℕ) → IsFirst p n a → IsFirst q n b → IsFirst (λ i. p i || q i) n (earlier a b)
either_first p q n None None h k = λ i l. or_from (p i) (q i) (h i l) (k i l)
either_first p q n None (Some j) h k =
    (k.0, or_right (p j) (q j) k.1, λ i l. or_from (p i) (q i) (h i (omega (arith, k.0))) (k.2 i l))
either_first p q n (Some i) None h k =
    (h.0, or_left (p i) (q i) h.1, λ j l. or_from (p j) (q j) (h.2 j l) (k j (omega (arith, h.0))))
either_first p q n (Some i) (Some j) h k = go (cases_lt j i)
  where
    go : (j < i) ⊎ (i ≤ j) → IsFirst (λ x. p x || q x) n (Some (min i j))
    go (inl lt) =
        let e : j ≡ min i j = omega arith in
        let found : IsFirst (λ x. p x || q x) n (Some j) = (k.0, or_right (p j) (q j) k.1, λ x l. or_from (p x) (q x) (h.2 x (omega arith)) (k.2 x l)) in
        subst (λ (m : ℕ). IsFirst (λ x. p x || q x) n (Some m)) e found
    go (inr le) =
        let e : i ≡ min i j = omega arith in
        let found : IsFirst (λ x. p x || q x) n (Some i) = (h.0, or_left (p i) (q i) h.1, λ x l. or_from (p x) (q x) (h.2 x l) (k.2 x (omega arith))) in
        subst (λ (m : ℕ). IsFirst (λ x. p x || q x) n (Some m)) e found

pub first_either : (p q : ℕ → Bool) (n : ℕ) (a b r : Option ℕ) → r ≡ earlier a b → IsFirst p n a → IsFirst q n b → IsFirst (λ i. p i || q i) n r
first_either p q n a b r e h k = subst (λ (o : Option ℕ). IsFirst (λ i. p i || q i) n o) (sym e) (either_first p q n a b h k)

-- there is a first place, or none
pub some_first : (p : ℕ → Bool) (n : ℕ) → (o : Option ℕ) × IsFirst p n o
some_first p zero = (None, λ k l. absurd (omega arith))
some_first p (suc n) = let front = some_first p n in next front.0 front.1
  where
    at : NonePasses p n → p n ≡ false → (k : ℕ) → (k ≡ n) ⊎ ((k < n) ⊎ (n < k)) → k < suc n → p k ≡ false
    at none fails k (inl e) l = ap p e ∙ fails
    at none fails k (inr (inl lt)) l = none k lt
    at none fails k (inr (inr gt)) l = absurd (omega arith)

    last : NonePasses p n → (p n ≡ true) ⊎ (p n ≡ false) → (o : Option ℕ) × IsFirst p (suc n) o
    last none (inl passes) = (Some n, (omega arith, passes, none))
    last none (inr fails) = (None, λ k l. at none fails k (cases_order k n) l)

    next : (o : Option ℕ) → IsFirst p n o → (o : Option ℕ) × IsFirst p (suc n) o
    next None none = last none (cases_Bool (p n))
    next (Some i) found = (Some i, (omega (arith, found.0), found.1, found.2))

-- two first places are one
pub one_first : (p : ℕ → Bool) (n i j : ℕ) → IsFirst p n (Some i) → IsFirst p n (Some j) → i ≡ j
one_first p n i j h k = go (cases_order i j)
  where
    go : (i ≡ j) ⊎ ((i < j) ⊎ (j < i)) → i ≡ j
    go (inl e) = e
    go (inr (inl lt)) = absurd (both_ways (p i) (k.2 i lt) h.1)
    go (inr (inr gt)) = absurd (both_ways (p j) (h.2 j gt) k.1)
