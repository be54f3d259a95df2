-- Places in lists.
use Rattle.std.proofs.Common.{◌≡◌, ◌<◌, ◌+◌, ◌-◌, ◌||◌, ℕ, Bool, cond, List, length, get_or, map, take, drop, Some, nat_eq, add-one, drop-cons}
use Rattle.std.proofs.Math.Seq.{take-length}
use Rattle.std.proofs.lemmas.List.{take-map, length-drop}
use Rattle.std.specs.List.{position_from, starts_with}
use Rattle.kh_regexes.specs.Plain.{stands_in}

-- the first place from here on: here, or further on
pub looked : {A : Type 0} (f : A → List ℕ) (test : List ℕ → Bool) (xs : List A) (i n : ℕ) (d : A) → i < length xs →
    position_from test n (map f (drop i xs)) ≡ cond (test (f (get_or xs i d))) (Some n) (position_from test (n + 1) (map f (drop (i + 1) xs)))
looked f test xs i n d h = rw (add-one i, drop-cons xs i d h)

-- a text stands in what is left: at its front, or further on
pub left : (text xs : List ℕ) (i : ℕ) → i < length xs →
    stands_in text (drop i xs) ≡ (starts_with nat_eq (drop i xs) text || stands_in text (drop (i + 1) xs))
left text xs i h = rw (add-one i, drop-cons xs i 0 h)

-- all that is left
pub whole_rest : (xs : List ℕ) (i : ℕ) → take (length xs - i) (drop i xs) ≡ drop i xs
whole_rest xs i = rw (← length-drop i xs) (take-length (drop i xs))

pub ruleset firsts = take-map
