-- The first that passes a test.
use Rattle.std.proofs.Common.{◌≡◌, ◌<◌, ◌+◌, ℕ, Bool, cond, List, length, get_or, drop, Some, add-one, drop-cons}
use Rattle.std.specs.List.{find}

pub find_next : {A : Type 0} (p : A → Bool) (xs : List A) (i : ℕ) (d : A) → i < length xs →
    find p (drop i xs) ≡ cond (p (get_or xs i d)) (Some (get_or xs i d)) (find p (drop (i + 1) xs))
find_next p xs i d h = rw (add-one i, drop-cons xs i d h)
