-- A list from its other end.
use Rattle.std.proofs.Common.{◌≡◌, ℕ, zero, suc, ◌+◌, ◌-◌, ◌<◌, ◌≤◌, List, [], ◌∷◌, ◌++◌, length, reverse, drop, take, replicate, refl, sym, ◌∙◌, ap, arith, slice_set, get_or, length-set}
use Rattle.std.proofs.lemmas.List.{reverse-append, length-reverse, get_or-reverse, take-append-drop, length-drop, replicate-append-replicate, ext_get_or, take_all}
use Rattle.std.proofs.lemmas.Grind.{common_steps}

-- a list that is behind n others
pub dropped : {X : Type 0} (n : ℕ) (xs ys : List X) → length xs ≡ n → drop n (xs ++ ys) ≡ ys
dropped n xs ys e = grind (arith, common_steps)

reversed_drop : {X : Type 0} (n : ℕ) (xs : List X) → n ≤ length xs → reverse (take (length xs - n) xs) ≡ drop n (reverse xs)
reversed_drop n xs h =
    let front = take (length xs - n) xs in
    let back = drop (length xs - n) xs in
    let split : reverse xs ≡ reverse back ++ reverse front = ap reverse (sym (take-append-drop (length xs - n) xs)) ∙ reverse-append front back in
    let behind : length (reverse back) ≡ n = length-reverse back ∙ length-drop (length xs - n) xs ∙ omega arith in
    sym (ap (drop n) split ∙ dropped n (reverse back) (reverse front) behind)

copies_back : {X : Type 0} (n : ℕ) (x : X) → reverse (replicate n x) ≡ replicate n x
copies_back zero x = refl
copies_back (suc n) x =
    let one_more : n + 1 ≡ suc n = omega arith in
    reverse-append (x ∷ []) (replicate n x) ∙ ap (λ l. l ++ x ∷ []) (copies_back n x) ∙ replicate-append-replicate n 1 x ∙ ap (λ k. replicate k x) one_more

reversed_copies : {X : Type 0} (n : ℕ) (x : X) (xs : List X) → reverse (xs ++ replicate n x) ≡ replicate n x ++ reverse xs
reversed_copies n x xs = reverse-append xs (replicate n x) ∙ ap (λ l. l ++ reverse xs) (copies_back n x)

-- one element of a list and of its reverse, after one of them was set
set_at : {X : Type 0} (i k : ℕ) (x : X) (xs rs : List X) → length rs ≡ length xs → ((m : ℕ) → m < length xs → get_or rs m x ≡ get_or xs (length xs - 1 - m) x) → i < length xs → k < length xs → get_or (slice_set xs (length xs - 1 - i) x) (length xs - 1 - k) x ≡ get_or (slice_set rs i x) k x
set_at i k x xs rs e same h below = grind (arith, common_steps)

reversed_set : {X : Type 0} (i : ℕ) (x : X) (xs : List X) → i < length xs → reverse (slice_set xs (length xs - 1 - i) x) ≡ slice_set (reverse xs) i x
reversed_set i x xs h =
    let after = slice_set xs (length xs - 1 - i) x in
    let same : length after ≡ length xs = length-set xs (length xs - 1 - i) x in
    let long : length (reverse after) ≡ length xs = length-reverse after ∙ same in
    ext_get_or x (reverse after) (slice_set (reverse xs) i x) (long ∙ sym (length-set (reverse xs) i x ∙ length-reverse xs)) (λ k below.
    let within : k < length xs = omega arith in
    get_or-reverse after k x (omega arith) ∙ ap (λ n. get_or after (n - 1 - k) x) same ∙ set_at i k x xs (reverse xs) (length-reverse xs) (λ m b. get_or-reverse xs m x b) h within)

module _ {X : Type 0} (xs seen : List X) (n : ℕ) (counted : n ≡ length xs) (same : reverse xs ≡ seen) where
  -- as many from either end
  seen_length : length xs ≡ length seen
  seen_length = sym (length-reverse xs) ∙ ap length same

  -- the list without its last k, from its end
  pub seen_shed : (k : ℕ) → k ≤ length seen → reverse (take (n - k) xs) ≡ drop k seen
  seen_shed k h = ap (λ m. reverse (take (m - k) xs)) counted ∙ reversed_drop k xs (omega (arith, seen_length)) ∙ ap (drop k) same

  -- one element from its end set
  pub seen_set : (i : ℕ) (x : X) → i < length seen → reverse (slice_set xs (n - 1 - i) x) ≡ slice_set seen i x
  seen_set i x h = ap (λ m. reverse (slice_set xs (m - 1 - i) x)) counted ∙ reversed_set i x xs (omega (arith, seen_length)) ∙ ap (λ l. slice_set l i x) same

  -- k copies more at its end
  pub seen_copies : (k m : ℕ) (x : X) → n ≡ m → reverse (take (n + k) xs ++ replicate (n + k - m) x) ≡ replicate k x ++ seen
  seen_copies k m x e =
      let whole : take (n + k) xs ≡ xs = ap (λ l. take (l + k) xs) counted ∙ take_all (length xs + k) xs (omega arith) in
      let more : n + k - m ≡ k = omega arith in
      ap (λ l. reverse (l ++ replicate (n + k - m) x)) whole ∙ ap (λ l. reverse (xs ++ replicate l x)) more ∙ reversed_copies k x xs ∙ ap (λ l. replicate k x ++ l) same
