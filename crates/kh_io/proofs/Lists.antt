-- Fronts and rests of lists.
use Rattle.std.proofs.Common.{ℕ, ◌≡◌, ◌+◌, ◌-◌, ◌<◌, ◌≤◌, max, min, inl, inr, List, length, take, drop, get_or, sym, ap, ◌∙◌, arith, length-append, length-drop, refl}
use Rattle.std.proofs.lemmas.List.{length-take, get_or-take, get_or-drop, ext_get_or}
use Rattle.std.proofs.lemmas.Grind.{elements}
use Rattle.std.proofs.lemmas.Bool.{cases_lt}
use Rattle.kh_io.specs.Disk.{put}

-- the length of bytes put into others
pub length-put : (old : List ℕ) (at : ℕ) (bytes : List ℕ) → at ≤ length old → length (put old at bytes) ≡ max (length old) (at + length bytes)
length-put old at bytes h = grind (arith, length-append, length-take, length-drop)

-- the byte before, in and behind the range
pub put_before : (old : List ℕ) (at : ℕ) (bytes : List ℕ) (i : ℕ) → at ≤ length old → i < at → get_or (put old at bytes) i 0 ≡ get_or old i 0
put_before old at bytes i h lt = grind (arith, elements)

pub put_in : (old : List ℕ) (at : ℕ) (bytes : List ℕ) (i : ℕ) → at ≤ length old → at ≤ i → i < at + length bytes → get_or (put old at bytes) i 0 ≡ get_or bytes (i - at) 0
put_in old at bytes i h le lt = grind (arith, elements)

pub put_behind : (old : List ℕ) (at : ℕ) (bytes : List ℕ) (i : ℕ) → at ≤ length old → at + length bytes ≤ i → get_or (put old at bytes) i 0 ≡ get_or old i 0
put_behind old at bytes i h le = grind (arith, elements)

-- fronts that agree byte by byte are equal, and so are rests
pub take_from_gets : (n : ℕ) (xs ys : List ℕ) → min n (length xs) ≡ min n (length ys)
    → ((i : ℕ) → i < n → i < length xs → get_or xs i 0 ≡ get_or ys i 0) → take n xs ≡ take n ys
take_from_gets n xs ys len gets = ext_get_or 0 (take n xs) (take n ys) (rw (length-take, length-take) len)
    (λ i lt. let both : i < min n (length xs) = rw length-take at lt in
    rw (get_or-take n xs i 0 (omega (arith, both)), get_or-take n ys i 0 (omega (arith, both))) (gets i (omega (arith, both)) (omega (arith, both))))

pub drop_from_gets : (n : ℕ) (xs ys : List ℕ) → length xs - n ≡ length ys - n
    → ((i : ℕ) → n ≤ i → i < length xs → get_or xs i 0 ≡ get_or ys i 0) → drop n xs ≡ drop n ys
drop_from_gets n xs ys len gets = ext_get_or 0 (drop n xs) (drop n ys) (rw (length-drop, length-drop) len)
    (λ i lt. let there : i < length xs - n = rw length-drop at lt in
    rw (get_or-drop, get_or-drop) (gets (n + i) (omega arith) (omega (arith, there))))

-- bytes of fronts and of rests that are equal
pub get_in_front : (n : ℕ) (xs ys : List ℕ) (i : ℕ) → take n xs ≡ take n ys → i < n → get_or xs i 0 ≡ get_or ys i 0
get_in_front n xs ys i same lt = sym (get_or-take n xs i 0 lt) ∙ ap (λ zs. get_or zs i 0) same ∙ get_or-take n ys i 0 lt

pub get_behind : (n : ℕ) (xs ys : List ℕ) (i : ℕ) → drop n xs ≡ drop n ys → n ≤ i → get_or xs i 0 ≡ get_or ys i 0
get_behind n xs ys i same le =
    let place : n + (i - n) ≡ i = omega arith in
    ap (λ k. get_or xs k 0) (sym place) ∙ sym (get_or-drop n xs (i - n) 0) ∙ ap (λ zs. get_or zs (i - n) 0) same ∙ get_or-drop n ys (i - n) 0 ∙ ap (λ k. get_or ys k 0) place

-- equal fronts, by their lengths
pub front_lengths : (n : ℕ) (xs ys : List ℕ) → take n xs ≡ take n ys → min n (length xs) ≡ min n (length ys)
front_lengths n xs ys same = sym (length-take n xs) ∙ ap length same ∙ length-take n ys

-- a list with the bytes of another one in the place of its own from a place up to another
pub record Overlay (at to : ℕ) (bytes other out : List ℕ) : Type 0 where
  pub len : length out ≡ length bytes
  pub before : (i : ℕ) → i < at → get_or out i 0 ≡ get_or bytes i 0
  pub inside : (i : ℕ) → at ≤ i → i < to → get_or out i 0 ≡ get_or other i 0
  pub behind : (i : ℕ) → at ≤ i → to ≤ i → get_or out i 0 ≡ get_or bytes i 0

pub overlay : (at to : ℕ) (bytes other : List ℕ) → to ≤ length bytes → to ≤ length other → (out : List ℕ) × Overlay at to bytes other out
overlay at to bytes other le_bytes le_other = elim (cases_lt at to) [
  | inr none ↦ (bytes, record { len = refl; before = λ i lt. refl; inside = λ i le lt. absurd (omega (arith, none, le, lt)); behind = λ i le le2. refl })
  | inl some ↦
      let mid : List ℕ = drop at (take to other) in
      let len : length mid ≡ to - at = rw (length-drop, length-take) (omega arith) in
      let within : at ≤ length bytes = omega arith in (
        put bytes at mid,
        record {
          len = length-put bytes at mid within ∙ omega (arith, len);
          before = λ i lt. put_before bytes at mid i within lt;
          inside = λ i le lt. put_in bytes at mid i within le (omega (arith, len)) ∙ get_or-drop at (take to other) (i - at) 0
              ∙ get_or-take to other (at + (i - at)) 0 (omega arith) ∙ ap (λ k. get_or other k 0) (omega arith);
          behind = λ i le le2. put_behind bytes at mid i within (omega (arith, len));
        },
      )
]
