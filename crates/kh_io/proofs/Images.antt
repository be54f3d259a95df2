-- What a crash may leave of a file.
use Rattle.std.proofs.Common.{ℕ, suc, ◌≡◌, ◌+◌, ◌-◌, ◌<◌, ◌≤◌, ◌⊎◌, max, min, Bool, true, false, List, length, take, drop, get_or, sym, ap, ◌∙◌, inl, inr, arith, length-drop, refl, IsFalse, ◌||◌, ◌&&◌, nat_le}
use Rattle.std.specs.List.{list_any}
use Rattle.std.proofs.lemmas.Bool.{true≢false, leb-false, lt-leb, le-leb, cases_lt}
use Rattle.std.proofs.lemmas.List.{length-take, get_or-take, get_or-drop, ext_get_or}
use Rattle.kh_io.specs.Disk.{put, Torn, CutBack}
use Rattle.kh_io.specs.FileState.{FileState, synced, written, cut_to, is_within, is_unsafe, IsImage}
use Rattle.kh_io.specs.Laws.{Sane}
use Rattle.kh_io.proofs.Lists.{length-put, put_before, put_in, put_behind, take_from_gets, drop_from_gets, get_in_front, get_behind, front_lengths, Overlay, overlay}

or_parts : (a b : Bool) → (a || b) ≡ false → (a ≡ false) × (b ≡ false)
or_parts true b h = absurd (true≢false h)
or_parts false b h = (refl, h)

or_from : (a b : Bool) → a ≡ false → b ≡ false → (a || b) ≡ false
or_from a b x y = rw (x, y) refl

-- a byte is safe where it stands below the least length and in no range
pub safe_parts : (s : FileState) (i : ℕ) → IsFalse (is_unsafe s i) → (i < s.least) × (list_any (is_within i) s.loose ≡ false)
safe_parts s i h =
    let parts = or_parts (nat_le s.least i) (list_any (is_within i) s.loose) h in
    (leb-false s.least i parts.0, parts.1)

pub safe_from : (s : FileState) (i : ℕ) → i < s.least → list_any (is_within i) s.loose ≡ false → IsFalse (is_unsafe s i)
safe_from s i lt none = or_from (nat_le s.least i) (list_any (is_within i) s.loose) (lt-leb s.least i lt) none

and_false : (b : Bool) → (b && false) ≡ false
and_false true = refl
and_false false = refl

-- a byte outside a range
pub outside : (at n i : ℕ) → (i < at) ⊎ (at + n ≤ i) → is_within i (at, n) ≡ false
outside at n i (inl lt) = rw (lt-leb at i lt) refl
outside at n i (inr le) = rw (lt-leb (suc i) (at + n) (omega (arith, le))) (and_false (nat_le at i))

-- of a file that is synced a crash leaves what a read gives
pub image_of_synced : (now bytes : List ℕ) → IsImage (synced now) bytes → bytes ≡ now
image_of_synced now bytes image = ext_get_or 0 bytes now (omega (arith, image.no_shorter, image.no_longer))
    (λ i lt. image.others i (safe_from (synced now) i (omega (arith, lt, image.no_longer)) refl))

-- a write changes nothing outside its range
pub written_outside : (s : FileState) (at : ℕ) (bytes : List ℕ) (done : Bool) (i : ℕ) → at ≤ length s.now
    → (i < at) ⊎ (at + length bytes ≤ i) → get_or (written s at bytes done).now i 0 ≡ get_or s.now i 0
written_outside s at bytes false i within apart = refl
written_outside s at bytes true i within (inl lt) = put_before s.now at bytes i within lt
written_outside s at bytes true i within (inr le) = put_behind s.now at bytes i within le

-- a byte that isn't in a range stands before it or behind it
apart_from : (at n i : ℕ) → is_within i (at, n) ≡ false → (i < at) ⊎ (at + n ≤ i)
apart_from at n i h = elim (cases_lt i at) [
  | inl lt ↦ inl lt
  | inr le ↦ elim (cases_lt i (at + n)) [
    | inr past ↦ inr past
    | inl lt ↦ absurd (true≢false (sym (rw (le-leb at i le, le-leb (suc i) (at + n) (omega (arith, lt))) refl) ∙ h))
  ]
]

-- a byte that is safe outside a range that is written stays safe
safe_outside : (s : FileState) (at : ℕ) (bytes : List ℕ) (done : Bool) (i : ℕ)
    → (i < at) ⊎ (at + length bytes ≤ i) → IsFalse (is_unsafe s i) → IsFalse (is_unsafe (written s at bytes done) i)
safe_outside s at bytes done i apart safe =
    let parts = safe_parts s i safe in
    safe_from (written s at bytes done) i parts.0 (or_from (is_within i (at, length bytes)) (list_any (is_within i) s.loose) (outside at (length bytes) i apart) parts.1)

-- what a crash may leave after a write is what it might have left before, torn
pub torn_only : (s : FileState) (at : ℕ) (bytes : List ℕ) (done : Bool) → Sane s → at ≤ length s.now
    → (c : List ℕ) → IsImage (written s at bytes done) c → (d : List ℕ) × IsImage s d × Torn at (length bytes) d c
torn_only s at bytes done sane within c image =
    let to : ℕ = min s.least (at + length bytes) in
    let o : (out : List ℕ) × Overlay at to c s.now out = overlay at to c s.now (omega (arith, image.no_shorter)) (omega (arith, sane.least)) in
    let d : List ℕ = take s.most o.0 in
    let len : length d ≡ min s.most (length c) = length-take s.most o.0 ∙ ap (min s.most) o.1.len in
    let at_most : at ≤ s.most = omega (arith, within, sane.most) in
    let get : (i : ℕ) → i < s.most → get_or d i 0 ≡ get_or o.0 i 0 = λ i lt. get_or-take s.most o.0 i 0 lt in
    let least_most : s.least ≤ s.most = omega (arith, sane.least, sane.most) in
    let longest : length c ≤ max s.most (at + length bytes) = image.no_longer in (
      d,
      record {
        no_shorter = rw len (omega (arith, least_most, image.no_shorter));
        no_longer = rw len (omega arith);
        others = λ i safe.
            let below : i < s.least = (safe_parts s i safe).0 in
            get i (omega (arith, below, least_most)) ∙ elim (cases_lt i at) [
              | inl lt ↦ o.1.before i lt ∙ image.others i (safe_outside s at bytes done i (inl lt) safe) ∙ written_outside s at bytes done i within (inl lt)
              | inr le ↦ elim (cases_lt i to) [
                | inl lt ↦ o.1.inside i le lt
                | inr past ↦ let behind : at + length bytes ≤ i = omega (arith, past, below) in
                    o.1.behind i le past ∙ image.others i (safe_outside s at bytes done i (inr behind) safe) ∙ written_outside s at bytes done i within (inr behind)
              ]
            ];
      },
      record {
        before = take_from_gets at c d (rw len (omega (arith, at_most)))
            (λ i lt there. sym (get i (omega (arith, lt, at_most)) ∙ o.1.before i lt));
        behind = drop_from_gets (at + length bytes) c d (rw len (omega (arith, longest)))
            (λ i le there. sym (get i (omega (arith, le, there, longest)) ∙ o.1.behind i (omega (arith, le)) (omega (arith, le))));
        no_shorter = rw len (omega arith);
        no_longer = rw len (omega (arith, longest));
      },
    )

-- and each of these, torn, is what a crash may leave after it
pub torn_all : (s : FileState) (at : ℕ) (bytes : List ℕ) (done : Bool) → at ≤ length s.now
    → (d c : List ℕ) → IsImage s d → Torn at (length bytes) d c → IsImage (written s at bytes done) c
torn_all s at bytes done within d c image torn = record {
  no_shorter = omega (arith, image.no_shorter, torn.no_shorter);
  no_longer = let one : length c ≤ max (length d) (at + length bytes) = torn.no_longer in omega (arith, one, image.no_longer);
  others = λ i safe.
      let parts = safe_parts (written s at bytes done) i safe in
      let both = or_parts (is_within i (at, length bytes)) (list_any (is_within i) s.loose) parts.1 in
      let was = image.others i (safe_from s i parts.0 both.1) in
      elim (apart_from at (length bytes) i both.0) [
        | inl lt ↦ get_in_front at c d i torn.before lt ∙ was ∙ sym (written_outside s at bytes done i within (inl lt))
        | inr le ↦ get_behind (at + length bytes) c d i torn.behind le ∙ was ∙ sym (written_outside s at bytes done i within (inr le))
      ];
}

-- a cut changes nothing below its length
cut_below : (s : FileState) (len : ℕ) (done : Bool) (i : ℕ) → i < len → get_or (cut_to s len done).now i 0 ≡ get_or s.now i 0
cut_below s len false i lt = refl
cut_below s len true i lt = get_or-take len s.now i 0 lt

safe_below : (s : FileState) (len : ℕ) (done : Bool) (i : ℕ) → i < len → IsFalse (is_unsafe s i) → IsFalse (is_unsafe (cut_to s len done) i)
safe_below s len done i lt safe =
    let parts = safe_parts s i safe in
    safe_from (cut_to s len done) i (let below : i < s.least = parts.0 in omega (arith, below, lt)) parts.1

-- what a crash may leave after a cut
pub cut_only : (s : FileState) (len : ℕ) (done : Bool) → Sane s → (c : List ℕ) → IsImage (cut_to s len done) c → (d : List ℕ) × IsImage s d × CutBack len d c
cut_only s len done sane c image = elim (cases_lt len s.least) [
  | inr none ↦ (
    c,
    record {
      no_shorter = omega (arith, image.no_shorter, none);
      no_longer = image.no_longer;
      others = λ i safe. let below : i < s.least = (safe_parts s i safe).0 in let lt : i < len = omega (arith, none, below) in
          image.others i (safe_below s len done i lt safe) ∙ cut_below s len done i lt;
    },
    record { front = refl; no_longer = omega arith },
  )
  | inl some ↦
      let mid : List ℕ = drop len (take s.least s.now) in
      let size : length mid ≡ s.least - len = rw (length-drop, length-take) (omega (arith, sane.least)) in
      let within : len ≤ length c = omega (arith, image.no_shorter, some) in
      let d : List ℕ = put c len mid in
      let d_len : length d ≡ max (length c) s.least = length-put c len mid within ∙ omega (arith, size, some) in (
        d,
        record {
          no_shorter = rw d_len (omega arith);
          no_longer = rw d_len (omega (arith, image.no_longer, sane.least, sane.most));
          others = λ i safe. let below : i < s.least = (safe_parts s i safe).0 in elim (cases_lt i len) [
            | inl lt ↦ put_before c len mid i within lt ∙ image.others i (safe_below s len done i lt safe) ∙ cut_below s len done i lt
            | inr le ↦ put_in c len mid i within le (omega (arith, size, below)) ∙ get_or-drop len (take s.least s.now) (i - len) 0
                ∙ get_or-take s.least s.now (len + (i - len)) 0 (omega (arith, below, le)) ∙ ap (λ k. get_or s.now k 0) (omega (arith, le))
          ];
        },
        record {
          front = take_from_gets len c d (rw d_len (omega (arith, within))) (λ i lt there. sym (put_before c len mid i within lt));
          no_longer = rw d_len (omega arith);
        },
      )
]

pub cut_all : (s : FileState) (len : ℕ) (done : Bool) (d c : List ℕ) → IsImage s d → CutBack len d c → IsImage (cut_to s len done) c
cut_all s len done d c image back = record {
  no_shorter = let fronts : min len (length c) ≡ min len (length d) = front_lengths len c d back.front in omega (arith, fronts, image.no_shorter);
  no_longer = omega (arith, back.no_longer, image.no_longer);
  others = λ i safe.
      let parts = safe_parts (cut_to s len done) i safe in
      let below : i < min s.least len = parts.0 in
      let lt : i < len = omega (arith, below) in
      get_in_front len c d i back.front lt ∙ image.others i (safe_from s i (omega (arith, below)) parts.1) ∙ sym (cut_below s len done i lt);
}
