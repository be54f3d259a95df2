-- What logs hold, from their parts.
use Rattle.std.proofs.Common.{◌≡◌, ◌≢◌, inl, inr, ℕ, zero, suc, ◌+◌, ◌-◌, ◌<◌, ◌≤◌, ◌^◌, List, [], ◌∷◌, ◌++◌, length, take, drop, Some, None, refl, sym, ap, subst, ◌∙◌, arith, append_assoc, length-append, length-drop, length-take}
use Rattle.std.proofs.lemmas.List.{append-nil, take_at, drop_at, drop-drop, take-append-drop}
use Rattle.std.proofs.lemmas.Bool.{cases_eq, cases_lt}
use Rattle.std.proofs.lemmas.Bool.Decides.{nat_tests}
use Rattle.byteorder.specs.Endian.{big_bytes}
use Rattle.byteorder.specs.Numbers.{big_from-append, big_number-reads_back}
use Rattle.kh_log.specs.Records.{open_gate, length_of, Content, no_content, with_record, content_from, content_of, records_of, span}

-- the length stands in the first four bytes
pub length_of-append : (h rest : List ℕ) → length h ≡ 4 → length_of (h ++ rest) ≡ length_of h
unfolding length_of
length_of-append h rest four = big_from-append 4 h rest (omega (arith, four))

pub length_of-big_bytes : (n : ℕ) → n < 2 ^ 32 → length_of (big_bytes 4 n) ≡ n
unfolding length_of
length_of-big_bytes n lt = ap length_of (sym (append-nil (big_bytes 4 n))) ∙ big_number-reads_back 4 n [] (omega (arith, lt))

-- these bytes in front of a gate are the open records, each behind its gate
unfoldable pub Front : List (List ℕ) → List ℕ → Type 0
Front [] bytes = bytes ≡ []
Front (r ∷ rs) bytes = (h more : List ℕ) × (bytes ≡ open_gate ∷ (h ++ (r ++ more))) × (length h ≡ 4) × (length_of h ≡ length r) × Front rs more

closed_step : (n at gate : ℕ) (rest : List ℕ) → gate ≢ open_gate → content_from (suc n) at (gate ∷ rest) ≡ no_content
closed_step n at gate rest shut = grind (arith, nat_tests)

pub lacking_step : (n at : ℕ) (rest : List ℕ) → length rest < 5 + length_of rest
    → content_from (suc n) at (open_gate ∷ rest) ≡ record { records = []; lacking = Some (at + 1) }
lacking_step n at rest short = grind (arith, nat_tests)

whole_step : (n at : ℕ) (rest : List ℕ) → 5 + length_of rest ≤ length rest
    → content_from (suc n) at (open_gate ∷ rest) ≡ with_record (take (length_of rest) (drop 4 rest)) (content_from n (at + 5 + length_of rest) (drop (4 + length_of rest) rest))
whole_step n at rest whole = grind (arith, nat_tests)

abbrev pub with_records : List (List ℕ) → Content → Content
with_records [] c = c
with_records (r ∷ rs) c = with_record r (with_records rs c)

pub with_records-is : (rs : List (List ℕ)) (c : Content) → with_records rs c ≡ record { records = rs ++ c.records; lacking = c.lacking }
with_records-is [] c = refl
with_records-is (r ∷ rs) c = ap (with_record r) (with_records-is rs c)

pub span-append : (rs qs : List (List ℕ)) → span (rs ++ qs) ≡ span rs + span qs
span-append [] qs = omega arith
span-append (r ∷ rs) qs = omega (arith, span-append rs qs)

pub length-front : (rs : List (List ℕ)) (front : List ℕ) → Front rs front → length front ≡ span rs
unfolding Front
length-front [] front is = ap length is
length-front (r ∷ rs) front (h, more, is, four, len, rest) =
    ap length is ∙ omega (arith, length-front rs more rest, four, length-append h (r ++ more), length-append r more)

pub front-append : (rs qs : List (List ℕ)) (front group : List ℕ) → Front rs front → Front qs group → Front (rs ++ qs) (front ++ group)
unfolding Front
front-append [] qs front group is also = rw is also
front-append (r ∷ rs) qs front group (h, more, is, four, len, rest) also = (
  h,
  more ++ group,
  ap (λ (l : List ℕ). l ++ group) is ∙ ap (λ (l : List ℕ). open_gate ∷ l) (append_assoc h (r ++ more) group ∙ ap (λ (l : List ℕ). h ++ l) (append_assoc r more group)),
  four,
  len,
  front-append rs qs more group rest also,
)

-- one open record, and then what stands behind it
open_step : (n at : ℕ) (h r rest : List ℕ) → length h ≡ 4 → length_of h ≡ length r → 1 ≤ length rest
    → content_from (suc n) at (open_gate ∷ (h ++ (r ++ rest))) ≡ with_record r (content_from n (at + 5 + length r) rest)
open_step n at h r rest four len some =
    let is : length_of (h ++ (r ++ rest)) ≡ length r = length_of-append h (r ++ rest) four ∙ len in
    let enough : 5 + length_of (h ++ (r ++ rest)) ≤ length (h ++ (r ++ rest)) =
    omega (arith, is, four, length-append h (r ++ rest), length-append r rest, some) in
    let body : drop 4 (h ++ (r ++ rest)) ≡ r ++ rest = drop_at h (r ++ rest) 4 four in
    let bytes : take (length r) (drop 4 (h ++ (r ++ rest))) ≡ r = ap (take (length r)) body ∙ take_at r rest (length r) refl in
    let behind : drop (4 + length r) (h ++ (r ++ rest)) ≡ rest =
    sym (drop-drop (length r) 4 (h ++ (r ++ rest))) ∙ ap (drop (length r)) body ∙ drop_at r rest (length r) refl in
    whole_step n at (h ++ (r ++ rest)) enough
    ∙ ap (λ k. with_record (take k (drop 4 (h ++ (r ++ rest)))) (content_from n (at + 5 + k) (drop (4 + k) (h ++ (r ++ rest))))) is
    ∙ ap (λ l. with_record l (content_from n (at + 5 + length r) (drop (4 + length r) (h ++ (r ++ rest))))) bytes
    ∙ ap (λ l. with_record r (content_from n (at + 5 + length r) l)) behind

-- the records in front, and then what stands behind them
pub content_from-front : (rs : List (List ℕ)) (front rest : List ℕ) (n at : ℕ) → Front rs front → 1 ≤ length rest → length (front ++ rest) ≤ n
    → (m : ℕ) × (length rest ≤ m) × (content_from n at (front ++ rest) ≡ with_records rs (content_from m (at + span rs) rest))
unfolding Front
content_from-front [] front rest n at is some enough =
    let same : front ++ rest ≡ rest = ap (λ (l : List ℕ). l ++ rest) is in
    (n, subst (λ (l : List ℕ). length l ≤ n) same enough, ap (content_from n at) same ∙ ap (λ k. content_from n k rest) (omega arith))
content_from-front (r ∷ rs) front rest zero at (h, more, is, four, len, behind) some enough =
    absurd (omega (arith, enough, some, length-append front rest))
content_from-front (r ∷ rs) front rest (suc n) at (h, more, is, four, len, behind) some enough =
    let same : front ++ rest ≡ open_gate ∷ (h ++ (r ++ (more ++ rest))) =
    ap (λ (l : List ℕ). l ++ rest) is ∙ ap (λ (l : List ℕ). open_gate ∷ l) (append_assoc h (r ++ more) rest ∙ ap (λ (l : List ℕ). h ++ l) (append_assoc r more rest)) in
    let long : length (more ++ rest) ≤ n =
    omega (arith, enough, ap length same, length-append h (r ++ (more ++ rest)), length-append r (more ++ rest)) in
    let later = content_from-front rs more rest n (at + 5 + length r) behind some long in (
      later.0,
      later.1,
      ap (content_from (suc n) at) same
          ∙ open_step n at h r (more ++ rest) four len (omega (arith, some, length-append more rest))
          ∙ ap (with_record r) (later.2 ∙ ap (λ k. with_records rs (content_from later.0 k rest)) (omega arith)),
    )

-- a list of bytes that has one is a first and a rest
pub first_of_some : (bytes : List ℕ) → 1 ≤ length bytes → (gate : ℕ) × (rest : List ℕ) × (bytes ≡ gate ∷ rest)
first_of_some [] some = absurd (omega (arith, some))
first_of_some (gate ∷ rest) some = (gate, rest, refl)

-- behind the records that a content names, a gate
pub record Behind (bytes : List ℕ) (rs : List (List ℕ)) : Type 0 where
  pub front : List ℕ
  pub rest : List ℕ
  pub split : bytes ≡ front ++ rest
  pub records : Front rs front
  pub some : 1 ≤ length rest

pub nothing_behind : (bytes : List ℕ) → 1 ≤ length bytes → Behind bytes []
unfolding Front
nothing_behind bytes some = record { front = []; rest = bytes; split = refl; records = refl; some = some }

pub more_behind : (body : List ℕ) (rs : List (List ℕ)) → 5 + length_of body ≤ length body → Behind (drop (4 + length_of body) body) rs
    → Behind (open_gate ∷ body) (take (length_of body) (drop 4 body) ∷ rs)
unfolding Front
more_behind body rs enough b =
    let h = take 4 body in
    let r = take (length_of body) (drop 4 body) in
    let four : length h ≡ 4 = omega (arith, length-take 4 body, enough) in
    let parts : body ≡ h ++ (r ++ drop (4 + length_of body) body) =
    sym (take-append-drop 4 body) ∙ ap (λ (l : List ℕ). h ++ l) (sym (take-append-drop (length_of body) (drop 4 body))
    ∙ ap (λ (l : List ℕ). r ++ l) (drop-drop (length_of body) 4 body)) in
    let len : length_of h ≡ length r =
    sym (length_of-append h (drop 4 body) four) ∙ ap length_of (take-append-drop 4 body)
    ∙ sym (length-take (length_of body) (drop 4 body) ∙ omega (arith, length-drop 4 body, enough)) in
    record {
      front = open_gate ∷ (h ++ (r ++ b.front));
      rest = b.rest;
      split = ap (λ (l : List ℕ). open_gate ∷ l) (parts ∙ ap (λ (l : List ℕ). h ++ (r ++ l)) b.split
          ∙ ap (λ (l : List ℕ). h ++ l) (sym (append_assoc r b.front b.rest)) ∙ sym (append_assoc h (r ++ b.front) b.rest));
      records = (h, b.front, refl, four, len, b.records);
      some = b.some;
    }

pub behind_content : (n at : ℕ) (bytes : List ℕ) → 1 ≤ length bytes → Behind bytes (content_from n at bytes).records
behind_content zero at bytes some = nothing_behind bytes some
behind_content (suc n) at [] some = absurd (omega (arith, some))
behind_content (suc n) at (gate ∷ rest) some = elim (cases_eq gate open_gate) [
  | inr shut ↦ subst (λ (c : Content). Behind (gate ∷ rest) c.records) (sym (closed_step n at gate rest shut)) (nothing_behind (gate ∷ rest) some)
  | inl is ↦ elim (cases_lt (length rest) (5 + length_of rest)) [
    | inl short ↦ subst (λ (c : Content). Behind (gate ∷ rest) c.records)
        (sym (ap (λ g. content_from (suc n) at (g ∷ rest)) is ∙ lacking_step n at rest short)) (nothing_behind (gate ∷ rest) some)
    | inr enough ↦ subst (λ (c : Content). Behind (gate ∷ rest) c.records)
        (sym (ap (λ g. content_from (suc n) at (g ∷ rest)) is ∙ whole_step n at rest enough))
        (subst (λ (g : ℕ). Behind (g ∷ rest) (take (length_of rest) (drop 4 rest) ∷ (content_from n (at + 5 + length_of rest) (drop (4 + length_of rest) rest)).records)) (sym is) (more_behind rest _ enough
        (behind_content n (at + 5 + length_of rest) (drop (4 + length_of rest) rest) (omega (arith, enough, length-drop (4 + length_of rest) rest)))))
  ]
]

pub content_of-short : (bytes : List ℕ) → length bytes < 2 → content_of bytes ≡ no_content
unfolding content_of
content_of-short bytes short = grind (arith, nat_tests)

content_of-long : (bytes : List ℕ) → 2 ≤ length bytes → content_of bytes ≡ content_from (length bytes) 0 bytes
unfolding content_of
content_of-long bytes long = grind (arith, nat_tests)

-- a file with a byte is its open records and what stands behind them
pub behind_records : (bytes : List ℕ) → 1 ≤ length bytes → Behind bytes (records_of bytes)
behind_records bytes some = elim (cases_lt (length bytes) 2) [
  | inl short ↦ subst (λ (c : Content). Behind bytes c.records) (sym (content_of-short bytes short)) (nothing_behind bytes some)
  | inr long ↦ subst (λ (c : Content). Behind bytes c.records) (sym (content_of-long bytes long)) (behind_content (length bytes) 0 bytes some)
]

no_records : (rs : List (List ℕ)) → span rs < 5 → rs ≡ []
no_records [] lt = refl
no_records (r ∷ rs) lt = absurd (omega (arith, lt))

-- of the content behind records that are followed by a gate
pub content_of-front : (rs : List (List ℕ)) (front rest : List ℕ) → Front rs front → 1 ≤ length rest → 2 ≤ length (front ++ rest)
    → (m : ℕ) × (content_of (front ++ rest) ≡ with_records rs (content_from (suc m) (span rs) rest))
content_of-front rs front rest is some long =
    let from = content_from-front rs front rest (length (front ++ rest)) 0 is some (omega arith) in
    let one : from.0 ≡ suc (from.0 - 1) = omega (arith, from.1, some) in (
      from.0 - 1,
      content_of-long (front ++ rest) long ∙ from.2
          ∙ ap (λ k. with_records rs (content_from k (0 + span rs) rest)) one
          ∙ ap (λ k. with_records rs (content_from (suc (from.0 - 1)) k rest)) (omega arith),
    )

pub content_closed : (rs : List (List ℕ)) (front : List ℕ) (gate : ℕ) (tail : List ℕ) → Front rs front → gate ≢ open_gate
    → content_of (front ++ (gate ∷ tail)) ≡ record { records = rs; lacking = None }
content_closed rs front gate tail is shut = elim (cases_lt (length (front ++ (gate ∷ tail))) 2) [
  | inl short ↦ content_of-short (front ++ (gate ∷ tail)) short
      ∙ ap (λ (l : List (List ℕ)). record { records = l; lacking = None })
      (sym (no_records rs (omega (arith, short, length-append front (gate ∷ tail), length-front rs front is))))
  | inr long ↦ (let from = content_of-front rs front (gate ∷ tail) is (omega arith) long in
      from.1 ∙ ap (with_records rs) (closed_step from.0 (span rs) gate tail shut) ∙ with_records-is rs no_content
      ∙ ap (λ (l : List (List ℕ)). record { records = l; lacking = None }) (append-nil rs))
]
