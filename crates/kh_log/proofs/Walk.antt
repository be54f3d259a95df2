-- A walk from gate to gate, and what a file holds once it ends.
use Rattle.std.proofs.Common.{◌≡◌, ℕ, zero, suc, ◌+◌, ◌<◌, ◌≤◌, List, [], ◌∷◌, ◌++◌, length, take, drop, Option, Some, None, refl, sym, ap, subst, inl, inr, ◌∙◌, arith, append_assoc, length-append, length-drop, length-take}
use Rattle.std.specs.Prelude.{IfSome, slice_get, option_map}
use Rattle.std.proofs.lemmas.List.{drop_at, take_at, drop-drop}
use Rattle.std.proofs.lemmas.Bool.{cases_lt}
use Rattle.kh_io.specs.Told.{Told, Kept}
use Rattle.kh_io.proofs.{told_both, told_map}
use Rattle.kh_log.specs.Records.{open_gate, length_of, Content, content_of, content_from, records_of, lacking_in, span, IsClosedAt, IsOpenAt, LacksAt, record_at}
use Rattle.kh_log.specs.Log.{Place, Holds, HasNext, passed, EndsAt}
use Rattle.kh_log.proofs.Records.{behind_records, length_of-append, Front, with_records, with_records-is, content_of-front, content_of-short, nothing_behind, more_behind, lacking_step, front-append, length-front}
use Rattle.kh_log.proofs.Append.{ends_at}
use Rattle.kh_log.proofs.Headers.{behind_is, bytes_there}
use Rattle.std.proofs.lemmas.Option.{same_Some}

-- at this place, behind this many whole records, there is a gate
pub record Stands (at count : ℕ) (bytes : List ℕ) : Type 0 where
  pub rs : List (List ℕ)
  pub front : List ℕ
  pub rest : List ℕ
  pub split : bytes ≡ front ++ rest
  pub records : Front rs front
  pub place : length front ≡ at
  pub counted : count ≡ length rs
  pub some : 1 ≤ length rest

pub stands_start : (bytes : List ℕ) → 2 ≤ length bytes → Stands 0 0 bytes
stands_start bytes long =
    let b = nothing_behind bytes (omega (arith, long)) in
    record { rs = []; front = b.front; rest = b.rest; split = b.split; records = b.records; place = length-front [] b.front b.records; counted = refl; some = b.some }

rest_is : (at count : ℕ) (bytes : List ℕ) (s : Stands at count bytes) → drop at bytes ≡ s.rest
rest_is at count bytes s = ap (drop at) s.split ∙ drop_at s.front s.rest at s.place

pub stands_next : (at count after : ℕ) (bytes : List ℕ) → Stands at count bytes → IsOpenAt at after bytes → Stands after (count + 1) bytes
stands_next at count after bytes s o =
    let b = more_behind o.behind [] o.enough (nothing_behind (drop (4 + length_of o.behind) o.behind) (omega (arith, o.enough, length-drop (4 + length_of o.behind) o.behind))) in
    let r = take (length_of o.behind) (drop 4 o.behind) in
    let len : length r ≡ length_of o.behind = omega (arith, length-take (length_of o.behind) (drop 4 o.behind), length-drop 4 o.behind, o.enough) in
    record {
      rs = s.rs ++ r ∷ [];
      front = s.front ++ b.front;
      rest = b.rest;
      split = s.split ∙ ap (λ (l : List ℕ). s.front ++ l) (sym (rest_is at count bytes s) ∙ o.there ∙ b.split) ∙ sym (append_assoc s.front b.front b.rest);
      records = front-append s.rs (r ∷ []) s.front b.front s.records b.records;
      place = omega (arith, s.place, length-append s.front b.front, length-front (r ∷ []) b.front b.records, len, o.next);
      counted = omega (arith, s.counted, length-append s.rs (r ∷ []));
      some = b.some;
    }

pub stands_closed : (at count : ℕ) (bytes : List ℕ) → Stands at count bytes → IsClosedAt at bytes → EndsAt at (records_of bytes) bytes × (count ≡ length (records_of bytes))
stands_closed at count bytes s closed =
    let e = ends_at at s.rs bytes (record {
      front = s.front;
      gate = closed.gate;
      tail = closed.behind;
      is = s.split ∙ ap (λ (l : List ℕ). s.front ++ l) (sym (rest_is at count bytes s) ∙ closed.there);
      records = s.records;
      place = s.place;
      closed = closed.closed;
    }) in
    let are : s.rs ≡ records_of bytes = sym (ap (λ (c : Content). c.records) e.content) in
    (subst (λ (l : List (List ℕ)). EndsAt at l bytes) are e, s.counted ∙ ap length are)

pub stands_lacks : (at count : ℕ) (bytes : List ℕ) → Stands at count bytes → 2 ≤ length bytes → LacksAt at bytes → (lacking_in bytes ≡ Some (at + 1)) × (count ≡ length (records_of bytes))
stands_lacks at count bytes s long lacks =
    let from = content_of-front s.rs s.front s.rest s.records s.some (subst (λ (l : List ℕ). 2 ≤ length l) s.split long) in
    let none : Content = record { records = []; lacking = Some (span s.rs + 1) } in
    let content : content_of bytes ≡ record { records = s.rs ++ []; lacking = Some (span s.rs + 1) } = ap content_of s.split ∙ from.1
    ∙ ap (λ (l : List ℕ). with_records s.rs (content_from (suc from.0) (span s.rs) l)) (sym (rest_is at count bytes s) ∙ lacks.there)
    ∙ ap (with_records s.rs) (lacking_step from.0 (span s.rs) lacks.behind lacks.short) ∙ with_records-is s.rs none in (
      ap (λ (c : Content). c.lacking) content ∙ ap (λ k. Some (k + 1)) (sym (length-front s.rs s.front s.records) ∙ s.place),
      omega (arith, s.counted, ap (λ (c : Content). length c.records) content, length-append s.rs []),
    )

-- a file that is told is at its first gate
pub told_start : (o : Option (List ℕ)) (len : ℕ) → 2 ≤ len → IfSome o (λ bytes. length bytes ≡ len) → Told o o (λ was now. (now ≡ was) × Stands 0 0 was)
told_start (Some a) len long is = (refl, stands_start a (omega (arith, long, is)))
told_start None len long is = tt

pub still_long : (old new : Option (List ℕ)) (len : ℕ) → Kept old new → IfSome old (λ bytes. length bytes ≡ len) → IfSome new (λ bytes. length bytes ≡ len)
still_long (Some a) (Some b) len same holds = ap length same ∙ holds
still_long None (Some b) len same holds = absurd same
still_long old None len same holds = tt

-- one step of a walk
pub walked : (a b c : Option (List ℕ)) (at count after : ℕ) → Told a b (λ was now. (now ≡ was) × Stands at count was) → Kept b c
    → Told b c (λ was _. IsOpenAt at after was) → Told a c (λ was now. (now ≡ was) × Stands after (count + 1) was)
walked (Some x) (Some y) (Some z) at count after p same o = (same ∙ p.0, stands_next at count after x p.1 (subst (IsOpenAt at after) p.0 o))
walked None (Some y) (Some z) at count after p same o = absurd p
walked a None (Some z) at count after p same o = absurd o
walked (Some x) b None at count after p same o = tt
walked None b None at count after p same o = tt

-- the end of a walk, at a closed gate
pub told_closed : (a b c : Option (List ℕ)) (at count : ℕ) → Told a b (λ was now. (now ≡ was) × Stands at count was) → Told b c (λ was _. IsClosedAt at was)
    → Told a c (λ was _. EndsAt at (records_of was) was × (count ≡ length (records_of was)))
told_closed a b c at count first second = told_both a b c first second (λ x y z p q.
    stands_closed at count x p.1 (subst (IsClosedAt at) p.0 q))

-- and at a record that lacks bytes
pub told_lacks : (a b c : Option (List ℕ)) (at count len : ℕ) → 2 ≤ len → IfSome b (λ bytes. length bytes ≡ len) → Told a b (λ was now. (now ≡ was) × Stands at count was) → Told b c (λ was _. LacksAt at was)
    → Told a c (λ was _. lacking_in was ≡ Some (at + 1))
told_lacks (Some x) (Some y) (Some z) at count len long is p q =
    (stands_lacks at count x p.1 (omega (arith, long, is, ap length p.0)) (subst (LacksAt at) p.0 q)).0
told_lacks None (Some y) (Some z) at count len long is p q = absurd p
told_lacks a None (Some z) at count len long is p q = absurd q
told_lacks (Some x) b None at count len long is p q = tt
told_lacks None b None at count len long is p q = tt

-- a file of fewer than 2 bytes has no record
pub told_short : (a b : Option (List ℕ)) (len : ℕ) → len < 2 → Told a b (λ bytes _. len ≡ length bytes)
    → Told a b (λ was _. (lacking_in was ≡ None) × (0 ≡ span (records_of was)) × (0 ≡ length (records_of was)))
told_short a b len short told = told_map a b told (λ x y is.
    let none = content_of-short x (omega (arith, is, short)) in
    (ap (λ (c : Content). c.lacking) none, sym (ap (λ (c : Content). span c.records) none), sym (ap (λ (c : Content). length c.records) none)))

-- The record of this number of a log, behind its gate.
pub record Nth (rs : List (List ℕ)) (k at : ℕ) (bytes : List ℕ) : Type 0 where
  pub bytes_of : List ℕ
  pub opened : IsOpenAt at (at + 5 + length bytes_of) bytes
  pub is : record_at at bytes ≡ bytes_of
  pub got : slice_get rs k ≡ Some bytes_of
  pub more : span (take (k + 1) rs) ≡ span (take k rs) + 5 + length bytes_of
  pub least : span (take (k + 1) rs) ≤ span rs

first_record : (h r rest : List ℕ) (rs : List (List ℕ)) → length h ≡ 4 → length_of h ≡ length r → 1 ≤ length rest → Nth (r ∷ rs) 0 0 (open_gate ∷ (h ++ (r ++ rest)))
first_record h r rest rs four len some =
    let behind = h ++ (r ++ rest) in
    let is : length_of behind ≡ length r = length_of-append h (r ++ rest) four ∙ len in
    let body : drop 4 behind ≡ r ++ rest = drop_at h (r ++ rest) 4 four in
    record {
      bytes_of = r;
      opened = record {
        behind = behind;
        there = refl;
        enough = omega (arith, is, four, length-append h (r ++ rest), length-append r rest, some);
        next = omega (arith, is);
      };
      is = ap (λ n. take n (drop 4 behind)) is ∙ ap (take (length r)) body ∙ take_at r rest (length r) refl;
      got = refl;
      more = omega arith;
      least = omega arith;
    }

later_record : (h r rest : List ℕ) (rs : List (List ℕ)) (k at : ℕ) → length h ≡ 4 → Nth rs k at rest → at ≡ span (take k rs)
    → Nth (r ∷ rs) (suc k) (5 + length r + at) (open_gate ∷ (h ++ (r ++ rest)))
later_record h r rest rs k at four n place =
    let all = open_gate ∷ (h ++ (r ++ rest)) in
    let split : all ≡ (open_gate ∷ (h ++ r)) ++ rest = ap (λ (l : List ℕ). open_gate ∷ l) (sym (append_assoc h r rest)) in
    let long : length (open_gate ∷ (h ++ r)) ≡ 5 + length r = omega (arith, four, length-append h r) in
    let whole : drop (5 + length r) all ≡ rest = ap (drop (5 + length r)) split ∙ drop_at (open_gate ∷ (h ++ r)) rest (5 + length r) long in
    let step : span (take (suc k + 1) (r ∷ rs)) ≡ span (r ∷ take (k + 1) rs) = let e : suc k + 1 ≡ suc (k + 1) = omega arith in ap (λ m. span (take m (r ∷ rs))) e in
    let shift : (i j : ℕ) → j ≡ 5 + length r + i → drop j all ≡ drop i rest = λ i j e. ap (λ m. drop m all) e ∙ sym (drop-drop i (5 + length r) all) ∙ ap (drop i) whole in
    record {
      bytes_of = n.bytes_of;
      opened = record { behind = n.opened.behind; there = shift at (5 + length r + at) refl ∙ n.opened.there; enough = n.opened.enough; next = omega (arith, n.opened.next) };
      is = ap (λ (l : List ℕ). take (length_of l) (drop (5 + length r + at + 5) all)) (shift (at + 1) (5 + length r + at + 1) (omega arith))
          ∙ ap (take (length_of (drop (at + 1) rest))) (shift (at + 5) (5 + length r + at + 5) (omega arith)) ∙ n.is;
      got = n.got;
      more = omega (arith, n.more, step);
      least = omega (arith, n.least, step);
    }

pub nth : (rs : List (List ℕ)) (front rest : List ℕ) (k : ℕ) → Front rs front → 1 ≤ length rest → k < length rs → Nth rs k (span (take k rs)) (front ++ rest)
unfolding Front
nth [] front rest k is some lt = absurd (omega (arith, lt))
nth (r ∷ rs) front rest zero (h, more, is, four, len, behind) some lt =
    let same : front ++ rest ≡ open_gate ∷ (h ++ (r ++ (more ++ rest))) =
    ap (λ (l : List ℕ). l ++ rest) is ∙ ap (λ (l : List ℕ). open_gate ∷ l) (append_assoc h (r ++ more) rest ∙ ap (λ (l : List ℕ). h ++ l) (append_assoc r more rest)) in
    subst (Nth (r ∷ rs) 0 0) (sym same) (first_record h r (more ++ rest) rs four len (omega (arith, some, length-append more rest)))
nth (r ∷ rs) front rest (suc k) (h, more, is, four, len, behind) some lt =
    let same : front ++ rest ≡ open_gate ∷ (h ++ (r ++ (more ++ rest))) =
    ap (λ (l : List ℕ). l ++ rest) is ∙ ap (λ (l : List ℕ). open_gate ∷ l) (append_assoc h (r ++ more) rest ∙ ap (λ (l : List ℕ). h ++ l) (append_assoc r more rest)) in
    subst (Nth (r ∷ rs) (suc k) (5 + length r + span (take k rs))) (sym same)
    (later_record h r (more ++ rest) rs k (span (take k rs)) four (nth rs more rest k behind some (omega (arith, lt))) refl)

-- the next record of a log that has one
pub next_record : (log : Place) (bytes : List ℕ) → Holds log bytes → log.read < log.records → Nth (records_of bytes) log.read log.next bytes
next_record log bytes holds lt =
    let some : 1 ≤ length bytes = elim (cases_lt (length bytes) 1) [
      | inl none ↦ absurd (omega (arith, lt, holds.records, ap (λ (c : Content). length c.records) (content_of-short bytes (omega (arith, none)))))
      | inr some ↦ some
    ] in
    let b = behind_records bytes some in
    subst (λ n. Nth (records_of bytes) log.read n bytes) (sym holds.next)
    (subst (Nth (records_of bytes) log.read (span (take log.read (records_of bytes)))) (sym b.split)
    (nth (records_of bytes) b.front b.rest log.read b.records b.some (omega (arith, lt, holds.records))))

-- and the log once it was read
pub holds_passed : (log : Place) (bytes r : List ℕ) → Holds log bytes → log.read < log.records → r ≡ record_at log.next bytes → Holds (passed log r) bytes
holds_passed log bytes r holds lt is =
    let n = next_record log bytes holds lt in
    record {
      none_lacks = holds.none_lacks;
      records = holds.records;
      last = holds.last;
      read = omega (arith, lt);
      next = omega (arith, holds.next, n.more, ap length (is ∙ n.is));
    }

next_ends : (log : Place) (was : List ℕ) (holds : Holds log was) (lt : log.read < log.records) → log.next + 5 + length (next_record log was holds lt).bytes_of ≤ log.last
next_ends log was holds lt =
    let n = next_record log was holds lt in
    omega (arith, n.more, n.least, holds.next, holds.last)

-- the length that stands behind its gate
length_next : (log : Place) (was : List ℕ) (holds : Holds log was) (lt : log.read < log.records)
    → length_of (drop (log.next + 1) was) ≡ length (next_record log was holds lt).bytes_of
length_next log was holds lt =
    let n = next_record log was holds lt in
    omega (arith, n.opened.next, ap length_of (behind_is log.next (log.next + 5 + length n.bytes_of) was n.opened))

pub told_length : (log : Place) (n : ℕ) (a b : Option (List ℕ)) → Kept a b → IfSome a (Holds log) → log.read < log.records
    → Told a b (λ was _. n ≡ length_of (drop (log.next + 1) was)) → IfSome b (HasNext log n)
told_length log n (Some x) (Some y) same holds lt is =
    subst (HasNext log n) (sym same) (ap (option_map length) (next_record log x holds lt).got ∙ ap (λ (k : ℕ). Some k) (sym (is ∙ length_next log x holds lt)))
told_length log n None (Some y) same holds lt told = absurd told
told_length log n a None same holds lt told = tt

-- a log that was found is found still
pub holds_still : (log : Place) (a b : Option (List ℕ)) → Kept a b → IfSome a (Holds log) → IfSome b (Holds log)
holds_still log (Some x) (Some y) same holds = subst (Holds log) (sym same) holds
holds_still log None (Some y) same holds = absurd same
holds_still log a None same holds = tt

-- where no length stood there, or the record ends too late
pub read_lacks : (log : Place) (a b : Option (List ℕ)) → IfSome a (Holds log) → log.read < log.records
    → Told a b (λ was _. (after : ℕ) → IsOpenAt log.next after was → after ≤ log.last → ⊥) → Told a b (λ _ _. ⊥)
read_lacks log (Some x) (Some y) holds lt told =
    let n = next_record log x holds lt in
    told (log.next + 5 + length n.bytes_of) n.opened (next_ends log x holds lt)
read_lacks log None (Some y) holds lt told = absurd told
read_lacks log a None holds lt told = tt

-- a length that was told is that one
length_is : (log : Place) (n : ℕ) (was : List ℕ) (holds : Holds log was) → log.read < log.records → HasNext log n was → n ≡ length_of (drop (log.next + 1) was)
length_is log n was holds lt has =
    let next = next_record log was holds lt in
    let same : length next.bytes_of ≡ n = same_Some (length next.bytes_of) n (sym (ap (option_map length) next.got) ∙ has) in
    sym (length_next log was holds lt ∙ same)

-- so many bytes behind the gate are the record
bytes_are : (log : Place) (n : ℕ) (r was : List ℕ) (holds : Holds log was) → log.read < log.records → HasNext log n was → r ≡ take n (drop (log.next + 5) was)
    → r ≡ record_at log.next was
bytes_are log n r was holds lt has is = is ∙ ap (λ k. take k (drop (log.next + 5) was)) (length_is log n was holds lt has)

-- what was read
pub read_next : (log : Place) (n : ℕ) (r : List ℕ) (a b : Option (List ℕ)) → IfSome a (Holds log) → log.read < log.records → IfSome a (HasNext log n)
    → Told a b (λ was _. r ≡ take n (drop (log.next + 5) was)) → Told a b (λ was _. slice_get (records_of was) log.read ≡ Some r)
read_next log n r (Some x) (Some y) holds lt has is =
    let next = next_record log x holds lt in
    next.got ∙ ap (λ (l : List ℕ). Some l) (sym (bytes_are log n r x holds lt has is ∙ next.is))
read_next log n r None (Some y) holds lt has told = absurd told
read_next log n r a None holds lt has told = tt

pub read_holds : (log : Place) (n : ℕ) (r : List ℕ) (a b : Option (List ℕ)) → Kept a b → IfSome a (Holds log) → log.read < log.records → IfSome a (HasNext log n)
    → Told a b (λ was _. r ≡ take n (drop (log.next + 5) was)) → IfSome b (Holds (passed log r))
read_holds log n r (Some x) (Some y) same holds lt has is =
    subst (Holds (passed log r)) (sym same) (holds_passed log x r holds lt (bytes_are log n r x holds lt has is))
read_holds log n r None (Some y) same holds lt has told = absurd told
read_holds log n r a None same holds lt has told = tt

-- all its bytes were there
pub read_whole : (log : Place) (n : ℕ) (a b : Option (List ℕ)) → IfSome a (Holds log) → log.read < log.records → IfSome a (HasNext log n)
    → Told a b (λ was _. length was < log.next + 5 + n) → Told a b (λ _ _. ⊥)
read_whole log n (Some x) (Some y) holds lt has few =
    let next = next_record log x holds lt in
    bytes_there log.next (log.next + 5 + length next.bytes_of) n x next.opened (length_is log n x holds lt has) few
read_whole log n None (Some y) holds lt has told = absurd told
read_whole log n a None holds lt has told = tt

-- a fact of a file behind a call that leaves it
pub told_later : (Q : List ℕ → Type 0) (a b c : Option (List ℕ)) → Kept a b → Told b c (λ was _. Q was) → Told a c (λ was _. Q was)
told_later Q (Some x) (Some y) (Some z) same q = subst Q same q
told_later Q None (Some y) (Some z) same q = absurd same
told_later Q a None (Some z) same q = absurd q
told_later Q (Some x) b None same q = tt
told_later Q None b None same q = tt
