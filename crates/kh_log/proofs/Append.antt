-- What a crash leaves in each step of an append.
use Rattle.std.proofs.Common.{◌≡◌, ◌≢◌, inl, inr, ℕ, ◌+◌, ◌<◌, ◌≤◌, ◌^◌, List, [], ◌∷◌, ◌++◌, length, take, drop, refl, sym, ap, subst, ◌∙◌, arith, append_assoc, length-append, length-drop, length-take}
use Rattle.std.proofs.lemmas.List.{append-nil, take_at, take-take, take-append-le, drop_at, drop-drop, take-append-drop}
use Rattle.std.proofs.lemmas.Bool.{cases_eq}
use Rattle.byteorder.specs.Numbers.{length-bytes_high_first}
use Rattle.byteorder.specs.Endian.{big_bytes}
use Rattle.kh_io.specs.Disk.{put, Torn}
use Rattle.kh_log.specs.Records.{open_gate, Content, content_of, records_of, span, log_of}
use Rattle.kh_log.specs.Log.{whole, EndsAt, IsBeforeOrAfter}
use Rattle.kh_log.proofs.Records.{length_of-big_bytes, Front, Behind, behind_records, length-front, front-append, content_closed, first_of_some}

-- the records, a closed gate behind them, and anything
pub record Split (last : ℕ) (rs : List (List ℕ)) (bytes : List ℕ) : Type 0 where
  pub front : List ℕ
  pub gate : ℕ
  pub tail : List ℕ
  pub is : bytes ≡ front ++ (gate ∷ tail)
  pub records : Front rs front
  pub place : length front ≡ last
  pub closed : gate ≢ open_gate

pub split_of : (last : ℕ) (rs : List (List ℕ)) (bytes : List ℕ) → EndsAt last rs bytes → Split last rs bytes
split_of last rs bytes e =
    let some : 1 ≤ length bytes = omega (arith, ap length e.gate.there, length-drop last bytes) in
    let b = subst (Behind bytes) (ap (λ (c : Content). c.records) e.content) (behind_records bytes some) in
    let place : length b.front ≡ last = length-front rs b.front b.records ∙ sym e.place in
    let rest : b.rest ≡ e.gate.gate ∷ e.gate.behind = sym (drop_at b.front b.rest last place) ∙ ap (drop last) (sym b.split) ∙ e.gate.there in
    record {
      front = b.front;
      gate = e.gate.gate;
      tail = e.gate.behind;
      is = b.split ∙ ap (λ (l : List ℕ). b.front ++ l) rest;
      records = b.records;
      place = place;
      closed = e.gate.closed;
    }

pub ends_at : (last : ℕ) (rs : List (List ℕ)) (bytes : List ℕ) → Split last rs bytes → EndsAt last rs bytes
ends_at last rs bytes s = record {
  content = ap content_of s.is ∙ content_closed rs s.front s.gate s.tail s.records s.closed;
  place = sym s.place ∙ length-front rs s.front s.records;
  gate = record { gate = s.gate; behind = s.tail; there = ap (drop last) s.is ∙ drop_at s.front (s.gate ∷ s.tail) last s.place; closed = s.closed };
}

-- the place of the gate is told by the records
pub at_span : (last : ℕ) (rs : List (List ℕ)) (bytes : List ℕ) → EndsAt last rs bytes → EndsAt (span rs) rs bytes
at_span last rs bytes e = subst (λ n. EndsAt n rs bytes) e.place e

one_more : (front : List ℕ) (gate : ℕ) (tail : List ℕ) → front ++ (gate ∷ tail) ≡ (front ++ gate ∷ []) ++ tail
one_more front gate tail = sym (append_assoc front (gate ∷ []) tail)

take_gate : (last : ℕ) (front : List ℕ) (gate : ℕ) (tail : List ℕ) → length front ≡ last → take (last + 1) (front ++ (gate ∷ tail)) ≡ front ++ gate ∷ []
take_gate last front gate tail place =
    ap (take (last + 1)) (one_more front gate tail) ∙ take_at (front ++ gate ∷ []) tail (last + 1) (omega (arith, place, length-append front (gate ∷ [])))

drop_gate : (last : ℕ) (front : List ℕ) (gate : ℕ) (tail : List ℕ) → length front ≡ last → drop (last + 1) (front ++ (gate ∷ tail)) ≡ tail
drop_gate last front gate tail place =
    ap (drop (last + 1)) (one_more front gate tail) ∙ drop_at (front ++ gate ∷ []) tail (last + 1) (omega (arith, place, length-append front (gate ∷ [])))

-- the closed gate stands in each outcome of the first write
pub torn_behind : (last n : ℕ) (rs : List (List ℕ)) (was bytes : List ℕ) → EndsAt last rs was → Torn (last + 1) n was bytes → EndsAt last rs bytes
torn_behind last n rs was bytes e torn =
    let s = split_of last rs was e in
    let front : take (last + 1) bytes ≡ s.front ++ s.gate ∷ [] = torn.before ∙ ap (take (last + 1)) s.is ∙ take_gate last s.front s.gate s.tail s.place in
    ends_at last rs bytes (record {
      front = s.front;
      gate = s.gate;
      tail = drop (last + 1) bytes;
      is = sym (take-append-drop (last + 1) bytes) ∙ ap (λ (l : List ℕ). l ++ drop (last + 1) bytes) front ∙ sym (one_more s.front s.gate (drop (last + 1) bytes));
      records = s.records;
      place = s.place;
      closed = s.closed;
    })

-- the records, a gate, and these bytes behind it
pub record Staged (last : ℕ) (rs : List (List ℕ)) (body bytes : List ℕ) : Type 0 where
  pub front : List ℕ
  pub gate : ℕ
  pub tail : List ℕ
  pub is : bytes ≡ front ++ (gate ∷ (body ++ tail))
  pub records : Front rs front
  pub place : length front ≡ last

pub written_behind : (last : ℕ) (rs : List (List ℕ)) (body was bytes : List ℕ) → EndsAt last rs was → bytes ≡ put was (last + 1) body → Staged last rs body bytes
written_behind last rs body was bytes e is =
    let s = split_of last rs was e in
    let tail = drop (last + 1 + length body) was in
    let front : take (last + 1) was ≡ s.front ++ s.gate ∷ [] = ap (take (last + 1)) s.is ∙ take_gate last s.front s.gate s.tail s.place in
    record {
      front = s.front;
      gate = s.gate;
      tail = tail;
      is = is ∙ append_assoc (take (last + 1) was) body tail ∙ ap (λ (l : List ℕ). l ++ (body ++ tail)) front ∙ sym (one_more s.front s.gate (body ++ tail));
      records = s.records;
      place = s.place;
    }

-- the log of these records is the records, each behind an open gate, and a closed gate
log_of-split : (qs : List (List ℕ)) → (front : List ℕ) × (log_of qs ≡ front ++ 0 ∷ []) × (length front ≡ span qs)
log_of-split [] = ([], refl, refl)
log_of-split (q ∷ qs) =
    let h = big_bytes 4 (length q) in
    let more = log_of-split qs in (
      open_gate ∷ (h ++ (q ++ more.0)),
      ap (λ (l : List ℕ). open_gate ∷ (h ++ (q ++ l))) more.1 ∙ ap (λ (l : List ℕ). open_gate ∷ (h ++ l)) (sym (append_assoc q more.0 (0 ∷ []))) ∙ ap (λ (l : List ℕ). open_gate ∷ l) (sym (append_assoc h (q ++ more.0) (0 ∷ []))),
      omega (arith, more.2, length-append h (q ++ more.0), length-append q more.0, length-bytes_high_first 4 (length q)),
    )

-- the bytes behind the first gate of the log of these records
pub record Group (qs : List (List ℕ)) (body : List ℕ) : Type 0 where
  pub group : List ℕ
  pub is : open_gate ∷ body ≡ group ++ 0 ∷ []
  pub records : Front qs group
  pub long : length body ≡ span qs

pub group_of : (qs : List (List ℕ)) (body : List ℕ) → qs ≡ records_of (open_gate ∷ body) → log_of qs ≡ open_gate ∷ body → Group qs body
group_of qs body are logged =
    let b = subst (Behind (open_gate ∷ body)) (sym are) (behind_records (open_gate ∷ body) (omega arith)) in
    let s = log_of-split qs in
    let same : s.0 ++ 0 ∷ [] ≡ b.front ++ b.rest = sym s.1 ∙ logged ∙ b.split in
    let rest : b.rest ≡ 0 ∷ [] =
    sym (drop_at b.front b.rest (span qs) (length-front qs b.front b.records)) ∙ ap (drop (span qs)) (sym same) ∙ drop_at s.0 (0 ∷ []) (span qs) s.2 in
    record {
      group = b.front;
      is = b.split ∙ ap (λ (l : List ℕ). b.front ++ l) rest;
      records = b.records;
      long = omega (arith, ap length logged, ap length s.1, length-append s.0 (0 ∷ []), s.2);
    }

opened : (last : ℕ) (rs qs : List (List ℕ)) (body bytes : List ℕ) (front tail : List ℕ) → Group qs body → Front rs front → length front ≡ last
    → bytes ≡ front ++ (open_gate ∷ (body ++ tail)) → EndsAt (last + length body) (rs ++ qs) bytes
opened last rs qs body bytes front tail g records place is =
    ends_at (last + length body) (rs ++ qs) bytes (record {
      front = front ++ g.group;
      gate = 0;
      tail = tail;
      is = is ∙ ap (λ (l : List ℕ). front ++ (l ++ tail)) g.is ∙ ap (λ (l : List ℕ). front ++ l) (append_assoc g.group (0 ∷ []) tail)
          ∙ sym (append_assoc front g.group (0 ∷ tail));
      records = front-append rs qs front g.group records g.records;
      place = omega (arith, place, g.long, length-append front g.group, length-front qs g.group g.records);
      closed = λ zero_is. absurd (omega (arith, zero_is));
    })

-- the records stand whole in each outcome of the second write, and behind them a closed gate
pub torn_gate : (last : ℕ) (rs qs : List (List ℕ)) (body was bytes : List ℕ) → Group qs body → Staged last rs body was → Torn last 1 was bytes → IsBeforeOrAfter rs qs bytes
torn_gate last rs qs body was bytes g s torn =
    let some : 1 ≤ length (drop last bytes) =
    omega (arith, length-drop last bytes, torn.no_shorter, ap length s.is, length-append s.front (s.gate ∷ (body ++ s.tail)), s.place) in
    let first = first_of_some (drop last bytes) some in
    let front : take last bytes ≡ s.front = torn.before ∙ ap (take last) s.is ∙ take_at s.front (s.gate ∷ (body ++ s.tail)) last s.place in
    let behind : first.1 ≡ body ++ s.tail =
    ap (drop 1) (sym first.2) ∙ drop-drop 1 last bytes ∙ torn.behind ∙ ap (drop (last + 1)) s.is ∙ drop_gate last s.front s.gate (body ++ s.tail) s.place in
    let is : bytes ≡ s.front ++ (first.0 ∷ (body ++ s.tail)) =
    sym (take-append-drop last bytes) ∙ ap (λ (l : List ℕ). l ++ drop last bytes) front ∙ ap (λ (l : List ℕ). s.front ++ l) (first.2 ∙ ap (λ (l : List ℕ). first.0 ∷ l) behind) in
    elim (cases_eq first.0 open_gate) [
      | inl gate ↦ inr (at_span (last + length body) (rs ++ qs) bytes
          (opened last rs qs body bytes s.front s.tail g s.records s.place (is ∙ ap (λ k. s.front ++ (k ∷ (body ++ s.tail))) gate)))
      | inr shut ↦ inl (at_span last rs bytes (ends_at last rs bytes (record {
        front = s.front;
        gate = first.0;
        tail = body ++ s.tail;
        is = is;
        records = s.records;
        place = s.place;
        closed = shut;
      })))
    ]

pub written_gate : (last : ℕ) (rs qs : List (List ℕ)) (body was bytes : List ℕ) → Group qs body → Staged last rs body was → bytes ≡ put was last (open_gate ∷ [])
    → EndsAt (last + length body) (rs ++ qs) bytes
written_gate last rs qs body was bytes g s is =
    opened last rs qs body bytes s.front s.tail g s.records s.place
    (is ∙ ap (λ (l : List ℕ). l ++ (open_gate ∷ []) ++ drop (last + 1) was) (ap (take last) s.is ∙ take_at s.front (s.gate ∷ (body ++ s.tail)) last s.place)
    ∙ ap (λ (l : List ℕ). s.front ++ (open_gate ∷ []) ++ l) (ap (drop (last + 1)) s.is ∙ drop_gate last s.front s.gate (body ++ s.tail) s.place)
    ∙ append_assoc s.front (open_gate ∷ []) (body ++ s.tail))

-- where the bytes behind a gate are written first, and then the gate, they stand from its place on
pub put_gate : (last gate : ℕ) (body was : List ℕ) → last < length was → put (put was (last + 1) body) last (gate ∷ []) ≡ put was last (gate ∷ body)
put_gate last gate body was within =
    let tail = drop (last + 1 + length body) was in
    let front : length (take (last + 1) was) ≡ last + 1 = omega (arith, within, length-take (last + 1) was) in
    let is : put was (last + 1) body ≡ take (last + 1) was ++ (body ++ tail) = append_assoc (take (last + 1) was) body tail in
    let before : take last (put was (last + 1) body) ≡ take last was =
    ap (take last) is ∙ take-append-le last (take (last + 1) was) (body ++ tail) (omega (arith, front)) ∙ take-take last (last + 1) was (omega arith) in
    let behind : drop (last + 1) (put was (last + 1) body) ≡ body ++ tail = ap (drop (last + 1)) is ∙ drop_at (take (last + 1) was) (body ++ tail) (last + 1) front in
    let further : last + 1 + length body ≡ last + length (gate ∷ body) = omega arith in
    ap (λ (l : List ℕ). l ++ gate ∷ [] ++ drop (last + 1) (put was (last + 1) body)) before ∙ ap (λ (l : List ℕ). take last was ++ gate ∷ [] ++ l) behind
    ∙ append_assoc (take last was) (gate ∷ []) (body ++ tail) ∙ ap (λ n. take last was ++ (gate ∷ (body ++ drop n was))) further
    ∙ sym (append_assoc (take last was) (gate ∷ body) (drop (last + length (gate ∷ body)) was))

-- one record behind an open gate
pub one_logged : (body : List ℕ) → length body < 2 ^ 32 → content_of (log_of (body ∷ [])) ≡ whole (body ∷ [])
unfolding Front
one_logged body short =
    let h = big_bytes 4 (length body) in
    let front = open_gate ∷ (h ++ (body ++ [])) in
    let four : length h ≡ 4 = length-bytes_high_first 4 (length body) in
    let records : Front (body ∷ []) front = (h, [], refl, four, length_of-big_bytes (length body) short, refl) in
    let same : log_of (body ∷ []) ≡ front ++ 0 ∷ [] =
    ap (λ (l : List ℕ). open_gate ∷ (h ++ (l ++ 0 ∷ []))) (sym (append-nil body)) ∙ ap (λ (l : List ℕ). open_gate ∷ l) (sym (append_assoc h (body ++ []) (0 ∷ []))) in
    ap content_of same ∙ content_closed (body ∷ []) front 0 [] records (λ zero_is. absurd (omega (arith, zero_is)))

-- and so these bytes are that record's
pub logged : (body all : List ℕ) → length body < 2 ^ 32 → open_gate ∷ all ≡ log_of (body ∷ []) → records_of (open_gate ∷ all) ≡ body ∷ []
logged body all short is = ap records_of is ∙ ap (λ (c : Content). c.records) (one_logged body short)

pub logged_back : (body all : List ℕ) → length body < 2 ^ 32 → open_gate ∷ all ≡ log_of (body ∷ [])
    → (log_of (records_of (open_gate ∷ all)) ≡ open_gate ∷ all) × (1 ≡ length (records_of (open_gate ∷ all)))
logged_back body all short is = (ap log_of (logged body all short is) ∙ sym is, sym (ap length (logged body all short is)))

-- a closed gate alone
pub nothing_split : Split 0 [] (0 ∷ [])
unfolding Front
nothing_split = record { front = []; gate = 0; tail = []; is = refl; records = refl; place = refl; closed = λ zero_is. absurd (omega (arith, zero_is)) }
