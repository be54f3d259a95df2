-- The replay of the records of a log.
use Rattle.std.proofs.Common.{◌≡◌, ◌<◌, ◌≤◌, ◌+◌, ℕ, suc, ℤ, true, false, cond, ◌&&◌, nat_le, IsTrue, List, [], ◌∷◌, ◌++◌, length, take, drop, Option, Some, None, refl, ap, sym, subst, ◌∙◌, arith}
use Rattle.std.specs.Prelude.{slice_get, get_or, option_map, is_some, IfSome, IfNone, All}
use Rattle.std.proofs.lemmas.Bool.{and_parts, leb-true}
use Rattle.std.proofs.lemmas.List.{drop_more, drop_all, take_all}
use Rattle.std.proofs.lemmas.Option.{slice_get_within, get_or_from_slice_get}
use Rattle.kh_term.specs.declared.name.Name.{Name}
use Rattle.kh_read.specs.declared.form.Form.TheVariants as form
use Rattle.kh_io.specs.Told.{Told, Kept}
use Rattle.kh_io.proofs.{told_both, told_map}
use Rattle.kh_log.specs.declared.error.LogError.{LogError}
use Rattle.kh_log.specs.declared.error.LogError.TheVariants as log_error
use Rattle.kh_store.specs.declared.store.OpenError.TheVariants as open_error
use Rattle.kh_log.specs.Records.{length_of, records_of, span as records_span}
use Rattle.kh_log.specs.Log.{Place, Holds, HasNext}
use Rattle.kh_store.specs.Tree.{Node}
use Rattle.kh_store.specs.Machine.{is_logged, after}
use Rattle.kh_store.specs.Command.{put_bytes, IsPut}
use Rattle.kh_store.specs.State.{State, empty, log_limit, command_limit, store_logs}
use Rattle.kh_store.specs.Recovery.{Recovery, Recovered, Damaged, IsNoRecord, Replays, ends, applies, refuses}
use Rattle.kh_store.specs.Opening.{IsRecord, IsTooLong, opening_error}
use Rattle.kh_store.proofs.Puts.{put_is_one, put_short}

-- a put that the tree has no room for is no record
pub unlogged : (bytes : List ℕ) (path : List Name) (number : ℤ) (nodes : List Node) (span : ℕ) → IsPut bytes path number
    → is_logged (form.Put path number) nodes ≡ false → IsNoRecord bytes (record { nodes = nodes; span = span })
unlogged bytes path number nodes span is not_logged other last put logs =
    let one = put_is_one bytes other path last number put is in
    let there : IsTrue (is_logged (form.Put path number) nodes) =
    subst (λ (p : List Name × ℤ). IsTrue (is_logged (form.Put p.0 p.1) nodes)) (λ i. (one.0 i, one.1 i))
    (and_parts (nat_le (span + 6 + length (put_bytes other last)) log_limit) (is_logged (form.Put other last) nodes) logs).1 in
    cc

-- a put that the log and the tree have room for is a record
pub recorded : (bytes : List ℕ) (path : List Name) (number sent : ℤ) (nodes new : List Node) (span : ℕ) → sent ≡ number → IsPut bytes path number
    → nat_le (span + 6 + length bytes) log_limit ≡ true → is_logged (form.Put path sent) nodes ≡ true → new ≡ after (form.Put path sent) nodes
    → IsRecord bytes (record { nodes = nodes; span = span }) (record { nodes = new; span = span + 5 + length bytes })
recorded bytes path number sent nodes new span is put room fits made =
    let s : State = record { nodes = nodes; span = span } in
    let first : nat_le (span + 6 + length (put_bytes path number)) log_limit ≡ true = ap (λ (b : List ℕ). nat_le (span + 6 + length b) log_limit) (sym put.packed) ∙ room in
    let second : is_logged (form.Put path number) nodes ≡ true = ap (λ (z : ℤ). is_logged (form.Put path z) nodes) (sym is) ∙ fits in
    let logged : store_logs (form.Put path number) s ≡ true = ap (λ a. a && is_logged (form.Put path number) nodes) first ∙ second in
    let here : new ≡ after (form.Put path number) nodes = made ∙ ap (λ (z : ℤ). after (form.Put path z) nodes) is in
    let to : span + 5 + length bytes ≡ span + (5 + length (put_bytes path number)) = omega (arith, ap length put.packed) in
    record {
      path = path;
      number = number;
      put = put;
      logged = logged;
      after = (λ i. record { nodes = here i; span = to i })
          ∙ sym (ap (λ b. cond b (record { nodes = after (form.Put path number) nodes; span = span + (5 + length (put_bytes path number)) }) s) logged);
    }

-- what holds of something where it is there, and where it isn't
pub if_some_by : {A : Type 0} {P : A → Type 0} (o : Option A) → ((a : A) → o ≡ Some a → P a) → IfSome o P
if_some_by (Some a) then = then a refl
if_some_by None then = tt

pub if_none_by : {A P : Type 0} (o : Option A) → (is_some o ≡ false → P) → IfNone o P
if_none_by (Some a) then = tt
if_none_by None then = then refl

-- one that is longer than any command is none
long_refused : (bytes : List ℕ) (s : State) → command_limit < length bytes → IsNoRecord bytes s
long_refused bytes s long path number put logs = omega (arith, long, put_short bytes path number put)

-- from the root alone so many records of a log were applied, and led to this state
pub record Replayed (s : State) (count : ℕ) (bytes : List ℕ) : Type 0 where
  pub from : (end : Recovery) → Replays s (drop count (records_of bytes)) end → Replays empty (records_of bytes) end

-- before the first record
pub replayed_none : (bytes : List ℕ) → Replayed empty 0 bytes
replayed_none bytes = record { from = λ end replays. replays }

rest_of : (rs : List (List ℕ)) (k : ℕ) (r : List ℕ) → slice_get rs k ≡ Some r → drop k rs ≡ r ∷ drop (k + 1) rs
rest_of rs k r got =
    drop_more rs k r (slice_get_within rs k r got) ∙ ap (λ (x : List ℕ). x ∷ drop (k + 1) rs) (get_or_from_slice_get rs k r r got)

-- one more record is applied
pub replayed_more : (old new : State) (count : ℕ) (bytes record_bytes : List ℕ) → Replayed old count bytes → slice_get (records_of bytes) count ≡ Some record_bytes
    → IsRecord record_bytes old new → Replayed new (count + 1) bytes
replayed_more old new count bytes r replayed got is = record {
  from = λ end replays. replayed.from end (subst (λ (l : List (List ℕ)). Replays old l end) (sym (rest_of (records_of bytes) count r got))
      (applies old r is.path is.number (drop (count + 1) (records_of bytes)) end is.put is.logged (subst (λ (s : State). Replays s (drop (count + 1) (records_of bytes)) end) is.after replays)));
}

-- one that the store wouldn't have logged is damage
pub replayed_refused : (s : State) (count : ℕ) (bytes record_bytes : List ℕ) → Replayed s count bytes → slice_get (records_of bytes) count ≡ Some record_bytes
    → IsNoRecord record_bytes s → Replays empty (records_of bytes) (Damaged 1 (s.span + 1))
replayed_refused s count bytes r replayed got none =
    replayed.from (Damaged 1 (s.span + 1)) (subst (λ (l : List (List ℕ)). Replays s l (Damaged 1 (s.span + 1))) (sym (rest_of (records_of bytes) count r got))
    (refuses s r (drop (count + 1) (records_of bytes)) none))

-- all records were applied
pub replayed_all : (nodes : List Node) (span : ℕ) (log : Place) (bytes : List ℕ) → Replayed (record { nodes = nodes; span = span }) log.read bytes → Holds log bytes
    → log.read ≡ log.records → span ≡ log.next → Replays empty (records_of bytes) (Recovered (record { nodes = nodes; span = log.last }))
replayed_all nodes span log bytes replayed holds all at =
    let rs = records_of bytes in
    let most : length rs ≤ log.read = omega (arith, all, holds.records) in
    let last : span ≡ log.last = at ∙ holds.next ∙ ap records_span (take_all log.read rs most) ∙ sym holds.last in
    subst (λ n. Replays empty rs (Recovered (record { nodes = nodes; span = n }))) last
    (replayed.from (Recovered (record { nodes = nodes; span = span }))
    (subst (λ (l : List (List ℕ)). Replays (record { nodes = nodes; span = span }) l (Recovered (record { nodes = nodes; span = span })))
    (sym (drop_all log.read rs most)) (ends (record { nodes = nodes; span = span }))))

-- a record that was applied is within the log
pub record_within : (bytes : List ℕ) (old new : State) → IsRecord bytes old new → old.span + 6 + length bytes ≤ log_limit
record_within bytes old new is =
    let room = leb-true _ _ (and_parts (nat_le (old.span + 6 + length (put_bytes is.path is.number)) log_limit) (is_logged (form.Put is.path is.number) old.nodes) is.logged).0 in
    omega (arith, room, ap length is.put.packed)

-- two facts of one call
pub told_also : (P Q : List ℕ → List ℕ → Type 0) (a b : Option (List ℕ)) → Told a b P → Told a b Q → Told a b (λ x y. P x y × Q x y)
told_also P Q (Some x) (Some y) p q = (p, q)
told_also P Q None (Some y) p q = absurd p
told_also P Q (Some x) None p q = tt
told_also P Q None None p q = tt

told_holds : (a b : Option (List ℕ)) (P : List ℕ → Type 0) → Kept a b → IfSome a P → Told a b (λ was _. P was)
told_holds (Some x) (Some y) P kept holds = holds
told_holds None (Some y) P kept holds = absurd kept
told_holds (Some x) None P kept holds = tt
told_holds None None P kept holds = tt

-- the same, of a file that is told
abbrev pub ToldReplayed : (seen seen' : Option (List ℕ)) (s : State) (count : ℕ) → Type 0
ToldReplayed seen seen' s count = Told seen seen' (λ was now. (now ≡ was) × Replayed s count was)

pub told_none : (seen : Option (List ℕ)) (s : State) (count : ℕ) → s ≡ empty → count ≡ 0 → ToldReplayed seen seen s count
told_none None s count is none = tt
told_none (Some bytes) s count is none =
    (refl, subst (λ (t : State). Replayed t count bytes) (sym is) (subst (λ k. Replayed empty k bytes) (sym none) (replayed_none bytes)))

pub told_more : (a b c : Option (List ℕ)) (old new : State) (count next : ℕ) (r : List ℕ) → ToldReplayed a b old count → Kept b c
    → Told b c (λ was _. slice_get (records_of was) count ≡ Some r) → IsRecord r old new → next ≡ count + 1 → ToldReplayed a c new next
told_more a b c old new count next r first kept got is more =
    told_both a b c first (told_also (λ was now. now ≡ was) (λ was _. slice_get (records_of was) count ≡ Some r) b c kept got) (λ x y z p q.
    (q.0 ∙ p.0, subst (λ k. Replayed new k x) (sym more) (replayed_more old new count x r p.1 (subst (λ (l : List ℕ). slice_get (records_of l) count ≡ Some r) p.0 q.1) is)))

pub told_refused : (a b c : Option (List ℕ)) (s : State) (count file offset : ℕ) (r : List ℕ) → ToldReplayed a b s count
    → Told b c (λ was _. slice_get (records_of was) count ≡ Some r) → IsNoRecord r s → file ≡ 1 → offset ≡ s.span + 1
    → Told a c (λ was _. Replays empty (records_of was) (Damaged file offset))
told_refused a b c s count file offset r first got none one at =
    told_both a b c first got (λ x y z p q.
    subst (λ (d : ℕ × ℕ). Replays empty (records_of x) (Damaged d.0 d.1)) (λ i. (sym one i, sym at i))
    (replayed_refused s count x r p.1 (subst (λ (l : List ℕ). slice_get (records_of l) count ≡ Some r) p.0 q) none))

pub told_too_long : (a b c : Option (List ℕ)) (s : State) (count file offset : ℕ) → ToldReplayed a b s count
    → Told b c (λ was _. (file ≡ 1) × (offset ≡ s.span + 1) × IsTooLong (records_of was) count)
    → Told a c (λ was _. Replays empty (records_of was) (Damaged file offset))
told_too_long a b c s count file offset first long =
    told_both a b c first long (λ x y z p q.
    let is = subst (λ (l : List ℕ). IsTooLong (records_of l) count) p.0 q.2 in
    subst (λ (d : ℕ × ℕ). Replays empty (records_of x) (Damaged d.0 d.1)) (λ i. (sym q.0 i, sym q.1 i))
    (replayed_refused s count x is.bytes p.1 is.there (long_refused is.bytes s is.long)))

pub told_all : (a b c : Option (List ℕ)) (nodes : List Node) (span : ℕ) (log after : Place) → ToldReplayed a b (record { nodes = nodes; span = span }) log.read
    → Kept b c → IfSome b (Holds log) → IfSome b (λ _. span ≡ log.next) → log.read ≡ log.records → after ≡ log
    → Told a c (λ was _. Replays empty (records_of was) (Recovered (record { nodes = nodes; span = after.last })))
told_all a b c nodes span log after first kept holds at all same =
    told_both a b c first (told_also (λ was _. Holds log was) (λ _ _. span ≡ log.next) b c (told_holds b c (Holds log) kept holds) (told_holds b c (λ _. span ≡ log.next) kept at)) (λ x y z p q.
    subst (λ (l : Place). Replays empty (records_of x) (Recovered (record { nodes = nodes; span = l.last }))) (sym same)
    (replayed_all nodes span log x p.1 (subst (Holds log) p.0 q.0) all q.1))

-- a fact of what is told at exit
pub told_there : (P : List ℕ → Type 0) (a b : Option (List ℕ)) → Kept a b → IfSome b P → Told a b (λ was _. P was)
told_there P (Some x) (Some y) kept holds = subst P kept holds
told_there P None (Some y) kept holds = absurd kept
told_there P (Some x) None kept holds = tt
told_there P None None kept holds = tt

-- the next record has a length that no command has
pub too_long : (a b : Option (List ℕ)) (log : Place) (n file offset span : ℕ) → Kept a b → IfSome b (HasNext log n) → command_limit < n → file ≡ log.file → offset ≡ span + 1
    → Told a b (λ was _. (file ≡ log.file) × (offset ≡ span + 1) × IsTooLong (records_of was) log.read)
too_long a b log n file offset span kept has long one at =
    told_map a b (told_there (HasNext log n) a b kept has) (λ was now next. (one, at, is_long was (slice_get (records_of was) log.read) refl next))
  where
    is_long : (was : List ℕ) (found : Option (List ℕ)) → slice_get (records_of was) log.read ≡ found → option_map length found ≡ Some n → IsTooLong (records_of was) log.read
    is_long was (Some bytes) there same = record { bytes = bytes; there = there; long = (let is : length bytes ≡ n = cc in omega (arith, is, long)) }
    is_long was None there same = absurd cc

-- where the next gate is, before the first record and behind one more
pub next_none : (seen : Option (List ℕ)) (log : Place) → IfSome seen (Holds log) → log.read ≡ 0 → IfSome seen (λ _. 0 ≡ log.next)
next_none (Some bytes) log holds none = sym (holds.next ∙ ap (λ k. records_span (take k (records_of bytes))) none)
next_none None log holds none = tt

pub next_more : (a b : Option (List ℕ)) (span more next after : ℕ) → Kept a b → IfSome a (λ _. span ≡ next) → after ≡ next + more → IfSome b (λ _. span + more ≡ after)
next_more (Some x) (Some y) span more next after kept at is = omega (arith, at, is)
next_more None (Some y) span more next after kept at is = absurd kept
next_more a None span more next after kept at is = tt

pub fault_opening : (e : LogError) → opening_error e ≡ open_error.DiskFault → e ≡ log_error.DiskFault
fault_opening log_error.DiskFault is = refl
fault_opening (log_error.NotALog o) is = absurd cc
fault_opening log_error.NoMemory is = absurd cc
