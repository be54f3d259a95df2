-- A command is executed: what the store was and is, and what a crash leaves on the way.
use Rattle.std.proofs.Common.{ℕ, ℤ, ◌≡◌, ◌+◌, ◌⊎◌, nat_le, true, false, cond, if◌then◌else◌, List, [], ◌∷◌, ◌++◌, length, Option, Some, None, refl, sym, ap, subst, inl, inr, ◌∙◌, arith, append-nil}
use Rattle.std.specs.Prelude.{IfSome, ◌&&◌}
use Rattle.std.proofs.lemmas.Bool.{and_right}
use Rattle.kh_io.specs.declared.files.Files.{Files}
use Rattle.kh_io.specs.Told.{Told}
use Rattle.kh_io.specs.Disk.{IsSafe}
use Rattle.kh_io.specs.View.{View}
use Rattle.kh_io.specs.Frames.{FileTold, OthersStay, OfView, Leaves, WritesFile}
use Rattle.kh_io.proofs.{asks_none, asks_write, writes_weakened, told_map, told_same}
use Rattle.kh_log.specs.Records.{Content, content_of, records_of, IsClosedAt}
use Rattle.kh_log.specs.Log.{Place, Holds, moved, ImagesAre, IsReady, IsSettled, EndsAt, IsBeforeOrAfter, MayGain, whole}
use Rattle.kh_log.proofs.{settled}
use Rattle.kh_term.specs.declared.name.Name.{Name}
use Rattle.kh_read.specs.declared.form.Form.{Form}
use Rattle.kh_read.specs.declared.form.Form.TheVariants as form
use Rattle.kh_store.specs.Tree.{Node}
use Rattle.kh_store.specs.Machine.{is_logged, after}
use Rattle.kh_store.specs.Command.{put_bytes, IsPut}
use Rattle.kh_store.specs.State.{State, empty, log_limit, log_has_room, store_logs, records_logged, store_after}
use Rattle.kh_store.specs.Recovery.{Recovery, Recovered, Replays, ends, applies, ReplaysUnless, Recovers}
use Rattle.kh_store.specs.Store.{Opened, state_of, Stands, Executing}
use Rattle.kh_store.proofs.Recovery.{replays_then}
use Rattle.kh_store.proofs.Stands.{NoneUntold, others_safe, left_recovers}

-- files whose log is whole recover to what its records lead to
whole_recovers : (files : Files) (rs : List (List ℕ)) (end : Recovery) → content_of files.l0 ≡ whole rs → Replays empty rs end → Recovers files end
whole_recovers files rs end is replays = subst (λ (k : Content). ReplaysUnless k.lacking k.records end) (sym is) replays

-- where nothing was done
pub stood : (form : Form) (store : Opened) (v : View) → ((files : Files) (s : ℕ) → v.since v.moment files s → OfView v files s) → Stands store v
    → WritesFile 1 (Executing form (state_of store) v.stamp) v v
stood form store v now stands = asks_write 1 (omega arith) (asks_none v now) (λ files s of.
    record { stamp = of.stamp; recovers = inl (left_recovers store v stands files (of.images 1 (omega arith))) })

-- the last gate is closed in whatever a crash leaves
pub closed_left : (seen : Option (List ℕ)) (image : List ℕ → Type 0) (P : List ℕ → Type 0) → IsSafe seen image → IfSome seen P → ImagesAre seen image P
closed_left (Some was) image P safe closed = λ bytes there. let e = safe bytes there in let same : was ≡ bytes = cc in subst P same closed
closed_left None image P safe closed = tt

-- the log of file 1 may be appended to
pub ready_at : (log : Place) (v : View) → log.file ≡ 1 → log.read ≡ log.records → IfSome (v.seen 1) (Holds log) → ImagesAre (v.seen 1) (v.image 1) (IsClosedAt log.last) → IsReady log v
ready_at log v one all found closed = record {
  all_read = all;
  found = subst (λ f. IfSome (v.seen f) (Holds log)) (sym one) found;
  closed = subst (λ f. ImagesAre (v.seen f) (v.image f) (IsClosedAt log.last)) (sym one) closed;
}

-- no records alone are two lists
ends_once : (bytes : List ℕ) (files : Files) → IsBeforeOrAfter [] (bytes ∷ []) files.l0 → IsBeforeOrAfter ([] ∷ [] ∷ [] ∷ []) (bytes ∷ []) files.l0 → ⊥
ends_once bytes files a b = elim a [
  | inl x ↦ elim b [ inl y ↦ omega (arith, long _ _ x.content, long _ _ y.content) | inr y ↦ omega (arith, long _ _ x.content, long _ _ y.content) ]
  | inr x ↦ elim b [ inl y ↦ omega (arith, long _ _ x.content, long _ _ y.content) | inr y ↦ omega (arith, long _ _ x.content, long _ _ y.content) ]
]
  where
    long : (content : Content) (rs : List (List ℕ)) → content ≡ whole rs → length content.records ≡ length rs
    long content rs is = ap (λ (k : Content). length k.records) is

-- what a crash leaves while a record is written
gained : (form : Form) (store : Opened) (seen : Option (List ℕ)) (image : List ℕ → Type 0) (files : Files) (bytes : List ℕ)
    → IsSafe seen image → IfSome seen (Holds store.place) → IfSome seen (IsClosedAt store.place.last)
    → IfSome seen (λ bytes. Replays empty (records_of bytes) (Recovered (state_of store))) → ((b : List ℕ) → seen ≡ None → image b → ⊥)
    → Replays (state_of store) (bytes ∷ []) (Recovered (store_after form (state_of store))) → MayGain image store.place.last (bytes ∷ []) files.l0
    → Recovers files (Recovered (state_of store)) ⊎ Recovers files (Recovered (store_after form (state_of store)))
gained form store (Some was) image files bytes safe found closed recovers untold replays may =
    let rs = records_of was in
    elim (may rs (settled store.place (Some was) was refl found closed safe)) [
      | inl before ↦ inl (whole_recovers files rs (Recovered (state_of store)) before.content recovers)
      | inr behind ↦ inr (whole_recovers files (rs ++ bytes ∷ []) (Recovered (store_after form (state_of store))) behind.content
          (replays_then empty rs (bytes ∷ []) (state_of store) (Recovered (store_after form (state_of store))) recovers replays))
    ]
gained form store None image files bytes safe found closed recovers untold replays may =
    absurd (ends_once bytes files (may [] (λ b there. absurd (untold b refl there))) (may ([] ∷ [] ∷ [] ∷ []) (λ b there. absurd (untold b refl there))))

-- while a record is written
pub writes : (form : Form) (store : Opened) (v w : View) (file last : ℕ) (bytes : List ℕ) (more : List (List ℕ)) → file ≡ 1 → last ≡ store.place.last → more ≡ bytes ∷ []
    → Stands store v → ((b : List ℕ) → v.seen 1 ≡ None → v.image 1 b → ⊥) → Replays (state_of store) (bytes ∷ []) (Recovered (store_after form (state_of store)))
    → WritesFile file (Leaves file (MayGain (v.image file) last more) v) v w → WritesFile 1 (Executing form (state_of store) v.stamp) v w
writes form store v w file last bytes more one same is stands untold replays run =
    let run' : WritesFile 1 (Leaves 1 (MayGain (v.image 1) store.place.last (bytes ∷ [])) v) v w = rw (one, same, is) at run in
    writes_weakened run' (λ files s left. record {
      stamp = left.stamp;
      recovers = gained form store (v.seen 1) (v.image 1) files bytes stands.safe stands.found stands.closed stands.recovers untold replays left.own;
    })

-- once it was written
replays_all : (form : Form) (store next : Opened) (seen seen' : Option (List ℕ)) (bytes : List ℕ) → IfSome seen (λ bytes. Replays empty (records_of bytes) (Recovered (state_of store)))
    → Told seen seen' (λ was now. EndsAt next.place.last (records_of was ++ bytes ∷ []) now) → state_of next ≡ store_after form (state_of store)
    → Replays (state_of store) (bytes ∷ []) (Recovered (store_after form (state_of store))) → IfSome seen' (λ bytes. Replays empty (records_of bytes) (Recovered (state_of next)))
replays_all form store next (Some was) (Some now) bytes recovers told state replays =
    subst (λ (t : State). Replays empty (records_of now) (Recovered t)) (sym state)
    (subst (λ (rs : List (List ℕ)). Replays empty rs (Recovered (store_after form (state_of store)))) (sym (ap (λ (k : Content). k.records) told.content))
    (replays_then empty (records_of was) (bytes ∷ []) (state_of store) (Recovered (store_after form (state_of store))) recovers replays))
replays_all form store next None (Some now) bytes recovers told state replays = absurd told
replays_all form store next was None bytes recovers told state replays = tt

gate_closed : (seen seen' : Option (List ℕ)) (last : ℕ) (bytes : List ℕ) → Told seen seen' (λ was now. EndsAt last (records_of was ++ bytes ∷ []) now) → IfSome seen' (IsClosedAt last)
gate_closed (Some was) (Some now) last bytes told = told.gate
gate_closed None (Some now) last bytes told = absurd told
gate_closed was None last bytes told = tt

pub stands_after : (form : Form) (store next : Opened) (v w : View) (file : ℕ) (bytes : List ℕ) (more : List (List ℕ)) → file ≡ 1 → more ≡ bytes ∷ [] → next.failed ≡ false → Stands store v
    → FileTold file v w (λ was now. EndsAt next.place.last (records_of was ++ more) now) → IsSettled file next.place w → OthersStay file v w → NoneUntold w → state_of next ≡ store_after form (state_of store)
    → Replays (state_of store) (bytes ∷ []) (Recovered (store_after form (state_of store))) → Stands next w
stands_after form store next v w file bytes more one is works stands told settled others untold state replays =
    let told' : FileTold 1 v w (λ was now. EndsAt next.place.last (records_of was ++ bytes ∷ []) now) = rw (one, is) at told in
    record {
      works = works;
      safe = rw one at settled.safe;
      others = others_safe v w (rw one at others) untold stands.others;
      found = rw one at settled.found;
      closed = gate_closed (v.seen 1) (w.seen 1) next.place.last bytes told';
      recovers = replays_all form store next (v.seen 1) (w.seen 1) bytes stands.recovers told' state replays;
    }

-- These bytes are the record of a put that is logged.
pub record IsLogged (path : List Name) (number : ℤ) (s : State) (bytes : List ℕ) : Type 0 where
  pub put : IsPut bytes path number
  pub logs : store_logs (form.Put path number) s ≡ true
  pub replays : Replays s (bytes ∷ []) (Recovered (store_after (form.Put path number) s))

-- a put that the log and the tree have room for is logged
pub logs_it : (path : List Name) (number sent : ℤ) (store inside : Opened) (bytes : List ℕ) (at len : ℕ) → sent ≡ number → inside ≡ store → IsPut bytes path sent
    → nat_le (at + 6 + len) log_limit ≡ true → at ≡ inside.place.last → len ≡ length bytes → is_logged (form.Put path sent) inside.nodes ≡ true
    → IsLogged path number (state_of store) bytes
logs_it path number sent store inside bytes at len is same packed room last long fits =
    let put : IsPut bytes path number = subst (λ (z : ℤ). IsPut bytes path z) is packed in
    let there : at + 6 + len ≡ store.place.last + 6 + length (put_bytes path number) = omega (arith, last, ap (λ (s : Opened). s.place.last) same, long, ap length put.packed) in
    let first : nat_le (store.place.last + 6 + length (put_bytes path number)) log_limit ≡ true = ap (λ n. nat_le n log_limit) (sym there) ∙ room in
    let second : is_logged (form.Put path number) store.nodes ≡ true =
    ap (λ (z : ℤ). is_logged (form.Put path z) store.nodes) (sym is) ∙ ap (λ (s : Opened). is_logged (form.Put path sent) s.nodes) (sym same) ∙ fits in
    let logged = ap (λ a. a && is_logged (form.Put path number) store.nodes) first ∙ second in
    record {
      put = put;
      logs = logged;
      replays = applies (state_of store) bytes path number [] _ put logged (ends (store_after (form.Put path number) (state_of store)));
    }

-- its record
record_is : (path : List Name) (number : ℤ) (s : State) (bytes : List ℕ) (rs : List (List ℕ)) → rs ≡ bytes ∷ [] → IsLogged path number s bytes
    → rs ≡ records_logged (form.Put path number) s
record_is path number s bytes rs same logged =
    same ∙ ap (λ (b : List ℕ). b ∷ []) logged.put.packed ∙ sym (ap (λ b. if b then put_bytes path number ∷ [] else []) logged.logs)

-- stands in the log once it was written
pub adds_one : (v w : View) (file last : ℕ) (bytes : List ℕ) (rs : List (List ℕ)) (path : List Name) (number : ℤ) (s : State) → file ≡ 1
    → rs ≡ bytes ∷ [] → IsLogged path number s bytes → FileTold file v w (λ was now. EndsAt last (records_of was ++ rs) now)
    → FileTold 1 v w (λ was now. records_of now ≡ records_of was ++ records_logged (form.Put path number) s)
adds_one v w file last bytes rs path number s one same logged appended =
    told_map (v.seen 1) (w.seen 1) (subst (λ f. FileTold f v w (λ was now. EndsAt last (records_of was ++ rs) now)) one appended)
    (λ was now is. ap (λ (k : Content). k.records) is.content ∙ ap (λ (l : List (List ℕ)). records_of was ++ l) (record_is path number s bytes rs same logged))

-- a log that gains no record
pub adds_none : (form : Form) (s : State) (v : View) → records_logged form s ≡ [] → FileTold 1 v v (λ was now. records_of now ≡ records_of was ++ records_logged form s)
adds_none form s v none = told_same (λ was now. records_of now ≡ records_of was ++ records_logged form s) (v.seen 1)
    (λ was. sym (append-nil (records_of was)) ∙ ap (λ (l : List (List ℕ)). records_of was ++ l) (sym none))

none_logged : (path : List Name) (number : ℤ) (s : State) → store_logs (form.Put path number) s ≡ false → records_logged (form.Put path number) s ≡ []
none_logged path number s other = ap (λ b. if b then put_bytes path number ∷ [] else []) other

-- a put that the log has no room for
pub no_room : (path : List Name) (number sent : ℤ) (store inside : Opened) (bytes : List ℕ) (at len : ℕ) → sent ≡ number → inside ≡ store → IsPut bytes path sent
    → nat_le (at + 6 + len) log_limit ≡ false → at ≡ inside.place.last → len ≡ length bytes → records_logged (form.Put path number) (state_of store) ≡ []
no_room path number sent store inside bytes at len is same packed full last long =
    let put : IsPut bytes path number = subst (λ (z : ℤ). IsPut bytes path z) is packed in
    let there : at + 6 + len ≡ store.place.last + 6 + length (put_bytes path number) = omega (arith, last, ap (λ (s : Opened). s.place.last) same, long, ap length put.packed) in
    none_logged path number (state_of store) (ap (λ a. a && is_logged (form.Put path number) store.nodes) (ap (λ n. nat_le n log_limit) (sym there) ∙ full))

-- or the tree
pub no_place : (path : List Name) (number sent : ℤ) (store inside : Opened) → sent ≡ number → inside ≡ store → is_logged (form.Put path sent) inside.nodes ≡ false
    → records_logged (form.Put path number) (state_of store) ≡ []
no_place path number sent store inside is same other =
    let refused : is_logged (form.Put path number) store.nodes ≡ false =
    ap (λ (z : ℤ). is_logged (form.Put path z) store.nodes) (sym is) ∙ ap (λ (s : Opened). is_logged (form.Put path sent) s.nodes) (sym same) ∙ other in
    none_logged path number (state_of store) (ap (λ b. log_has_room (form.Put path number) store.place.last && b) refused ∙ and_right (log_has_room (form.Put path number) store.place.last) false refl)

-- and the store's state is the one after it
pub logged_state : (path : List Name) (number sent : ℤ) (store inside : Opened) (bytes : List ℕ) (nodes : List Node) (log : Place) (more : List (List ℕ)) → sent ≡ number → inside ≡ store
    → IsLogged path number (state_of store) bytes → nodes ≡ after (form.Put path sent) inside.nodes → log ≡ moved inside.place more → more ≡ bytes ∷ []
    → record { nodes = nodes; span = log.last } ≡ store_after (form.Put path number) (state_of store)
logged_state path number sent store inside bytes nodes log more is same logged applied appended one =
    let here : nodes ≡ after (form.Put path number) store.nodes =
    applied ∙ ap (λ (z : ℤ). after (form.Put path z) inside.nodes) is ∙ ap (λ (s : Opened). after (form.Put path number) s.nodes) same in
    let last : log.last ≡ store.place.last + (5 + length (put_bytes path number)) =
    omega (arith, ap (λ (p : Place). p.last) (appended ∙ ap (moved inside.place) one), ap (λ (s : Opened). s.place.last) same, ap length logged.put.packed) in
    (λ i. record { nodes = here i; span = last i })
    ∙ sym (ap (λ b. cond b (record { nodes = after (form.Put path number) store.nodes; span = store.place.last + (5 + length (put_bytes path number)) }) (state_of store)) logged.logs)
