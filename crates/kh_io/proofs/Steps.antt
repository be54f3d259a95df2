-- What one more call of a host in memory does to its files and to time.
use Rattle.std.proofs.Common.{ℕ, ◌≡◌, ◌≢◌, ◌⊎◌, ◌+◌, ◌<◌, ◌≤◌, Bool, true, false, List, [], ◌∷◌, ◌++◌, Option, Some, None, length, take, refl, sym, ap, subst, ◌∙◌, inl, inr, arith, ne_eqb, eq-eqb, IsTrue, IsFalse, IfSome, ◌==◌, ◌&&◌, if◌then◌else◌, length-append, append-nil, drop, min, sum_by, nat_lt, ◌^◌, ◌-◌, lt-ltb}
use Rattle.std.proofs.lemmas.List.{take-append-le, take-append-drop, drop-drop, length-take-le, take_all, nil_from_length}
use Rattle.std.proofs.Math.Seq.{take-length}
use Rattle.std.proofs.lemmas.List.Sums.{sum_by_push}
use Rattle.std.proofs.lemmas.Bool.{true≢false, false≢true, cases_lt}
use Rattle.kh_io.specs.declared.files.Files.{Files}
use Rattle.std.specs.Prelude.{All}
use Rattle.std.proofs.lemmas.List.Elements.{All-nil, All-cons}
use Rattle.kh_io.specs.Call.{Call, IsOfDisk, cost, Take, Give, Len, ReadAt, WriteAt, Cut, Sync}
use Rattle.kh_io.specs.Disk.{AreImages, TellsFiles, Stays, Follows, Torn, CutBack, CutPart, IsSafe}
use Rattle.kh_io.specs.View.{View}
use Rattle.kh_io.specs.Frames.{Elapses}
use Rattle.kh_io.specs.Told.{Told, Extends, Gains, Rose, IsFrontOf}
use Rattle.kh_io.specs.Memory.{one_more}
use Rattle.kh_io.specs.FileState.{FileState, synced, written, cut_to, after, state_after, IsImage}
use Rattle.kh_io.specs.Recording.{Recording, HasRoom, takes, gives, left_after, given_in, seen_after, image_after, left_since}
use Rattle.kh_io.specs.Laws.{sane_state, now_is_image}
use Rattle.kh_io.proofs.Images.{torn_only, torn_all, cut_only, cut_all, image_of_synced}
use Rattle.kh_io.proofs.Recordings.{given_push, state_push}

-- a call that does nothing to this file
pub record Quiet (file : ℕ) (call : Call) : Type 0 where
  pub same : (s : FileState) → after file s call ≡ s

-- a file whose state stays, stays
pub stays_same : (first : Files) (calls calls' : List Call) (file : ℕ) → state_after file first calls' ≡ state_after file first calls
    → Stays (Some (seen_after first calls file)) (Some (seen_after first calls' file)) (image_after first calls file) (image_after first calls' file)
stays_same first calls calls' file same = record {
  read = ap (λ s. s.now) same;
  only = λ bytes image. subst (λ s. IsImage s bytes) same image;
  all = λ told bytes image. subst (λ s. IsImage s bytes) (sym same) image;
}

pub stays_quiet : (first : Files) (calls : List Call) (call : Call) (file : ℕ) → Quiet file call
    → Stays (Some (seen_after first calls file)) (Some (seen_after first (calls ++ call ∷ []) file)) (image_after first calls file) (image_after first (calls ++ call ∷ []) file)
stays_quiet first calls call file quiet =
    stays_same first calls (calls ++ call ∷ []) file (state_push file first calls call ∙ quiet.same (state_after file first calls))

-- calls that change no file
pub quiet_take : (file asked : ℕ) (bytes : Option (List ℕ)) → Quiet file (Take asked bytes)
quiet_take file asked bytes = record { same = λ s. refl }

pub quiet_give : (file : ℕ) (piece : List ℕ) (n : Option ℕ) → Quiet file (Give piece n)
quiet_give file piece n = record { same = λ s. refl }

pub quiet_len : (file this : ℕ) (n : Option ℕ) → Quiet file (Len this n)
quiet_len file this n = record { same = λ s. refl }

pub quiet_read : (file this at asked : ℕ) (bytes : Option (List ℕ)) → Quiet file (ReadAt this at asked bytes)
quiet_read file this at asked bytes = record { same = λ s. refl }

and_false : (b : Bool) → (b && false) ≡ false
and_false true = refl
and_false false = refl

pub quiet_failed_sync : (file this : ℕ) → Quiet file (Sync this false)
quiet_failed_sync file this = record { same = λ s. rw (and_false (this == file)) refl }

-- and calls of another file
pub quiet_write : (file this at : ℕ) (bytes : List ℕ) (done : Bool) → file ≢ this → Quiet file (WriteAt this at bytes done)
quiet_write file this at bytes done other = record { same = λ s. rw (ne_eqb this file (λ e. other (sym e))) refl }

pub quiet_cut : (file this len : ℕ) (done : Bool) → file ≢ this → Quiet file (Cut this len done)
quiet_cut file this len done other = record { same = λ s. rw (ne_eqb this file (λ e. other (sym e))) refl }

pub quiet_sync : (file this : ℕ) (done : Bool) → file ≢ this → Quiet file (Sync this done)
quiet_sync file this done other = record { same = λ s. rw (ne_eqb this file (λ e. other (sym e))) refl }

-- a call that is done to its own file
pub state_written : (first : Files) (calls : List Call) (file at : ℕ) (bytes : List ℕ) (done : Bool)
    → state_after file first (calls ++ WriteAt file at bytes done ∷ []) ≡ written (state_after file first calls) at bytes done
state_written first calls file at bytes done = state_push file first calls (WriteAt file at bytes done) ∙ rw (eq-eqb file file refl) refl

pub state_cut : (first : Files) (calls : List Call) (file len : ℕ) (done : Bool)
    → state_after file first (calls ++ Cut file len done ∷ []) ≡ cut_to (state_after file first calls) len done
state_cut first calls file len done = state_push file first calls (Cut file len done) ∙ rw (eq-eqb file file refl) refl

pub state_synced : (first : Files) (calls : List Call) (file : ℕ)
    → state_after file first (calls ++ Sync file true ∷ []) ≡ synced (seen_after first calls file)
state_synced first calls file = state_push file first calls (Sync file true) ∙ rw (eq-eqb file file refl) refl

-- what a crash may leave after a write, a cut and a sync
pub follows_write : (told : Type 0) (first : Files) (calls : List Call) (file at : ℕ) (bytes : List ℕ) (done : Bool) → at ≤ length (seen_after first calls file)
    → Follows told (Torn at (length bytes)) (image_after first calls file) (image_after first (calls ++ WriteAt file at bytes done ∷ []) file)
follows_write told first calls file at bytes done within = rw (state_written first calls file at bytes done) (record {
  only = λ c image. torn_only (state_after file first calls) at bytes done (sane_state file first calls) within c image;
  all = λ h d c image torn. torn_all (state_after file first calls) at bytes done within d c image torn;
})

pub follows_cut : (told : Type 0) (first : Files) (calls : List Call) (file len : ℕ) (done : Bool)
    → Follows told (CutBack len) (image_after first calls file) (image_after first (calls ++ Cut file len done ∷ []) file)
follows_cut told first calls file len done = rw (state_cut first calls file len done) (record {
  only = λ c image. cut_only (state_after file first calls) len done (sane_state file first calls) c image;
  all = λ h d c image back. cut_all (state_after file first calls) len done d c image back;
})

pub safe_sync : (first : Files) (calls : List Call) (file : ℕ)
    → IsSafe (Some (seen_after first (calls ++ Sync file true ∷ []) file)) (image_after first (calls ++ Sync file true ∷ []) file)
safe_sync first calls file bytes image =
    let e = state_synced first calls file in
    let now : IsImage (synced (seen_after first calls file)) bytes = subst (λ s. IsImage s bytes) e image in
    ap Some (ap (λ s. s.now) e ∙ sym (image_of_synced (seen_after first calls file) bytes now))

-- the images of a file after a sync are among those before it
pub sync_only : (first : Files) (calls : List Call) (file : ℕ) (bytes : List ℕ)
    → image_after first (calls ++ Sync file true ∷ []) file bytes → image_after first calls file bytes
sync_only first calls file bytes image =
    let e = state_synced first calls file in
    let now : IsImage (synced (seen_after first calls file)) bytes = subst (λ s. IsImage s bytes) e image in
    subst (image_after first calls file) (sym (image_of_synced (seen_after first calls file) bytes now))
    (now_is_image (state_after file first calls) (sane_state file first calls))

-- time goes on, of a host's parts
pub record Passes (told : Type 0) (before now : ℕ) (past since : ℕ → Files → ℕ → Type 0) (image : ℕ → List ℕ → Type 0) (stamp stamp' : ℕ) : Type 0 where
  pub later : before ≤ now
  pub nothing_else : (t : ℕ) (files : Files) (s : ℕ) → t ≤ before → since t files s → past t files s ⊎ (AreImages image files × (stamp ≤ s) × (s ≤ stamp'))
  pub keeps : told → (t : ℕ) (files : Files) (s : ℕ) → t ≤ before → past t files s → since t files s

pub elapses : (v w : View) → Passes (TellsFiles w.seen) v.moment w.moment v.since w.since w.image v.stamp w.stamp → Elapses v w
elapses v w passes = record { later = passes.later; nothing_else = passes.nothing_else; keeps = passes.keeps }

-- time goes on in a call that is noted
pub time_noted : (told : Type 0) (first : Files) (calls : List Call) (call : Call)
    → Passes told (length calls) (length (calls ++ call ∷ [])) (left_since first calls) (left_since first (calls ++ call ∷ []))
    (image_after first (calls ++ call ∷ [])) (length (given_in calls)) (length (given_in (calls ++ call ∷ [])))
time_noted told first calls call =
    let more : List Call = calls ++ call ∷ [] in
    let len : length more ≡ length calls + 1 = length-append calls (call ∷ []) in
    let grows : length (given_in calls) ≤ length (given_in more) = rw (given_push calls call, length-append) (omega arith) in
    record {
      later = omega (arith, len);
      nothing_else = λ t files s before (k, since, within, images, stamp). elim (cases_lt (length calls) k) [
        | inl last ↦
            let all : take k more ≡ more = take_all k more (omega (arith, len, last)) in
            let now : s ≡ length (given_in more) = stamp ∙ ap (λ cs. length (given_in cs)) all in
            inr (rw all at images, rw now grows, rw now (omega arith))
        | inr earlier ↦
            let same : take k more ≡ take k calls = take-append-le k calls (call ∷ []) earlier in
            inl (k, since, earlier, rw same at images, stamp ∙ ap (λ cs. length (given_in cs)) same)
      ];
      keeps = λ h t files s before (k, since, within, images, stamp).
          let same : take k more ≡ take k calls = take-append-le k calls (call ∷ []) within in
          (k, since, omega (arith, len, within), rw same images, stamp ∙ ap (λ cs. length (given_in cs)) (sym same));
    }

-- and stands in one that isn't
pub time_stands : (told : Type 0) (first : Files) (calls : List Call)
    → Passes told (length calls) (length calls) (left_since first calls) (left_since first calls) (image_after first calls) (length (given_in calls)) (length (given_in calls))
time_stands told first calls = record {
  later = omega arith;
  nothing_else = λ t files s before since. inl since;
  keeps = λ h t files s before since. since;
}

which : {L D : Type 0} (b : Bool) → (IsTrue b → L) → (IsFalse b → D) → L ⊎ D
which true l d = inl (l refl)
which false l d = inr (d refl)

-- a call is past the room, listed or done
pub three : {P L D : Type 0} (r : Recording) (n : ℕ) (listed : Bool)
    → ((HasRoom r n → ⊥) → P) → (HasRoom r n → IsTrue listed → L) → (HasRoom r n → IsFalse listed → D) → P ⊎ (L ⊎ D)
three r n listed past fail done = elim (cases_lt r.room (cost r.calls + 64 + n)) [
  | inl more ↦ inl (past (λ fits. absurd (omega (arith, more, fits))))
  | inr fits ↦ inr (which listed (fail fits) (done fits))
]

-- nothing done is a write of which no part was done, and a cut that left the file as it was
pub torn_none : (at n : ℕ) (bytes : List ℕ) → Torn at n bytes bytes
torn_none at n bytes = record { before = refl; behind = refl; no_shorter = omega arith; no_longer = omega arith }

pub cut_back_none : (n : ℕ) (bytes : List ℕ) → CutBack n bytes bytes
cut_back_none n bytes = record { front = refl; no_longer = omega arith }

pub cut_part_none : (n : ℕ) (bytes : List ℕ) → n ≤ length bytes → CutPart n bytes bytes
cut_part_none n bytes le = record { front = sym (take-length bytes); no_shorter = le; no_longer = omega arith }

-- where nothing was done, a crash leaves what it might have left before
pub follows_none : {told : Type 0} {step : List ℕ → List ℕ → Type 0} (image : List ℕ → Type 0) → (told → ⊥) → ((bytes : List ℕ) → step bytes bytes) → Follows told step image image
follows_none image untold same = record { only = λ c now. (c, now, same c); all = λ h d c was step. absurd (untold h) }

-- a call that gives nothing leaves the sink, and one that takes nothing the input
pub sink_stays : (calls : List Call) (call : Call) → gives call ≡ [] → given_in (calls ++ call ∷ []) ≡ given_in calls
sink_stays calls call none = given_push calls call ∙ rw none (append-nil (given_in calls))

pub input_stays : (input : List ℕ) (calls : List Call) (call : Call) → takes call ≡ 0 → left_after input (calls ++ call ∷ []) ≡ left_after input calls
input_stays input calls call none = ap (λ n. drop n input) (sum_by_push takes calls call ∙ omega (arith, none))

-- the journal of a host that tells gains the call
pub gains_noted : (tells : Bool) (calls : List Call) (call : Call) → Gains (if tells then Some calls else None) (if tells then Some (calls ++ call ∷ []) else None) call
gains_noted true calls call = refl
gains_noted false calls call = tt

pub gains_stopped : (tells : Bool) (calls : List Call) (call : Call) → Gains (if tells then Some calls else None) None call
gains_stopped true calls call = tt
gains_stopped false calls call = tt

-- which is one of the disk
pub one_noted : (tells : Bool) (calls : List Call) (call : Call) → IsOfDisk call
    → Extends (if tells then Some calls else None) (if tells then Some (calls ++ call ∷ []) else None) (All IsOfDisk)
one_noted true calls call is = (call ∷ [], refl, All-cons IsOfDisk call [] is (All-nil IsOfDisk))
one_noted false calls call is = tt

pub one_stopped : (tells : Bool) (calls : List Call) (call : Call) → IsOfDisk call → Extends (if tells then Some calls else None) None (All IsOfDisk)
one_stopped true calls call is = tt
one_stopped false calls call is = tt

pub one_gone : (past : Bool) (calls : List Call) (call : Call) → IsOfDisk call → Extends (if past then None else Some calls) None (All IsOfDisk)
one_gone true calls call is = tt
one_gone false calls call is = tt

pub one_done : (calls : List Call) (call : Call) → IsOfDisk call → Extends (Some calls) (Some (calls ++ call ∷ [])) (All IsOfDisk)
one_done calls call is = (call ∷ [], refl, All-cons IsOfDisk call [] is (All-nil IsOfDisk))

-- one fault more
pub one_more_rose : (count : ℕ) → Rose count (one_more count)
one_more_rose count lt = rw (lt-ltb count (2 ^ 64 - 1) lt) (omega arith)

stands : (b : Bool) (count : ℕ) → count ≤ (if b then count + 1 else count)
stands true count = omega arith
stands false count = omega arith

pub one_more_stands : (count : ℕ) → count ≤ one_more count
one_more_stands count = stands (nat_lt count (2 ^ 64 - 1)) count

-- a `take` takes off the bytes that it gives
pub taken_off : (input : List ℕ) (calls : List Call) (asked n : ℕ) (buffer : List ℕ) → n ≤ length buffer → take n buffer ≡ take n (left_after input calls)
    → left_after input calls ≡ take n buffer ++ left_after input (calls ++ Take asked (Some (take n buffer)) ∷ [])
taken_off input calls asked n buffer within bytes =
    let call : Call = Take asked (Some (take n buffer)) in
    let sum : sum_by takes (calls ++ call ∷ []) ≡ sum_by takes calls + n = sum_by_push takes calls call ∙ ap (λ k. sum_by takes calls + k) (length-take-le n buffer within) in
    let rest : left_after input (calls ++ call ∷ []) ≡ drop n (left_after input calls) = ap (λ k. drop k input) sum ∙ sym (drop-drop n (sum_by takes calls) input) in
    sym (rw (rest, bytes) (take-append-drop n (left_after input calls)))

-- and none only where none is left
pub none_left : (input : List ℕ) (calls : List Call) (room : ℕ) → min room (length (left_after input calls)) ≡ 0 → 0 < room → left_after input calls ≡ []
none_left input calls room none some = nil_from_length (left_after input calls) (omega (arith, none, some))

-- nothing is a front of a piece
pub nothing_added : (given piece : List ℕ) → (more : List ℕ) × (given ≡ given ++ more) × IsFrontOf more piece
nothing_added given piece = ([], sym (append-nil given), (piece, refl))

-- a `give` makes the stamp no less
pub stamp_grows : (calls : List Call) (call : Call) → length (given_in calls) ≤ length (given_in (calls ++ call ∷ []))
stamp_grows calls call = rw (given_push calls call, length-append) (omega arith)

-- a host without faults is past its room, or within it
pub two : {P D : Type 0} (past : Bool) (r : Recording) (n : ℕ)
    → (IsTrue past ⊎ (HasRoom r n → ⊥) → P) → (IsFalse past → HasRoom r n → D) → P ⊎ (IsFalse past × D)
two true r n gone done = inl (gone (inl refl))
two false r n gone done = elim (cases_lt r.room (cost r.calls + 64 + n)) [
  | inl more ↦ inl (gone (inr (λ fits. absurd (omega (arith, more, fits)))))
  | inr fits ↦ inr (refl, done refl fits)
]

-- past the room nothing is told
pub told_none : {A : Type 0} (b : Bool) (x : A) (P : A → A → Type 0) → Told (if b then None else Some x) None P
told_none true x P = tt
told_none false x P = tt

pub gains_gone : (b : Bool) (calls : List Call) (call : Call) → Gains (if b then None else Some calls) None call
gains_gone true calls call = tt
gains_gone false calls call = tt

pub gone_stays : (b : Bool) (x : List ℕ) (image : List ℕ → Type 0) → Stays (if b then None else Some x) None image (λ _. ⊥)
gone_stays b x image = record { read = told_none b x (λ y z. z ≡ y); only = λ bytes none. absurd none; all = λ some bytes was. absurd (false≢true some) }

pub gone_follows : {told : Type 0} {step : List ℕ → List ℕ → Type 0} (image : List ℕ → Type 0) → (told → ⊥) → Follows told step image (λ _. ⊥)
gone_follows image untold = record { only = λ c none. absurd none; all = λ h d c was step. absurd (untold h) }

pub gone_time : {told : Type 0} (moment stamp : ℕ) (past : ℕ → Files → ℕ → Type 0) (image : ℕ → List ℕ → Type 0) → (told → ⊥)
    → Passes told moment moment past (λ _ _ _. ⊥) image stamp stamp
gone_time moment stamp past image untold = record {
  later = omega arith;
  nothing_else = λ t files s before none. absurd none;
  keeps = λ h t files s before was. absurd (untold h);
}

-- a condition on what is told, where it is told
pub condition : (b : Bool) (x : List ℕ) (P : List ℕ → Type 0) → IsFalse b → IfSome (if b then None else Some x) P → P x
condition true x P no_ holds = absurd (true≢false no_)
condition false x P yes_ holds = holds
