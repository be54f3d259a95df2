-- A store is opened: what its calls give together.
use Rattle.std.proofs.Common.{ℕ, zero, suc, ◌≡◌, ◌≢◌, ◌<◌, ◌≤◌, List, [], length, Option, Some, None, refl, sym, ap, subst, inl, inr, ◌∙◌, arith}
use Rattle.std.proofs.lemmas.Bool.{cases_eq, false≢true}
use Rattle.std.specs.Prelude.{IfSome, IsSome}
use Rattle.kh_io.specs.declared.files.Files.{Files}
use Rattle.kh_io.specs.Told.{Told, Kept}
use Rattle.kh_io.specs.Disk.{file_of, TellsFiles}
use Rattle.kh_io.specs.View.{View}
use Rattle.kh_io.specs.Frames.{FilesStay, OthersStay, FilesTold, OfView, During, Leaves}
use Rattle.kh_io.proofs.{both, weakened, told_both}
use Rattle.kh_log.specs.declared.error.LogError.{LogError}
use Rattle.kh_log.specs.declared.error.LogError.TheVariants as log_error
use Rattle.kh_store.specs.declared.store.OpenError.TheVariants as open_error
use Rattle.kh_log.specs.Records.{Content, content_of, records_of, lacking_in, log_of, span, IsClosedAt}
use Rattle.kh_log.specs.Log.{Place, Holds}
use Rattle.kh_log.proofs.{content_of-short, nothing_ends}
use Rattle.kh_store.specs.State.{empty}
use Rattle.kh_store.specs.Recovery.{Recovery, Damaged, Replays, ReplaysUnless, Recovers}
use Rattle.kh_store.specs.Store.{IsShort, StaysOrShort, Begun, IsOrShort, Opening}
use Rattle.kh_store.specs.Opening.{WasShort, opening_error}

-- ---- what a crash leaves

-- what a crash at entry might have left
pub of_entry : (v : View) {was_short : Type 0} (files : Files) (s : ℕ) → OfView v files s → Leaves 1 (IsOrShort (v.image 1) was_short) v files s
of_entry v files s of = record { own = inl (of.images 1 (omega arith)); others = λ other lt not. of.images other lt; stamp = of.stamp }

-- while an empty log is written, behind a call that leaves the files
pub short_then : (u v : View) {was_short : Type 0} → FilesStay u v → v.stamp ≡ u.stamp → (IsSome (v.seen 1) → was_short) → (files : Files) (s : ℕ)
    → Leaves 1 (λ bytes. IsSome (v.seen 1) × IsShort bytes) v files s → Leaves 1 (IsOrShort (u.image 1) was_short) u files s
short_then u v stay same was files s left = record {
  own = inr (left.own.1, was left.own.0);
  others = λ other lt not. (stay other lt).only (file_of files other) (left.others other lt not);
  stamp = left.stamp ∙ same;
}

was_short_before : (a b : Option (List ℕ)) → Kept a b → WasShort b → IfSome a IsShort
was_short_before (Some x) (Some y) kept short = omega (arith, short, ap length kept)
was_short_before None b kept short = tt
was_short_before a None kept short = absurd short

-- while a log is begun, once the files were made safe
pub begins : (u v : View) → Kept (u.seen 1) (v.seen 1) → ((file : ℕ) → file < 4 → (bytes : List ℕ) → v.image file bytes → u.image file bytes) → v.stamp ≡ u.stamp
    → (files : Files) (s : ℕ) → Leaves 1 (IsOrShort (v.image 1) (WasShort (v.seen 1))) v files s → Opening u files s
begins u v kept only same files s left = record {
  own = elim left.own [
    | inl there ↦ inl (only 1 (omega arith) files.l0 there)
    | inr short ↦ inr (short.0, was_short_before (u.seen 1) (v.seen 1) kept short.1)
  ];
  others = λ other lt not. only other lt (file_of files other) (left.others other lt not);
  stamp = left.stamp ∙ same;
}

-- and once it was begun
begun_left : (u v w : View) → Kept (u.seen 1) (v.seen 1) → ((file : ℕ) → file < 4 → (bytes : List ℕ) → v.image file bytes → u.image file bytes) → v.stamp ≡ u.stamp
    → ((bytes : List ℕ) → w.image 1 bytes → IsOrShort (v.image 1) (WasShort (v.seen 1)) bytes) → OthersStay 1 v w → w.stamp ≡ v.stamp
    → (files : Files) (s : ℕ) → OfView w files s → Opening u files s
begun_left u v w kept only same here others same' files s of =
    begins u v kept only same files s (record {
      own = here files.l0 (of.images 1 (omega arith));
      others = λ other lt not. (others other lt not).only (file_of files other) (of.images other lt);
      stamp = of.stamp ∙ same';
    })

-- a log was begun, and the files are read
pub opens : (u v w x : View) → During (OfView u) u v → During (Leaves 1 (IsOrShort (v.image 1) (WasShort (v.seen 1))) v) v w → During (OfView w) w x
    → Kept (u.seen 1) (v.seen 1) → ((file : ℕ) → file < 4 → (bytes : List ℕ) → v.image file bytes → u.image file bytes) → v.stamp ≡ u.stamp
    → ((bytes : List ℕ) → w.image 1 bytes → IsOrShort (v.image 1) (WasShort (v.seen 1)) bytes) → OthersStay 1 v w → w.stamp ≡ v.stamp
    → During (Opening u) u x
opens u v w x made begun read kept only same here others same' =
    both (both (weakened made (of_entry u)) begun (begins u v kept only same)) read (begun_left u v w kept only same here others same')

-- ---- what is told

pub told_back : (P : List ℕ → List ℕ → Type 0) (a b : Option (List ℕ)) → Told a b P → IsSome b → IsSome a
told_back P (Some x) b told some = refl
told_back P None (Some y) told some = absurd told
told_back P None None told some = some

content_there : (a : Option (List ℕ)) → IsSome a → (bytes : List ℕ) × (a ≡ Some bytes)
content_there (Some bytes) some = (bytes, refl)
content_there None some = absurd (false≢true some)

-- the files that are told
pub files_there : (seen : ℕ → Option (List ℕ)) → TellsFiles seen → (files : Files) × ((file : ℕ) → file < 4 → seen file ≡ Some (file_of files file))
files_there seen tells =
    let s0 = content_there (seen 0) (tells 0 (omega arith)) in
    let l0 = content_there (seen 1) (tells 1 (omega arith)) in
    let s1 = content_there (seen 2) (tells 2 (omega arith)) in
    let l1 = content_there (seen 3) (tells 3 (omega arith)) in
    let files : Files = record { s0 = s0.0; l0 = l0.0; s1 = s1.0; l1 = l1.0 } in
    (files, each files s0.1 l0.1 s1.1 l1.1)
  where
    each : (files : Files) → seen 0 ≡ Some files.s0 → seen 1 ≡ Some files.l0 → seen 2 ≡ Some files.s1 → seen 3 ≡ Some files.l1
        → (file : ℕ) → file < 4 → seen file ≡ Some (file_of files file)
    each files a b c d zero lt = a
    each files a b c d (suc zero) lt = b
    each files a b c d (suc (suc zero)) lt = c
    each files a b c d (suc (suc (suc zero))) lt = d
    each files a b c d (suc (suc (suc (suc file)))) lt = absurd (omega (arith, lt))

pub of_told : (Q : List ℕ → Type 0) (a b : Option (List ℕ)) (bytes : List ℕ) → a ≡ Some bytes → IsSome b → Told a b (λ was _. Q was) → Q bytes
of_told Q (Some x) (Some y) bytes same some told = let is : x ≡ bytes = cc in subst Q is told
of_told Q (Some x) None bytes same some told = absurd (false≢true some)
of_told Q None b bytes same some told = absurd cc

-- what is told once a log was begun was told before
pub begun_back : (v w : View) → Told (v.seen 1) (w.seen 1) (λ _ _. Unit {0}) → OthersStay 1 v w → (file : ℕ) → file < 4 → IsSome (w.seen file) → IsSome (v.seen file)
begun_back v w own others file lt some = elim (cases_eq file 1) [
  | inl one ↦ subst (λ f. IsSome (w.seen f) → IsSome (v.seen f)) (sym one) (told_back _ (v.seen 1) (w.seen 1) own) some
  | inr other ↦ told_back _ (v.seen file) (w.seen file) (others file lt other).read some
]

-- a fact of file 1 at entry is one of the files
pub files_told : (v w : View) (Q : List ℕ → Type 0) (P : Files → Type 0) → (TellsFiles w.seen → TellsFiles v.seen)
    → Told (v.seen 1) (w.seen 1) (λ was _. Q was) → ((files : Files) → Q files.l0 → P files) → FilesTold v w P
files_told v w Q P back told is = record {
  told = λ tells.
      let there = files_there v.seen (back tells) in
      (there.0, there.1, is there.0 (of_told Q (v.seen 1) (w.seen 1) there.0.l0 (there.1 1 (omega arith)) (tells 1 (omega arith)) told));
}

-- what a read gave at entry, through the steps of an opening
pub kept_then : (a b c : Option (List ℕ)) → Kept a b → Told b c StaysOrShort → Told a c StaysOrShort
kept_then a b c kept stays = told_both a b c kept stays (λ x y z same q. subst (λ (was : List ℕ). StaysOrShort was z) same q)

pub then_kept : (a b c : Option (List ℕ)) → Told a b StaysOrShort → Kept b c → Told a c StaysOrShort
then_kept a b c stays kept = told_both a b c stays kept (λ x y z q same. subst (StaysOrShort x) (sym same) q)

-- ---- the log

-- a log that is begun has what the file held
begun_content : (was now : List ℕ) → Begun was now → content_of now ≡ content_of was
begun_content was now begun = elim begun [
  | inl there ↦ ap content_of there.1
  | inr short ↦ ap content_of short.1 ∙ nothing_ends.content ∙ sym (content_of-short was short.0)
]

-- a log was begun, over calls before and behind that leave it
pub begun_between : (a b c d : Option (List ℕ)) → Kept a b → Told b c Begun → Kept c d → Told a d Begun
begun_between a b c d kept begun kept' = told_both a c d (told_both a b c kept begun (λ x y z p q. subst (λ (w : List ℕ). Begun w z) p q)) kept'
    (λ x z u p q. subst (Begun x) (sym q) p)

-- what file 1 held at entry, seen in the file that a log was begun in
pub content_before : (a b c : Option (List ℕ)) → Kept a b → Told b c Begun → Told a c (λ was now. content_of now ≡ content_of was)
content_before a b c kept begun = told_both a b c kept begun (λ x y z p q. begun_content y z q ∙ ap content_of p)

pub lacking_before : (a b c : Option (List ℕ)) (offset : ℕ) → Told a b (λ was now. content_of now ≡ content_of was)
    → Told b c (λ was _. lacking_in was ≡ Some offset) → Told a c (λ was _. lacking_in was ≡ Some offset)
lacking_before a b c offset same lacks = told_both a b c same lacks (λ x y z p q. ap (λ (k : Content). k.lacking) (sym p) ∙ q)

-- the records of the log are what the files recover to
pub replays_before : (a b c d : Option (List ℕ)) (log : Place) (end : Recovery) → Told a b (λ was now. content_of now ≡ content_of was)
    → Kept b c → Told b c (λ was _. Holds log was) → Told c d (λ was _. Replays empty (records_of was) end)
    → Told a d (λ was _. ReplaysUnless (lacking_in was) (records_of was) end)
replays_before (Some x) (Some y) (Some z) (Some u) log end same kept holds replays =
    subst (λ (k : Content). ReplaysUnless k.lacking k.records end) same
    (subst (λ l. ReplaysUnless l (records_of y) end) (sym holds.none_lacks) (subst (λ (l : List ℕ). Replays empty (records_of l) end) kept replays))
replays_before None (Some y) c d log end same kept holds replays = absurd same
replays_before a None (Some z) d log end same kept holds replays = absurd kept
replays_before a b None (Some u) log end same kept holds replays = absurd replays
replays_before (Some x) b c None log end same kept holds replays = tt
replays_before None None c None log end same kept holds replays = tt

-- why the log wasn't opened
pub lacks_at : (e : LogError) (file offset : ℕ) → opening_error e ≡ open_error.Damaged file offset → (e ≡ log_error.NotALog offset) × (file ≡ 1)
lacks_at log_error.DiskFault file offset is = absurd cc
lacks_at (log_error.NotALog o) file offset is = (let same : o ≡ offset = cc in ap log_error.NotALog same, cc)
lacks_at log_error.NoMemory file offset is = absurd cc

-- the last gate of a log that was begun is closed
closed_begun : (log : Place) (was now : List ℕ) → Begun was now → Holds log now → (2 ≤ length now → IsClosedAt log.last now) → IsClosedAt log.last now
closed_begun log was now begun holds closed = elim begun [
  | inl there ↦ closed (omega (arith, there.0, ap length there.1))
  | inr short ↦
      let first : log.last ≡ 0 = holds.last ∙ ap (λ (l : List ℕ). span (records_of l)) short.1 ∙ ap (λ (k : Content). span k.records) nothing_ends.content in
      subst (IsClosedAt log.last) (sym short.1) (subst (λ n. IsClosedAt n (log_of [])) (sym first) nothing_ends.gate)
]

pub closed_there : (a b c d : Option (List ℕ)) (log : Place) (last : ℕ) → Told a b Begun → Kept b c → Told b c (λ was _. Holds log was)
    → Told b c (λ was _. 2 ≤ length was → IsClosedAt log.last was) → Kept c d → last ≡ log.last → IfSome d (IsClosedAt last)
closed_there (Some x) (Some y) (Some z) (Some u) log last begun kept holds closed again same =
    subst (λ n. IsClosedAt n u) (sym same) (subst (IsClosedAt log.last) (sym (again ∙ kept)) (closed_begun log x y begun holds closed))
closed_there None (Some y) c d log last begun kept holds closed again same = absurd begun
closed_there a None (Some z) d log last begun kept holds closed again same = absurd kept
closed_there a b None (Some u) log last begun kept holds closed again same = absurd again
closed_there a b c None log last begun kept holds closed again same = tt

-- a fact of what was told is one of what is told still
pub there_still : (P : List ℕ → Type 0) (a b : Option (List ℕ)) → Kept a b → Told a b (λ was _. P was) → IfSome b P
there_still P (Some x) (Some y) kept told = subst P (sym kept) told
there_still P None (Some y) kept told = absurd kept
there_still P a None kept told = tt

pub lacks_recovers : (files : Files) (file offset : ℕ) → lacking_in files.l0 ≡ Some offset → file ≡ 1 → Recovers files (Damaged file offset)
lacks_recovers files file offset lacks one =
    subst (λ (l : Option ℕ). ReplaysUnless l (records_of files.l0) (Damaged file offset)) (sym lacks) (ap (λ f. Damaged f offset) one)
