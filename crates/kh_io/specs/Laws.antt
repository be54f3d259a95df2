-- The laws of a host in memory.
use Rattle.std.specs.Prelude.{◌≡◌, ℕ, ◌+◌, ◌-◌, ◌≤◌, min, Bool, true, false, ◌&&◌, if◌then◌else◌, ◌==◌, List, [], ◌∷◌, length, take, fold, refl, Some, None, Option, MatchBool, is_some}
use Rattle.std.proofs.lemmas.Bool.{false≢true, true≢false}
use Rattle.kh_io.specs.Sound.{Sound, told, sound_image, sound_since}
use Rattle.std.proofs.Common.{arith, ◌∙◌, ap, subst, length-append, length-drop}
use Rattle.std.proofs.lemmas.List.{length-take, take_all}
use Rattle.kh_io.specs.declared.files.Files.{Files}
use Rattle.kh_io.specs.Call.{Call, Take, Give, Len, ReadAt, WriteAt, Cut, Sync}
use Rattle.kh_io.specs.Disk.{file_of, put, AreImages}
use Rattle.kh_io.specs.FileState.{FileState, synced, written, cut_to, after, state_after, IsImage}
use Rattle.kh_io.specs.View.{View}
use Rattle.kh_io.specs.Frames.{OfView}
use Rattle.kh_io.specs.Recording.{given_in, seen_after, image_after, left_since}

-- what a read gives has a length between the least and the greatest
pub record Sane (s : FileState) : Type 0 where
  pub least : s.least ≤ length s.now
  pub most : length s.now ≤ s.most

-- what a read gives is an image
pub now_is_image : (s : FileState) → Sane s → IsImage s s.now
now_is_image s sane = record { no_shorter = sane.least; no_longer = sane.most; others = λ i _. refl }

-- a file is sane after any calls
sane_written : (s : FileState) (at : ℕ) (bytes : List ℕ) (done : Bool) → Sane s → Sane (written s at bytes done)
sane_written s at bytes false sane = record { least = sane.least; most = omega (arith, sane.most) }
sane_written s at bytes true sane =
    let len : length (put s.now at bytes) ≡ min at (length s.now) + length bytes + (length s.now - (at + length bytes)) =
    grind (arith, length-append, length-take, length-drop) in
    record { least = rw len (omega (arith, sane.least)); most = rw len (omega (arith, sane.most)) }

sane_cut : (s : FileState) (len : ℕ) (done : Bool) → Sane s → Sane (cut_to s len done)
sane_cut s len false sane = record { least = omega (arith, sane.least); most = sane.most }
sane_cut s len true sane = record { least = rw length-take (omega (arith, sane.least)); most = rw length-take (omega (arith, sane.most)) }

sane_synced : (bytes : List ℕ) → Sane (synced bytes)
sane_synced bytes = record { least = omega arith; most = omega arith }

sane_if : (b : Bool) (s s' : FileState) → Sane s → Sane s' → Sane (if b then s' else s)
sane_if true s s' h h' = h'
sane_if false s s' h h' = h

pub sane_after : (file : ℕ) (s : FileState) (call : Call) → Sane s → Sane (after file s call)
sane_after file s (WriteAt this at bytes done) sane = sane_if (this == file) s (written s at bytes done) sane (sane_written s at bytes done sane)
sane_after file s (Cut this len done) sane = sane_if (this == file) s (cut_to s len done) sane (sane_cut s len done sane)
sane_after file s (Sync this done) sane = sane_if ((this == file) && done) s (synced s.now) sane (sane_synced s.now)
sane_after file s (Take asked bytes) sane = sane
sane_after file s (Give piece taken) sane = sane
sane_after file s (Len this len) sane = sane
sane_after file s (ReadAt this at asked bytes) sane = sane

sane_fold : (file : ℕ) (s : FileState) (calls : List Call) → Sane s → Sane (fold (after file) s calls)
sane_fold file s [] sane = sane
sane_fold file s (call ∷ calls) sane = sane_fold file (after file s call) calls (sane_after file s call sane)

pub sane_state : (file : ℕ) (first : Files) (calls : List Call) → Sane (state_after file first calls)
sane_state file first calls = sane_fold file (synced (file_of first file)) calls (sane_synced (file_of first file))

abbrev unwrap : {A : Type 0} → A → Option A → A
unwrap d (Some a) = a
unwrap d None = d

some_is : {A : Type 0} {a b : A} → Some a ≡ Some b → a ≡ b
some_is {A} {a} same = ap (unwrap a) same

-- what a read gives is one of the images
pub seen_is_left : (first : Files) (calls : List Call) (file : ℕ) (bytes : List ℕ)
    → Some (seen_after first calls file) ≡ Some bytes → image_after first calls file bytes
seen_is_left first calls file bytes same =
    subst (image_after first calls file) (some_is same) (now_is_image (state_after file first calls) (sane_state file first calls))

-- the stamp counts what is given
pub stamp_is : (given bytes : List ℕ) → Some given ≡ Some bytes → length given ≡ length bytes
stamp_is given bytes same = ap length (some_is same)

-- the moment after all calls is one of those since an earlier one
pub now_since : (first : Files) (calls : List Call) (t : ℕ) (files : Files) → t ≤ length calls
    → AreImages (image_after first calls) files → left_since first calls t files (length (given_in calls))
now_since first calls t files le images =
    let all : take (length calls) calls ≡ calls = take_all (length calls) calls (omega arith) in
    (length calls, le, omega arith, rw all images, rw all refl)

-- since the moment after all calls there is no other
pub since_now : (first : Files) (calls : List Call) (files : Files) (s : ℕ) → left_since first calls (length calls) files s
    → AreImages (image_after first calls) files × (s ≡ length (given_in calls))
since_now first calls files s (k, le, le', images, stamp) =
    let all : take k calls ≡ calls = take_all k calls le in
    (rw all at images, stamp ∙ ap (λ cs. length (given_in cs)) all)

pub now_of : (v : View) (files : Files) (s : ℕ) → AreImages v.image files × (s ≡ v.stamp) → OfView v files s
now_of v files s (images, stamp) = record { images = images; stamp = stamp }

none_not_some : {A : Type 0} {a : A} → None ≡ Some a → ⊥
none_not_some {A} same = false≢true (ap is_some same)

-- the same laws while a host tells
pub sound_seen_is_left : (s : Sound) (file : ℕ) (bytes : List ℕ)
    → told s (seen_after s.tape.first s.tape.calls file) ≡ Some bytes → sound_image s file bytes
sound_seen_is_left s file bytes same = elim s.past as (λ b.
    (if b then None else Some (seen_after s.tape.first s.tape.calls file)) ≡ Some bytes → MatchBool b ⊥ (image_after s.tape.first s.tape.calls file bytes)) [
      | true ↦ λ none. absurd (none_not_some none)
      | false ↦ λ yes. seen_is_left s.tape.first s.tape.calls file bytes yes
    ] same

pub sound_stamp_is : (s : Sound) (bytes : List ℕ) → told s (given_in s.tape.calls) ≡ Some bytes → length (given_in s.tape.calls) ≡ length bytes
sound_stamp_is s bytes same = elim s.past as (λ b.
    (if b then None else Some (given_in s.tape.calls)) ≡ Some bytes → length (given_in s.tape.calls) ≡ length bytes) [
      | true ↦ λ none. absurd (none_not_some none)
      | false ↦ λ yes. stamp_is (given_in s.tape.calls) bytes yes
    ] same

pub sound_now_since : (s : Sound) (t : ℕ) (files : Files) → t ≤ length s.tape.calls
    → AreImages (sound_image s) files → sound_since s t files (length (given_in s.tape.calls))
sound_now_since s t files le images = elim s.past as (λ b.
    AreImages (λ file bytes. MatchBool b ⊥ (image_after s.tape.first s.tape.calls file bytes)) files
    → MatchBool b ⊥ (left_since s.tape.first s.tape.calls t files (length (given_in s.tape.calls)))) [
      | true ↦ λ none. none 0 (omega arith)
      | false ↦ λ all. now_since s.tape.first s.tape.calls t files le all
    ] images

pub sound_since_now : (s : Sound) (files : Files) (stamp : ℕ) → sound_since s (length s.tape.calls) files stamp
    → AreImages (sound_image s) files × (stamp ≡ length (given_in s.tape.calls))
sound_since_now s files stamp left = elim s.past as (λ b.
    MatchBool b ⊥ (left_since s.tape.first s.tape.calls (length s.tape.calls) files stamp)
    → AreImages (λ file bytes. MatchBool b ⊥ (image_after s.tape.first s.tape.calls file bytes)) files × (stamp ≡ length (given_in s.tape.calls))) [
      | true ↦ λ none. absurd none
      | false ↦ λ some. since_now s.tape.first s.tape.calls files stamp some
    ] left

-- and of a host that tells nothing
pub untold_is_left : {A : Type 0} (bytes : List ℕ) → None ≡ Some bytes → A
untold_is_left bytes same = absurd (none_not_some same)

pub untold_images : {A : Type 0} (files : Files) → AreImages (λ _ _. ⊥) files → A
untold_images files none = absurd (none 0 (omega arith))

-- what is told isn't untold
pub some_not_none : {A : Type 0} {a : A} → Some a ≡ None → ⊥
some_not_none {A} same = true≢false (ap is_some same)

pub sound_untold : (s : Sound) (file : ℕ) (bytes : List ℕ) → told s (seen_after s.tape.first s.tape.calls file) ≡ None → sound_image s file bytes → ⊥
sound_untold s file bytes untold image = elim s.past as (λ b.
    (if b then None else Some (seen_after s.tape.first s.tape.calls file)) ≡ None → MatchBool b ⊥ (image_after s.tape.first s.tape.calls file bytes) → ⊥) [
      | true ↦ λ none left. left
      | false ↦ λ some left. absurd (some_not_none some)
    ] untold image
