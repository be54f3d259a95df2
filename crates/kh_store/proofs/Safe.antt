-- Files that a crash leaves as a read gives them, and a log that is begun in one.
use Rattle.std.proofs.Common.{ℕ, ◌≡◌, ◌≢◌, ◌<◌, List, length, Option, Some, None, refl, sym, ap, subst, ◌∙◌, inl, inr, arith}
use Rattle.std.proofs.lemmas.Bool.{cases_eq, false≢true}
use Rattle.std.specs.Prelude.{IsSome}
use Rattle.kh_io.specs.declared.files.Files.{Files}
use Rattle.kh_io.specs.Told.{Told, Kept}
use Rattle.kh_io.specs.Disk.{file_of, Torn, CutBack, Follows, AreImages, IsSafe}
use Rattle.kh_io.specs.View.{View}
use Rattle.kh_io.specs.Frames.{FilesStay, OthersStay, AreSafe, Leaves}
use Rattle.kh_store.specs.Store.{IsShort}
use Rattle.kh_store.specs.Opening.{WasShort}

-- what was told and is told still
pub still_told : (a b : Option (List ℕ)) (bytes : List ℕ) → a ≡ Some bytes → Kept a b → (b ≡ None → ⊥) → b ≡ Some bytes
still_told (Some x) (Some y) bytes same kept told = ap Some kept ∙ same
still_told None (Some y) bytes same kept told = absurd kept
still_told a None bytes same kept told = absurd (told refl)

-- a file of which a read gives what it gave, and a crash leaves nothing more, is as safe as it was
pub still_safe : {a b : Option (List ℕ)} {i j : List ℕ → Type 0} → IsSafe a i → Kept a b → ((bytes : List ℕ) → j bytes → i bytes)
    → ((bytes : List ℕ) → b ≡ None → j bytes → ⊥) → IsSafe b j
still_safe {a} {b} safe kept only untold bytes there = still_told a b bytes (safe bytes (only bytes there)) kept (λ none. untold bytes none there)

-- a crash leaves nothing of a file that isn't told
abbrev pub NoneUntold : View → Type 0
NoneUntold v = (file : ℕ) (bytes : List ℕ) → file < 4 → v.seen file ≡ None → v.image file bytes → ⊥

-- all files are safe after a call that leaves them
pub all_safe : (v w : View) → AreSafe v → FilesStay v w → NoneUntold w → AreSafe w
all_safe v w safe stay untold file lt = still_safe (safe file lt) (stay file lt).read (stay file lt).only (λ bytes. untold file bytes lt)

-- and after calls that write file 1 alone, where that is safe
pub log_safe : (v w : View) → AreSafe v → OthersStay 1 v w → IsSafe (w.seen 1) (w.image 1) → NoneUntold w → AreSafe w
log_safe v w safe others log untold file lt = elim (cases_eq file 1) [
  | inl one ↦ subst (λ f. IsSafe (w.seen f) (w.image f)) (sym one) log
  | inr other ↦ still_safe (safe file lt) (others file lt other).read (others file lt other).only (λ bytes. untold file bytes lt)
]

-- a file of which something is left is told
pub told_if_left : (seen : Option (List ℕ)) → (seen ≡ None → ⊥) → IsSome seen
told_if_left (Some bytes) told = refl
told_if_left None told = absurd (told refl)

-- what a crash leaves is too short for a log, and only where the file was told
abbrev pub OnlyShort : Option (List ℕ) → (List ℕ → Type 0) → Type 0
OnlyShort seen image = (bytes : List ℕ) → image bytes → IsSome seen × IsShort bytes

-- so it is after a cut, and after a write of one byte at the start
pub short_cut : {told : Type 0} {n : ℕ} {image image' : List ℕ → Type 0} (seen : Option (List ℕ)) → OnlyShort seen image
    → Follows told (CutBack n) image image' → OnlyShort seen image'
short_cut seen short follows bytes there =
    let was = follows.only bytes there in
    let before = short was.0 was.1 in
    (before.0, omega (arith, before.1, was.2.no_longer))

pub short_written : {told : Type 0} {image image' : List ℕ → Type 0} (seen : Option (List ℕ)) → OnlyShort seen image
    → Follows told (Torn 0 1) image image' → OnlyShort seen image'
short_written seen short follows bytes there =
    let was = follows.only bytes there in
    let before = short was.0 was.1 in
    (before.0, omega (arith, before.1, was.2.no_longer))

-- what a crash leaves while file 1 is so short, from the view v on, where w is now
pub left_short : (v w : View) → OnlyShort (v.seen 1) (w.image 1) → OthersStay 1 v w → (files : Files) (s : ℕ) → AreImages w.image files → s ≡ v.stamp
    → Leaves 1 (λ bytes. IsSome (v.seen 1) × IsShort bytes) v files s
left_short v w short others files s images stamp = record {
  own = short files.l0 (images 1 (omega arith));
  others = λ other lt not. (others other lt not).only (file_of files other) (images other lt);
  stamp = stamp;
}

-- a file was short where its length was told so
pub was_short : (a b : Option (List ℕ)) (n : ℕ) → Told a b (λ bytes _. n ≡ length bytes) → n < 2 → IsSome b → WasShort a
was_short (Some x) (Some y) n is lt told = omega (arith, is, lt)
was_short None (Some y) n is lt told = absurd is
was_short a None n is lt told = absurd (false≢true told)
