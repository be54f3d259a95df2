-- What calls leave alone, for the crates above: over no call, over one, and over two, one behind the other.
use Rattle.std.proofs.Common.{◌≡◌, ◌≢◌, ◌⊎◌, ℕ, ◌+◌, ◌^◌, ◌<◌, ◌≤◌, List, [], ◌∷◌, ◌++◌, Option, Some, None, refl, sym, ap, subst, ◌∙◌, inl, inr, arith, append-nil}
use Rattle.std.specs.Prelude.{All, IsSome}
use Rattle.std.proofs.lemmas.List.Elements.{All-nil, All-cons, All-append}
use Rattle.kh_io.specs.declared.files.Files.{Files}
use Rattle.kh_io.specs.Call.{Call, IsOfDisk, IsAsking, Take, Give, Len, ReadAt, WriteAt, Cut, Sync}
use Rattle.kh_io.specs.Told.{Told, Kept, Extends, Gains, Rose}
use Rattle.kh_io.specs.Disk.{file_of, AreImages, TellsFiles, Stays, IsSafe, MayWrite}
use Rattle.kh_io.specs.View.{View}
use Rattle.kh_io.specs.Frames.{FilesStay, OthersStay, StreamsStay, Cause, Elapses, During, OfView, Untouched, Leaves, Asks, WritesFile}
use Rattle.kh_io.proofs.Telling.{told_map, told_same, told_both, kept_same, kept_both, extends_both}
use Rattle.kh_io.proofs.Staying.{stays_always, stays_both}

-- ---- calls in the journal

-- no call, and one
pub no_calls : (P : Call → Type 0) (a : Option (List Call)) → Extends a a (All P)
no_calls P a = told_same (λ x y. (more : List Call) × (y ≡ x ++ more) × All P more) a (λ x. ([], sym (append-nil x), All-nil P))

pub one_call : (P : Call → Type 0) (a b : Option (List Call)) (call : Call) → P call → Gains a b call → Extends a b (All P)
one_call P a b call is gains = told_map a b gains (λ x y same. (call ∷ [], same, All-cons P call [] is (All-nil P)))

pub calls_both : (P : Call → Type 0) (a b c : Option (List Call)) → Extends a b (All P) → Extends b c (All P) → Extends a c (All P)
calls_both P a b c first later = extends_both (All P) (All P) (All P) a b c first later (λ more rest p q. All-append P more rest p q)

-- ---- causes

-- it is named, and it isn't
pub caused : {named : Type 0} {old new : ℕ} → named → Rose old new → old ≤ new → Cause named old new
caused is rose no_fewer = record { fault = λ n. rose; no_fault = λ no. absurd (no is); no_fewer = no_fewer }

pub not_caused : {named : Type 0} {old new : ℕ} → (named → ⊥) → new ≡ old → Cause named old new
not_caused not same = record { fault = λ n. absurd (not n); no_fault = λ no. same; no_fewer = omega (arith, same) }

-- behind calls in which it stood
pub caused_later : {named : Type 0} {old between new : ℕ} → between ≡ old → Cause named between new → Cause named old new
caused_later {named} {old} {between} {new} same later = subst (λ (n : ℕ). Cause named n new) same later

-- under another name
pub cause_map : {named other : Type 0} {old new : ℕ} → (named → other) → (other → named) → Cause named old new → Cause other old new
cause_map to back cause = record { fault = λ o. cause.fault (back o); no_fault = λ no. cause.no_fault (λ n. no (to n)); no_fewer = cause.no_fewer }

-- ---- streams

pub streams_same : (v : View) → StreamsStay v v
streams_same v = record {
  stamp = refl;
  input = kept_same v.left;
  sink = kept_same v.given;
  reads = refl;
  writes = refl;
  calls = no_calls IsOfDisk v.journal;
}

pub streams_both : {u v w : View} → StreamsStay u v → StreamsStay v w → StreamsStay u w
streams_both {u} {v} {w} first later = record {
  stamp = later.stamp ∙ first.stamp;
  input = kept_both u.left v.left w.left first.input later.input;
  sink = kept_both u.given v.given w.given first.sink later.sink;
  reads = later.reads ∙ first.reads;
  writes = later.writes ∙ first.writes;
  calls = calls_both IsOfDisk u.journal v.journal w.journal first.calls later.calls;
}

-- ---- files

pub files_same : (v : View) → FilesStay v v
files_same v file lt = stays_always (v.seen file) (v.image file)

pub files_both : (u v w : View) → FilesStay u v → FilesStay v w → FilesStay u w
files_both u v w first later file lt = stays_both (first file lt) (later file lt)

pub others_both : (this : ℕ) (u v w : View) → OthersStay this u v → OthersStay this v w → OthersStay this u w
others_both this u v w first later file lt other = stays_both (first file lt other) (later file lt other)

-- where the files stay, the images are those from before
pub images_stay : (v w : View) → FilesStay v w → (files : Files) → AreImages w.image files → AreImages v.image files
images_stay v w stay files images file lt = (stay file lt).only (file_of files file) (images file lt)

-- ---- moments

-- before the first call: only what a crash may leave now
pub started : {P : Files → ℕ → Type 0} (v : View) → ((files : Files) (s : ℕ) → v.since v.moment files s → P files s) → During P v v
started v now = record { later = omega arith; each = now; earlier = λ t files s before was. inl was }

-- one more call, after which a crash may leave what has P
pub goes_on : {P : Files → ℕ → Type 0} {u v w : View} → During P u v → Elapses v w
    → ((files : Files) (s : ℕ) → AreImages w.image files → v.stamp ≤ s → s ≤ w.stamp → P files s) → During P u w
goes_on {P} {u} {v} {w} run call now = record {
  later = omega (arith, run.later, call.later);
  each = λ files s since. elim (call.nothing_else _ files s run.later since) [
    | inl before ↦ run.each files s before
    | inr here ↦ now files s here.0 here.1 here.2
  ];
  earlier = λ t files s before since. elim (call.nothing_else t files s (omega (arith, before, run.later)) since) [
    | inl was ↦ run.earlier t files s before was
    | inr here ↦ inr (now files s here.0 here.1 here.2)
  ];
}

-- one run after another
pub both : {P Q : Files → ℕ → Type 0} {u v w : View} → During P u v → During Q v w → ((files : Files) (s : ℕ) → Q files s → P files s) → During P u w
both {P} {Q} {u} {v} {w} first later is = record {
  later = omega (arith, first.later, later.later);
  each = λ files s since. elim (later.earlier _ files s first.later since) [
    | inl before ↦ first.each files s before
    | inr here ↦ is files s here
  ];
  earlier = λ t files s before since. elim (later.earlier t files s (omega (arith, before, first.later)) since) [
    | inl was ↦ first.earlier t files s before was
    | inr here ↦ inr (is files s here)
  ];
}

-- what has P has Q
pub weakened : {P Q : Files → ℕ → Type 0} {v w : View} → During P v w → ((files : Files) (s : ℕ) → P files s → Q files s) → During Q v w
weakened {P} {Q} {v} {w} run is = record {
  later = run.later;
  each = λ files s since. is files s (run.each files s since);
  earlier = λ t files s before since. elim (run.earlier t files s before since) [ inl was ↦ inl was | inr here ↦ inr (is files s here) ];
}

-- ---- calls that only read

-- over no call
pub asks_none : (v : View) → ((files : Files) (s : ℕ) → v.since v.moment files s → OfView v files s) → Asks v v
asks_none v now = record {
  files = files_same v;
  during = started v now;
  streams = streams_same v;
  calls = no_calls IsAsking v.journal;
}

-- over one, which stays of what is
pub asks_one : (v w : View) → ((files : Files) (s : ℕ) → v.since v.moment files s → OfView v files s) → FilesStay v w → Elapses v w → StreamsStay v w
    → Extends v.journal w.journal (All IsAsking) → Asks v w
asks_one v w now files time streams calls = record {
  files = files;
  during = goes_on (started v now) time (λ fs s images least most.
      record { images = images_stay v w files fs images; stamp = omega (arith, least, most, streams.stamp) });
  streams = streams;
  calls = calls;
}

-- what a crash at a later moment may leave, a crash at an earlier one might have left
pub of_earlier : (v w : View) → FilesStay v w → w.stamp ≡ v.stamp → (files : Files) (s : ℕ) → OfView w files s → OfView v files s
of_earlier v w stay same files s of = record { images = images_stay v w stay files of.images; stamp = of.stamp ∙ same }

pub asks_both : {u v w : View} → Asks u v → Asks v w → Asks u w
asks_both {u} {v} {w} first later = record {
  files = files_both u v w first.files later.files;
  during = both first.during later.during (of_earlier u v first.files first.streams.stamp);
  streams = streams_both first.streams later.streams;
  calls = calls_both IsAsking u.journal v.journal w.journal first.calls later.calls;
}

-- ---- calls that write one file

-- calls that only read write no file
pub asks_write : {v w : View} {P : Files → ℕ → Type 0} (file : ℕ) → file < 4 → Asks v w → ((files : Files) (s : ℕ) → OfView v files s → P files s) → WritesFile file P v w
asks_write {v} {w} file lt asks is = record {
  own = told_map (v.seen file) (w.seen file) (asks.files file lt).read (λ a b same. tt);
  others = λ other below not. asks.files other below;
  during = weakened asks.during is;
  streams = asks.streams;
}

pub writes_both : {u v w : View} {P Q : Files → ℕ → Type 0} {file : ℕ} → WritesFile file P u v → WritesFile file Q v w
    → ((files : Files) (s : ℕ) → Q files s → P files s) → WritesFile file P u w
writes_both {u} {v} {w} {P} {Q} {file} first later is = record {
  own = told_both (u.seen file) (v.seen file) (w.seen file) first.own later.own (λ a b c p q. tt);
  others = others_both file u v w first.others later.others;
  during = both first.during later.during is;
  streams = streams_both first.streams later.streams;
}

-- what has P has Q
pub writes_weakened : {v w : View} {P Q : Files → ℕ → Type 0} {file : ℕ} → WritesFile file P v w → ((files : Files) (s : ℕ) → P files s → Q files s) → WritesFile file Q v w
writes_weakened writes is = record { own = writes.own; others = writes.others; during = weakened writes.during is; streams = writes.streams }

-- ---- the start of a file may be written

pub may_write_start : (seen : Option (List ℕ)) (n : ℕ) → n ≤ 2 ^ 62 → MayWrite seen 0 n
may_write_start (Some bytes) n fits = record { start = omega arith; end = omega (arith, fits) }
may_write_start None n fits = record { start = tt; end = omega (arith, fits) }
