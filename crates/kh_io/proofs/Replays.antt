-- A file, replayed call by call.
use Rattle.std.proofs.Common.{ℕ, zero, suc, ◌≡◌, ◌+◌, ◌-◌, ◌<◌, ◌≤◌, List, [], ◌∷◌, Option, Some, if◌then◌else◌, Bool, true, false, ◌||◌, reverse, length, take, drop, get_or, fold, sum_by, refl, sym, ap, ◌∙◌, arith, add-one}
use Rattle.std.proofs.Math.Seq.{drop-cons}
use Rattle.std.proofs.lemmas.List.{drop-drop, reverse-append}
use Rattle.std.proofs.lemmas.List.Folds.{list_any-append}
use Rattle.std.specs.List.{list_any}
use Rattle.std.proofs.lemmas.List.Sums.{sum_by-cons}
use Rattle.kh_io.specs.FileState.{FileState, synced, after, state_after, IsImage, is_within}
use Rattle.kh_io.specs.Entry.{byte_count, call_of, calls_of}
use Rattle.kh_io.specs.Replay.{Replayed, Shows, IsFilled, AreFilled, is_loose_at}
use Rattle.kh_io.specs.declared.files.Files.{Files}
use Rattle.kh_io.specs.Call.{Call}
use Rattle.kh_io.specs.Disk.{file_of, AreImages}
use Rattle.kh_io.specs.Recording.{image_after}
use Rattle.kh_io.specs.Laws.{Sane, sane_state}
use Rattle.kh_io.proofs.Images.{safe_parts}
use Rattle.kh_io.specs.declared.journal.Entry.{Entry}

-- the file so far, from which the entries that are left lead to the file after all
pub record Midway (file : ℕ) (first : List ℕ) (entries : List Entry) (bytes : List ℕ) (index from : ℕ) (replay : Replayed) : Type 0 where
  pub sizes : from + sum_by byte_count (drop index entries) ≤ length bytes
  pub state : FileState
  pub shows : Shows state replay
  pub leads : fold (after file) state (calls_of (drop index entries) (drop from bytes)) ≡ fold (after file) (synced first) (calls_of entries bytes)

-- one entry more
pub midway_next : (file : ℕ) (first : List ℕ) (entries : List Entry) (bytes : List ℕ) (index from size : ℕ) (old new : Replayed) (d : Entry)
    → Midway file first entries bytes index from old → index < length entries → size ≡ byte_count (get_or entries index d)
    → ((s : FileState) → Shows s old → Shows (after file s (call_of (get_or entries index d) (take (from + size - from) (drop from bytes)))) new)
    → Midway file first entries bytes (index + 1) (from + size) new
midway_next file first entries bytes index from size old new d mid lt is step =
    let e : Entry = get_or entries index d in
    let rest : drop index entries ≡ e ∷ drop (index + 1) entries = drop-cons entries index d lt ∙ ap (λ n. e ∷ drop n entries) (sym (add-one index)) in
    let size_is : from + size - from ≡ byte_count e = omega (arith, is) in
    let later : drop (byte_count e) (drop from bytes) ≡ drop (from + size) bytes = drop-drop (byte_count e) from bytes ∙ ap (λ n. drop n bytes) (omega (arith, is)) in
    let sum : sum_by byte_count (drop index entries) ≡ byte_count e + sum_by byte_count (drop (index + 1) entries) = ap (sum_by byte_count) rest ∙ sum_by-cons byte_count e (drop (index + 1) entries) in
    let sizes : from + sum_by byte_count (drop index entries) ≤ length bytes = mid.sizes in
    let call = call_of e (take (byte_count e) (drop from bytes)) in
    let unfolds : fold (after file) mid.state (calls_of (drop index entries) (drop from bytes)) ≡ fold (after file) (after file mid.state call) (calls_of (drop (index + 1) entries) (drop (from + size) bytes)) =
    rw rest (ap (λ bs. fold (after file) (after file mid.state call) (calls_of (drop (index + 1) entries) bs)) later) in
    record {
      sizes = omega (arith, sizes, sum, is);
      state = after file mid.state call;
      shows = rw size_is at (step mid.state mid.shows);
      leads = sym unfolds ∙ mid.leads;
    }

or_swap : (a b : Bool) → (a || (b || false)) ≡ (b || a)
or_swap true true = refl
or_swap true false = refl
or_swap false true = refl
or_swap false false = refl

-- the order of a list doesn't matter to whether one of it passes
pub list_any-reverse : {X : Type 0} (p : X → Bool) (xs : List X) → list_any p (reverse xs) ≡ list_any p xs
list_any-reverse p [] = refl
list_any-reverse p (x ∷ xs) = rw (reverse-append (x ∷ []) xs) (list_any-append p (reverse xs) (x ∷ []) ∙ or_swap (list_any p (reverse xs)) (p x) ∙ ap (λ b. p x || b) (list_any-reverse p xs))

-- the bytes with another one in the place of each that isn't yet safe
pub overwritten : (s : FileState) (r : Replayed) (loose : List (ℕ × ℕ)) (byte : ℕ) (out : List ℕ)
    → Shows s r → r.loose ≡ reverse loose → length out ≡ length r.bytes
    → ((i : ℕ) → i < length out → get_or out i 0 ≡ (if is_loose_at r.least loose i then byte else get_or r.bytes i 0))
    → IsFilled s (Some byte) out
overwritten s r loose byte out shows order len each = record {
  len = len ∙ ap length shows.now;
  each = λ i lt.
      let same : list_any (is_within i) loose ≡ list_any (is_within i) s.loose =
      sym (list_any-reverse (is_within i) loose) ∙ ap (list_any (is_within i)) (sym order ∙ shows.loose) in
      each i lt ∙ rw (shows.least, same, shows.now) refl;
}

-- a file so filled is one that a crash may leave
pub filled_image : (s : FileState) (fill : Option ℕ) (bytes : List ℕ) → Sane s → IsFilled s fill bytes → IsImage s bytes
filled_image s fill bytes sane filled = record {
  no_shorter = omega (arith, filled.len, sane.least);
  no_longer = omega (arith, filled.len, sane.most);
  others = λ i safe. filled.each i (omega (arith, filled.len, sane.least, (safe_parts s i safe).0)) ∙ rw safe refl;
}

pub filled_images : (first : Files) (calls : List Call) (fill : Option ℕ) (files : Files) → AreFilled first calls fill files → AreImages (image_after first calls) files
filled_images first calls fill files filled = λ file lt. filled_image (state_after file first calls) fill (file_of files file) (sane_state file first calls) (filled file lt)

-- four files so filled
pub four_filled : (first : Files) (calls : List Call) (fill : Option ℕ) (files : Files)
    → IsFilled (state_after 0 first calls) fill files.s0 → IsFilled (state_after 1 first calls) fill files.l0
    → IsFilled (state_after 2 first calls) fill files.s1 → IsFilled (state_after 3 first calls) fill files.l1
    → AreFilled first calls fill files
four_filled first calls fill files a b c d zero lt = a
four_filled first calls fill files a b c d (suc zero) lt = b
four_filled first calls fill files a b c d (suc (suc zero)) lt = c
four_filled first calls fill files a b c d (suc (suc (suc zero))) lt = d
four_filled first calls fill files a b c d (suc (suc (suc (suc file)))) lt = absurd (omega (arith, lt))
