-- A store that stands in its file, over calls that don't touch the files.
use Rattle.std.proofs.Common.{◌≡◌, ◌≢◌, ℕ, ◌<◌, List, Option, Some, None, refl, sym, ap, subst, ◌∙◌, arith}
use Rattle.std.specs.Prelude.{IfSome}
use Rattle.std.proofs.lemmas.Option.{same_Some}
use Rattle.kh_io.specs.declared.files.Files.{Files}
use Rattle.kh_io.specs.Told.{Kept}
use Rattle.kh_io.specs.Disk.{AreImages, IsSafe, Stays}
use Rattle.kh_io.specs.View.{View}
use Rattle.kh_io.specs.Frames.{FilesStay, OthersStay}
use Rattle.kh_log.specs.Records.{records_of}
use Rattle.kh_log.specs.Log.{Holds}
use Rattle.kh_store.specs.State.{empty}
use Rattle.kh_store.specs.Recovery.{Recovered, Replays, Recovers}
use Rattle.kh_store.specs.Store.{Opened, state_of, Stands}

pub some_of : (P : List ℕ → Type 0) (seen : Option (List ℕ)) (bytes : List ℕ) → seen ≡ Some bytes → IfSome seen P → P bytes
some_of P (Some was) bytes same holds = subst P (same_Some was bytes same) holds
some_of P None bytes same holds = absurd cc

-- a crash leaves the store's state
pub left_recovers : (store : Opened) (v : View) → Stands store v → (files : Files) → v.image 1 files.l0 → Recovers files (Recovered (state_of store))
left_recovers store v stands files there =
    let told = stands.safe files.l0 there in
    let holds = some_of (Holds store.place) (v.seen 1) files.l0 told stands.found in
    let replays = some_of (λ bytes. Replays empty (records_of bytes) (Recovered (state_of store))) (v.seen 1) files.l0 told stands.recovers in
    rw holds.none_lacks replays

pub stands_recovers : (store : Opened) (v : View) → Stands store v → (files : Files) → AreImages v.image files → Recovers files (Recovered (state_of store))
stands_recovers store v stands files images = left_recovers store v stands files (images 1 (omega arith))

-- a fact of what is told stays one
kept_some : (P : List ℕ → Type 0) (a b : Option (List ℕ)) → Kept a b → IfSome a P → IfSome b P
kept_some P (Some x) (Some y) kept holds = subst P (sym kept) holds
kept_some P None (Some y) kept holds = absurd kept
kept_some P a None kept holds = tt

kept_safe : (a b : Option (List ℕ)) (i j : List ℕ → Type 0) → Stays a b i j → ((bytes : List ℕ) → b ≡ None → j bytes → ⊥) → IsSafe a i → IsSafe b j
kept_safe (Some x) (Some y) i j stay untold safe bytes there = ap (λ (b : List ℕ). Some b) stay.read ∙ safe bytes (stay.only bytes there)
kept_safe None (Some y) i j stay untold safe bytes there = absurd stay.read
kept_safe a None i j stay untold safe bytes there = absurd (untold bytes refl there)

-- a crash leaves nothing of a file that isn't told
abbrev pub NoneUntold : View → Type 0
NoneUntold w = (file : ℕ) (bytes : List ℕ) → file < 4 → w.seen file ≡ None → w.image file bytes → ⊥

-- the other files are as safe as they were
pub others_safe : (v w : View) → OthersStay 1 v w → NoneUntold w → ((file : ℕ) → file < 4 → file ≢ 1 → IsSafe (v.seen file) (v.image file))
    → (file : ℕ) → file < 4 → file ≢ 1 → IsSafe (w.seen file) (w.image file)
others_safe v w stay untold safe file lt other =
    kept_safe (v.seen file) (w.seen file) (v.image file) (w.image file) (stay file lt other) (λ bytes none. untold file bytes lt none) (safe file lt other)

-- a store stands where the files stay
pub stands_stay : (store : Opened) (v w : View) → FilesStay v w → NoneUntold w → Stands store v → Stands store w
stands_stay store v w stay untold stands =
    let one = stay 1 (omega arith) in
    record {
      works = stands.works;
      safe = kept_safe (v.seen 1) (w.seen 1) (v.image 1) (w.image 1) one (λ bytes none. untold 1 bytes (omega arith) none) stands.safe;
      others = others_safe v w (λ file lt other. stay file lt) untold stands.others;
      found = kept_some _ (v.seen 1) (w.seen 1) one.read stands.found;
      closed = kept_some _ (v.seen 1) (w.seen 1) one.read stands.closed;
      recovers = kept_some _ (v.seen 1) (w.seen 1) one.read stands.recovers;
    }
