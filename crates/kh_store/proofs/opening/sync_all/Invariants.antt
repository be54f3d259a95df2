use Rattle.std.proofs.Common.{◌≡◌, ◌<◌, ℕ, List}
use Rattle.kh_io.specs.Told.{Kept}
use Rattle.kh_io.specs.Disk.{IsSafe}
use Rattle.kh_io.specs.Frames.{OfView, During, StreamsStay}
use Rattle.kh_store.proofs.opening.sync_all.Given as goal

abbrev pub invariant-loop-file : goal.invariant-loop-file
invariant-loop-file g l =
    let v = g.H.Disk.view l.fn.host in
    let w = g.H.Disk.view l.host in
    record {
      safe : (file : ℕ) → file < l.file → IsSafe (w.seen file) (w.image file);
      reads : (file : ℕ) → file < 4 → Kept (v.seen file) (w.seen file);
      images : (file : ℕ) → file < 4 → (bytes : List ℕ) → w.image file bytes → v.image file bytes;
      during : During (OfView v) v w;
      streams : StreamsStay v w;
      faults : w.faults.disk ≡ v.faults.disk;
    }
