use Rattle.std.proofs.Common.{◌≡◌, ◌<◌, ℕ, List, sym, subst, inl, inr, ◌∙◌, arith}
use Rattle.std.proofs.lemmas.Bool.{cases_eq, false≢true}
use Rattle.kh_io.specs.Told.{Kept}
use Rattle.kh_io.specs.Disk.{file_of, IsSafe}
use Rattle.kh_io.proofs.{goes_on, kept_both, streams_both}
use Rattle.kh_store.proofs.Safe.{still_safe}
use Rattle.kh_store.proofs.opening.sync_all.Goals as goal

pub returns-in_err-sync-clause-streams : goal.returns-in_err-sync-clause-streams
returns-in_err-sync-clause-streams g c = streams_both c.loop-file.invariant.streams c.sync.ensures.streams

pub loop-file-preserved : goal.loop-file-preserved
loop-file-preserved g c =
    let u = g.H.Disk.view c.args.host.now in
    let v = g.H.Disk.view c.loop-file.host in
    let w = g.H.Disk.view c.sync.new.self in
    let i = c.loop-file.invariant in
    let e = c.in_ok-sync.ensures in
    let kept : (file : ℕ) → file < 4 → Kept (v.seen file) (w.seen file) = λ file lt. elim (cases_eq file c.loop-file.file) [
      | inl same ↦ subst (λ f. Kept (v.seen f) (w.seen f)) (sym same) e.read
      | inr other ↦ (e.others file lt other).read
    ] in
    let only : (file : ℕ) → file < 4 → (bytes : List ℕ) → w.image file bytes → v.image file bytes = λ file lt. elim (cases_eq file c.loop-file.file) [
      | inl same ↦ subst (λ f. (bytes : List ℕ) → w.image f bytes → v.image f bytes) (sym same) e.no_new_images
      | inr other ↦ (e.others file lt other).only
    ] in
    record {
      safe = λ file lt. elim (cases_eq file c.loop-file.file) [
        | inl same ↦ subst (λ f. IsSafe (w.seen f) (w.image f)) (sym same) e.safe
        | inr other ↦
            let below : file < 4 = omega arith in
            still_safe (i.safe file (omega arith)) (kept file below) (only file below) (λ bytes. g.met.H.Disk.untold_is_not_left c.sync.new.self file bytes below)
      ];
      reads = λ file lt. kept_both (u.seen file) (v.seen file) (w.seen file) (i.reads file lt) (kept file lt);
      images = λ file lt bytes there. i.images file lt bytes (only file lt bytes there);
      during = goes_on i.during e.time (λ files s images least most. record {
        images = λ file lt. i.images file lt (file_of files file) (only file lt (file_of files file) (images file lt));
        stamp = omega (arith, least, most, e.streams.stamp, i.streams.stamp);
      });
      streams = streams_both i.streams e.streams;
      faults = e.cause.no_fault false≢true ∙ i.faults;
    }
