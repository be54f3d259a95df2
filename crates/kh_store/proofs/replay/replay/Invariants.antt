use Rattle.std.proofs.Common.{◌≡◌, ◌≤◌, ◌-◌}
use Rattle.std.specs.Prelude.{IfSome}
use Rattle.kh_io.specs.Frames.{FileTold, Asks}
use Rattle.kh_log.specs.Log.{Holds}
use Rattle.kh_store.specs.State.{log_limit}
use Rattle.kh_store.proofs.Replaying.{Replayed}
use Rattle.kh_store.proofs.replay.replay.Given as goal

abbrev pub invariant-records : goal.invariant-records
invariant-records g l =
    let v = g.H.Disk.view l.fn.host in
    let w = g.H.Disk.view l.host in
    record {
      replayed : FileTold 1 v w (λ was now. (now ≡ was) × Replayed (record { nodes = l.tree; span = l.span }) l.log.read was);
      holds : IfSome (w.seen 1) (Holds l.log);
      span : IfSome (w.seen 1) (λ _. l.span ≡ l.log.next);
      within : l.span ≤ log_limit;
      file : l.log.file ≡ 1;
      last : l.log.last ≡ l.fn.log.last;
      asks : Asks v w;
      faults : w.faults.disk ≡ v.faults.disk;
    }

abbrev pub decreases-records : goal.decreases-records
decreases-records g l = l.log.records - l.log.read
