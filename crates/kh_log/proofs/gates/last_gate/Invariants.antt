use Rattle.std.proofs.Common.{◌≡◌, ◌≤◌, ◌<◌, ◌-◌, ◌*◌, length}
use Rattle.std.specs.Prelude.{IfSome}
use Rattle.kh_io.specs.Frames.{FileTold, Asks}
use Rattle.kh_log.proofs.Walk.{Stands}
use Rattle.kh_log.proofs.gates.last_gate.Given as goal

abbrev pub invariant-loop-next : goal.invariant-loop-next
invariant-loop-next g l =
    let v = g.D.Disk.view l.fn.disk in
    let w = g.D.Disk.view l.disk in
    record {
      told : FileTold l.file v w (λ was now. (now ≡ was) × Stands l.at l.count was);
      len : IfSome (w.seen l.file) (λ bytes. length bytes ≡ l.len);
      bound : 5 * l.count ≤ l.at;
      within : l.at < l.len;
      asks : Asks v w;
      faults : w.faults.disk ≡ v.faults.disk;
    }

abbrev pub decreases-loop-next : goal.decreases-loop-next
decreases-loop-next g l = l.len - l.at
