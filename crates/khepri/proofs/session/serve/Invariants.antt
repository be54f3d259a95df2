use Rattle.std.proofs.Common.{◌≡◌, ◌-◌, ◌≤◌, length, drop}
use Rattle.kh_io.specs.Frames.{TakesNothing}
use Rattle.kh_store.specs.Store.{state_of, Stands}
use Rattle.khepri.proofs.Lines.{SoFar, step_to}
use Rattle.khepri.proofs.session.serve.Given as goal

abbrev pub invariant-lines : goal.invariant-lines
invariant-lines g l =
    let v = g.H.Disk.view l.fn.host in
    let w = g.H.Disk.view l.host in
    record {
      within : l.place ≤ length l.fn.input;
      given : SoFar (step_to (record { is_end = l.fn.is_end; bytes = drop l.fn.at l.fn.input }) (drop l.place l.fn.input) (state_of l.fn.store) (state_of l.store)) v w;
      stands : Stands l.store w;
      untaken : TakesNothing v w;
      reads : w.faults.reads ≡ v.faults.reads;
      writes : w.faults.writes ≡ v.faults.writes;
      disk : w.faults.disk ≡ v.faults.disk;
    }

abbrev pub decreases-lines : goal.decreases-lines
decreases-lines g l = length l.fn.input - l.place
