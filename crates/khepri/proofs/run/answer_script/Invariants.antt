use Rattle.std.proofs.Common.{◌≡◌, ◌-◌, ◌<◌, ℕ, length}
use Rattle.std.specs.Prelude.{IsSome}
use Rattle.khepri.specs.Script.{script_limit}
use Rattle.kh_store.specs.Store.{state_of, Stands}
use Rattle.khepri.proofs.Running.{IsRunning}
use Rattle.khepri.proofs.run.answer_script.Given as goal

abbrev pub invariant-pieces : goal.invariant-pieces
invariant-pieces g l =
    let v = g.H.Disk.view l.fn.host in
    let w = g.H.Disk.view l.host in
    record {
      run : IsRunning v w l.input.items l.at (state_of l.fn.store) (state_of l.store);
      stands : Stands l.store w;
      told : (file : ℕ) → file < 4 → IsSome (w.seen file) → IsSome (v.seen file);
      reads : w.faults.reads ≡ v.faults.reads;
      writes : w.faults.writes ≡ v.faults.writes;
      disk : w.faults.disk ≡ v.faults.disk;
    }

abbrev pub decreases-pieces : goal.decreases-pieces
decreases-pieces g l = script_limit - length l.input.items
