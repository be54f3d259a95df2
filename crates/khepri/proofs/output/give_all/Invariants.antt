use Rattle.std.proofs.Common.{◌≡◌, length}
use Rattle.kh_io.specs.Frames.{FilesStay, InputStays, During, Untouched}
use Rattle.khepri.proofs.Giving.{IsGiving}
use Rattle.khepri.proofs.output.give_all.Given as goal

abbrev pub invariant-loop-rest : goal.invariant-loop-rest
invariant-loop-rest g l =
    let v = g.H.Disk.view l.fn.host in
    let w = g.H.Disk.view l.host in
    record {
      giving : IsGiving v.given w.given l.fn.piece l.rest;
      writes : w.faults.writes ≡ v.faults.writes;
      files : FilesStay v w;
      during : During (Untouched v w) v w;
      input : InputStays v w;
    }

abbrev pub decreases-loop-rest : goal.decreases-loop-rest
decreases-loop-rest g l = length l.rest
