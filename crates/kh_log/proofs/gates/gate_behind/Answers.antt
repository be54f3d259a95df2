use Rattle.std.proofs.Common.{length}
use Rattle.kh_io.specs.Call.{ReadAt, IsAsking, front_given}
use Rattle.kh_io.proofs.{asks_one, one_call}
use Rattle.kh_log.proofs.gates.gate_behind.Goals as goal

pub returns-in_err-count-clause-asks : goal.returns-in_err-count-clause-asks
returns-in_err-count-clause-asks g c =
    let e = c.read_at.ensures in
    asks_one (g.D.Disk.view c.args.disk.now) (g.D.Disk.view c.read_at.new.self) (g.met.D.Disk.only_now c.args.disk.now) e.files e.time e.streams
    (one_call IsAsking _ _ (ReadAt c.args.file c.args.at (length c.read_at.new.into) (front_given c.read_at.result c.read_at.new.into)) tt e.entry)

pub returns-clause-asks : goal.returns-clause-asks
returns-clause-asks g c =
    let e = c.read_at.ensures in
    asks_one (g.D.Disk.view c.args.disk.now) (g.D.Disk.view c.read_at.new.self) (g.met.D.Disk.only_now c.args.disk.now) e.files e.time e.streams
    (one_call IsAsking _ _ (ReadAt c.args.file c.args.at (length c.read_at.new.into) (front_given c.read_at.result c.read_at.new.into)) tt e.entry)
