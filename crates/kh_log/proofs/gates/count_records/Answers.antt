use Rattle.kh_io.specs.Call.{Len, IsAsking, answer}
use Rattle.kh_io.proofs.{asks_one, asks_both, one_call}
use Rattle.kh_log.proofs.Walk.{told_short}
use Rattle.kh_log.proofs.gates.count_records.Goals as goal

pub returns-then-len-lt2-clause-last : goal.returns-then-len-lt2-clause-last
returns-then-len-lt2-clause-last g c = told_short _ _ c.in_ok-len.len c.if-len-lt2.true c.in_ok-len.ensures.length

pub returns-clause-asks : goal.returns-clause-asks
returns-clause-asks g c =
    let e = c.len.ensures in
    asks_both (asks_one (g.D.Disk.view c.args.disk.now) (g.D.Disk.view c.len.new.self) (g.met.D.Disk.only_now c.args.disk.now) e.files e.time e.streams
    (one_call IsAsking _ _ (Len c.args.file (answer c.len.result)) tt e.entry)) c.last_gate.ensures.asks
