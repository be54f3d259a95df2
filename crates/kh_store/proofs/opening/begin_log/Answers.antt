use Rattle.std.proofs.Common.{arith}
use Rattle.std.proofs.lemmas.Bool.{false≢true}
use Rattle.kh_io.specs.Call.{Len, IsAsking, answer}
use Rattle.kh_io.proofs.{asks_one, one_call, asks_write, writes_both, caused_later}
use Rattle.kh_store.proofs.Safe.{was_short}
use Rattle.kh_store.proofs.Open.{of_entry, short_then}
use Rattle.kh_store.proofs.opening.begin_log.Goals as goal

pub returns-in_err-len-clause-writes : goal.returns-in_err-len-clause-writes
returns-in_err-len-clause-writes g c =
    let u = g.H.Disk.view c.args.host.now in
    let v = g.H.Disk.view c.len.new.self in
    let e = c.len.ensures in
    let asks = asks_one u v (g.met.H.Disk.only_now c.args.host.now) e.files e.time e.streams (one_call IsAsking _ _ (Len 1 (answer c.len.result)) tt e.entry) in
    let asked = asks_write 1 (omega arith) asks (of_entry u) in
    asked

pub returns-else-branch-lt2-clause-writes : goal.returns-else-branch-lt2-clause-writes
returns-else-branch-lt2-clause-writes g c =
    let u = g.H.Disk.view c.args.host.now in
    let v = g.H.Disk.view c.len.new.self in
    let e = c.len.ensures in
    let asks = asks_one u v (g.met.H.Disk.only_now c.args.host.now) e.files e.time e.streams (one_call IsAsking _ _ (Len 1 (answer c.len.result)) tt e.entry) in
    let asked = asks_write 1 (omega arith) asks (of_entry u) in
    asked

pub returns-in_err-write_empty-clause-writes : goal.returns-in_err-write_empty-clause-writes
returns-in_err-write_empty-clause-writes g c =
    let u = g.H.Disk.view c.args.host.now in
    let v = g.H.Disk.view c.len.new.self in
    let e = c.len.ensures in
    let asks = asks_one u v (g.met.H.Disk.only_now c.args.host.now) e.files e.time e.streams (one_call IsAsking _ _ (Len 1 (answer c.len.result)) tt e.entry) in
    let asked = asks_write 1 (omega arith) asks (of_entry u) in
    writes_both asked c.write_empty.ensures.writes (short_then u v asks.files e.streams.stamp (was_short _ _ c.in_ok-len.field-0 c.in_ok-len.ensures.length c.if-branch-lt2.true))

pub returns-in_ok-write_empty-clause-writes : goal.returns-in_ok-write_empty-clause-writes
returns-in_ok-write_empty-clause-writes g c =
    let u = g.H.Disk.view c.args.host.now in
    let v = g.H.Disk.view c.len.new.self in
    let e = c.len.ensures in
    let asks = asks_one u v (g.met.H.Disk.only_now c.args.host.now) e.files e.time e.streams (one_call IsAsking _ _ (Len 1 (answer c.len.result)) tt e.entry) in
    let asked = asks_write 1 (omega arith) asks (of_entry u) in
    writes_both asked c.write_empty.ensures.writes (short_then u v asks.files e.streams.stamp (was_short _ _ c.in_ok-len.field-0 c.in_ok-len.ensures.length c.if-branch-lt2.true))
