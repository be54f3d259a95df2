use Rattle.std.proofs.Common.{◌≡◌, ◌<◌, Err, Some, refl, sym, ap, arith}
use Rattle.kh_io.specs.Disk.{TellsFiles}
use Rattle.kh_io.proofs.{both, weakened, asks_both, stays_both, streams_both}
use Rattle.kh_log.specs.Records.{records_of, lacking_in}
use Rattle.kh_log.specs.Log.{Holds}
use Rattle.kh_store.specs.State.{empty}
use Rattle.kh_store.specs.Recovery.{Recovered, Damaged, Replays, ReplaysUnless}
use Rattle.kh_store.proofs.Safe.{still_safe, all_safe, log_safe}
use Rattle.kh_store.proofs.Open.{of_entry, begins, opens, told_back, begun_back, files_told, kept_then, then_kept, content_before, lacking_before, replays_before, lacks_at, lacks_recovers, closed_there, there_still, begun_between}
use Rattle.kh_store.proofs.store.Store.open.Goals as goal

pub replay-requires : goal.replay-requires
replay-requires g c = record {
  file = c.in_ok-log.ensures.file;
  none = c.in_ok-log.ensures.none_read;
  found = there_still (Holds c.in_ok-log.log) _ _ (c.open.ensures.asks.files 1 (omega arith)).read c.in_ok-log.ensures.found;
}

-- while the files are made safe, and a log is begun
pub returns-in_err-sync_all-clause-during : goal.returns-in_err-sync_all-clause-during
returns-in_err-sync_all-clause-during g c = weakened c.sync_all.ensures.during (of_entry (g.H.Disk.view c.args.host.now))

pub returns-in_err-begin_log-clause-during : goal.returns-in_err-begin_log-clause-during
returns-in_err-begin_log-clause-during g c =
    let u = g.H.Disk.view c.args.host.now in
    let v = g.H.Disk.view c.sync_all.new.host in
    let s = c.sync_all.ensures in
    both (weakened s.during (of_entry u)) c.begin_log.ensures.writes.during (begins u v (s.reads 1 (omega arith)) s.no_new_images s.streams.stamp)

pub returns-in_err-log-clause-during : goal.returns-in_err-log-clause-during
returns-in_err-log-clause-during g c =
    let host = g.H.Disk in
    let u = host.view c.args.host.now in
    let v = host.view c.sync_all.new.host in
    let w = host.view c.begin_log.new.host in
    let s = c.sync_all.ensures in
    let b = c.begin_log.ensures in
    let x = host.view c.open.new.host in
    opens u v w x s.during b.writes.during c.open.ensures.asks.during (s.reads 1 (omega arith)) s.no_new_images s.streams.stamp b.images b.writes.others b.writes.streams.stamp

pub returns-in_err-tree-clause-during : goal.returns-in_err-tree-clause-during
returns-in_err-tree-clause-during g c =
    let host = g.H.Disk in
    let u = host.view c.args.host.now in
    let v = host.view c.sync_all.new.host in
    let w = host.view c.begin_log.new.host in
    let s = c.sync_all.ensures in
    let b = c.begin_log.ensures in
    let x = host.view c.replay.new.host in
    opens u v w x s.during b.writes.during (asks_both c.open.ensures.asks c.replay.ensures.asks).during (s.reads 1 (omega arith)) s.no_new_images s.streams.stamp b.images b.writes.others b.writes.streams.stamp

pub returns-clause-during : goal.returns-clause-during
returns-clause-during g c =
    let host = g.H.Disk in
    let u = host.view c.args.host.now in
    let v = host.view c.sync_all.new.host in
    let w = host.view c.begin_log.new.host in
    let s = c.sync_all.ensures in
    let b = c.begin_log.ensures in
    let x = host.view c.replay.new.host in
    opens u v w x s.during b.writes.during (asks_both c.open.ensures.asks c.replay.ensures.asks).during (s.reads 1 (omega arith)) s.no_new_images s.streams.stamp b.images b.writes.others b.writes.streams.stamp

pub returns-in_err-log-clause-damaged : goal.returns-in_err-log-clause-damaged
returns-in_err-log-clause-damaged g c = λ file offset is.
    let host = g.H.Disk in
    let u = host.view c.args.host.now in
    let from = rw is at c.from_residual-in_err-log.ensures in
    let why = lacks_at c.in_err-log.field-0.0 file offset (sym from.1) in
    let lacks = c.in_err-log.ensures.lacking offset (ap Err why.0) in
    let back : TellsFiles (host.view c.open.new.host).seen → TellsFiles u.seen = λ tells file lt.
    told_back _ (u.seen file) _ (c.sync_all.ensures.reads file lt) (begun_back (host.view c.sync_all.new.host) (host.view c.begin_log.new.host) c.begin_log.ensures.writes.own c.begin_log.ensures.writes.others file lt
    (told_back _ _ _ (c.open.ensures.asks.files file lt).read (tells file lt))) in
    let before = content_before (u.seen 1) _ _ (c.sync_all.ensures.reads 1 (omega arith)) c.in_ok-begin_log.ensures.begun in
    files_told u _ (λ was. lacking_in was ≡ Some offset) _ back (lacking_before _ _ _ offset before lacks) (λ files at.
    lacks_recovers files file offset at why.1)

pub returns-in_err-tree-clause-damaged : goal.returns-in_err-tree-clause-damaged
returns-in_err-tree-clause-damaged g c = λ file offset is.
    let host = g.H.Disk in
    let u = host.view c.args.host.now in
    let from = rw is at c.from_residual-in_err-tree.ensures in
    let damaged = c.in_err-tree.ensures.damaged file offset (ap Err (sym from.1)) in
    let back : TellsFiles (host.view c.replay.new.host).seen → TellsFiles u.seen = λ tells file lt.
    told_back _ (u.seen file) _ (c.sync_all.ensures.reads file lt) (begun_back (host.view c.sync_all.new.host) (host.view c.begin_log.new.host) c.begin_log.ensures.writes.own c.begin_log.ensures.writes.others file lt
    (told_back _ _ _ (c.open.ensures.asks.files file lt).read (told_back _ _ _ (c.replay.ensures.asks.files file lt).read (tells file lt)))) in
    let before = content_before (u.seen 1) _ _ (c.sync_all.ensures.reads 1 (omega arith)) c.in_ok-begin_log.ensures.begun in
    let kept = (c.open.ensures.asks.files 1 (omega arith)).read in
    files_told u _ (λ was. ReplaysUnless (lacking_in was) (records_of was) (Damaged file offset)) _ back
    (replays_before _ _ _ _ c.in_ok-log.log (Damaged file offset) before kept c.in_ok-log.ensures.found damaged) (λ files replays. replays)

pub returns-clause-recovered : goal.returns-clause-recovered
returns-clause-recovered g c =
    let host = g.H.Disk in
    let u = host.view c.args.host.now in
    let end = Recovered (record { nodes = c.in_ok-tree.tree; span = c.replay.new.log.last }) in
    let back : TellsFiles (host.view c.replay.new.host).seen → TellsFiles u.seen = λ tells file lt.
    told_back _ (u.seen file) _ (c.sync_all.ensures.reads file lt) (begun_back (host.view c.sync_all.new.host) (host.view c.begin_log.new.host) c.begin_log.ensures.writes.own c.begin_log.ensures.writes.others file lt
    (told_back _ _ _ (c.open.ensures.asks.files file lt).read (told_back _ _ _ (c.replay.ensures.asks.files file lt).read (tells file lt)))) in
    let before = content_before (u.seen 1) _ _ (c.sync_all.ensures.reads 1 (omega arith)) c.in_ok-begin_log.ensures.begun in
    let kept = (c.open.ensures.asks.files 1 (omega arith)).read in
    files_told u _ (λ was. ReplaysUnless (lacking_in was) (records_of was) end) _ back
    (replays_before _ _ _ _ c.in_ok-log.log end before kept c.in_ok-log.ensures.found c.in_ok-tree.ensures.recovered) (λ files replays. replays)

pub returns-clause-stands : goal.returns-clause-stands
returns-clause-stands g c =
    let host = g.H.Disk in
    let one : 1 < 4 = omega arith in
    let opened = c.open.ensures.asks.files 1 one in
    let replayed = c.replay.ensures.asks.files 1 one in
    let stay = stays_both opened replayed in
    let untold = g.met.H.Disk.untold_is_not_left in
    let v = host.view c.sync_all.new.host in
    let w = host.view c.begin_log.new.host in
    let x = host.view c.open.new.host in
    let begun = log_safe v w c.in_ok-sync_all.ensures.safe c.begin_log.ensures.writes.others c.in_ok-begin_log.ensures.safe (untold c.begin_log.new.host) in
    let safe = all_safe x (host.view c.replay.new.host) (all_safe w x begun c.open.ensures.asks.files (untold c.open.new.host)) c.replay.ensures.asks.files (untold c.replay.new.host) in
    record {
      works = refl;
      safe = still_safe c.in_ok-begin_log.ensures.safe stay.read stay.only (λ bytes. g.met.H.Disk.untold_is_not_left c.replay.new.host 1 bytes one);
      found = c.replay.ensures.holds;
      closed = closed_there _ _ _ _ c.in_ok-log.log c.replay.new.log.last c.in_ok-begin_log.ensures.begun opened.read c.in_ok-log.ensures.found
          c.in_ok-log.ensures.closed replayed.read c.replay.ensures.last;
      others = λ file lt other. safe file lt;
      recovers = there_still (λ bytes. Replays empty (records_of bytes) (Recovered (record { nodes = c.in_ok-tree.tree; span = c.replay.new.log.last }))) _ _
          replayed.read c.in_ok-tree.ensures.recovered;
    }

-- all files are safe once a log is begun
pub returns-in_err-log-clause-safe : goal.returns-in_err-log-clause-safe
returns-in_err-log-clause-safe g c = λ no_fault.
    let untold = g.met.H.Disk.untold_is_not_left in
    let v = g.H.Disk.view c.sync_all.new.host in
    let w = g.H.Disk.view c.begin_log.new.host in
    let x = g.H.Disk.view c.open.new.host in
    let b = c.begin_log.ensures in
    let begun = log_safe v w c.in_ok-sync_all.ensures.safe b.writes.others c.in_ok-begin_log.ensures.safe (untold c.begin_log.new.host) in
    all_safe w x begun c.open.ensures.asks.files (untold c.open.new.host)

pub returns-in_err-tree-clause-safe : goal.returns-in_err-tree-clause-safe
returns-in_err-tree-clause-safe g c = λ no_fault.
    let untold = g.met.H.Disk.untold_is_not_left in
    let v = g.H.Disk.view c.sync_all.new.host in
    let w = g.H.Disk.view c.begin_log.new.host in
    let x = g.H.Disk.view c.open.new.host in
    let b = c.begin_log.ensures in
    let begun = log_safe v w c.in_ok-sync_all.ensures.safe b.writes.others c.in_ok-begin_log.ensures.safe (untold c.begin_log.new.host) in
    all_safe x (g.H.Disk.view c.replay.new.host) (all_safe w x begun c.open.ensures.asks.files (untold c.open.new.host)) c.replay.ensures.asks.files (untold c.replay.new.host)

pub returns-clause-safe : goal.returns-clause-safe
returns-clause-safe g c = λ no_fault.
    let untold = g.met.H.Disk.untold_is_not_left in
    let v = g.H.Disk.view c.sync_all.new.host in
    let w = g.H.Disk.view c.begin_log.new.host in
    let x = g.H.Disk.view c.open.new.host in
    let b = c.begin_log.ensures in
    let begun = log_safe v w c.in_ok-sync_all.ensures.safe b.writes.others c.in_ok-begin_log.ensures.safe (untold c.begin_log.new.host) in
    all_safe x (g.H.Disk.view c.replay.new.host) (all_safe w x begun c.open.ensures.asks.files (untold c.open.new.host)) c.replay.ensures.asks.files (untold c.replay.new.host)

-- and a read of file 1 gives a log
pub returns-in_err-log-clause-begun : goal.returns-in_err-log-clause-begun
returns-in_err-log-clause-begun g c = λ no_fault.
    begun_between _ _ _ _ (c.sync_all.ensures.reads 1 (omega arith)) c.in_ok-begin_log.ensures.begun (c.open.ensures.asks.files 1 (omega arith)).read

pub returns-in_err-tree-clause-begun : goal.returns-in_err-tree-clause-begun
returns-in_err-tree-clause-begun g c = λ no_fault.
    begun_between _ _ _ _ (c.sync_all.ensures.reads 1 (omega arith)) c.in_ok-begin_log.ensures.begun
    (stays_both (c.open.ensures.asks.files 1 (omega arith)) (c.replay.ensures.asks.files 1 (omega arith))).read

pub returns-clause-begun : goal.returns-clause-begun
returns-clause-begun g c = λ no_fault.
    begun_between _ _ _ _ (c.sync_all.ensures.reads 1 (omega arith)) c.in_ok-begin_log.ensures.begun
    (stays_both (c.open.ensures.asks.files 1 (omega arith)) (c.replay.ensures.asks.files 1 (omega arith))).read

-- what a read gives of it
pub returns-in_err-begin_log-clause-reads : goal.returns-in_err-begin_log-clause-reads
returns-in_err-begin_log-clause-reads g c = kept_then _ _ _ (c.sync_all.ensures.reads 1 (omega arith)) c.begin_log.ensures.reads

pub returns-in_err-log-clause-reads : goal.returns-in_err-log-clause-reads
returns-in_err-log-clause-reads g c =
    then_kept _ _ _ (kept_then _ _ _ (c.sync_all.ensures.reads 1 (omega arith)) c.begin_log.ensures.reads) (c.open.ensures.asks.files 1 (omega arith)).read

pub returns-in_err-tree-clause-reads : goal.returns-in_err-tree-clause-reads
returns-in_err-tree-clause-reads g c =
    then_kept _ _ _ (kept_then _ _ _ (c.sync_all.ensures.reads 1 (omega arith)) c.begin_log.ensures.reads)
    (stays_both (c.open.ensures.asks.files 1 (omega arith)) (c.replay.ensures.asks.files 1 (omega arith))).read

pub returns-clause-reads : goal.returns-clause-reads
returns-clause-reads g c =
    then_kept _ _ _ (kept_then _ _ _ (c.sync_all.ensures.reads 1 (omega arith)) c.begin_log.ensures.reads)
    (stays_both (c.open.ensures.asks.files 1 (omega arith)) (c.replay.ensures.asks.files 1 (omega arith))).read

-- the streams
pub returns-in_err-begin_log-clause-streams : goal.returns-in_err-begin_log-clause-streams
returns-in_err-begin_log-clause-streams g c = streams_both c.sync_all.ensures.streams c.begin_log.ensures.writes.streams

pub returns-in_err-log-clause-streams : goal.returns-in_err-log-clause-streams
returns-in_err-log-clause-streams g c = streams_both c.sync_all.ensures.streams (streams_both c.begin_log.ensures.writes.streams c.open.ensures.asks.streams)

pub returns-in_err-tree-clause-streams : goal.returns-in_err-tree-clause-streams
returns-in_err-tree-clause-streams g c =
    streams_both c.sync_all.ensures.streams (streams_both c.begin_log.ensures.writes.streams (streams_both c.open.ensures.asks.streams c.replay.ensures.asks.streams))

pub returns-clause-streams : goal.returns-clause-streams
returns-clause-streams g c =
    streams_both c.sync_all.ensures.streams (streams_both c.begin_log.ensures.writes.streams (streams_both c.open.ensures.asks.streams c.replay.ensures.asks.streams))
