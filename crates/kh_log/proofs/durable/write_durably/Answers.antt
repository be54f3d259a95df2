use Rattle.std.proofs.Common.{length, arith}
use Rattle.std.proofs.lemmas.Bool.{false≢true}
use Rattle.kh_io.proofs.{started, goes_on, caused_later, streams_both, others_both, told_map, told_both}
use Rattle.kh_log.proofs.Writes.{writing, before_write}
use Rattle.kh_log.proofs.durable.write_durably.Goals as goal

pub write_at-requires-clause-room : goal.write_at-requires-clause-room
write_at-requires-clause-room g c = record { start = c.requires.start; end = c.requires.end }

-- the write alone
pub returns-in_err-write_at-clause-writes : goal.returns-in_err-write_at-clause-writes
returns-in_err-write_at-clause-writes g c =
    let v = g.D.Disk.view c.args.disk.now in
    let w = g.D.Disk.view c.write_at.new.self in
    let e = c.write_at.ensures in
    let at_start = started v (λ files s left. before_write c.args.file c.args.at (length c.args.bytes.now) v c.requires.file files s (g.met.D.Disk.only_now c.args.disk.now files s left)) in
    record {
      own = told_map (v.seen c.args.file) (w.seen c.args.file) c.in_err-write_at.ensures.part_written (λ a b torn. tt);
      others = e.others;
      during = goes_on at_start e.time (λ files s images least most.
          writing c.args.file c.args.at (length c.args.bytes.now) v w.image c.requires.file e.images.only (λ other lt not. (e.others other lt not).only) files s images
          (omega (arith, least, most, e.streams.stamp)));
      streams = e.streams;
    }

-- the write and then the sync
pub returns-clause-writes : goal.returns-clause-writes
returns-clause-writes g c =
    let u = g.D.Disk.view c.args.disk.now in
    let v = g.D.Disk.view c.write_at.new.self in
    let w = g.D.Disk.view c.sync.new.self in
    let e = c.write_at.ensures in
    let f = c.sync.ensures in
    let at_start = started u (λ files s left. before_write c.args.file c.args.at (length c.args.bytes.now) u c.requires.file files s (g.met.D.Disk.only_now c.args.disk.now files s left)) in
    let written = goes_on at_start e.time (λ files s images least most.
    writing c.args.file c.args.at (length c.args.bytes.now) u v.image c.requires.file e.images.only (λ other lt not. (e.others other lt not).only) files s images
    (omega (arith, least, most, e.streams.stamp))) in
    record {
      own = told_both (u.seen c.args.file) (v.seen c.args.file) (w.seen c.args.file) c.in_ok-write_at.ensures.written f.read (λ x y z p q. tt);
      others = others_both c.args.file u v w e.others f.others;
      during = goes_on written f.time (λ files s images least most.
          writing c.args.file c.args.at (length c.args.bytes.now) u w.image c.requires.file
          (λ bytes image. e.images.only bytes (f.no_new_images bytes image))
          (λ other lt not bytes image. (e.others other lt not).only bytes ((f.others other lt not).only bytes image))
          files s images (omega (arith, least, most, e.streams.stamp, f.streams.stamp)));
      streams = streams_both e.streams f.streams;
    }

pub returns-clause-cause : goal.returns-clause-cause
returns-clause-cause g c = caused_later (c.in_ok-write_at.ensures.cause.no_fault false≢true) c.sync.ensures.cause
