use Rattle.std.proofs.Common.{length}
use Rattle.std.proofs.lemmas.Bool.{false≢true}
use Rattle.kh_io.proofs.{caused_later, writes_weakened, writes_both}
use Rattle.kh_log.specs.Records.{open_gate}
use Rattle.kh_log.proofs.Opening.{start_again, first_left, second_left, staged, both_written, both_put, during_first, during_second, on_ok}
use Rattle.kh_log.proofs.durable.open_behind.Goals as goal

pub write_durably-requires-2-clause-start : goal.write_durably-requires-2-clause-start
write_durably-requires-2-clause-start g c =
    start_again _ _ c.args.last c.args.bytes.now c.in_ok-write_durably.ensures.written c.requires.start

pub returns-in_err-write_durably-clause-images : goal.returns-in_err-write_durably-clause-images
returns-in_err-write_durably-clause-images g c = λ left there more group rs ends.
    first_left c.args.last rs more (length c.args.bytes.now) ends left (c.write_durably.ensures.images left there)

pub returns-in_err-write_durably-clause-writes : goal.returns-in_err-write_durably-clause-writes
returns-in_err-write_durably-clause-writes g c =
    writes_weakened c.write_durably.ensures.writes (during_first c.args.file c.args.last c.args.bytes.now (g.D.Disk.view c.args.disk.now))

pub returns-clause-appended : goal.returns-clause-appended
returns-clause-appended g c =
    on_ok c.write_durably-2.result c.write_durably-2.ensures.written
    (both_written _ _ _ c.args.last c.args.bytes.now c.in_ok-write_durably.ensures.written)

pub returns-clause-written : goal.returns-clause-written
returns-clause-written g c =
    on_ok c.write_durably-2.result c.write_durably-2.ensures.written
    (both_put _ _ _ c.args.last open_gate c.args.bytes.now c.requires.start c.in_ok-write_durably.ensures.written)

pub returns-clause-images : goal.returns-clause-images
returns-clause-images g c = λ left there more group rs ends.
    second_left c.args.last rs more c.args.bytes.now group
    (staged c.args.last rs c.args.bytes.now ends _ _ (λ bytes. g.met.D.Disk.seen_is_image c.args.disk.now c.args.file bytes c.requires.file)
    c.in_ok-write_durably.ensures.written c.in_ok-write_durably.ensures.safe)
    left (c.write_durably-2.ensures.images left there)

pub returns-clause-writes : goal.returns-clause-writes
returns-clause-writes g c =
    let u = g.D.Disk.view c.args.disk.now in
    let v = g.D.Disk.view c.write_durably.new.disk in
    let e = c.write_durably.ensures.writes in
    writes_both (writes_weakened e (during_first c.args.file c.args.last c.args.bytes.now u)) c.write_durably-2.ensures.writes
    (during_second c.args.file c.args.last c.args.bytes.now u v
    (λ rs ends. staged c.args.last rs c.args.bytes.now ends _ _ (λ bytes. g.met.D.Disk.seen_is_image c.args.disk.now c.args.file bytes c.requires.file)
    c.in_ok-write_durably.ensures.written c.in_ok-write_durably.ensures.safe) e.others e.streams.stamp)

pub returns-clause-cause : goal.returns-clause-cause
returns-clause-cause g c = caused_later (c.in_ok-write_durably.ensures.cause.no_fault false≢true) c.write_durably-2.ensures.cause
