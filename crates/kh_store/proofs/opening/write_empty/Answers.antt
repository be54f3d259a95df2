use Rattle.std.proofs.Common.{◌<◌, arith}
use Rattle.std.proofs.lemmas.Bool.{false≢true}
use Rattle.kh_io.proofs.{started, goes_on, caused_later, streams_both, others_both, files_same, told_map, told_both, may_write_start}
use Rattle.kh_store.proofs.Safe.{OnlyShort, told_if_left, short_cut, short_written, left_short}
use Rattle.kh_store.proofs.opening.write_empty.Goals as goal

pub write_at-requires-clause-room : goal.write_at-requires-clause-room
write_at-requires-clause-room g c = may_write_start _ _ (omega arith)

-- the cut alone
pub returns-in_err-cut-clause-writes : goal.returns-in_err-cut-clause-writes
returns-in_err-cut-clause-writes g c =
    let u = g.H.Disk.view c.args.host.now in
    let v = g.H.Disk.view c.cut.new.self in
    let one : 1 < 4 = omega arith in
    let short : OnlyShort (u.seen 1) (u.image 1) = λ bytes there.
    (told_if_left _ (λ none. g.met.H.Disk.untold_is_not_left c.args.host.now 1 bytes one none there), c.requires.short bytes there) in
    let at_start = started u (λ files s left.
    let now = g.met.H.Disk.only_now c.args.host.now files s left in left_short u u short (λ file lt other. files_same u file lt) files s now.images now.stamp) in
    let e = c.cut.ensures in
    record {
      own = told_map (u.seen 1) (v.seen 1) c.in_err-cut.ensures.part_cut (λ a b p. tt);
      others = e.others;
      during = goes_on at_start e.time (λ files s images least most.
          left_short u v (short_cut (u.seen 1) short e.images) e.others files s images (omega (arith, least, most, e.streams.stamp)));
      streams = e.streams;
    }

-- the cut and the write
pub returns-in_err-write_at-clause-writes : goal.returns-in_err-write_at-clause-writes
returns-in_err-write_at-clause-writes g c =
    let u = g.H.Disk.view c.args.host.now in
    let v = g.H.Disk.view c.cut.new.self in
    let w = g.H.Disk.view c.write_at.new.self in
    let one : 1 < 4 = omega arith in
    let short : OnlyShort (u.seen 1) (u.image 1) = λ bytes there.
    (told_if_left _ (λ none. g.met.H.Disk.untold_is_not_left c.args.host.now 1 bytes one none there), c.requires.short bytes there) in
    let at_start = started u (λ files s left.
    let now = g.met.H.Disk.only_now c.args.host.now files s left in left_short u u short (λ file lt other. files_same u file lt) files s now.images now.stamp) in
    let e = c.cut.ensures in
    let f = c.write_at.ensures in
    let cut = short_cut (u.seen 1) short e.images in
    let run = goes_on at_start e.time (λ files s images least most. left_short u v cut e.others files s images (omega (arith, least, most, e.streams.stamp))) in
    let others = others_both 1 u v w e.others f.others in
    record {
      own = told_both (u.seen 1) (v.seen 1) (w.seen 1) c.in_ok-cut.ensures.cut c.in_err-write_at.ensures.part_written (λ x y z p q. tt);
      others = others;
      during = goes_on run f.time (λ files s images least most.
          left_short u w (short_written (u.seen 1) cut f.images) others files s images (omega (arith, least, most, e.streams.stamp, f.streams.stamp)));
      streams = streams_both e.streams f.streams;
    }

-- and the sync
pub returns-clause-writes : goal.returns-clause-writes
returns-clause-writes g c =
    let u = g.H.Disk.view c.args.host.now in
    let v = g.H.Disk.view c.cut.new.self in
    let w = g.H.Disk.view c.write_at.new.self in
    let x = g.H.Disk.view c.sync.new.self in
    let one : 1 < 4 = omega arith in
    let short : OnlyShort (u.seen 1) (u.image 1) = λ bytes there.
    (told_if_left _ (λ none. g.met.H.Disk.untold_is_not_left c.args.host.now 1 bytes one none there), c.requires.short bytes there) in
    let at_start = started u (λ files s left.
    let now = g.met.H.Disk.only_now c.args.host.now files s left in left_short u u short (λ file lt other. files_same u file lt) files s now.images now.stamp) in
    let e = c.cut.ensures in
    let f = c.write_at.ensures in
    let h = c.sync.ensures in
    let cut = short_cut (u.seen 1) short e.images in
    let run = goes_on at_start e.time (λ files s images least most. left_short u v cut e.others files s images (omega (arith, least, most, e.streams.stamp))) in
    let written = short_written (u.seen 1) cut f.images in
    let others = others_both 1 u v w e.others f.others in
    let on = goes_on run f.time (λ files s images least most. left_short u w written others files s images (omega (arith, least, most, e.streams.stamp, f.streams.stamp))) in
    let all = others_both 1 u w x others h.others in
    record {
      own = told_both {R = λ _ _. Unit {0}} (u.seen 1) (w.seen 1) (x.seen 1)
          (told_both {R = λ _ _. Unit {0}} (u.seen 1) (v.seen 1) (w.seen 1) c.in_ok-cut.ensures.cut c.in_ok-write_at.ensures.written (λ x y z p q. tt)) h.read (λ x y z p q. tt);
      others = all;
      during = goes_on on h.time (λ files s images least most.
          left_short u x (λ bytes there. written bytes (h.no_new_images bytes there)) all files s images (omega (arith, least, most, e.streams.stamp, f.streams.stamp, h.streams.stamp)));
      streams = streams_both e.streams (streams_both f.streams h.streams);
    }

pub returns-clause-cause : goal.returns-clause-cause
returns-clause-cause g c =
    caused_later (c.in_ok-cut.ensures.cause.no_fault false≢true) (caused_later (c.in_ok-write_at.ensures.cause.no_fault false≢true) c.sync.ensures.cause)
