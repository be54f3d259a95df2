use Rattle.std.proofs.Common.{◌∙◌, arith}
use Rattle.std.proofs.lemmas.Bool.{false≢true}
use Rattle.kh_io.proofs.{kept_both, files_both}
use Rattle.khepri.proofs.Giving.{giving_goes_on, untouched_goes_on}
use Rattle.khepri.proofs.output.give_all.Goals as goal

pub loop-rest-preserved : goal.loop-rest-preserved
loop-rest-preserved g c =
    let u = g.H.Disk.view c.args.host.now in
    let v = g.H.Disk.view c.loop-rest.host in
    let w = g.H.Disk.view c.give.new.self in
    let before = c.loop-rest.invariant in
    let call = c.in_ok-taken.ensures in
    let stay = files_both u v w before.files call.files in
    record {
      giving = rw c.split_at.ensures.back (giving_goes_on u.given v.given w.given c.args.piece.now c.loop-rest.rest.now c.in_ok-taken.taken before.giving call.added);
      writes = call.cause.no_fault false≢true ∙ before.writes;
      files = stay;
      during = untouched_goes_on u v w stay before.input.stamp call.input.stamp before.during call.time;
      input = record {
        stamp = omega (arith, before.input.stamp, call.input.stamp);
        input = kept_both u.left v.left w.left before.input.input call.input.input;
        reads = call.input.reads ∙ before.input.reads;
        disk = call.input.disk ∙ before.input.disk;
      };
    }
