use Rattle.std.proofs.Common.{refl, arith}
use Rattle.kh_io.specs.FileState.{synced}
use Rattle.kh_io.proofs.Replays.{midway_next}
use Rattle.kh_io.proofs.replay.replayed.Goals as goal

pub loop-entry-init : goal.loop-entry-init
loop-entry-init c = record {
  sizes = omega (arith, c.requires);
  state = synced c.args.first.now;
  shows = rw c.in_ok-replay.ensures (record { now = refl; least = refl; loose = refl });
  leads = refl;
}

pub loop-entry-preserved : goal.loop-entry-preserved
loop-entry-preserved c = midway_next _ _ _ _ _ _ _ _ _ _ c.loop-entry.invariant c.loop-entry-test.true c.bytes.ensures c.in_ok-step.ensures
