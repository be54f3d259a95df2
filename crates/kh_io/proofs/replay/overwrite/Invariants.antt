use Rattle.std.proofs.Common.{ℕ, ◌≡◌, ◌<◌, ◌≤◌, get_or, if◌then◌else◌}
use Rattle.kh_io.specs.Replay.{is_loose_at}
use Rattle.kh_io.proofs.replay.overwrite.Given as goal

abbrev pub invariant-loop-i : goal.invariant-loop-i
invariant-loop-i l = record {
  done : (k : ℕ) → k < l.i → get_or l.bytes k 0 ≡ (if is_loose_at l.least l.loose k then l.byte else get_or l.fn.bytes k 0);
  left : (k : ℕ) → l.i ≤ k → get_or l.bytes k 0 ≡ get_or l.fn.bytes k 0;
}
