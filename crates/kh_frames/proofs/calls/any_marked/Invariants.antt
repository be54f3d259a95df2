use Rattle.std.proofs.Common.{◌≡◌, take, false}
use Rattle.std.specs.List.{list_any}
use Rattle.kh_frames.specs.Frame.{is_marked}
use Rattle.kh_frames.proofs.calls.any_marked.Given as goal

abbrev pub invariant-loop-i : goal.invariant-loop-i
invariant-loop-i l = list_any is_marked (take l.i l.slots) ≡ false
