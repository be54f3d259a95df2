use Rattle.std.proofs.Common.{◌≡◌, length, is_some, true}
use Rattle.kh_frames.specs.Rules.{unwound}
use Rattle.kh_frames.proofs.calls.CallStack.raise.Given as goal

-- the same catch is found from the call that runs now, and there is one
abbrev pub invariant-loop-self : goal.invariant-loop-self
invariant-loop-self l = record {
  same : unwound l.self.running l.self.waiting ≡ unwound l.fn.self.running l.fn.self.waiting;
  some : is_some (unwound l.fn.self.running l.fn.self.waiting) ≡ true;
}

abbrev pub decreases-loop-self : goal.decreases-loop-self
decreases-loop-self l = length l.self.waiting
