use Rattle.std.proofs.Common.{◌≡◌, ◌∙◌, sym, ap, is_some, nat_lt}
use Rattle.kh_frames.specs.Rules.{unwound}
use Rattle.kh_frames.proofs.Laying.{any_catch}
use Rattle.kh_frames.proofs.calls.CallStack.has_catch.Goals as goal

pub returns : goal.returns
returns c =
    let a = c.self.inside in
    ap (nat_lt 0) c.len.ensures ∙ sym (any_catch a.running a.waiting a.slots a.marks c.self.invariant.base c.self.invariant.laid) ∙ ap (λ s. is_some (unwound s.running s.waiting)) c.self.view_is
