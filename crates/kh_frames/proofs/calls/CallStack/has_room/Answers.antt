use Rattle.std.proofs.Common.{◌∙◌, ◌+◌, length, sym, ap, nat_le}
use Rattle.kh_frames.specs.Rules.{has_room}
use Rattle.kh_frames.proofs.Laying.{room}
use Rattle.kh_frames.proofs.calls.CallStack.has_room.Goals as goal

pub returns : goal.returns
returns c =
    let a = c.self.inside in let n = c.args.n in
    ap (λ k. nat_le (k + c.len-2.result + n) 100000) c.len.ensures ∙ ap (λ k. nat_le (length a.slots + k + n) 100000) c.len-2.ensures
    ∙ sym (room a.running a.waiting a.slots a.marks c.self.invariant n) ∙ ap (λ s. has_room s n) c.self.view_is
