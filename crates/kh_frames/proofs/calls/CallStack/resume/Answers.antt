use Rattle.std.proofs.Common.{◌≡◌, ◌∙◌, sym, ap}
use Rattle.kh_frames.proofs.Laying.{unframed_bare}
use Rattle.kh_frames.proofs.calls.CallStack.resume.Goals as goal

pub leave-requires : goal.leave-requires
leave-requires c =
    let a = c.self.inside in
    unframed_bare a.running.frame a.running.base a.waiting a.slots a.marks c.args.self.now c.self.view_is c.self.invariant c.in-None.is
