use Rattle.std.proofs.Common.{◌≡◌, ◌∙◌, sym, ap, true}
use Rattle.kh_frames.proofs.Ends.{ends_after}
use Rattle.kh_frames.proofs.registers.Registers.set.Goals as goal

pub invariant_of-self-2 : goal.invariant_of-self-2
invariant_of-self-2 c = rw c.in_ok-provide.ensures.provided (ends_after c.self.inside.items.items c.args.n c.args.v c.self.invariant)
