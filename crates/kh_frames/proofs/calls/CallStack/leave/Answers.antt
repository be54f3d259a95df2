use Rattle.std.proofs.Common.{◌≡◌, ◌∙◌, ◌∷◌, sym, ap, subst, refl, arith, List, drop}
use Rattle.kh_frames.specs.Stored.{size, Fits, calls_of, slots_below}
use Rattle.kh_frames.proofs.Laying.{left_off, none_waits}
use Rattle.kh_frames.proofs.calls.CallStack.leave.Goals as goal

pub invariant_of-self-in-Some : goal.invariant_of-self-in-Some
invariant_of-self-in-Some c =
    let a = c.self.inside in
    rw (c.shed.ensures, c.size.ensures) (left_off a.running c.in-Some.field-0 c.pop.new.self a.waiting a.slots a.marks c.args.self.now c.self.view_is c.self.invariant c.in-Some.ensures.rest c.requires).0

pub returns-in-None : goal.returns-in-None
returns-in-None c =
    let a = c.self.inside in (
      none_waits a.running a.waiting a.slots a.marks c.args.self.now c.self.view_is (sym c.pop.ensures.top ∙ c.in-None.is),
      ap (λ w. calls_of a.running w a.slots a.marks) (sym c.in-None.ensures.rest) ∙ c.self.view_is,
    )

pub returns-in-Some : goal.returns-in-Some
returns-in-Some c =
    let a = c.self.inside in
    rw (c.shed.ensures, c.size.ensures) (left_off a.running c.in-Some.field-0 c.pop.new.self a.waiting a.slots a.marks c.args.self.now c.self.view_is c.self.invariant c.in-Some.ensures.rest c.requires).1
