use Rattle.std.proofs.Common.{◌≡◌, ◌∙◌, sym, ap, subst, refl, arith, Option, Some, None}
use Rattle.kh_frames.specs.Frame.{newest_slot}
use Rattle.kh_frames.proofs.Laying.{taken_off, unmarked}
use Rattle.kh_frames.proofs.calls.CallStack.take_catch.Goals as goal

pub returns-in_err-mark : goal.returns-in_err-mark
returns-in_err-mark c =
    let a = c.self.inside in
    let none = unmarked a.running a.waiting a.slots a.marks c.args.self.now c.self.view_is (sym c.pop.ensures.top ∙ c.in_err-mark.was) in
    let found = sym c.newest_slot.ensures ∙ c.in_ok-slot.was in
    absurd cc

pub set-requires : goal.set-requires
set-requires c =
    let a = c.self.inside in
    (taken_off a.running.frame a.running.base a.waiting a.slots c.in_ok-mark.mark c.pop.new.self a.marks c.args.self.now c.self.view_is c.self.invariant c.in_ok-mark.ensures.rest
    c.in_ok-slot.slot (sym c.newest_slot.ensures ∙ c.in_ok-slot.was)).0

pub invariant_of-self-2 : goal.invariant_of-self-2
invariant_of-self-2 c =
    let a = c.self.inside in
    rw c.set.ensures (taken_off a.running.frame a.running.base a.waiting a.slots c.in_ok-mark.mark c.pop.new.self a.marks c.args.self.now c.self.view_is c.self.invariant c.in_ok-mark.ensures.rest
    c.in_ok-slot.slot (sym c.newest_slot.ensures ∙ c.in_ok-slot.was)).1

pub returns : goal.returns
returns c =
    let a = c.self.inside in
    rw c.set.ensures (taken_off a.running.frame a.running.base a.waiting a.slots c.in_ok-mark.mark c.pop.new.self a.marks c.args.self.now c.self.view_is c.self.invariant c.in_ok-mark.ensures.rest
    c.in_ok-slot.slot (sym c.newest_slot.ensures ∙ c.in_ok-slot.was)).2
