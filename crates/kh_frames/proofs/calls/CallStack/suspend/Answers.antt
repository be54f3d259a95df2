use Rattle.std.proofs.Common.{◌≡◌, ◌∙◌, ◌+◌, ◌≤◌, Bool, true, sym, ap, subst, arith}
use Rattle.std.proofs.lemmas.Bool.Decides.{nat_tests}
use Rattle.kh_frames.proofs.Laying.{within_limit, fits_suspended}
use Rattle.kh_frames.proofs.calls.CallStack.suspend.Goals as goal

pub invariant_of-self-2 : goal.invariant_of-self-2
invariant_of-self-2 c =
    let a = c.self.inside in
    let found : c.has_room.result ≡ true = grind (arith, nat_tests) in
    let limit = within_limit a.running a.waiting a.slots a.marks c.self.invariant 1 c.has_room.result c.args.self.now c.self.view_is c.has_room.ensures found in
    rw (c.in_ok-push.ensures.pushed, c.len-base.ensures) (fits_suspended a.running c.args.back a.waiting a.slots a.marks c.self.invariant limit)
