use Rattle.std.proofs.Common.{◌≡◌, ◌∙◌, ◌+◌, ◌≤◌, ◌++◌, Bool, true, List, ℕ, Option, Some, None, sym, ap, subst, arith, refl}
use Rattle.std.proofs.lemmas.Bool.Decides.{nat_tests}
use Rattle.kh_frames.specs.Stored.{Fits, calls_of}
use Rattle.kh_frames.specs.Rules.{Answer, allocated, becomes, has_room}
use Rattle.kh_frames.proofs.Laying.{within_limit, fits_new, allocated_new}
use Rattle.kh_frames.proofs.calls.CallStack.allocate.Goals as goal

pub invariant_of-self-2 : goal.invariant_of-self-2
invariant_of-self-2 c =
    let a = c.self.inside in
    let found : c.has_room.result ≡ true = grind (arith, nat_tests) in
    let limit = within_limit a.running a.waiting a.slots a.marks c.self.invariant c.args.n c.has_room.result c.args.self.now c.self.view_is c.has_room.ensures found in
    let bare : a.running.frame ≡ None = grind (arith, nat_tests) in
    rw (c.in_ok-push_copies.ensures.pushed) (fits_new a.running.frame bare a.running.base a.waiting a.slots a.marks c.self.invariant c.args.n limit)

pub returns : goal.returns
returns c =
    let a = c.self.inside in
    let found : c.has_room.result ≡ true = grind (arith, nat_tests) in
    let bare : a.running.frame ≡ None = grind (arith, nat_tests) in
    rw (c.in_ok-push_copies.ensures.pushed, ← c.self.view_is) (allocated_new a.running.frame bare a.running.base a.waiting a.slots a.marks c.self.invariant c.args.n (ap (λ s. has_room s c.args.n) c.self.view_is ∙ sym c.has_room.ensures ∙ found))
