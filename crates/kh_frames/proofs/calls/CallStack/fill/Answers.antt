use Rattle.std.proofs.Common.{◌≡◌, ◌∙◌, ◌-◌, ℕ, Bool, true, false, length, sym, ap, refl, arith, subst}
use Rattle.std.proofs.lemmas.Bool.Decides.{nat_tests}
use Rattle.kh_frames.specs.Frame.{is_free}
use Rattle.kh_frames.specs.Rules.{slot_of}
use Rattle.kh_frames.specs.Rules.{filled}
use Rattle.kh_frames.proofs.Laying.{fits_filled, filled_is}
use Rattle.kh_frames.proofs.calls.CallStack.fill.Goals as goal

pub invariant_of-self : goal.invariant_of-self
invariant_of-self c =
    let a = c.self.inside in
    let found : c.is_free.result ≡ true = grind (arith, nat_tests) in
    let free = ap (λ s. is_free (slot_of s c.args.i)) c.self.view_is ∙ sym c.is_free.ensures ∙ found in
    rw c.set.ensures (fits_filled a.running.frame a.running.base a.waiting a.slots a.marks c.self.invariant c.args.i c.args.v free)

pub returns : goal.returns
returns c =
    let a = c.self.inside in
    let found : c.is_free.result ≡ true = grind (arith, nat_tests) in
    let free = ap (λ s. is_free (slot_of s c.args.i)) c.self.view_is ∙ sym c.is_free.ensures ∙ found in
    rw c.set.ensures (ap (filled c.args.i c.args.v) (sym c.self.view_is) ∙ filled_is a.running.frame a.running.base a.waiting a.slots a.marks c.self.invariant c.args.i c.args.v free)
