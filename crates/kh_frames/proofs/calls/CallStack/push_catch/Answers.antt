use Rattle.std.proofs.Common.{◌≡◌, ◌∙◌, ◌-◌, ℕ, Bool, true, false, length, sym, ap, refl, arith, subst}
use Rattle.std.proofs.lemmas.Bool.Decides.{nat_tests}
use Rattle.kh_frames.specs.Frame.{is_free}
use Rattle.kh_frames.specs.Rules.{slot_of}
use Rattle.kh_frames.specs.Rules.{caught}
use Rattle.kh_frames.specs.declared.state.Mark.{Mark}
use Rattle.kh_frames.proofs.Laying.{fits_caught, caught_is}
use Rattle.kh_frames.proofs.calls.CallStack.push_catch.Goals as goal

pub invariant_of-self-2 : goal.invariant_of-self-2
invariant_of-self-2 c =
    let a = c.self.inside in
    let found : c.is_free.result ≡ true = grind (arith, nat_tests) in
    let free = ap (λ s. is_free (slot_of s c.args.slot)) c.self.view_is ∙ sym c.is_free.ensures ∙ found in
    let mark : Mark = record { height = c.len.result - c.args.slot; to = c.args.to } in
    rw (c.set.ensures, c.in_ok-push.ensures.pushed) (fits_caught a.running.frame a.running.base a.waiting a.slots a.marks c.self.invariant c.args.slot mark free
    (ap (λ l. l - c.args.slot) c.len.ensures))

pub returns : goal.returns
returns c =
    let a = c.self.inside in
    let found : c.is_free.result ≡ true = grind (arith, nat_tests) in
    let free = ap (λ s. is_free (slot_of s c.args.slot)) c.self.view_is ∙ sym c.is_free.ensures ∙ found in
    let mark : Mark = record { height = c.len.result - c.args.slot; to = c.args.to } in
    rw (c.set.ensures, c.in_ok-push.ensures.pushed) (ap (caught c.args.slot c.args.to) (sym c.self.view_is)
    ∙ caught_is a.running.frame a.running.base a.waiting a.slots a.marks c.self.invariant c.args.slot mark free (ap (λ l. l - c.args.slot) c.len.ensures))
