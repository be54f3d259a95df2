use Rattle.std.proofs.Common.{◌≡◌, ◌∙◌, ◌+◌, Bool, false, ℕ, sym, ap, arith, take}
use Rattle.std.proofs.lemmas.Bool.Decides.{nat_tests}
use Rattle.std.specs.List.{list_any}
use Rattle.kh_frames.specs.Frame.{is_marked}
use Rattle.kh_frames.specs.Rules.{trimmed}
use Rattle.kh_frames.proofs.Laying.{fits_cut, cut_is}
use Rattle.kh_frames.proofs.calls.CallStack.trim.Goals as goal

pub invariant_of-self : goal.invariant_of-self
invariant_of-self c =
    let a = c.self.inside in
    let sized : c.in-Some.size ≡ c.args.n + c.args.rest = grind (arith, nat_tests) in
    let free : list_any is_marked (take c.args.n a.slots) ≡ false = sym c.any_marked.ensures ∙ c.if-any_marked.false in
    rw c.shed.ensures (fits_cut a.running.frame c.in-Some.size c.args.n c.args.rest a.running.base a.waiting a.slots a.marks c.in-Some.is sized c.self.invariant free)

pub returns-else-any_marked : goal.returns-else-any_marked
returns-else-any_marked c =
    let a = c.self.inside in
    let sized : c.in-Some.size ≡ c.args.n + c.args.rest = grind (arith, nat_tests) in
    let free : list_any is_marked (take c.args.n a.slots) ≡ false = sym c.any_marked.ensures ∙ c.if-any_marked.false in
    rw c.shed.ensures (ap (trimmed c.args.n c.args.rest) (sym c.self.view_is)
    ∙ cut_is a.running.frame c.in-Some.size c.args.n c.args.rest a.running.base a.waiting a.slots a.marks c.in-Some.is sized c.self.invariant free)
