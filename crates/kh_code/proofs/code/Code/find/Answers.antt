use Rattle.std.proofs.Common.{◌≡◌, ◌∙◌, ap, sym, refl}
use Rattle.kh_code.proofs.Finds.{finds, finds_none}
use Rattle.kh_code.proofs.code.Code.find.Goals as goal

pub returns-in-Some-clause-function : goal.returns-in-Some-clause-function
returns-in-Some-clause-function c =
    c.find.ensures ∙ finds c.self.inside.modules.entries c.self.inside.totals c.self.invariant c.args.self.now c.self.view_is c.args.function.now c.in-Some.found.now (sym c.in-Some.ensures.value)

pub returns-in-None-clause-function : goal.returns-in-None-clause-function
returns-in-None-clause-function c =
    sym (finds_none c.self.inside.modules.entries c.self.inside.totals c.self.invariant c.args.self.now c.self.view_is c.args.function.now (sym c.in-None.ensures.value))
