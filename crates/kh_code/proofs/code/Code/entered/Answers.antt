use Rattle.std.proofs.Common.{◌≡◌, ◌∙◌, ap, sym, refl}
use Rattle.kh_code.proofs.Finds.{enters, enters_none}
use Rattle.kh_code.proofs.code.Code.entered.Goals as goal

pub returns-in-Some-clause-function : goal.returns-in-Some-clause-function
returns-in-Some-clause-function c =
    c.entered.ensures ∙ enters c.self.inside.modules.entries c.self.inside.totals c.self.invariant c.args.self.now c.self.view_is c.args.«module».now c.args.label c.in-Some.found.now (sym c.in-Some.ensures.value)

pub returns-in-None-clause-function : goal.returns-in-None-clause-function
returns-in-None-clause-function c =
    sym (enters_none c.self.inside.modules.entries c.self.inside.totals c.self.invariant c.args.self.now c.self.view_is c.args.«module».now c.args.label (sym c.in-None.ensures.value))
