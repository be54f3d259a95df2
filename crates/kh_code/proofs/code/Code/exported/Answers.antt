use Rattle.std.proofs.Common.{◌≡◌, ◌∙◌, ap, sym, refl}
use Rattle.kh_code.proofs.Finds.{exports, exports_none, own_name}
use Rattle.kh_code.proofs.code.Code.exported.Goals as goal

pub returns-in-Some : goal.returns-in-Some
returns-in-Some c =
    c.exported.ensures (own_name c.self.inside.modules.entries c.self.inside.totals c.self.invariant c.args.self.now c.self.view_is c.args.function.now c.in-Some.found.now (sym c.in-Some.ensures.value))
    ∙ exports c.self.inside.modules.entries c.self.inside.totals c.self.invariant c.args.self.now c.self.view_is c.args.function.now c.in-Some.found.now (sym c.in-Some.ensures.value)

pub returns-in-None : goal.returns-in-None
returns-in-None c =
    sym (exports_none c.self.inside.modules.entries c.self.inside.totals c.self.invariant c.args.self.now c.self.view_is c.args.function.now (sym c.in-None.ensures.value))
