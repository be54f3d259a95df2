use Rattle.std.proofs.Common.{◌≡◌, ◌∙◌, ap, sym, subst}
use Rattle.kh_code.specs.Totals.{IsPart, code_totals, replaced_totals}
use Rattle.kh_code.specs.declared.totals.Totals.{Totals}
use Rattle.kh_code.proofs.Finds.{named}
use Rattle.kh_code.proofs.Within.{old_within}
use Rattle.kh_code.proofs.code.Code.old_totals.Goals as goal

pub returns-in-Some : goal.returns-in-Some
returns-in-Some c =
    let same = c.totals.ensures ∙ ap replaced_totals (sym (named c.self.inside.modules.entries c.self.inside.totals c.self.invariant c.args.self.now c.self.view_is c.args.name.now _ (sym c.in-Some.ensures.value))) in
    record { totals = same; part = subst (λ (old : Totals). IsPart old (code_totals c.args.self.now)) (sym same) (old_within c.args.self.now c.args.name.now) }

pub returns-in-None : goal.returns-in-None
returns-in-None c =
    let same = c.new.ensures ∙ ap replaced_totals (sym (named c.self.inside.modules.entries c.self.inside.totals c.self.invariant c.args.self.now c.self.view_is c.args.name.now _ (sym c.in-None.ensures.value))) in
    record { totals = same; part = subst (λ (old : Totals). IsPart old (code_totals c.args.self.now)) (sym same) (old_within c.args.self.now c.args.name.now) }
