use Rattle.std.proofs.Common.{◌≡◌, ◌∙◌, ap, sym, subst}
use Rattle.kh_code.specs.Loading.{IsCode}
use Rattle.kh_code.specs.Totals.{IsPart, code_totals, replaced, replaced_totals}
use Rattle.kh_code.specs.declared.totals.Totals.{Totals}
use Rattle.kh_code.proofs.code.Code.totals_with.Goals as goal

pub replaced-requires : goal.replaced-requires
replaced-requires c =
    let same : c.self.inside.totals ≡ code_totals c.args.self.now = c.self.invariant.totals ∙ ap code_totals c.self.view_is in
    subst (IsPart c.old_totals-old.result) (sym same) c.old_totals-old.ensures.part

pub returns : goal.returns
returns c =
    let same : c.self.inside.totals ≡ code_totals c.args.self.now = c.self.invariant.totals ∙ ap code_totals c.self.view_is in
    record {
      totals = c.replaced.ensures ∙ (λ i. replaced (same i) (c.old_totals-old.ensures.totals i) c.args.own.now);
      code = subst IsCode c.self.view_is c.self.invariant.code;
    }
