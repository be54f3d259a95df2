use Rattle.std.proofs.Common.{sym, ap, ◌∙◌, ℤ}
use Rattle.std.specs.Prelude.{Option}
use Rattle.kh_bif_data.specs.Asked.{of_some}
use Rattle.kh_bif_data.proofs.charging.where_integer.Goals as goal

pub returns-in-Some : goal.returns-in-Some
returns-in-Some c = sym (ap (λ (o : Option ℤ). of_some o 0 (λ i. c.args.n)) (sym c.integer.ensures ∙ c.in-Some.is))

pub returns-in-None : goal.returns-in-None
returns-in-None c = sym (ap (λ (o : Option ℤ). of_some o 0 (λ i. c.args.n)) (sym c.integer.ensures ∙ c.in-None.is))
