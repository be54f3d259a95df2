use Rattle.kh_term.specs.Lemmas.Total.{terms_total}
use Rattle.kh_term.proofs.laws.order_is_total.Goals as goal

pub returns : goal.returns
returns c = terms_total
