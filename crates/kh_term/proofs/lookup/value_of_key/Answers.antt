use Rattle.kh_term.specs.Lemmas.Fits.{values_of_map}
use Rattle.kh_term.proofs.Places.{value_fits, value_is, no_value}
use Rattle.kh_term.proofs.lookup.value_of_key.Goals as goal

pub returns-in-Ok-clause-value : goal.returns-in-Ok-clause-value
returns-in-Ok-clause-value c =
    value_is c.args.pairs.now c.args.key.now c.in-Ok.at c.index-pairs-at.result c.requires c.in-Ok.ensures.0 (c.in-Ok.ensures.1 c.index-pairs-at.result)

pub returns-in-Ok-clause-fits : goal.returns-in-Ok-clause-fits
returns-in-Ok-clause-fits c =
    value_fits c.args.pairs.now c.in-Ok.at c.index-pairs-at.result (values_of_map c.args.pairs.now c.requires) c.in-Ok.ensures.0

pub returns-in-Err-clause-value : goal.returns-in-Err-clause-value
returns-in-Err-clause-value c = no_value c.args.pairs.now c.args.key.now.node c.in-Err.field-0 c.in-Err.ensures.1
