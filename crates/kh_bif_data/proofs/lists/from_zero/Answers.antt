use Rattle.std.proofs.Common.{◌∙◌, rules, ap, SFits, arith}
use Rattle.std.specs.Int.{w128}
use Rattle.std.specs.Prelude.{unsigned_abs}
use Rattle.std.proofs.lemmas.Int.{ints, to_z-of_z}
use Rattle.kh_bif_data.proofs.Places.{zero_below, zero_above}
use Rattle.kh_bif_data.proofs.lists.from_zero.Goals as goal

pub returns-then-place-lt1 : goal.returns-then-place-lt1
returns-then-place-lt1 c = zero_below c.args.place (omega (arith, ints))

pub returns-else-place-lt1 : goal.returns-else-place-lt1
returns-else-place-lt1 c =
    let fits : SFits w128 c.args.place = search rules in
    zero_above c.args.place c.unsigned_abs.result _ (omega (arith, ints)) (c.unsigned_abs.ensures.value ∙ ap unsigned_abs (to_z-of_z w128 c.args.place fits)) (omega (arith, ints))
