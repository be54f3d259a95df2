use Rattle.std.proofs.Common.{arith}
use Rattle.std.proofs.lemmas.Int.{ints}
use Rattle.kh_bif_data.proofs.Places.{place_below, place_above, place_within}
use Rattle.kh_bif_data.proofs.tuples.place_in.Goals as goal

pub returns-then-place-lt1 : goal.returns-then-place-lt1
returns-then-place-lt1 c = place_below c.args.place c.args.count (omega (arith, ints))

pub returns-then-place-most : goal.returns-then-place-most
returns-then-place-most c = place_within c.args.place c.args.count _ (omega (arith, ints)) (omega (arith, ints))

pub returns-else-place-most : goal.returns-else-place-most
returns-else-place-most c = place_above c.args.place c.args.count (omega (arith, ints))
