use Rattle.kh_code.proofs.Places.{origin_placed}
use Rattle.kh_code.proofs.indexes.by_origin.Goals as goal

pub loop-at-preserved : goal.loop-at-preserved
loop-at-preserved c =
    origin_placed c.args.functions.now c.loop-at.at c.index-functions-at.result c.in_ok-copy.field-0 c.loop-at.places c.insert.new.self
    c.loop-at-test.true c.loop-at.auto.at c.in_ok-copy.ensures c.in_ok-insert.ensures.updates c.loop-at.invariant
