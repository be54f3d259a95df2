use Rattle.kh_code.proofs.Places.{entry_placed}
use Rattle.kh_code.proofs.indexes.by_entry.Goals as goal

pub loop-at-preserved : goal.loop-at-preserved
loop-at-preserved c =
    entry_placed c.args.functions.now c.loop-at.at c.index-functions-at.result c.loop-at.places c.insert.new.self
    c.loop-at-test.true c.loop-at.auto.at c.in_ok-insert.ensures.updates c.loop-at.invariant
