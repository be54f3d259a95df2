use Rattle.std.proofs.Common.{◌≡◌}
use Rattle.kh_code.proofs.Places.{export_told}
use Rattle.kh_code.proofs.indexes.exports.Goals as goal

pub loop-export-preserved : goal.loop-export-preserved
loop-export-preserved c =
    export_told c.args.«module».now.name c.args.«module».now.exports c.as_slice-export-items.result.now c.loop-export.export-index c.export-item.result
    (record { «module» = c.in_ok-copy.field-0; name = c.in_ok-copy-2.field-0; arity = c.export-item.result.arity }) c.loop-export.triples c.insert.new.self
    c.as_slice-export-items.ensures c.loop-export-test.true c.export-item.is
    (λ j. record { «module» = c.in_ok-copy.ensures j; name = c.in_ok-copy-2.ensures j; arity = c.export-item.result.arity })
    c.in_ok-insert.ensures.updates c.loop-export.invariant
