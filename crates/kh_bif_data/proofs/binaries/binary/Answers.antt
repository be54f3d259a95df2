use Rattle.std.proofs.Common.{ap, ◌∙◌, arith}
use Rattle.kh_term.specs.declared.tree.TermTree.TheVariants as tree
use Rattle.kh_term.specs.Size.{size_of}
use Rattle.kh_term.proofs.Layers.{size-Bin}
use Rattle.kh_bif_data.proofs.Answering.{GrewBy-of, built_by, same_built}
use Rattle.kh_bif_data.proofs.binaries.binary.Goals as goal

pub load-requires : goal.load-requires
load-requires c = omega (arith, c.requires.room, ap size_of (c.bin-term.ensures ∙ ap tree.Bin c.new.ensures), size-Bin c.args.bytes.items)

pub returns-clause-built : goal.returns-clause-built
returns-clause-built c =
    same_built c.load.new.self c.load.result c.bin-term.result.node (tree.Bin c.args.bytes.items) (c.bin-term.ensures ∙ ap tree.Bin c.new.ensures)
    (built_by c.load.new.self c.load.result c.bin-term.result.node c.load.ensures.term c.load.ensures.limits)

pub returns-clause-grew : goal.returns-clause-grew
returns-clause-grew c =
    GrewBy-of _ c.args.heap.now c.load.new.self c.load.ensures.grew
    (omega (arith, c.load.ensures.cells, ap size_of (c.bin-term.ensures ∙ ap tree.Bin c.new.ensures), size-Bin c.args.bytes.items))
