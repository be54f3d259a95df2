use Rattle.std.proofs.Common.{◌≡◌, ◌++◌, length, ap, ◌∙◌, arith}
use Rattle.kh_term.specs.declared.tree.TermTree.TheVariants as tree
use Rattle.kh_heap.specs.Heap.{term_at}
use Rattle.kh_bif_data.specs.Iolists.{iolist_bytes}
use Rattle.kh_bif_data.proofs.Answering.{GrewBy-more, same_built}
use Rattle.kh_bif_data.proofs.iolists.joined.Goals as goal

pub binary-requires : goal.binary-requires
binary-requires c =
    let bytes = iolist_bytes (term_at c.args.heap.now c.args.r) in
    let same : c.add_iolist.new.out.items ≡ bytes = c.in_ok-add_iolist.ensures bytes c.requires.given ∙ ap (λ us. us ++ bytes) c.new-out.ensures.items in
    omega (arith, c.requires.room, ap length same)

pub returns-clause-built : goal.returns-clause-built
returns-clause-built c =
    let bytes = iolist_bytes (term_at c.args.heap.now c.args.r) in
    let same : c.add_iolist.new.out.items ≡ bytes = c.in_ok-add_iolist.ensures bytes c.requires.given ∙ ap (λ us. us ++ bytes) c.new-out.ensures.items in
    same_built c.binary.new.heap c.binary.result (tree.Bin c.add_iolist.new.out.items) (tree.Bin bytes) (ap tree.Bin same) c.binary.ensures.built

pub returns-clause-grew : goal.returns-clause-grew
returns-clause-grew c =
    let bytes = iolist_bytes (term_at c.args.heap.now c.args.r) in
    let same : c.add_iolist.new.out.items ≡ bytes = c.in_ok-add_iolist.ensures bytes c.requires.given ∙ ap (λ us. us ++ bytes) c.new-out.ensures.items in
    GrewBy-more _ _ c.args.heap.now c.binary.new.heap (omega (arith, ap length same)) c.binary.ensures.grew
