use Rattle.std.proofs.Common.{sym, ap}
use Rattle.std.specs.Prelude.{Option, codes, option_map}
use Rattle.kh_term.specs.declared.tree.TermTree.TheVariants as tree
use Rattle.kh_heap.specs.Heap.{term_at}
use Rattle.kh_bif_data.specs.Asked.{of_some}
use Rattle.kh_bif_data.specs.Maps.{ok_with}
use Rattle.kh_bif_data.proofs.Answering.{same_built}
use Rattle.kh_bif_data.proofs.lookups.ok_or_error.Goals as goal

pub returns-in-Some-clause-built : goal.returns-in-Some-clause-built
returns-in-Some-clause-built c =
    let heap = c.args.heap.now in
    same_built c.tagged.new.heap c.tagged.result (ok_with (term_at heap c.in-Some.value)) (of_some (option_map (term_at heap) c.args.found) (tree.Atom (codes "error")) ok_with)
    (sym (ap (λ o. of_some (option_map (term_at heap) o) (tree.Atom (codes "error")) ok_with) c.in-Some.is)) c.tagged.ensures.built

pub returns-in-None-clause-built : goal.returns-in-None-clause-built
returns-in-None-clause-built c =
    let heap = c.args.heap.now in
    same_built c.atom.new.heap c.atom.result (tree.Atom (codes "error")) (of_some (option_map (term_at heap) c.args.found) (tree.Atom (codes "error")) ok_with)
    (sym (ap (λ o. of_some (option_map (term_at heap) o) (tree.Atom (codes "error")) ok_with) c.in-None.is)) c.atom.ensures.built
