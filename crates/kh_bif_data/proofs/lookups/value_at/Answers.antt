use Rattle.std.proofs.Common.{◌≡◌, ◌∙◌, arith}
use Rattle.kh_term.specs.declared.tree.TermTree.{TermTree}
use Rattle.kh_term.specs.declared.tree.TermTree.TheVariants as tree
use Rattle.kh_heap.specs.Heap.{term_at}
use Rattle.kh_heap.specs.Parts.{pairs_in}
use Rattle.kh_bif_data.proofs.Collecting.{value_at}
use Rattle.kh_bif_data.proofs.Searching.{map_rises, map_fits, found_at, not_found}
use Rattle.kh_bif_data.proofs.lookups.value_at.Goals as goal

pub part-requires-clause-within : goal.part-requires-clause-within
part-requires-clause-within c = omega (arith, c.in-Ok.ensures.0, c.requires.map.1, c.requires.map.2)

pub returns-in-Ok-clause-value : goal.returns-in-Ok-clause-value
returns-in-Ok-clause-value c =
    let heap = c.args.heap.now in
    let t = term_at heap c.args.m in
    let d : TermTree × TermTree = (tree.Nil, tree.Nil) in
    let within = c.in-Ok.ensures.0 in
    found_at (pairs_in t) (term_at heap c.args.key) (term_at heap c.part.result) c.in-Ok.at d (map_rises t c.requires.map.0 c.size-map.ensures.fits) (map_fits t c.requires.map.0 c.size-map.ensures.fits) c.size-key.ensures.fits within c.in-Ok.ensures.1
    (c.part.ensures.part ∙ value_at t c.in-Ok.at d c.requires.map.0 within)

pub returns-in-Err-clause-value : goal.returns-in-Err-clause-value
returns-in-Err-clause-value c =
    let heap = c.args.heap.now in
    not_found (pairs_in (term_at heap c.args.m)) (term_at heap c.args.key) c.in-Err.field-0 c.in-Err.ensures.1
