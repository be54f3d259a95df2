use Rattle.std.proofs.Common.{◌≡◌, [], ◌∷◌, ap, ◌∙◌, arith}
use Rattle.kh_term.specs.declared.tree.TermTree.{TermTree}
use Rattle.kh_term.specs.declared.tree.TermTree.TheVariants as tree
use Rattle.kh_heap.specs.Heap.{term_at}
use Rattle.kh_heap.proofs.Growth.{Holds-grew, term_at-grew, Grew-trans}
use Rattle.kh_bif_base.proofs.Answering.{small-Atom}
use Rattle.kh_bif_data.proofs.Answering.{GrewBy-of, GrewBy-trans, built_by, same_built, small_refused}
use Rattle.kh_bif_data.proofs.Collecting.{two_held}
use Rattle.kh_bif_data.proofs.building.tagged.Goals as goal

pub tuple-requires-clause-held : goal.tuple-requires-clause-held
tuple-requires-clause-held c =
    two_held c.atom.new.heap c.in_ok-name.name c.args.r c.in_ok-name.ensures.built.0.held (Holds-grew c.args.heap.now c.atom.new.heap c.args.r c.atom.ensures.grew.grew c.requires.held)

pub returns-clause-grew : goal.returns-clause-grew
returns-clause-grew c =
    GrewBy-of 5 c.args.heap.now c.tuple.new.self (Grew-trans c.args.heap.now c.atom.new.heap c.tuple.new.self c.atom.ensures.grew.grew c.tuple.ensures.grew)
    (omega (arith, c.atom.ensures.grew.cells, c.tuple.ensures.cells))

pub returns-clause-built : goal.returns-clause-built
returns-clause-built c =
    let old = c.args.heap.now in
    let heap = c.atom.new.heap in
    let name : term_at heap c.in_ok-name.name ≡ tree.Atom c.args.text.now = c.in_ok-name.ensures.built.0.term in
    let other : term_at heap c.args.r ≡ term_at old c.args.r = term_at-grew old heap c.args.r c.atom.ensures.grew.grew c.requires.held in
    same_built c.tuple.new.self c.tuple.result (tree.Tuple (term_at heap c.in_ok-name.name ∷ term_at heap c.args.r ∷ [])) (tree.Tuple (tree.Atom c.args.text.now ∷ term_at old c.args.r ∷ []))
    (λ i. tree.Tuple (name i ∷ other i ∷ [])) (built_by c.tuple.new.self c.tuple.result _ c.tuple.ensures.term c.tuple.ensures.limits)

pub returns-in_err-name-clause-built : goal.returns-in_err-name-clause-built
returns-in_err-name-clause-built c =
    small_refused c.atom.new.heap c.atom.new.heap (tree.Atom c.args.text.now) _ c.in_err-name.field-0.0 c.from_residual.result c.in_err-name.ensures.built (small-Atom c.args.text.now) c.from_residual.ensures.1
