use Rattle.std.proofs.Common.{◌≡◌, ◌+◌, true, false, map, sum, get_or, ap, sym, ◌∙◌, arith}
use Rattle.std.specs.List.{list_all}
use Rattle.kh_cond.specs.declared.component.Component.TheVariants as component
use Rattle.kh_cond.specs.Holds.{holds}
use Rattle.kh_cond.specs.Texts.{lacking, lacking_regex}
use Rattle.kh_tree.specs.Nodes.{view_of}
use Rattle.kh_tree.proofs.Paths.{never}
use Rattle.kh_walk.specs.Prepared.{lacking_of}
use Rattle.kh_walk.proofs.Marks.{mark_all, mark_many, mark_none, mark_one}
use Rattle.kh_walk.proofs.Prepares.{component_prepared}
use Rattle.kh_walk.proofs.judging.mark.Goals as goal

pub one_holds-requires-clause-prepared : goal.one_holds-requires-clause-prepared
one_holds-requires-clause-prepared g c =
    let known = g.P.Patterns.texts c.args.patterns.now in
    ap (lacking_of known) (sym c.in-One.is ∙ c.index-components-i.is)
    ∙ component_prepared known c.args.components.now c.args.i c.index-components-i.result c.requires.component c.requires.prepared

pub found_behind-requires-clause-prepared : goal.found_behind-requires-clause-prepared
found_behind-requires-clause-prepared g c =
    let known = g.P.Patterns.texts c.args.patterns.now in
    ap (lacking_of known) (sym c.in-Many.is ∙ c.index-components-i.is)
    ∙ component_prepared known c.args.components.now c.args.i c.index-components-i.result c.requires.component c.requires.prepared

pub found_behind-requires-in-ManyAll-clause-prepared :
    goal.found_behind-requires-in-ManyAll-clause-prepared
found_behind-requires-in-ManyAll-clause-prepared g c =
    let known = g.P.Patterns.texts c.args.patterns.now in
    let both : lacking_regex known c.in-ManyAll.regex + sum (map (lacking known) c.in-ManyAll.further) ≡ 0 =
    ap (lacking_of known) (sym c.in-ManyAll.is ∙ c.index-components-i.is)
    ∙ component_prepared known c.args.components.now c.args.i c.index-components-i.result c.requires.component c.requires.prepared in
    omega (arith, both)

pub all_hold-requires-clause-prepared : goal.all_hold-requires-clause-prepared
all_hold-requires-clause-prepared g c =
    let known = g.P.Patterns.texts c.args.patterns.now in
    let both : lacking_regex known c.in-ManyAll.regex + sum (map (lacking known) c.in-ManyAll.further) ≡ 0 =
    ap (lacking_of known) (sym c.in-ManyAll.is ∙ c.index-components-i.is)
    ∙ component_prepared known c.args.components.now c.args.i c.index-components-i.result c.requires.component c.requires.prepared in
    let rest : sum (map (lacking known) c.in-ManyAll.further) ≡ 0 = omega (arith, both) in
    (λ t. sum (map (lacking (c.in_ok-found_behind-in-ManyAll.ensures.engine.0 t)) (c.as_slice.ensures t))) ∙ rest

pub returns-then-not-branch-clause-mark : goal.returns-then-not-branch-clause-mark
returns-then-not-branch-clause-mark g c =
    mark_none g.P.Patterns.search c.args.place.now.tree.now c.args.components.now c.args.place.now.path.now c.args.place.now.rows.now c.requires.rows c.requires.long c.args.i c.requires.component c.requires.nodes
    c.in-ManyAll.regex c.in-ManyAll.further (sym c.in-ManyAll.is ∙ c.index-components-i.is ∙ ap (λ d. get_or c.args.components.now c.args.i d) c.in-ManyAll.is)
    (λ f.
    let set : c.in_ok-found_behind-in-ManyAll.field-0 ≡ true = c.in_ok-found_behind-in-ManyAll.ensures.found.1 f in
    let off : c.in_ok-found_behind-in-ManyAll.field-0 ≡ false = grind (arith, c.if-not-branch.true) in
    never (sym set ∙ off))

pub returns-in_ok-one_holds-in-One-clause-mark : goal.returns-in_ok-one_holds-in-One-clause-mark
returns-in_ok-one_holds-in-One-clause-mark g c =
    mark_one g.P.Patterns.search c.args.place.now.tree.now c.args.components.now c.args.place.now.path.now c.args.place.now.rows.now c.requires.rows c.requires.long c.args.i c.requires.component c.requires.nodes
    c.in-One.cond (sym c.in-One.is ∙ c.index-components-i.is ∙ ap (λ d. get_or c.args.components.now c.args.i d) c.in-One.is)
    c.in_ok-one_holds-in-One.field-0 c.in_ok-one_holds-in-One.ensures.holds

pub returns-in_ok-found_behind-in-Many-clause-mark :
    goal.returns-in_ok-found_behind-in-Many-clause-mark
returns-in_ok-found_behind-in-Many-clause-mark g c =
    mark_many g.P.Patterns.search c.args.place.now.tree.now c.args.components.now c.args.place.now.path.now c.args.place.now.rows.now c.requires.rows c.requires.long c.args.i c.requires.component c.requires.nodes
    c.in-Many.regex (sym c.in-Many.is ∙ c.index-components-i.is ∙ ap (λ d. get_or c.args.components.now c.args.i d) c.in-Many.is)
    c.in_ok-found_behind-in-Many.field-0 c.in_ok-found_behind-in-Many.ensures.found

pub returns-in_ok-all_hold-in-ManyAll-clause-mark :
    goal.returns-in_ok-all_hold-in-ManyAll-clause-mark
returns-in_ok-all_hold-in-ManyAll-clause-mark g c =
    let set : c.in_ok-found_behind-in-ManyAll.field-0 ≡ true = grind (arith, c.if-not-branch.false) in
    mark_all g.P.Patterns.search c.args.place.now.tree.now c.args.components.now c.args.place.now.path.now c.args.place.now.rows.now c.requires.rows c.requires.long c.args.i c.requires.component c.requires.nodes
    c.in-ManyAll.regex c.in-ManyAll.further (sym c.in-ManyAll.is ∙ c.index-components-i.is ∙ ap (λ d. get_or c.args.components.now c.args.i d) c.in-ManyAll.is)
    (c.in_ok-found_behind-in-ManyAll.ensures.found.0 set) c.in_ok-all_hold-in-ManyAll.field-0
    (c.in_ok-all_hold-in-ManyAll.ensures.hold ∙ ap (list_all (holds g.P.Patterns.search (view_of c.args.place.now.tree.now c.args.place.now.path.now))) c.as_slice.ensures)
