use Rattle.std.proofs.Common.{ap, sym, ◌∙◌}
use Rattle.kh_cond.specs.Holds.{holds}
use Rattle.kh_tree.specs.Nodes.{view_of}
use Rattle.kh_walk.proofs.Fronts.{name_holds}
use Rattle.kh_walk.proofs.Judged.{whole_node}
use Rattle.kh_walk.proofs.judging.holds.Goals as goal

pub returns-in-Name-clause-holds : goal.returns-in-Name-clause-holds
returns-in-Name-clause-holds g c =
    let m = c.args.place.now.tree.now in
    let path = c.args.place.now.path.now in
    c.is_last.ensures
    ∙ sym (name_holds g.P.Patterns.search m path c.in-Name.name (whole_node m path c.requires.nodes))
    ∙ ap (holds g.P.Patterns.search (view_of m path)) (sym c.in-Name.is)
