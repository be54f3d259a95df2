use Rattle.std.proofs.Common.{ap, ◌∙◌}
use Rattle.kh_tree.specs.Nodes.{Nodes, view_of}
use Rattle.kh_tree.proofs.Calls.{no_view, view_read}
use Rattle.kh_tree.proofs.tree.Tree.view.Goals as goal

pub returns-in_ok-view_of_entry-in-Some : goal.returns-in_ok-view_of_entry-in-Some
returns-in_ok-view_of_entry-in-Some g c =
    view_read c.self.inside.map c.self.invariant c.args.path.now c.in-Some.entry.now c.in-Some.ensures.value c.in_ok-view_of_entry-in-Some.field-0 c.in_ok-view_of_entry-in-Some.ensures
    ∙ ap (λ (m : Nodes g.row.S.Denot). view_of m c.args.path.now) c.self.view_is

pub returns-in-None : goal.returns-in-None
returns-in-None g c =
    no_view c.self.inside.map c.self.invariant c.args.path.now c.in-None.ensures.value ∙ ap (λ (m : Nodes g.row.S.Denot). view_of m c.args.path.now) c.self.view_is
