use Rattle.std.proofs.Common.{ap, refl, ◌∙◌}
use Rattle.kh_tree.specs.Entries.{node_of}
use Rattle.kh_tree.specs.Node.{kind_of, data_of}
use Rattle.kh_tree.specs.Nodes.{last_name}
use Rattle.kh_tree.proofs.Calls.{shown_as}
use Rattle.kh_tree.proofs.tree.view_of_entry.Goals as goal

pub returns : goal.returns
returns g c =
    shown_as _ (last_name c.args.path.now) c.args.entry.now.children (node_of c.args.entry.now) (record {
      name = c.in_ok-name.ensures;
      kind = c.kind.ensures ∙ ap kind_of c.as_ref-payload.ensures;
      datum = c.in_ok-datum.ensures ∙ ap data_of c.as_ref-payload.ensures;
      payload_version = refl;
      child_list_version = refl;
      children = refl;
    })
