use Rattle.std.proofs.Common.{◌≡◌, Some, ap, sym, ◌∙◌}
use Rattle.std.specs.FinMap.{get, contains_key}
use Rattle.std.specs.Option.{option_map}
use Rattle.kh_tree.specs.Nodes.{Nodes}
use Rattle.kh_tree.proofs.Calls.{is_node, no_node, no_payload, payload_read}
use Rattle.kh_tree.proofs.tree.Tree.payload.Goals as goal

pub returns-in-Some-clause-payload : goal.returns-in-Some-clause-payload
returns-in-Some-clause-payload g c =
    ap Some c.as_ref.ensures ∙ payload_read c.self.inside.map c.self.invariant c.args.path.now c.in-Some.entry.now c.in-Some.ensures.value
    ∙ ap (λ (m : Nodes g.row.S.Denot). option_map (λ n. n.payload) (get m c.args.path.now)) c.self.view_is

pub returns-in-Some-clause-node : goal.returns-in-Some-clause-node
returns-in-Some-clause-node g c =
    sym (is_node c.self.inside.map c.self.invariant c.args.path.now c.in-Some.entry.now c.in-Some.ensures.value) ∙ ap (λ (m : Nodes g.row.S.Denot). contains_key m c.args.path.now) c.self.view_is

pub returns-in-None-clause-payload : goal.returns-in-None-clause-payload
returns-in-None-clause-payload g c =
    no_payload c.self.inside.map c.self.invariant c.args.path.now c.in-None.ensures.value
    ∙ ap (λ (m : Nodes g.row.S.Denot). option_map (λ n. n.payload) (get m c.args.path.now)) c.self.view_is

pub returns-in-None-clause-node : goal.returns-in-None-clause-node
returns-in-None-clause-node g c =
    sym (no_node c.self.inside.map c.self.invariant c.args.path.now c.in-None.ensures.value) ∙ ap (λ (m : Nodes g.row.S.Denot). contains_key m c.args.path.now) c.self.view_is
