use Rattle.std.proofs.Common.{◌≡◌, ap, sym, subst, ◌∙◌}
use Rattle.std.proofs.lemmas.Result.{err_from_is_err_and}
use Rattle.std.specs.FinMap.{find, put, get, contains_key}
use Rattle.kh_term.specs.Name.{path_cmp}
use Rattle.kh_tree.specs.Entries.{Counts, nodes_of, none_to_come}
use Rattle.kh_tree.specs.Nodes.{Nodes, AreWithin, node_count}
use Rattle.kh_tree.specs.Writes.{Refused, written}
use Rattle.kh_tree.proofs.Calls.{kept_set, no_node, reads_set, refused_set, within_set}
use Rattle.kh_tree.proofs.Paths.{never}
use Rattle.kh_tree.proofs.tree.Tree.set_payload.Goals as goal

pub unreachable-requires : goal.unreachable-requires
unreachable-requires g c =
    never (sym c.requires.node ∙ ap (λ (m : Nodes g.row.S.Denot). contains_key m c.args.path.now) (sym c.self.view_is)
    ∙ no_node c.self.inside.map c.self.invariant c.args.path.now c.in-None.ensures.value)

pub returns-in_err-entry-in-Some-clause-full : goal.returns-in_err-entry-in-Some-clause-full
returns-in_err-entry-in-Some-clause-full g c =
    let r = err_from_is_err_and c.from_residual.result c.from_residual.ensures.1 in
    rw (r.1, r.2)
    (subst (λ m. Refused c.in_err-entry-in-Some.field-0.0 (AreWithin (written g.S.PartialEq.eq m c.args.path.now c.args.payload) (node_count m))) c.self.view_is
    (refused_set c.self.inside.map c.self.invariant c.args.path.now c.in-Some.entry.now c.in-Some.ensures.value g.S.PartialEq.eq c.args.payload c.in_err-entry-in-Some.field-0.0 c.in_err-entry-in-Some.ensures.full))

pub invariant_of-result : goal.invariant_of-result
invariant_of-result g c =
    subst (λ new. Counts new none_to_come) (sym (c.in_ok-map-in-Some.ensures.put ∙ ap (λ w. put path_cmp w c.in_ok-entry-in-Some.entry c.self.inside.map) c.in_ok-path-in-Some.ensures))
    (kept_set c.self.inside.map c.self.invariant c.args.path.now c.in-Some.entry.now c.in-Some.ensures.value g.S.PartialEq.eq c.args.payload
    c.in_ok-entry-in-Some.entry c.in_ok-entry-in-Some.ensures.node c.in_ok-entry-in-Some.ensures.children c.in_ok-entry-in-Some.ensures.room c.requires.below_root)

pub returns-clause-ok : goal.returns-clause-ok
returns-clause-ok g c q =
    ap (λ new. get (nodes_of new) q) (c.in_ok-map-in-Some.ensures.put ∙ ap (λ w. put path_cmp w c.in_ok-entry-in-Some.entry c.self.inside.map) c.in_ok-path-in-Some.ensures)
    ∙ reads_set c.self.inside.map c.self.invariant c.args.path.now c.in-Some.entry.now c.in-Some.ensures.value g.S.PartialEq.eq c.args.payload
    c.in_ok-entry-in-Some.entry c.in_ok-entry-in-Some.ensures.node c.in_ok-entry-in-Some.ensures.children c.in_ok-entry-in-Some.ensures.room q
    ∙ ap (λ m. written g.S.PartialEq.eq m c.args.path.now c.args.payload q) c.self.view_is

pub returns-clause-room : goal.returns-clause-room
returns-clause-room g c =
    subst (λ m. AreWithin (written g.S.PartialEq.eq m c.args.path.now c.args.payload) (node_count m)) c.self.view_is
    (within_set c.self.inside.map c.self.invariant c.args.path.now c.in-Some.entry.now c.in-Some.ensures.value g.S.PartialEq.eq c.args.payload
    c.in_ok-entry-in-Some.entry c.in_ok-entry-in-Some.ensures.node c.in_ok-entry-in-Some.ensures.children c.in_ok-entry-in-Some.ensures.room c.requires.below_root)
