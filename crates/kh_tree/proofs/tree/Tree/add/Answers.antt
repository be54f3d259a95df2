use Rattle.std.proofs.Common.{◌≡◌, ◌+◌, length, None, ap, sym, subst, ◌∙◌}
use Rattle.std.specs.FinMap.{find, put, get, contains_key}
use Rattle.kh_term.specs.Name.{path_cmp}
use Rattle.kh_tree.specs.Entries.{Counts, IsMade, nodes_of, none_to_come}
use Rattle.kh_tree.specs.Nodes.{Nodes, AreWithin, node_count}
use Rattle.kh_tree.specs.Writes.{added, missing}
use Rattle.kh_tree.proofs.Trees.{nothing}
use Rattle.kh_tree.proofs.Written.{counts_added, entry_missed, reads_added, within_added}
use Rattle.kh_tree.proofs.tree.Tree.add.Goals as goal

pub with_parents-requires-clause-missing : goal.with_parents-requires-clause-missing
with_parents-requires-clause-missing g c =
    entry_missed c.self.inside.map none_to_come c.self.invariant c.args.path.now
    (nothing (get (nodes_of c.self.inside.map) c.args.path.now) (ap (λ (m : Nodes g.row.S.Denot). contains_key m c.args.path.now) c.self.view_is ∙ c.requires.missing))

pub invariant_of-result : goal.invariant_of-result
invariant_of-result g c =
    let es = c.self.inside.map in
    let p = c.args.path.now in
    let absent : find path_cmp p es ≡ None = entry_missed es none_to_come c.self.invariant p (nothing (get (nodes_of es) p) (ap (λ (m : Nodes g.row.S.Denot). contains_key m p) c.self.view_is ∙ c.requires.missing)) in
    let made : IsMade c.in_ok-map.map es p (length p) = subst (IsMade c.in_ok-map.map es p) c.len.ensures.len c.in_ok-map.ensures.made in
    subst (λ new. Counts new none_to_come) (sym (c.in_ok-map-2.ensures.put ∙ ap (λ w. put path_cmp w c.in_ok-entry.entry c.in_ok-map.map) c.in_ok-path.ensures))
    (counts_added es c.self.invariant p absent c.in_ok-map.map made c.in_ok-entry.entry c.args.payload c.in_ok-entry.ensures.node c.in_ok-entry.ensures.children)

pub returns-clause-ok : goal.returns-clause-ok
returns-clause-ok g c q =
    let es = c.self.inside.map in
    let p = c.args.path.now in
    let absent : find path_cmp p es ≡ None = entry_missed es none_to_come c.self.invariant p (nothing (get (nodes_of es) p) (ap (λ (m : Nodes g.row.S.Denot). contains_key m p) c.self.view_is ∙ c.requires.missing)) in
    let made : IsMade c.in_ok-map.map es p (length p) = subst (IsMade c.in_ok-map.map es p) c.len.ensures.len c.in_ok-map.ensures.made in
    ap (λ new. get (nodes_of new) q) (c.in_ok-map-2.ensures.put ∙ ap (λ w. put path_cmp w c.in_ok-entry.entry c.in_ok-map.map) c.in_ok-path.ensures)
    ∙ reads_added es c.self.invariant p absent c.in_ok-map.map made c.in_ok-entry.entry c.args.payload c.in_ok-entry.ensures.node c.in_ok-entry.ensures.children q
    ∙ ap (λ m. added m p c.args.payload q) c.self.view_is

pub returns-clause-room : goal.returns-clause-room
returns-clause-room g c =
    let es = c.self.inside.map in
    let p = c.args.path.now in
    let absent : find path_cmp p es ≡ None = entry_missed es none_to_come c.self.invariant p (nothing (get (nodes_of es) p) (ap (λ (m : Nodes g.row.S.Denot). contains_key m p) c.self.view_is ∙ c.requires.missing)) in
    let made : IsMade c.in_ok-map.map es p (length p) = subst (IsMade c.in_ok-map.map es p) c.len.ensures.len c.in_ok-map.ensures.made in
    subst (λ m. AreWithin (added m p c.args.payload) (node_count m + missing m p)) c.self.view_is
    (within_added es c.self.invariant p absent c.in_ok-map.map made c.in_ok-entry.entry c.args.payload c.in_ok-entry.ensures.node c.in_ok-entry.ensures.children)
