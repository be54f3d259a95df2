use Rattle.std.proofs.Common.{◌≡◌, ◌↔◌, ◌+◌, [], length, take, IsTrue, ap, sym, subst, ◌∙◌, take_all, arith}
use Rattle.kh_tree.specs.Nodes.{begins}
use Rattle.kh_tree.proofs.Paths.{is_same}
use Rattle.kh_walk.specs.Found.{Rise}
use Rattle.kh_walk.specs.Rows.{is_marked_last}
use Rattle.kh_walk.specs.Takes.{Matches}
use Rattle.kh_walk.specs.Walked.{AreBelow, with_path}
use Rattle.kh_walk.proofs.Marks.{last_mark}
use Rattle.kh_walk.proofs.Walks.{AreBefore, AreUpTo, all_found, before_next, fewer_left, next_rows, next_short, none_before, noted, rise_noted}
use Rattle.kh_walk.proofs.walk.walk.Goals as goal

pub nodes-init : goal.nodes-init
nodes-init g c = record {
  node = c.requires.node;
  below = is_same c.args.start.now (take (length c.args.start.now) c.args.start.now) (sym (take_all (length c.args.start.now) c.args.start.now (omega arith)));
  before = subst (AreBefore g.P.Patterns.search c.args.tree.now c.args.components.now c.args.start.now c.args.start.now) (sym c.new-found.ensures) (none_before g.P.Patterns.search c.args.tree.now c.args.components.now c.args.start.now);
  rise = subst Rise (sym c.new-found.ensures) (λ i j d h k. absurd (omega (arith, k)));
  rows = c.in_ok-rows.ensures.rows;
  long = c.in_ok-rows.ensures.long;
  texts = c.in_ok-rows.ensures.engine.0;
  refusals = c.in_ok-rows.ensures.engine.1;
  refused = c.in_ok-rows.ensures.engine.2;
}

pub push_row-requires-clause-node : goal.push_row-requires-clause-node
push_row-requires-clause-node g c = c.in-Some.ensures.is_next.key

pub push_row-requires-clause-rows : goal.push_row-requires-clause-rows
push_row-requires-clause-rows g c =
    next_rows c.args.tree.now c.nodes.at.now c.in-Some.next.now c.in-Some.ensures.is_next c.parents_stand.ensures g.P.Patterns.search c.args.components.now c.nodes.rows.items c.nodes.invariant.rows

pub push_row-requires-clause-long : goal.push_row-requires-clause-long
push_row-requires-clause-long g c =
    omega (arith, next_short c.args.tree.now c.nodes.at.now c.in-Some.next.now c.in-Some.ensures.is_next c.parents_stand.ensures, c.nodes.invariant.long)

pub nodes-smaller : goal.nodes-smaller
nodes-smaller g c = fewer_left c.args.tree.now c.nodes.at.now c.in-Some.next.now c.in-Some.ensures.is_next

pub nodes-preserved : goal.nodes-preserved
nodes-preserved g c =
    let search = g.P.Patterns.search in
    let m = c.args.tree.now in
    let q = c.args.components.now in
    let start = c.args.start.now in
    let at = c.nodes.at.now in
    let next = c.in-Some.next.now in
    let b = c.is_marked_last-is_marked.result in
    let is : b ≡ is_marked_last c.nodes.rows.items (length q) = c.is_marked_last-is_marked.ensures ∙ ap (λ rs. is_marked_last rs (length q)) c.as_slice.ensures.value in
    let mark : IsTrue b ↔ Matches search m q at = subst (λ x. IsTrue x ↔ Matches search m q at) (sym is) (last_mark search m q at c.nodes.rows.items c.nodes.invariant.rows c.nodes.invariant.long) in
    let up_to : AreUpTo search m q start at (with_path b c.nodes.found at) = noted search m q start at c.nodes.found c.nodes.invariant.before c.nodes.invariant.node c.nodes.invariant.below b mark in
    record {
      node = c.in-Some.ensures.is_next.key;
      below = c.in-Some.ensures.below;
      before = subst (AreBefore search m q start next) (sym c.in_ok-note.ensures) (before_next search m q start at (with_path b c.nodes.found at) up_to next c.in-Some.ensures.is_next);
      rise = subst Rise (sym c.in_ok-note.ensures) (rise_noted search m q start at c.nodes.found c.nodes.invariant.before b c.nodes.invariant.rise);
      rows = c.in_ok-push_row.ensures.rows;
      long = c.in_ok-push_row.ensures.long;
      texts = c.in_ok-push_row.ensures.engine.0 ∙ c.nodes.invariant.texts;
      refusals = c.in_ok-push_row.ensures.engine.1 ∙ c.nodes.invariant.refusals;
      refused = c.in_ok-push_row.ensures.engine.2 ∙ c.nodes.invariant.refused;
    }

pub returns-in_default-clause-below : goal.returns-in_default-clause-below
returns-in_default-clause-below g c =
    let search = g.P.Patterns.search in
    let m = c.args.tree.now in
    let q = c.args.components.now in
    let start = c.args.start.now in
    let at = c.nodes.at.now in
    let b = c.is_marked_last-is_marked.result in
    let is : b ≡ is_marked_last c.nodes.rows.items (length q) = c.is_marked_last-is_marked.ensures ∙ ap (λ rs. is_marked_last rs (length q)) c.as_slice.ensures.value in
    let mark : IsTrue b ↔ Matches search m q at = subst (λ x. IsTrue x ↔ Matches search m q at) (sym is) (last_mark search m q at c.nodes.rows.items c.nodes.invariant.rows c.nodes.invariant.long) in
    let up_to : AreUpTo search m q start at (with_path b c.nodes.found at) = noted search m q start at c.nodes.found c.nodes.invariant.before c.nodes.invariant.node c.nodes.invariant.below b mark in
    subst (AreBelow search m q start) (sym c.in_ok-note.ensures) (all_found search m q start at (with_path b c.nodes.found at) up_to c.in_default.ensures)

pub returns-in_default-clause-rise : goal.returns-in_default-clause-rise
returns-in_default-clause-rise g c =
    subst Rise (sym c.in_ok-note.ensures)
    (rise_noted g.P.Patterns.search c.args.tree.now c.args.components.now c.args.start.now c.nodes.at.now c.nodes.found c.nodes.invariant.before c.is_marked_last-is_marked.result c.nodes.invariant.rise)
