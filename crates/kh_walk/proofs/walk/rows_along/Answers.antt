use Rattle.std.proofs.Common.{◌+◌, ap, ◌∙◌, arith}
use Rattle.std.specs.FinMap.{contains_key}
use Rattle.kh_tree.proofs.Fronts.{fronts_are_keys}
use Rattle.kh_walk.proofs.Marks.{front_long, front_rows, path_rows}
use Rattle.kh_walk.proofs.walk.rows_along.Goals as goal

pub push_row-requires-clause-node : goal.push_row-requires-clause-node
push_row-requires-clause-node g c = ap (contains_key c.args.tree.now) c.in_ok-front.ensures ∙ fronts_are_keys c.args.tree.now c.parents_stand.ensures c.args.path.now c.requires.node c.loop-len.len

pub push_row-requires-clause-rows : goal.push_row-requires-clause-rows
push_row-requires-clause-rows g c =
    front_rows g.P.Patterns.search c.args.tree.now c.args.components.now c.args.path.now c.in_ok-front.front c.loop-len.len c.in_ok-front.ensures (omega arith) c.loop-len.rows.items c.loop-len.invariant.long
    c.loop-len.invariant.rows

pub push_row-requires-clause-long : goal.push_row-requires-clause-long
push_row-requires-clause-long g c =
    let long = front_long g.P.Patterns.search c.args.tree.now c.args.components.now c.args.path.now c.in_ok-front.front c.loop-len.len c.in_ok-front.ensures (omega arith) in
    omega (arith, long, c.loop-len.invariant.long)

pub loop-len-preserved : goal.loop-len-preserved
loop-len-preserved g c = record {
  rows =
      path_rows g.P.Patterns.search c.args.tree.now c.args.components.now c.args.path.now c.in_ok-front.front c.loop-len.len c.in_ok-front.ensures (omega arith) c.push_row.new.rows.items c.in_ok-push_row.ensures.long
      c.in_ok-push_row.ensures.rows;
  long =
      c.in_ok-push_row.ensures.long
      ∙ ap (λ n. n + 1) (front_long g.P.Patterns.search c.args.tree.now c.args.components.now c.args.path.now c.in_ok-front.front c.loop-len.len c.in_ok-front.ensures (omega arith));
  texts = c.in_ok-push_row.ensures.engine.0 ∙ c.loop-len.invariant.texts;
  refusals = c.in_ok-push_row.ensures.engine.1 ∙ c.loop-len.invariant.refusals;
  refused = c.in_ok-push_row.ensures.engine.2 ∙ c.loop-len.invariant.refused;
}
