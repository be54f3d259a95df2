use Rattle.std.proofs.Common.{◌≡◌, ◌↔◌, ◌+◌, [], ◌∷◌, ◌++◌, nat_eq, length, take, IsTrue, refl, ap, sym, subst, ◌∙◌, arith}
use Rattle.std.proofs.lemmas.List.{length_push}
use Rattle.kh_tree.proofs.Fronts.{fronts_are_keys}
use Rattle.kh_walk.specs.Rows.{AreMarks}
use Rattle.kh_walk.specs.Takes.{AllTake}
use Rattle.kh_walk.proofs.Marks.{first_mark, next_mark, whole_row}
use Rattle.kh_walk.proofs.walk.row_at.Goals as goal

pub mark-requires-clause-nodes : goal.mark-requires-clause-nodes
mark-requires-clause-nodes g c = λ k. fronts_are_keys c.args.tree.now c.parents_stand.ensures c.args.path.now c.requires.node k

pub loop-i-init : goal.loop-i-init
loop-i-init g c =
    let row_is = c.in_ok-row.ensures ∙ ap (λ n. nat_eq n 0 ∷ []) c.len.ensures.len in
    record {
      marks =
          subst (AreMarks g.P.Patterns.search c.args.tree.now c.args.components.now c.args.path.now) (sym row_is)
          (first_mark g.P.Patterns.search c.args.tree.now c.args.components.now c.args.path.now);
      long = ap length row_is;
      seen = tt;
      texts = refl;
      refusals = refl;
      refused = refl;
    }

pub loop-i-preserved : goal.loop-i-preserved
loop-i-preserved g c =
    let search = g.P.Patterns.search in
    let m = c.args.tree.now in
    let q = c.args.components.now in
    let path = c.args.path.now in
    let b = c.in_ok-mark.field-0 in
    let mark : IsTrue b ↔ AllTake search m [] (take (length c.loop-i.row) q) path =
    subst (λ n. IsTrue b ↔ AllTake search m [] (take n q) path) (sym c.loop-i.invariant.long) c.in_ok-mark.ensures.mark in
    record {
      marks = subst (AreMarks search m q path) (sym c.in_ok-push.ensures) (next_mark search m q path c.loop-i.row b c.loop-i.invariant.marks mark);
      long = ap length c.in_ok-push.ensures ∙ length_push c.loop-i.row b ∙ ap (λ n. n + 1) c.loop-i.invariant.long;
      seen = c.in_ok-mark.ensures.seen;
      texts = c.in_ok-mark.ensures.engine.0 ∙ c.loop-i.invariant.texts;
      refusals = c.in_ok-mark.ensures.engine.1 ∙ c.loop-i.invariant.refusals;
      refused = c.in_ok-mark.ensures.engine.2 ∙ c.loop-i.invariant.refused;
    }

pub returns-clause-row : goal.returns-clause-row
returns-clause-row g c =
    whole_row g.P.Patterns.search c.args.tree.now c.args.components.now c.args.path.now c.loop-i.row (omega (arith, c.loop-i.invariant.long, c.loop-i-test.false)) c.loop-i.invariant.marks
