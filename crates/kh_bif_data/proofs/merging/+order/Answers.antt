use Rattle.std.proofs.Common.{sym, ap, subst, ◌∙◌, arith}
use Rattle.std.proofs.lemmas.List.{length-map}
use Rattle.std.proofs.lemmas.List.Elements.{All-take, All-drop}
use Rattle.kh_heap.specs.Heap.{pairs_at, HoldsPairs}
use Rattle.kh_bif_data.proofs.Merged.{Held, shown, short, front_fits, back_fits, of_both, map_by_keys, ok_more}
use Rattle.kh_bif_data.proofs.merging.+order.Goals as goal

pub in_order-requires : goal.in_order-requires
in_order-requires t c =
    let heap = c.args.heap.now in
    let all = c.args.all.now in
    let parts = c.split_at.ensures in (
      omega (arith, c.decreases, c.if-all-lt2.false, parts.front_len),
      (subst (λ us. HoldsPairs heap us) (sym parts.front) (All-take (Held heap) _ all c.requires.held), front_fits heap all c.split_at.result.0.now c.split_at.result.1.now parts.by_index.0 c.requires.fit),
    )

pub in_order-requires-2 : goal.in_order-requires-2
in_order-requires-2 t c =
    let heap = c.args.heap.now in
    let all = c.args.all.now in
    let parts = c.split_at.ensures in (
      omega (arith, c.decreases, c.if-all-lt2.false, parts.back_len),
      (subst (λ us. HoldsPairs heap us) (sym parts.back) (All-drop (Held heap) _ all c.requires.held), back_fits heap all c.split_at.result.0.now c.split_at.result.1.now parts.by_index.0 c.requires.fit),
    )

pub returns-then-all-lt2-clause-terms : goal.returns-then-all-lt2-clause-terms
returns-then-all-lt2-clause-terms t c =
    let heap = c.args.heap.now in
    let all = c.args.all.now in
    ap (pairs_at heap) c.in_ok-one.ensures.items ∙ short (pairs_at heap all) (omega (arith, c.if-all-lt2.true, length-map all (shown heap)))

pub merged-requires-clause-first_rises : goal.merged-requires-clause-first_rises
merged-requires-clause-first_rises t c =
    let heap = c.args.heap.now in
    let front = c.split_at.result.0.now in
    map_by_keys (pairs_at heap c.as_slice.result.now) (pairs_at heap front) (ap (pairs_at heap) c.as_slice.ensures.value ∙ c.in_ok-first.ensures.terms)
    (front_fits heap c.args.all.now front c.split_at.result.1.now c.split_at.ensures.by_index.0 c.requires.fit)

pub merged-requires-clause-second_rises : goal.merged-requires-clause-second_rises
merged-requires-clause-second_rises t c =
    let heap = c.args.heap.now in
    let back = c.split_at.result.1.now in
    map_by_keys (pairs_at heap c.as_slice-2.result.now) (pairs_at heap back) (ap (pairs_at heap) c.as_slice-2.ensures.value ∙ c.in_ok-second.ensures.terms)
    (back_fits heap c.args.all.now c.split_at.result.0.now back c.split_at.ensures.by_index.0 c.requires.fit)

pub returns-clause-terms : goal.returns-clause-terms
returns-clause-terms t c =
    let heap = c.args.heap.now in
    ok_more c.merged.result (λ ps. pairs_at heap ps.items) _ _ c.merged.ensures.terms
    (
    of_both heap c.args.all.now c.split_at.result.0.now c.split_at.result.1.now c.split_at.ensures.by_index.0 c.requires.fit (pairs_at heap c.as_slice.result.now) (pairs_at heap c.as_slice-2.result.now)
    (ap (pairs_at heap) c.as_slice.ensures.value ∙ c.in_ok-first.ensures.terms) (ap (pairs_at heap) c.as_slice-2.ensures.value ∙ c.in_ok-second.ensures.terms)
    )
