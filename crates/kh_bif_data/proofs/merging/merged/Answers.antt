use Rattle.std.proofs.Common.{◌≡◌, List, ℕ, [], ◌∷◌, sym, ◌∙◌, arith}
use Rattle.std.proofs.lemmas.List.{nil_from_length}
use Rattle.std.proofs.lemmas.List.Elements.{All-append}
use Rattle.std.proofs.lemmas.Option.{MatchOption-at_none}
use Rattle.std.proofs.Common.{subst}
use Rattle.std.specs.declared.cmp.Ordering.TheVariants.{Less, Equal, Greater}
use Rattle.kh_term.specs.MapOf.{map_with}
use Rattle.kh_term.specs.Order.{term_cmp}
use Rattle.kh_heap.specs.Heap.{term_at, pairs_at, HoldsPairs}
use Rattle.kh_bif_data.proofs.Merged.{Held, first_held, behind_held, behind_by_keys, more_held, more_pairs, from_first, from_both, from_second, no_first, no_second}
use Rattle.kh_bif_data.proofs.merging.merged.Goals as goal

pub compare-requires-clause-first : goal.compare-requires-clause-first
compare-requires-clause-first c =
    (first_held c.args.heap.now c.in-Some.l.now c.in-Some.behind_l.now c.walk.left.now c.in-Some.ensures.cases.0 c.walk.invariant.left_held).0

pub compare-requires-clause-second : goal.compare-requires-clause-second
compare-requires-clause-second c =
    (first_held c.args.heap.now c.in-Some-split_first.r.now c.in-Some-split_first.behind_r.now c.walk.right.now c.in-Some-split_first.ensures.cases.0 c.walk.invariant.right_held).0

pub walk-smaller-in-Less : goal.walk-smaller-in-Less
walk-smaller-in-Less c = omega (arith, c.in-Some.ensures.cases.1)

pub walk-smaller-in-Equal : goal.walk-smaller-in-Equal
walk-smaller-in-Equal c = omega (arith, c.in-Some.ensures.cases.1, c.in-Some-split_first.ensures.cases.1)

pub walk-smaller : goal.walk-smaller
walk-smaller c = omega (arith, c.in-Some-split_first.ensures.cases.1)

pub returns-in_default-clause-held : goal.returns-in_default-clause-held
returns-in_default-clause-held c =
    let heap = c.args.heap.now in
    subst (λ us. HoldsPairs heap us) (sym c.in_ok-extend_from_slice.ensures.items) (All-append (Held heap) c.walk.all.items c.walk.right.now c.walk.invariant.held c.walk.invariant.right_held)

pub returns-in_default-clause-terms : goal.returns-in_default-clause-terms
returns-in_default-clause-terms c =
    no_first c.args.heap.now c.walk.all.items c.extend_from_slice.new.self.items c.walk.left.now c.walk.right.now _ c.walk.invariant.terms c.walk.invariant.right_rises
    (nil_from_length c.walk.left.now (MatchOption-at_none _ _ c.in_default.is c.split_first.ensures.cases)) c.in_ok-extend_from_slice.ensures.items

pub returns-in_default-split_first-clause-held : goal.returns-in_default-split_first-clause-held
returns-in_default-split_first-clause-held c =
    let heap = c.args.heap.now in
    subst (λ us. HoldsPairs heap us) (sym c.in_ok-extend_from_slice-2.ensures.items) (All-append (Held heap) c.walk.all.items c.walk.left.now c.walk.invariant.held c.walk.invariant.left_held)

pub returns-in_default-split_first-clause-terms : goal.returns-in_default-split_first-clause-terms
returns-in_default-split_first-clause-terms c =
    no_second c.args.heap.now c.walk.all.items c.extend_from_slice-in_default-split_first.new.self.items c.walk.left.now c.walk.right.now _ c.walk.invariant.terms
    (nil_from_length c.walk.right.now (MatchOption-at_none _ _ c.in_default-split_first.is c.split_first-in-walk.ensures.cases)) c.in_ok-extend_from_slice-2.ensures.items

pub walk-preserved-in-Less : goal.walk-preserved-in-Less
walk-preserved-in-Less c =
    let heap = c.args.heap.now in
    let had = c.walk.invariant in
    let l = c.in-Some.l.now in
    let r = c.in-Some-split_first.r.now in
    let is_left = c.in-Some.ensures.cases.0 in
    let is_right = c.in-Some-split_first.ensures.cases.0 in
    let e : term_cmp (term_at heap l.0) (term_at heap r.0) ≡ Less = sym c.compare.ensures ∙ c.in-Less.is in
    let pushed = c.in_ok-push-in-Less.ensures.items in
    record {
      held = more_held heap c.walk.all.items c.push.new.self.items l pushed had.held (first_held heap l c.in-Some.behind_l.now c.walk.left.now is_left had.left_held);
      left_held = behind_held heap l c.in-Some.behind_l.now c.walk.left.now is_left had.left_held;
      right_held = had.right_held;
      left_rises = behind_by_keys heap l c.in-Some.behind_l.now c.walk.left.now is_left had.left_rises;
      right_rises = had.right_rises;
      terms =
          more_pairs heap c.walk.all.items c.push.new.self.items l pushed _ (map_with (pairs_at heap c.in-Some.behind_l.now) (pairs_at heap c.walk.right.now)) _
          (from_first heap l r c.in-Some.behind_l.now c.in-Some-split_first.behind_r.now c.walk.left.now c.walk.right.now is_left is_right had.left_rises had.right_rises e) had.terms;
    }

pub walk-preserved-in-Equal : goal.walk-preserved-in-Equal
walk-preserved-in-Equal c =
    let heap = c.args.heap.now in
    let had = c.walk.invariant in
    let l = c.in-Some.l.now in
    let r = c.in-Some-split_first.r.now in
    let is_left = c.in-Some.ensures.cases.0 in
    let is_right = c.in-Some-split_first.ensures.cases.0 in
    let e : term_cmp (term_at heap l.0) (term_at heap r.0) ≡ Equal = sym c.compare.ensures ∙ c.in-Equal.is in
    let pushed = c.in_ok-push-in-Equal.ensures.items in
    record {
      held = more_held heap c.walk.all.items c.push-in-Equal.new.self.items r pushed had.held (first_held heap r c.in-Some-split_first.behind_r.now c.walk.right.now is_right had.right_held);
      left_held = behind_held heap l c.in-Some.behind_l.now c.walk.left.now is_left had.left_held;
      right_held = behind_held heap r c.in-Some-split_first.behind_r.now c.walk.right.now is_right had.right_held;
      left_rises = behind_by_keys heap l c.in-Some.behind_l.now c.walk.left.now is_left had.left_rises;
      right_rises = behind_by_keys heap r c.in-Some-split_first.behind_r.now c.walk.right.now is_right had.right_rises;
      terms =
          more_pairs heap c.walk.all.items c.push-in-Equal.new.self.items r pushed _ (map_with (pairs_at heap c.in-Some.behind_l.now) (pairs_at heap c.in-Some-split_first.behind_r.now)) _
          (from_both heap l r c.in-Some.behind_l.now c.in-Some-split_first.behind_r.now c.walk.left.now c.walk.right.now is_left is_right had.left_rises had.right_rises e) had.terms;
    }

pub walk-preserved : goal.walk-preserved
walk-preserved c =
    let heap = c.args.heap.now in
    let had = c.walk.invariant in
    let l = c.in-Some.l.now in
    let r = c.in-Some-split_first.r.now in
    let is_left = c.in-Some.ensures.cases.0 in
    let is_right = c.in-Some-split_first.ensures.cases.0 in
    let e : term_cmp (term_at heap l.0) (term_at heap r.0) ≡ Greater = sym c.compare.ensures ∙ c.in-Greater.is in
    let pushed = c.in_ok-push-in-Greater.ensures.items in
    record {
      held = more_held heap c.walk.all.items c.push-in-Greater.new.self.items r pushed had.held (first_held heap r c.in-Some-split_first.behind_r.now c.walk.right.now is_right had.right_held);
      left_held = had.left_held;
      right_held = behind_held heap r c.in-Some-split_first.behind_r.now c.walk.right.now is_right had.right_held;
      left_rises = had.left_rises;
      right_rises = behind_by_keys heap r c.in-Some-split_first.behind_r.now c.walk.right.now is_right had.right_rises;
      terms =
          more_pairs heap c.walk.all.items c.push-in-Greater.new.self.items r pushed _ (map_with (pairs_at heap c.walk.left.now) (pairs_at heap c.in-Some-split_first.behind_r.now)) _
          (from_second heap l r c.in-Some.behind_l.now c.in-Some-split_first.behind_r.now c.walk.left.now c.walk.right.now is_left is_right had.left_rises had.right_rises e) had.terms;
    }
