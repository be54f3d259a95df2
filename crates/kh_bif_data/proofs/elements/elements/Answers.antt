use Rattle.std.proofs.Common.{sym, ap, subst, ◌∙◌, List, ℕ}
use Rattle.kh_heap.specs.Heap.{term_at, terms_at, HoldsAll}
use Rattle.kh_bif_data.specs.Lists.{elements}
use Rattle.kh_bif_data.proofs.Collecting.{held_more}
use Rattle.kh_bif_data.proofs.Walking.{Along-start, Along-next, elements_more, shorter, at_nil, nil_ends, at_end, other_ends, nothing_behind}
use Rattle.kh_bif_data.proofs.elements.elements.Goals as goal

pub along-preserved : goal.along-preserved
along-preserved c =
    let heap = c.args.heap.now in
    let had = c.along.invariant in
    let rs = c.along.items.items in
    record {
      along = Along-next heap c.args.a c.along.left c.in-Cons.head c.in-Cons.rest c.in-Cons.ensures had.along;
      held = subst (λ (us : List ℕ). HoldsAll heap us) (sym c.in_ok-push-in-Cons.ensures.items) (held_more heap rs c.in-Cons.head had.held c.in-Cons.ensures.1);
      terms = elements_more heap c.args.a c.along.left c.in-Cons.head c.in-Cons.rest c.in-Cons.ensures rs c.push.new.self.items c.in_ok-push-in-Cons.ensures.items had.terms;
    }

pub along-smaller : goal.along-smaller
along-smaller c = shorter c.args.heap.now c.args.a c.along.left c.in-Cons.head c.in-Cons.rest c.in-Cons.ensures

pub returns-in-Nil-clause-terms : goal.returns-in-Nil-clause-terms
returns-in-Nil-clause-terms c =
    let heap = c.args.heap.now in
    nothing_behind (terms_at heap c.along.items.items) (elements (term_at heap c.along.left)) (elements (term_at heap c.args.a)) (at_nil heap (term_at heap c.along.left) c.in-Nil.ensures) c.along.invariant.terms

pub returns-in-Nil-clause-proper : goal.returns-in-Nil-clause-proper
returns-in-Nil-clause-proper c =
    let heap = c.args.heap.now in
    sym (nil_ends heap (term_at heap c.along.left) c.in-Nil.ensures) ∙ c.along.invariant.along.ending

pub returns-in_default-clause-terms : goal.returns-in_default-clause-terms
returns-in_default-clause-terms c =
    let heap = c.args.heap.now in
    nothing_behind (terms_at heap c.along.items.items) (elements (term_at heap c.along.left)) (elements (term_at heap c.args.a)) (at_end heap (term_at heap c.along.left) c.view.result c.view.ensures (λ x y e. c.in_default.not-Cons x y e)) c.along.invariant.terms

pub returns-in_default-clause-proper : goal.returns-in_default-clause-proper
returns-in_default-clause-proper c =
    let heap = c.args.heap.now in
    sym (other_ends heap (term_at heap c.along.left) c.view.result c.view.ensures (λ e. c.in_default.not-Nil e) (λ x y e. c.in_default.not-Cons x y e)) ∙ c.along.invariant.along.ending
