use Rattle.std.proofs.Common.{sym, ◌∙◌}
use Rattle.std.specs.List.{find}
use Rattle.std.specs.Prelude.{option_map}
use Rattle.kh_heap.specs.Heap.{term_at}
use Rattle.kh_bif_data.specs.Lists.{elements, has_at}
use Rattle.kh_bif_data.proofs.Walking.{Along-next, find_more, shorter, at_nil, nil_ends, at_end, other_ends, none_found}
use Rattle.kh_bif_data.proofs.lists.first_with.Goals as goal

pub along-preserved : goal.along-preserved
along-preserved c =
    let heap = c.args.heap.now in
    let test = has_at (term_at heap c.args.key) c.args.place in
    record {
      along = Along-next heap c.args.a c.along.left c.in-Cons.head c.in-Cons.rest c.in-Cons.ensures c.along.invariant.along;
      held = c.or_here-found.ensures.held;
      so_far =
          find_more heap c.args.a c.along.left c.in-Cons.head c.in-Cons.rest c.in-Cons.ensures test (option_map (term_at heap) c.along.found) (option_map (term_at heap) c.or_here-found.result)
          c.or_here-found.ensures.found c.along.invariant.so_far;
    }

pub along-smaller : goal.along-smaller
along-smaller c = shorter c.args.heap.now c.args.a c.along.left c.in-Cons.head c.in-Cons.rest c.in-Cons.ensures

pub returns-in-Nil-clause-found : goal.returns-in-Nil-clause-found
returns-in-Nil-clause-found c =
    let heap = c.args.heap.now in
    let test = has_at (term_at heap c.args.key) c.args.place in
    let t = term_at heap c.along.left in
    none_found test (option_map (term_at heap) c.along.found) (find test (elements (term_at heap c.args.a))) (elements t) (at_nil heap t c.in-Nil.ensures) c.along.invariant.so_far

pub returns-in-Nil-clause-proper : goal.returns-in-Nil-clause-proper
returns-in-Nil-clause-proper c =
    let heap = c.args.heap.now in
    sym (nil_ends heap (term_at heap c.along.left) c.in-Nil.ensures) ∙ c.along.invariant.along.ending

pub returns-in_default-clause-found : goal.returns-in_default-clause-found
returns-in_default-clause-found c =
    let heap = c.args.heap.now in
    let test = has_at (term_at heap c.args.key) c.args.place in
    let t = term_at heap c.along.left in
    none_found test (option_map (term_at heap) c.along.found) (find test (elements (term_at heap c.args.a))) (elements t)
    (at_end heap t c.view.result c.view.ensures (λ x y e. c.in_default.not-Cons x y e)) c.along.invariant.so_far

pub returns-in_default-clause-proper : goal.returns-in_default-clause-proper
returns-in_default-clause-proper c =
    let heap = c.args.heap.now in
    let t = term_at heap c.along.left in
    sym (other_ends heap t c.view.result c.view.ensures (λ e. c.in_default.not-Nil e) (λ x y e. c.in_default.not-Cons x y e)) ∙ c.along.invariant.along.ending
