use Rattle.std.proofs.Common.{sym, ◌∙◌, ap, ◌||◌}
use Rattle.std.specs.Ordering.{is_eq}
use Rattle.std.specs.List.{list_any}
use Rattle.kh_heap.specs.Heap.{term_at}
use Rattle.kh_bif_data.specs.Lists.{elements, is_term}
use Rattle.kh_bif_data.proofs.Walking.{Along-next, any_more, shorter, at_nil, nil_ends, at_end, other_ends, none_behind}
use Rattle.kh_bif_data.proofs.lists.found.Goals as goal

pub along-preserved : goal.along-preserved
along-preserved c =
    let heap = c.args.heap.now in
    let test = is_term (term_at heap c.args.x) in
    let rest = list_any test (elements (term_at heap c.in-Cons.rest)) in
    record {
      along = Along-next heap c.args.a c.along.left c.in-Cons.head c.in-Cons.rest c.in-Cons.ensures c.along.invariant.along;
      so_far =
          ap (λ b. b || rest) (c.either-found.ensures ∙ ap (λ b. c.along.found || b) (c.is_eq.ensures ∙ ap is_eq c.compare.ensures))
          ∙ any_more heap c.args.a c.along.left c.in-Cons.head c.in-Cons.rest c.in-Cons.ensures test c.along.found c.along.invariant.so_far;
    }

pub along-smaller : goal.along-smaller
along-smaller c = shorter c.args.heap.now c.args.a c.along.left c.in-Cons.head c.in-Cons.rest c.in-Cons.ensures

pub returns-in-Nil : goal.returns-in-Nil
returns-in-Nil c =
    let heap = c.args.heap.now in
    let t = term_at heap c.along.left in
    record {
      found =
          none_behind (is_term (term_at heap c.args.x)) c.along.found (list_any (is_term (term_at heap c.args.x)) (elements (term_at heap c.args.a))) (elements t) (at_nil heap t c.in-Nil.ensures)
          c.along.invariant.so_far;
      proper = sym (nil_ends heap t c.in-Nil.ensures) ∙ c.along.invariant.along.ending;
    }

pub returns-in_default : goal.returns-in_default
returns-in_default c =
    let heap = c.args.heap.now in
    let t = term_at heap c.along.left in
    record {
      found =
          none_behind (is_term (term_at heap c.args.x)) c.along.found (list_any (is_term (term_at heap c.args.x)) (elements (term_at heap c.args.a))) (elements t)
          (at_end heap t c.view.result c.view.ensures (λ x y e. c.in_default.not-Cons x y e)) c.along.invariant.so_far;
      proper = sym (other_ends heap t c.view.result c.view.ensures (λ e. c.in_default.not-Nil e) (λ x y e. c.in_default.not-Cons x y e)) ∙ c.along.invariant.along.ending;
    }
