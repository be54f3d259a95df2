use Rattle.std.proofs.Common.{◌≡◌, ◌+◌, ◌*◌, ◌<◌, [], ◌∷◌, ◌++◌, length, sym, ap, subst, ◌∙◌, arith, length-append}
use Rattle.kh_term.specs.declared.tree.TermTree.TheVariants as tree
use Rattle.kh_term.specs.Size.{size_of}
use Rattle.kh_heap.specs.Cells.{onto}
use Rattle.kh_heap.specs.Heap.{term_at, cons_tree}
use Rattle.kh_heap.specs.Parts.{in_turn, parts_in}
use Rattle.kh_heap.specs.View.{IsSeen}
use Rattle.kh_heap.proofs.Measures.{size-cons}
use Rattle.kh_heap.proofs.Smaller.{no-list, onto-whole, part-smaller, pairs-paired}
use Rattle.kh_heap.proofs.Stores.{list-pushed, pair-pushed, pairs-whole}
use Rattle.kh_heap.proofs.heap.Heap.+store.Goals as goal

pub store_list-store_tree-requires : goal.store_list-store_tree-requires
store_list-store_tree-requires t c =
    let heap = c.args.self.now in
    (omega (arith, c.decreases, size-cons (term_at heap c.args.head) (term_at heap c.args.tail)), c.requires.head_held)

pub store_list-store_tree-requires-in-Cons : goal.store_list-store_tree-requires-in-Cons
store_list-store_tree-requires-in-Cons t c =
    let heap = c.args.self.now in let x = term_at heap c.loop-first.rest in
    let seen = subst (λ v. IsSeen heap x v) c.in-Cons.is c.view.ensures in (
      omega (
        arith,
        c.decreases,
        size-cons (term_at heap c.args.head) (term_at heap c.args.tail),
        c.loop-first.invariant.smaller,
        ap size_of seen.0,
        size-cons (term_at heap c.in-Cons.first) (term_at heap c.in-Cons.behind),
      ),
      seen.1,
    )

pub store_list-loop-first-smaller : goal.store_list-loop-first-smaller
store_list-loop-first-smaller t c =
    let heap = c.args.self.now in let x = term_at heap c.loop-first.rest in let behind = term_at heap c.in-Cons.behind in
    let seen = subst (λ v. IsSeen heap x v) c.in-Cons.is c.view.ensures in
    let less : size_of behind < size_of x = omega (arith, ap size_of seen.0, size-cons (term_at heap c.in-Cons.first) behind) in
    less

pub store_list-loop-first-preserved : goal.store_list-loop-first-preserved
store_list-loop-first-preserved t c =
    let heap = c.args.self.now in let x = term_at heap c.loop-first.rest in
    let first = term_at heap c.in-Cons.first in let behind = term_at heap c.in-Cons.behind in
    let seen = subst (λ v. IsSeen heap x v) c.in-Cons.is c.view.ensures in
    let parts = c.loop-first.parts in let part = c.in_ok-store_tree-2.field-0 in
    let pushed : c.push-in-Cons.new.self ≡ parts ++ part ∷ [] = c.in_ok-push-2.ensures.ok in
    let whole = cons_tree (term_at heap c.args.head) (term_at heap c.args.tail) in
    record {
      held = seen.2;
      some = omega (arith, ap length pushed, length-append parts (part ∷ []));
      smaller = omega (arith, c.loop-first.invariant.smaller, ap size_of seen.0, size-cons first behind);
      same =
          subst (λ ps. whole ≡ onto ps behind) (sym pushed)
          (list-pushed parts part first x behind whole c.loop-first.invariant.same seen.0 c.in_ok-store_tree-2.ensures);
    }

pub store_list-store_tree-requires-2 : goal.store_list-store_tree-requires-2
store_list-store_tree-requires-2 t c =
    let heap = c.args.self.now in
    (omega (arith, c.decreases, size-cons (term_at heap c.args.head) (term_at heap c.args.tail), c.loop-first.invariant.smaller), c.loop-first.invariant.held)

pub store_list-returns : goal.store_list-returns
store_list-returns t c =
    let heap = c.args.self.now in let x = term_at heap c.loop-first.rest in let parts = c.loop-first.parts in
    let boxed : c.in_ok-new.field-0 ≡ x = c.in_ok-new.ensures ∙ c.in_ok-last.ensures in
    let end = no-list heap x c.view.result c.view.ensures c.in_default.not-Cons in
    (λ j. tree.List (c.parts-2.view_is j) (boxed j)) ∙ sym (c.loop-first.invariant.same ∙ onto-whole parts x c.loop-first.invariant.some end)

pub store_pairs-store_tree-requires : goal.store_pairs-store_tree-requires
store_pairs-store_tree-requires t c =
    let heap = c.args.self.now in let x = term_at heap c.args.r in let at = 2 * c.loop-i.i in
    let l : at < length (parts_in x) = omega (arith, c.loop-i-test.true, c.requires.count) in
    (omega (arith, c.decreases, part-smaller x at (term_at heap c.part.result) l c.part.ensures.part), c.part.ensures.held)

pub store_pairs-store_tree-requires-in-loop-i : goal.store_pairs-store_tree-requires-in-loop-i
store_pairs-store_tree-requires-in-loop-i t c =
    let heap = c.args.self.now in let x = term_at heap c.args.r in let at = 2 * c.loop-i.i + 1 in
    let l : at < length (parts_in x) = omega (arith, c.loop-i-test.true, c.requires.count) in
    (omega (arith, c.decreases, part-smaller x at (term_at heap c.part-in-loop-i.result) l c.part-in-loop-i.ensures.part), c.part-in-loop-i.ensures.held)

pub store_pairs-loop-i-preserved : goal.store_pairs-loop-i-preserved
store_pairs-loop-i-preserved t c =
    let all = parts_in (term_at c.args.self.now c.args.r) in let pairs = c.loop-i.pairs in
    let k = c.in_ok-key.key in let v = c.in_ok-value.value in
    let pushed : c.push.new.self ≡ pairs ++ (k, v) ∷ [] = c.in_ok-push.ensures.ok in
    let l : 2 * c.loop-i.i + 1 < length all = omega (arith, c.loop-i-test.true, c.requires.count) in
    ap in_turn pushed
    ∙ pair-pushed all pairs c.loop-i.i k v c.loop-i.invariant l (c.in_ok-key.ensures ∙ c.part.ensures.part) (c.in_ok-value.ensures ∙ c.part-in-loop-i.ensures.part)

pub store_pairs-returns : goal.store_pairs-returns
store_pairs-returns t c =
    let all = parts_in (term_at c.args.self.now c.args.r) in
    pairs-whole all c.loop-i.pairs c.loop-i.i c.loop-i.invariant (omega (arith, c.loop-i-test.false, c.requires.count))

pub store_parts-store_tree-requires : goal.store_parts-store_tree-requires
store_parts-store_tree-requires t c =
    let heap = c.args.self.now in let x = term_at heap c.args.r in let i = c.loop-i.i in
    let l : i < length (parts_in x) = omega (arith, c.loop-i-test.true, c.requires.count) in
    (omega (arith, c.decreases, part-smaller x i (term_at heap c.part-part.result) l c.part-part.ensures.part), c.part-part.ensures.held)

pub store_tree-returns-in_ok-store_pairs-in-Map : goal.store_tree-returns-in_ok-store_pairs-in-Map
store_tree-returns-in_ok-store_pairs-in-Map t c =
    let heap = c.args.self.now in let x = term_at heap c.args.r in
    let seen = subst (λ v. IsSeen heap x v) c.in-Map.is c.view.ensures in
    ap (λ ps. tree.Map ps) (c.in_ok-store_pairs-in-Map.ensures ∙ pairs-paired x seen.0) ∙ sym seen.0
