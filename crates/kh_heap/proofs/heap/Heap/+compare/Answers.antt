use Rattle.std.proofs.Common.{◌≡◌, ◌+◌, ◌*◌, ◌<◌, length, map, min, refl, sym, ap, subst, ◌∙◌, arith}
use Rattle.std.specs.Cmp.Lexicographic.{slice_cmp}
use Rattle.std.specs.Ordering.{nat_cmp, int_cmp}
use Rattle.kh_term.specs.Lemmas.Orders.{alike-Int, IsByKind}
use Rattle.kh_term.specs.Name.{origin_cmp}
use Rattle.kh_term.specs.Order.{term_cmp, compare_parts, compare_pairs, compared}
use Rattle.kh_term.specs.Size.{size_of}
use Rattle.kh_term.specs.WellFormed.{IsTerm}
use Rattle.kh_heap.specs.Heap.{term_at}
use Rattle.kh_heap.specs.Parts.{parts_in, pairs_in, origin_in, side}
use Rattle.kh_heap.specs.View.{IsSeen, rank_seen}
use Rattle.kh_heap.proofs.Measures.{size-cons, int-back}
use Rattle.kh_heap.proofs.Orders.{apart-kinds, left-kinds, no-Int, no-Atom, no-Closure, no-Tuple, no-Map, no-Bin, along, heads-differ, end-first, end-second, first_decides, second_decides, as-many, captured-equal, captured-differ, keys-equal, keys-differ, tuple-cmp, map-cmp, function-cmp, atom-cmp, bin-cmp, shared-step, shared-stop, shared-end, half-at, length-half, equal_same}
use Rattle.kh_heap.proofs.Smaller.{no-list, part-smaller}
use Rattle.kh_heap.proofs.heap.Heap.+compare.Goals as goal
use Rattle.kh_heap.proofs.heap.Heap.+compare.Goals.{compare_ends-in_default-via-in-Int+in_default, compare_ends-in_default-via-in-Atom+in_default, compare_ends-in_default-via-in-Bin+in_default, compare_ends-in_default-via-in-Tuple+in_default, compare_ends-in_default-via-in-Map+in_default, compare_ends-in_default-via-in-Closure+in_default, compare_ends-in_default-via-in_default}

pub compare-compare-requires : goal.compare-compare-requires
compare-compare-requires t c =
    let heap = c.args.self.now in
    let x = term_at heap c.along.x in let y = term_at heap c.along.y in
    let h = term_at heap c.in-Cons.h in let g = term_at heap c.in-Cons-view.g in
    let u = term_at heap c.in-Cons.t in let s = term_at heap c.in-Cons-view.s in
    let first = subst (λ v. IsSeen heap x v) c.in-Cons.is c.view.ensures in
    let second = subst (λ v. IsSeen heap y v) c.in-Cons-view.is c.view-in-along.ensures in
    (omega (arith, c.decreases, c.along.invariant.smaller, ap size_of first.0, size-cons h u), (first.1, second.1))

pub compare-returns-in_default-compare : goal.compare-returns-in_default-compare
compare-returns-in_default-compare t c =
    let heap = c.args.self.now in
    let x = term_at heap c.along.x in let y = term_at heap c.along.y in
    let h = term_at heap c.in-Cons.h in let g = term_at heap c.in-Cons-view.g in
    let u = term_at heap c.in-Cons.t in let s = term_at heap c.in-Cons-view.s in
    let first = subst (λ v. IsSeen heap x v) c.in-Cons.is c.view.ensures in
    let second = subst (λ v. IsSeen heap y v) c.in-Cons-view.is c.view-in-along.ensures in
    let fit = c.stands_for_terms.ensures.fits c.in-Cons.t first.2 in
    let fits = c.stands_for_terms.ensures.fits c.in-Cons-view.s second.2 in
    heads-differ h g u s x y first.0 second.0 fit fits c.compare.result c.compare.ensures c.in_default-compare.not-Equal ∙ c.along.invariant.same

pub compare-along-smaller : goal.compare-along-smaller
compare-along-smaller t c =
    let heap = c.args.self.now in
    let x = term_at heap c.along.x in let y = term_at heap c.along.y in
    let h = term_at heap c.in-Cons.h in let g = term_at heap c.in-Cons-view.g in
    let u = term_at heap c.in-Cons.t in let s = term_at heap c.in-Cons-view.s in
    let first = subst (λ v. IsSeen heap x v) c.in-Cons.is c.view.ensures in
    let second = subst (λ v. IsSeen heap y v) c.in-Cons-view.is c.view-in-along.ensures in
    let less : size_of u < size_of x = omega (arith, ap size_of first.0, size-cons h u) in
    less

pub compare-along-preserved : goal.compare-along-preserved
compare-along-preserved t c =
    let heap = c.args.self.now in
    let x = term_at heap c.along.x in let y = term_at heap c.along.y in
    let h = term_at heap c.in-Cons.h in let g = term_at heap c.in-Cons-view.g in
    let u = term_at heap c.in-Cons.t in let s = term_at heap c.in-Cons-view.s in
    let first = subst (λ v. IsSeen heap x v) c.in-Cons.is c.view.ensures in
    let second = subst (λ v. IsSeen heap y v) c.in-Cons-view.is c.view-in-along.ensures in
    let fit = c.stands_for_terms.ensures.fits c.in-Cons.t first.2 in
    let fits = c.stands_for_terms.ensures.fits c.in-Cons-view.s second.2 in
    record {
      first = first.2;
      second = second.2;
      smaller = omega (arith, c.along.invariant.smaller, ap size_of first.0, size-cons h u);
      same = along h g u s x y first.0 second.0 fit fits c.compare.result c.compare.ensures c.in-Equal.is ∙ c.along.invariant.same;
    }

pub compare-compare_ends-requires : goal.compare-compare_ends-requires
compare-compare_ends-requires t c =
    let heap = c.args.self.now in
    let x = term_at heap c.along.x in let y = term_at heap c.along.y in (
      omega (arith, c.decreases, c.along.invariant.smaller),
      (
        c.along.invariant.first,
        (
          c.along.invariant.second,
          end-first x y (no-list heap x c.view.result c.view.ensures c.in_default.not-Cons),
        ),
      ),
    )

pub compare-compare_ends-requires-in_default-view : goal.compare-compare_ends-requires-in_default-view
compare-compare_ends-requires-in_default-view t c =
    let heap = c.args.self.now in
    let x = term_at heap c.along.x in let y = term_at heap c.along.y in (
      omega (arith, c.decreases, c.along.invariant.smaller),
      (
        c.along.invariant.first,
        (
          c.along.invariant.second,
          end-second x y (no-list heap y c.view-in-along.result c.view-in-along.ensures c.in_default-view.not-Cons),
        ),
      ),
    )

pub compare-returns : goal.compare-returns
compare-returns t c =
    let heap = c.args.self.now in let x = term_at heap c.along.x in
    let fit = c.stands_for_terms.ensures.fits c.along.x c.along.invariant.first in
    let same : c.along.x ≡ c.along.y = c.is_one.ensures.0 c.along-test.false in
    sym ((equal_same x x fit fit).1 refl) ∙ ap (λ r. term_cmp x (term_at heap r)) same ∙ c.along.invariant.same

pub compare_captured-returns-in-Equal : goal.compare_captured-returns-in-Equal
compare_captured-returns-in-Equal t c =
    let heap = c.args.self.now in let x = term_at heap c.args.x in let y = term_at heap c.args.y in
    let xs = parts_in x in let ys = parts_in y in
    c.cmp.ensures ∙ (λ j. nat_cmp (sym c.requires.count j) (sym c.requires.other_count j))
    ∙ captured-equal xs ys c.compare_parts.result c.compare_parts.ensures c.in-Equal.is

pub compare_captured-returns-in_default : goal.compare_captured-returns-in_default
compare_captured-returns-in_default t c =
    let heap = c.args.self.now in let x = term_at heap c.args.x in let y = term_at heap c.args.y in
    let xs = parts_in x in let ys = parts_in y in
    captured-differ xs ys c.compare_parts.result c.compare_parts.ensures c.in_default.not-Equal

pub compare_ends-returns-in-Int-Int : goal.compare_ends-returns-in-Int-Int
compare_ends-returns-in-Int-Int t c =
    let heap = c.args.self.now in let x = term_at heap c.args.x in let y = term_at heap c.args.y in
    let first = subst (λ v. IsSeen heap x v) c.in-Int-Int.is-0 c.view.ensures in
    let second = subst (λ v. IsSeen heap y v) c.in-Int-Int.is-1 c.view-2.ensures in
    let fit = subst IsTerm first (c.stands_for_terms.ensures.fits c.args.x c.requires.first) in
    let fits = subst IsTerm second (c.stands_for_terms.ensures.fits c.args.y c.requires.second) in
    c.cmp.ensures ∙ (λ j. int_cmp (int-back c.in-Int-Int.m fit j) (int-back c.in-Int-Int.n fits j))
    ∙ sym ((λ j. term_cmp (first j) (second j)) ∙ alike-Int c.in-Int-Int.m c.in-Int-Int.n)

pub compare_ends-returns-in-Atom-Atom : goal.compare_ends-returns-in-Atom-Atom
compare_ends-returns-in-Atom-Atom t c =
    let heap = c.args.self.now in let x = term_at heap c.args.x in let y = term_at heap c.args.y in
    let first = subst (λ v. IsSeen heap x v) c.in-Atom-Atom.is-0 c.view.ensures in
    let second = subst (λ v. IsSeen heap y v) c.in-Atom-Atom.is-1 c.view-2.ensures in
    c.cmp-in-Atom-Atom.ensures ∙ (λ j. slice_cmp nat_cmp (c.atom.ensures j) (c.atom-in-Atom-Atom.ensures j)) ∙ sym (atom-cmp x y first second)

pub compare_ends-returns-in-Bin-Bin : goal.compare_ends-returns-in-Bin-Bin
compare_ends-returns-in-Bin-Bin t c =
    let heap = c.args.self.now in let x = term_at heap c.args.x in let y = term_at heap c.args.y in
    let first = subst (λ v. IsSeen heap x v) c.in-Bin-Bin.is-0 c.view.ensures in
    let second = subst (λ v. IsSeen heap y v) c.in-Bin-Bin.is-1 c.view-2.ensures in
    c.cmp-in-Bin-Bin.ensures ∙ (λ j. slice_cmp nat_cmp (c.bytes.ensures j) (c.bytes-in-Bin-Bin.ensures j)) ∙ sym (bin-cmp x y first.0 second.0)

pub compare_ends-returns-in-Equal : goal.compare_ends-returns-in-Equal
compare_ends-returns-in-Equal t c =
    let heap = c.args.self.now in let x = term_at heap c.args.x in let y = term_at heap c.args.y in
    let first = subst (λ v. IsSeen heap x v) c.in-Tuple-Tuple.is-0 c.view.ensures in
    let second = subst (λ v. IsSeen heap y v) c.in-Tuple-Tuple.is-1 c.view-2.ensures in
    let xs = parts_in x in let ys = parts_in y in
    let numbers = c.cmp-in-Tuple-Tuple.ensures ∙ (λ j. nat_cmp (sym first.1 j) (sym second.1 j)) in
    let e = tuple-cmp x y first.0 second.0 in
    let f = sym c.in-Equal.is ∙ numbers in
    second_decides x y c.compare_parts.result (nat_cmp (length xs) (length ys)) (compare_parts (map compared xs) ys) e f (c.compare_parts.ensures ∙ as-many xs ys f)

pub compare_ends-returns-in_default-cmp : goal.compare_ends-returns-in_default-cmp
compare_ends-returns-in_default-cmp t c =
    let heap = c.args.self.now in let x = term_at heap c.args.x in let y = term_at heap c.args.y in
    let first = subst (λ v. IsSeen heap x v) c.in-Tuple-Tuple.is-0 c.view.ensures in
    let second = subst (λ v. IsSeen heap y v) c.in-Tuple-Tuple.is-1 c.view-2.ensures in
    let xs = parts_in x in let ys = parts_in y in
    let numbers = c.cmp-in-Tuple-Tuple.ensures ∙ (λ j. nat_cmp (sym first.1 j) (sym second.1 j)) in
    let e = tuple-cmp x y first.0 second.0 in
    first_decides x y c.cmp-in-Tuple-Tuple.result (nat_cmp (length xs) (length ys)) (compare_parts (map compared xs) ys) e numbers c.in_default-cmp.not-Equal

pub compare_ends-returns-in-Equal-cmp : goal.compare_ends-returns-in-Equal-cmp
compare_ends-returns-in-Equal-cmp t c =
    let heap = c.args.self.now in let x = term_at heap c.args.x in let y = term_at heap c.args.y in
    let first = subst (λ v. IsSeen heap x v) c.in-Map-Map.is-0 c.view.ensures in
    let second = subst (λ v. IsSeen heap y v) c.in-Map-Map.is-1 c.view-2.ensures in
    let ps = pairs_in x in let qs = pairs_in y in
    let numbers = c.cmp-in-Map-Map.ensures ∙ (λ j. nat_cmp (sym first.1 j) (sym second.1 j)) in
    let e = map-cmp x y first.0 second.0 in
    second_decides x y c.compare_maps.result (nat_cmp (length ps) (length qs)) (compare_pairs ps qs) e (sym c.in-Equal-cmp.is ∙ numbers) c.compare_maps.ensures

pub compare_ends-returns-in_default-cmp-2 : goal.compare_ends-returns-in_default-cmp-2
compare_ends-returns-in_default-cmp-2 t c =
    let heap = c.args.self.now in let x = term_at heap c.args.x in let y = term_at heap c.args.y in
    let first = subst (λ v. IsSeen heap x v) c.in-Map-Map.is-0 c.view.ensures in
    let second = subst (λ v. IsSeen heap y v) c.in-Map-Map.is-1 c.view-2.ensures in
    let ps = pairs_in x in let qs = pairs_in y in
    let numbers = c.cmp-in-Map-Map.ensures ∙ (λ j. nat_cmp (sym first.1 j) (sym second.1 j)) in
    let e = map-cmp x y first.0 second.0 in
    first_decides x y c.cmp-in-Map-Map.result (nat_cmp (length ps) (length qs)) (compare_pairs ps qs) e numbers c.in_default-cmp-2.not-Equal

pub compare_ends-returns-in-Equal-cmp-2 : goal.compare_ends-returns-in-Equal-cmp-2
compare_ends-returns-in-Equal-cmp-2 t c =
    let heap = c.args.self.now in let x = term_at heap c.args.x in let y = term_at heap c.args.y in
    let first = subst (λ v. IsSeen heap x v) c.in-Closure-Closure.is-0 c.view.ensures in
    let second = subst (λ v. IsSeen heap y v) c.in-Closure-Closure.is-1 c.view-2.ensures in
    let a = origin_in x in let b = origin_in y in let xs = parts_in x in let ys = parts_in y in
    let written = c.cmp-in-Closure-Closure.ensures ∙ (λ j. origin_cmp (c.origin.ensures j) (c.origin-in-Closure-Closure.ensures j)) in
    let e = function-cmp x y first.0 second.0 in
    second_decides x y c.compare_captured.result (origin_cmp a b) (compare_parts (map compared xs) ys) e (sym c.in-Equal-cmp-2.is ∙ written) c.compare_captured.ensures

pub compare_ends-returns-in_default-cmp-3 : goal.compare_ends-returns-in_default-cmp-3
compare_ends-returns-in_default-cmp-3 t c =
    let heap = c.args.self.now in let x = term_at heap c.args.x in let y = term_at heap c.args.y in
    let first = subst (λ v. IsSeen heap x v) c.in-Closure-Closure.is-0 c.view.ensures in
    let second = subst (λ v. IsSeen heap y v) c.in-Closure-Closure.is-1 c.view-2.ensures in
    let a = origin_in x in let b = origin_in y in let xs = parts_in x in let ys = parts_in y in
    let written = c.cmp-in-Closure-Closure.ensures ∙ (λ j. origin_cmp (c.origin.ensures j) (c.origin-in-Closure-Closure.ensures j)) in
    let e = function-cmp x y first.0 second.0 in
    first_decides x y c.cmp-in-Closure-Closure.result (origin_cmp a b) (compare_parts (map compared xs) ys) e written c.in_default-cmp-3.not-Equal

pub compare_ends-returns-in_default : goal.compare_ends-returns-in_default
compare_ends-returns-in_default t c =
    let heap = c.args.self.now in let x = term_at heap c.args.x in let y = term_at heap c.args.y in
    let v = c.view.result in let u = c.view-2.result in
    let kinds : IsByKind x y = elim c.in_default.branch [
      | compare_ends-in_default-via-in-Int+in_default w ↦ apart-kinds heap x y v u c.view.ensures c.view-2.ensures (λ e. no-Int u w.in_default.not-Int-1 (sym (ap rank_seen w.in_default.is-0) ∙ e))
      | compare_ends-in_default-via-in-Atom+in_default w ↦ apart-kinds heap x y v u c.view.ensures c.view-2.ensures (λ e. no-Atom u w.in_default.not-Atom-1 (sym (ap rank_seen w.in_default.is-0) ∙ e))
      | compare_ends-in_default-via-in-Bin+in_default w ↦ apart-kinds heap x y v u c.view.ensures c.view-2.ensures (λ e. no-Bin u w.in_default.not-Bin-1 (sym (ap rank_seen w.in_default.is-0) ∙ e))
      | compare_ends-in_default-via-in-Tuple+in_default w ↦ apart-kinds heap x y v u c.view.ensures c.view-2.ensures (λ e. no-Tuple u w.in_default.not-Tuple-1 (sym (ap rank_seen w.in_default.is-0) ∙ e))
      | compare_ends-in_default-via-in-Map+in_default w ↦ apart-kinds heap x y v u c.view.ensures c.view-2.ensures (λ e. no-Map u w.in_default.not-Map-1 (sym (ap rank_seen w.in_default.is-0) ∙ e))
      | compare_ends-in_default-via-in-Closure+in_default w ↦ apart-kinds heap x y v u c.view.ensures c.view-2.ensures (λ e. no-Closure u w.in_default.not-Closure-1 (sym (ap rank_seen w.in_default.is-0) ∙ e))
      | compare_ends-in_default-via-in_default w ↦ left-kinds heap x y v u c.view.ensures c.view-2.ensures c.requires.end w.in_default.not-Int-0 w.in_default.not-Atom-0 w.in_default.not-Bin-0 w.in_default.not-Tuple-0 w.in_default.not-Map-0 w.in_default.not-Closure-0
    ] in
    c.compare_kinds.ensures ∙ sym kinds

pub compare_half-overflow_mul-i : goal.compare_half-overflow_mul-i
compare_half-overflow_mul-i t c =
    record { fits = omega (arith, c.loop-i-test.true, c.requires.half, c.requires.map.2, c.stands_for_terms.ensures.few c.args.x c.requires.first) }

pub compare_half-overflow_add-i : goal.compare_half-overflow_add-i
compare_half-overflow_add-i t c =
    record { fits = omega (arith, c.loop-i-test.true, c.requires.half, c.requires.map.2, c.stands_for_terms.ensures.few c.args.x c.requires.first) }

pub compare_half-overflow_mul-i-in-loop-i : goal.compare_half-overflow_mul-i-in-loop-i
compare_half-overflow_mul-i-in-loop-i t c =
    record { fits = omega (arith, c.loop-i-test.true, c.requires.half, c.requires.map.2, c.stands_for_terms.ensures.few c.args.x c.requires.first) }

pub compare_half-overflow_add-i-in-loop-i : goal.compare_half-overflow_add-i-in-loop-i
compare_half-overflow_add-i-in-loop-i t c =
    record { fits = omega (arith, c.loop-i-test.true, c.requires.half, c.requires.map.2, c.stands_for_terms.ensures.few c.args.x c.requires.first) }

pub compare_half-compare-requires : goal.compare_half-compare-requires
compare_half-compare-requires t c =
    let heap = c.args.self.now in let x = term_at heap c.args.x in let y = term_at heap c.args.y in
    let xs = map (side c.args.half) (pairs_in x) in let ys = map (side c.args.half) (pairs_in y) in let i = c.loop-i.i in
    let l : 2 * i + c.args.half < length (parts_in x) = omega (arith, c.loop-i-test.true, c.requires.half, c.requires.map.2) in (
      omega (arith, c.decreases, part-smaller x (2 * i + c.args.half) (term_at heap c.part-part.result) l c.part-part.ensures.part),
      (c.part-part.ensures.held, c.part-other.ensures.held),
    )

pub compare_half-returns-in_default : goal.compare_half-returns-in_default
compare_half-returns-in_default t c =
    let heap = c.args.self.now in let x = term_at heap c.args.x in let y = term_at heap c.args.y in
    let xs = map (side c.args.half) (pairs_in x) in let ys = map (side c.args.half) (pairs_in y) in let i = c.loop-i.i in
    let many = length-half x c.args.count c.args.half c.requires.map in
    let others = length-half y c.args.count c.args.half c.requires.other_map in
    let first = c.part-part.ensures.part ∙ half-at x c.args.count i c.args.half c.requires.map c.loop-i-test.true c.requires.half in
    let second = c.part-other.ensures.part ∙ half-at y c.args.count i c.args.half c.requires.other_map c.loop-i-test.true c.requires.half in
    shared-stop xs ys i c.compare.result (term_at heap c.part-part.result) (term_at heap c.part-other.result)
    (omega (arith, many, c.loop-i-test.true)) (omega (arith, others, c.loop-i-test.true)) first second c.compare.ensures c.in_default.not-Equal
    ∙ c.loop-i.invariant

pub compare_half-loop-i-preserved : goal.compare_half-loop-i-preserved
compare_half-loop-i-preserved t c =
    let heap = c.args.self.now in let x = term_at heap c.args.x in let y = term_at heap c.args.y in
    let xs = map (side c.args.half) (pairs_in x) in let ys = map (side c.args.half) (pairs_in y) in let i = c.loop-i.i in
    let many = length-half x c.args.count c.args.half c.requires.map in
    let others = length-half y c.args.count c.args.half c.requires.other_map in
    let first = c.part-part.ensures.part ∙ half-at x c.args.count i c.args.half c.requires.map c.loop-i-test.true c.requires.half in
    let second = c.part-other.ensures.part ∙ half-at y c.args.count i c.args.half c.requires.other_map c.loop-i-test.true c.requires.half in
    shared-step xs ys i c.compare.result (term_at heap c.part-part.result) (term_at heap c.part-other.result)
    (omega (arith, many, c.loop-i-test.true)) (omega (arith, others, c.loop-i-test.true)) first second c.compare.ensures c.in-Equal.is
    ∙ c.loop-i.invariant

pub compare_maps-returns-in-Equal : goal.compare_maps-returns-in-Equal
compare_maps-returns-in-Equal t c =
    let heap = c.args.self.now in let x = term_at heap c.args.x in let y = term_at heap c.args.y in
    let ps = pairs_in x in let qs = pairs_in y in
    let same = c.requires.map.1 ∙ sym c.requires.other_map.1 in
    keys-equal ps qs same c.compare_half-in-Equal.result (sym c.in-Equal.is ∙ c.compare_half.ensures) c.compare_half-in-Equal.ensures

pub compare_maps-returns-in_default : goal.compare_maps-returns-in_default
compare_maps-returns-in_default t c =
    let heap = c.args.self.now in let x = term_at heap c.args.x in let y = term_at heap c.args.y in
    let ps = pairs_in x in let qs = pairs_in y in
    let same = c.requires.map.1 ∙ sym c.requires.other_map.1 in
    keys-differ ps qs same c.compare_half.result c.compare_half.ensures c.in_default.not-Equal

pub compare_parts-compare-requires : goal.compare_parts-compare-requires
compare_parts-compare-requires t c =
    let heap = c.args.self.now in let x = term_at heap c.args.x in let y = term_at heap c.args.y in
    let i = c.loop-i.i in
    let l : i < length (parts_in x) = omega (arith, c.loop-i-test.true, c.requires.count) in (
      omega (arith, c.decreases, part-smaller x i (term_at heap c.part-part.result) l c.part-part.ensures.part),
      (c.part-part.ensures.held, c.part-other.ensures.held),
    )

pub compare_parts-returns : goal.compare_parts-returns
compare_parts-returns t c =
    let heap = c.args.self.now in let x = term_at heap c.args.x in let y = term_at heap c.args.y in
    let end : c.loop-i.i ≡ min (length (parts_in x)) (length (parts_in y)) = omega (arith, c.loop-i-test.false, c.loop-i.auto.i-end, c.requires.count) in
    sym (shared-end (parts_in x) (parts_in y) c.loop-i.i end) ∙ c.loop-i.invariant
