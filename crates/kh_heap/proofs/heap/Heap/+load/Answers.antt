use Rattle.std.proofs.Common.{◌≡◌, ◌+◌, ◌*◌, ◌≤◌, [], ◌∷◌, ◌++◌, length, map, sym, ap, subst, ◌∙◌, arith, rules}
use Rattle.std.specs.Prelude.{IfOk, IsTrue}
use Rattle.kh_term.specs.declared.tree.TermTree.TheVariants as tree
use Rattle.kh_term.specs.Size.{size_of, depth_of}
use Rattle.kh_term.specs.WellFormed.{IsTerm, keys_rise}
use Rattle.kh_term.specs.Lemmas.Fits.{tail_of_list, parts_of_list, parts_of_tuple, parts_of_closure, pairs_of_map, keys_rise_in, part_of}
use Rattle.kh_term.specs.declared.tree.TermTree.TheViews.{the_lemmas}
use Rattle.kh_term.proofs.Layers.{size-Atom, size-Bin, size-Nil, size-List, size-Tuple, size-Map, size-Closure, depth-List, depth-Tuple, depth-Map, depth-Closure, sizes-drop, pair_sizes-drop, depths-drop, pair_depths-drop}
use Rattle.kh_heap.specs.Heap.{terms_at, pairs_at, HoldsAll, HoldsPairs, Stands}
use Rattle.kh_heap.proofs.Growth.{Grew-trans, on_ok}
use Rattle.kh_heap.proofs.Loads.{list-low, list-whole, cells-one, arity-enough, measured-Bin, held-more, loaded-more, pairs_held-more, pairs_loaded-more, pair-fits}
use Rattle.kh_heap.proofs.Measures.{measured-Nil}
use Rattle.kh_heap.proofs.Runs.{length-terms_at, length-pairs_at}
use Rattle.kh_heap.proofs.heap.Heap.+load.Goals as goal

pub load_tree-load_tree-requires :
    goal.load_tree-load_tree-requires
load_tree-load_tree-requires t c =
    let ps = c.in-List.parts in
    let tail = c.get.result.now in
    let is : c.args.tree.now ≡ tree.List ps tail = c.in-List.is ∙ (λ j. tree.List ps (sym c.get.ensures j)) in
    let fits : IsTerm (tree.List ps tail) = subst IsTerm is c.requires.fits in
    (search (rules, the_lemmas), (omega (arith, c.requires.room, ap size_of is, size-List ps tail), (omega (arith, c.requires.few, ap size_of is, size-List ps tail), (omega (arith, c.requires.low, ap depth_of is, list-low ps tail fits), tail_of_list ps tail fits))))

pub load_tree-load_all-requires :
    goal.load_tree-load_all-requires
load_tree-load_all-requires t c =
    let ps = c.as_slice-in-List.result.now in
    let tail = c.get.result.now in
    let is : c.args.tree.now ≡ tree.List ps tail = c.in-List.is ∙ (λ j. tree.List (sym c.as_slice-in-List.ensures j) (sym c.get.ensures j)) in
    let fits : IsTerm (tree.List ps tail) = subst IsTerm is c.requires.fits in
    (search (rules, the_lemmas), (omega (arith, c.requires.room, c.in_ok-last-in-List.ensures.cells, ap size_of is, size-List ps tail), (omega (arith, c.requires.few, ap size_of is, size-List ps tail), (omega (arith, c.requires.low, ap depth_of is, depth-List ps tail), parts_of_list ps tail fits))))

pub load_tree-cons_all-requires-clause-room :
    goal.load_tree-cons_all-requires-clause-room
load_tree-cons_all-requires-clause-room t c =
    let ps = c.as_slice-in-List.result.now in
    let tail = c.get.result.now in
    let is : c.args.tree.now ≡ tree.List ps tail = c.in-List.is ∙ (λ j. tree.List (sym c.as_slice-in-List.ensures j) (sym c.get.ensures j)) in
    let new = c.load_all.new.self in
    let heads = c.as_slice-in-List-2.result.now in
    let terms : terms_at new heads ≡ ps = ap (terms_at new) c.as_slice-in-List-2.ensures.value ∙ c.in_ok-heads-in-List.ensures.terms in
    let count : length heads ≡ length ps = sym (length-terms_at new heads) ∙ ap length terms in
    omega (arith, c.requires.room, ap size_of is, size-List ps tail, c.in_ok-last-in-List.ensures.cells, c.in_ok-heads-in-List.ensures.cells, count)

pub load_tree-cons_all-requires-clause-few :
    goal.load_tree-cons_all-requires-clause-few
load_tree-cons_all-requires-clause-few t c =
    let ps = c.as_slice-in-List.result.now in
    let tail = c.get.result.now in
    let is : c.args.tree.now ≡ tree.List ps tail = c.in-List.is ∙ (λ j. tree.List (sym c.as_slice-in-List.ensures j) (sym c.get.ensures j)) in
    let new = c.load_all.new.self in
    let heads = c.as_slice-in-List-2.result.now in
    let last = c.in_ok-last-in-List.last in
    let terms : terms_at new heads ≡ ps = ap (terms_at new) c.as_slice-in-List-2.ensures.value ∙ c.in_ok-heads-in-List.ensures.terms in
    let whole = list-whole c.load_tree.new.self new heads last c.args.tree.now ps tail c.requires.fits is terms c.in_ok-heads-in-List.ensures.grew c.in_ok-last-in-List.ensures.term in
    omega (arith, ap size_of whole, c.requires.few)

pub load_tree-cons_all-requires-clause-low :
    goal.load_tree-cons_all-requires-clause-low
load_tree-cons_all-requires-clause-low t c =
    let ps = c.as_slice-in-List.result.now in
    let tail = c.get.result.now in
    let is : c.args.tree.now ≡ tree.List ps tail = c.in-List.is ∙ (λ j. tree.List (sym c.as_slice-in-List.ensures j) (sym c.get.ensures j)) in
    let new = c.load_all.new.self in
    let heads = c.as_slice-in-List-2.result.now in
    let last = c.in_ok-last-in-List.last in
    let terms : terms_at new heads ≡ ps = ap (terms_at new) c.as_slice-in-List-2.ensures.value ∙ c.in_ok-heads-in-List.ensures.terms in
    let whole = list-whole c.load_tree.new.self new heads last c.args.tree.now ps tail c.requires.fits is terms c.in_ok-heads-in-List.ensures.grew c.in_ok-last-in-List.ensures.term in
    omega (arith, ap depth_of whole, c.requires.low)

pub load_tree-returns-in_ok-heads-in-List-clause-term :
    goal.load_tree-returns-in_ok-heads-in-List-clause-term
load_tree-returns-in_ok-heads-in-List-clause-term t c =
    let ps = c.as_slice-in-List.result.now in
    let tail = c.get.result.now in
    let is : c.args.tree.now ≡ tree.List ps tail = c.in-List.is ∙ (λ j. tree.List (sym c.as_slice-in-List.ensures j) (sym c.get.ensures j)) in
    let new = c.load_all.new.self in
    let heads = c.as_slice-in-List-2.result.now in
    let last = c.in_ok-last-in-List.last in
    let terms : terms_at new heads ≡ ps = ap (terms_at new) c.as_slice-in-List-2.ensures.value ∙ c.in_ok-heads-in-List.ensures.terms in
    let whole = list-whole c.load_tree.new.self new heads last c.args.tree.now ps tail c.requires.fits is terms c.in_ok-heads-in-List.ensures.grew c.in_ok-last-in-List.ensures.term in
    subst (λ x. IfOk c.cons_all.result (λ r. Stands c.cons_all.new.self r x)) whole c.cons_all.ensures.term

pub load_tree-returns-in_ok-heads-in-List-clause-cells :
    goal.load_tree-returns-in_ok-heads-in-List-clause-cells
load_tree-returns-in_ok-heads-in-List-clause-cells t c =
    let ps = c.as_slice-in-List.result.now in
    let tail = c.get.result.now in
    let is : c.args.tree.now ≡ tree.List ps tail = c.in-List.is ∙ (λ j. tree.List (sym c.as_slice-in-List.ensures j) (sym c.get.ensures j)) in
    let new = c.load_all.new.self in
    let heads = c.as_slice-in-List-2.result.now in
    let terms : terms_at new heads ≡ ps = ap (terms_at new) c.as_slice-in-List-2.ensures.value ∙ c.in_ok-heads-in-List.ensures.terms in
    let count : length heads ≡ length ps = sym (length-terms_at new heads) ∙ ap length terms in
    let few : length c.cons_all.new.self + 1 ≤ length c.args.self.now + 2 * size_of c.args.tree.now = omega (arith, ap size_of is, size-List ps tail, c.in_ok-last-in-List.ensures.cells, c.in_ok-heads-in-List.ensures.cells, count, c.cons_all.ensures.cells) in
    on_ok c.cons_all.result few

pub load_all-load_tree-requires :
    goal.load_all-load_tree-requires
load_all-load_tree-requires t c =
    let ts = c.args.trees.now in
    let i = c.loop-tree.tree-index in
    let x = c.tree-item.result in
    let had = c.loop-tree.invariant in
    let l = c.loop-tree-test.true in
    let size = sizes-drop ts i x l in
    let same = ap size_of c.tree-item.is in
    let low = depths-drop ts i x l in
    let deep = ap depth_of c.tree-item.is in
    (search (rules, the_lemmas), (omega (arith, had.cells, c.requires.room, size, same), (omega (arith, had.few, size, same), (omega (arith, had.low, low, deep), part_of ts i x c.requires.fits l c.tree-item.is))))

pub load_all-loop-tree-preserved :
    goal.load_all-loop-tree-preserved
load_all-loop-tree-preserved t c =
    let ts = c.args.trees.now in
    let i = c.loop-tree.tree-index in
    let x = c.tree-item.result in
    let had = c.loop-tree.invariant in
    let l = c.loop-tree-test.true in
    let self = c.loop-tree.self in
    let new = c.load_tree.new.self in
    let rs = c.loop-tree.refs.items in
    let r = c.in_ok-r.r in
    let pushed : c.push.new.self.items ≡ rs ++ r ∷ [] = c.in_ok-push.ensures.items in
    let size = sizes-drop ts i x l in
    let same = ap size_of c.tree-item.is in
    let grew = c.in_ok-r.ensures.grew in
    let stands = c.in_ok-r.ensures.term in
    record {
      held = subst (HoldsAll new) (sym pushed) (held-more self new rs r ts i x grew had.held stands);
      terms = ap (terms_at new) pushed ∙ loaded-more self new rs r ts i x grew had.held stands had.terms l c.tree-item.is;
      grew = Grew-trans c.args.self.now self new had.grew grew;
      cells = omega (arith, had.cells, size, same, c.in_ok-r.ensures.cells);
      few = omega (arith, had.few, size);
      low = omega (arith, had.low, depths-drop ts i x l);
    }

pub load_pairs-load_tree-requires :
    goal.load_pairs-load_tree-requires
load_pairs-load_tree-requires t c =
    let ps = c.args.pairs.now in
    let i = c.loop-pair.pair-index in
    let p = c.pair-item.result in
    let had = c.loop-pair.invariant in
    let l = c.loop-pair-test.true in
    let size = pair_sizes-drop ps i p l in
    let key = ap (λ q. size_of q.0) c.pair-item.is in
    let low = pair_depths-drop ps i p l in
    let deep = ap (λ q. depth_of q.0) c.pair-item.is in
    (search (rules, the_lemmas), (omega (arith, had.cells, c.requires.room, size, key), (omega (arith, had.few, size, key), (omega (arith, had.low, low, deep), (pair-fits ps i p c.requires.fits l c.pair-item.is).0))))

pub load_pairs-load_tree-requires-in-loop-pair :
    goal.load_pairs-load_tree-requires-in-loop-pair
load_pairs-load_tree-requires-in-loop-pair t c =
    let ps = c.args.pairs.now in
    let i = c.loop-pair.pair-index in
    let p = c.pair-item.result in
    let had = c.loop-pair.invariant in
    let l = c.loop-pair-test.true in
    let size = pair_sizes-drop ps i p l in
    let key = ap (λ q. size_of q.0) c.pair-item.is in
    let value = ap (λ q. size_of q.1) c.pair-item.is in
    let low = pair_depths-drop ps i p l in
    let deep = ap (λ q. depth_of q.1) c.pair-item.is in
    (search (rules, the_lemmas), (omega (arith, had.cells, c.requires.room, c.in_ok-key.ensures.cells, size, key, value), (omega (arith, had.few, size, value), (omega (arith, had.low, low, deep), (pair-fits ps i p c.requires.fits l c.pair-item.is).1))))

pub load_pairs-loop-pair-preserved :
    goal.load_pairs-loop-pair-preserved
load_pairs-loop-pair-preserved t c =
    let ps = c.args.pairs.now in
    let i = c.loop-pair.pair-index in
    let p = c.pair-item.result in
    let had = c.loop-pair.invariant in
    let l = c.loop-pair-test.true in
    let self = c.loop-pair.self in
    let mid = c.load_tree.new.self in
    let new = c.load_tree-in-loop-pair.new.self in
    let rs = c.loop-pair.refs.items in
    let k = c.in_ok-key.key in
    let v = c.in_ok-value.value in
    let pushed : c.push.new.self.items ≡ rs ++ (k, v) ∷ [] = c.in_ok-push.ensures.items in
    let size = pair_sizes-drop ps i p l in
    let key = ap (λ q. size_of q.0) c.pair-item.is in
    let value = ap (λ q. size_of q.1) c.pair-item.is in
    let g = c.in_ok-key.ensures.grew in
    let h = c.in_ok-value.ensures.grew in
    let stands = c.in_ok-key.ensures.term in
    let stand = c.in_ok-value.ensures.term in
    record {
      held = subst (HoldsPairs new) (sym pushed) (pairs_held-more self mid new rs k v ps i p g h had.held stands stand);
      terms = ap (pairs_at new) pushed ∙ pairs_loaded-more self mid new rs k v ps i p g h had.held stands stand had.terms l c.pair-item.is;
      grew = Grew-trans c.args.self.now self new had.grew (Grew-trans self mid new g h);
      cells = omega (arith, had.cells, size, key, value, c.in_ok-key.ensures.cells, c.in_ok-value.ensures.cells);
      few = omega (arith, had.few, size);
      low = omega (arith, had.low, pair_depths-drop ps i p l);
    }

pub load_tree-push_bin-requires-clause-measured :
    goal.load_tree-push_bin-requires-clause-measured
load_tree-push_bin-requires-clause-measured t c =
    measured-Bin c.in-Bin.bytes c.as_slice.result.now c.args.tree.now c.as_slice.ensures.bytes c.in-Bin.is c.requires.few c.requires.fits

pub load_tree-push-requires-clause-measured :
    goal.load_tree-push-requires-clause-measured
load_tree-push-requires-clause-measured t c =
    measured-Nil

pub load_tree-load_all-requires-in-Tuple :
    goal.load_tree-load_all-requires-in-Tuple
load_tree-load_all-requires-in-Tuple t c =
    let s = c.as_slice-in-Tuple.result.now in
    let is : c.args.tree.now ≡ tree.Tuple s = c.in-Tuple.is ∙ ap (λ ps. tree.Tuple ps) (sym c.as_slice-in-Tuple.ensures) in
    let fits : IsTerm (tree.Tuple s) = subst IsTerm is c.requires.fits in
    (search (rules, the_lemmas), (omega (arith, c.requires.room, ap size_of is, size-Tuple s), (omega (arith, c.requires.few, ap size_of is, size-Tuple s), (omega (arith, c.requires.low, ap depth_of is, depth-Tuple s), parts_of_tuple s fits))))

pub load_tree-tuple-requires-clause-room :
    goal.load_tree-tuple-requires-clause-room
load_tree-tuple-requires-clause-room t c =
    let s = c.as_slice-in-Tuple.result.now in
    let is : c.args.tree.now ≡ tree.Tuple s = c.in-Tuple.is ∙ ap (λ ps. tree.Tuple ps) (sym c.as_slice-in-Tuple.ensures) in
    let new = c.load_all-in-Tuple.new.self in
    let items = c.as_slice-in-Tuple-2.result.now in
    let count : length items ≡ length s = sym (length-terms_at new items) ∙ ap length (ap (terms_at new) c.as_slice-in-Tuple-2.ensures.value ∙ c.in_ok-items-in-Tuple.ensures.terms) in
    omega (arith, c.requires.room, ap size_of is, size-Tuple s, c.in_ok-items-in-Tuple.ensures.cells, count)

pub load_tree-load_pairs-requires :
    goal.load_tree-load_pairs-requires
load_tree-load_pairs-requires t c =
    let s = c.as_slice-in-Map.result.now in
    let is : c.args.tree.now ≡ tree.Map s = c.in-Map.is ∙ ap (λ ps. tree.Map ps) (sym c.as_slice-in-Map.ensures) in
    let fits : IsTerm (tree.Map s) = subst IsTerm is c.requires.fits in
    (search (rules, the_lemmas), (omega (arith, c.requires.room, ap size_of is, size-Map s), (omega (arith, c.requires.few, ap size_of is, size-Map s), (omega (arith, c.requires.low, ap depth_of is, depth-Map s), omega (arith, pairs_of_map s fits)))))

pub load_tree-map-requires-clause-room :
    goal.load_tree-map-requires-clause-room
load_tree-map-requires-clause-room t c =
    let s = c.as_slice-in-Map.result.now in
    let is : c.args.tree.now ≡ tree.Map s = c.in-Map.is ∙ ap (λ ps. tree.Map ps) (sym c.as_slice-in-Map.ensures) in
    let new = c.load_pairs.new.self in
    let pairs = c.as_slice-in-Map-2.result.now in
    let same : pairs_at new pairs ≡ s = ap (pairs_at new) c.as_slice-in-Map-2.ensures.value ∙ c.in_ok-pairs-in-Map.ensures.terms in
    let count : length pairs ≡ length s = length-pairs_at new pairs ∙ ap length same in
    omega (arith, c.requires.room, ap size_of is, size-Map s, c.in_ok-pairs-in-Map.ensures.cells, count)

pub load_tree-map-requires-clause-rising :
    goal.load_tree-map-requires-clause-rising
load_tree-map-requires-clause-rising t c =
    let s = c.as_slice-in-Map.result.now in
    let is : c.args.tree.now ≡ tree.Map s = c.in-Map.is ∙ ap (λ ps. tree.Map ps) (sym c.as_slice-in-Map.ensures) in
    let fits : IsTerm (tree.Map s) = subst IsTerm is c.requires.fits in
    let new = c.load_pairs.new.self in
    let pairs = c.as_slice-in-Map-2.result.now in
    let same : pairs_at new pairs ≡ s = ap (pairs_at new) c.as_slice-in-Map-2.ensures.value ∙ c.in_ok-pairs-in-Map.ensures.terms in
    subst (λ ps. IsTrue (keys_rise (map (λ p. p.0) ps))) (sym same) (keys_rise_in s (pairs_of_map s fits))

pub load_tree-load_all-requires-in-Closure :
    goal.load_tree-load_all-requires-in-Closure
load_tree-load_all-requires-in-Closure t c =
    let s = c.as_slice-in-Closure.result.now in
    let o = c.in-Closure.origin in
    let is : c.args.tree.now ≡ tree.Closure o s = c.in-Closure.is ∙ ap (λ ps. tree.Closure o ps) (sym c.as_slice-in-Closure.ensures) in
    let fits : IsTerm (tree.Closure o s) = subst IsTerm is c.requires.fits in
    (search (rules, the_lemmas), (omega (arith, c.requires.room, ap size_of is, size-Closure o s), (omega (arith, c.requires.few, ap size_of is, size-Closure o s), (omega (arith, c.requires.low, ap depth_of is, depth-Closure o s), parts_of_closure o s fits))))

pub load_tree-closure-requires-clause-room :
    goal.load_tree-closure-requires-clause-room
load_tree-closure-requires-clause-room t c =
    let s = c.as_slice-in-Closure.result.now in
    let o = c.in-Closure.origin in
    let is : c.args.tree.now ≡ tree.Closure o s = c.in-Closure.is ∙ ap (λ ps. tree.Closure o ps) (sym c.as_slice-in-Closure.ensures) in
    let new = c.load_all-in-Closure.new.self in
    let env = c.as_slice-in-Closure-2.result.now in
    let count : length env ≡ length s = sym (length-terms_at new env) ∙ ap length (ap (terms_at new) c.as_slice-in-Closure-2.ensures.value ∙ c.in_ok-env-in-Closure.ensures.terms) in
    omega (arith, c.requires.room, ap size_of is, size-Closure o s, c.in_ok-env-in-Closure.ensures.cells, count)

pub load_tree-closure-requires-clause-arity :
    goal.load_tree-closure-requires-clause-arity
load_tree-closure-requires-clause-arity t c =
    let s = c.as_slice-in-Closure.result.now in
    let o = c.in-Closure.origin in
    let is : c.args.tree.now ≡ tree.Closure o s = c.in-Closure.is ∙ ap (λ ps. tree.Closure o ps) (sym c.as_slice-in-Closure.ensures) in
    let fits : IsTerm (tree.Closure o s) = subst IsTerm is c.requires.fits in
    let new = c.load_all-in-Closure.new.self in
    let env = c.as_slice-in-Closure-2.result.now in
    let count : length env ≡ length s = sym (length-terms_at new env) ∙ ap length (ap (terms_at new) c.as_slice-in-Closure-2.ensures.value ∙ c.in_ok-env-in-Closure.ensures.terms) in
    omega (arith, arity-enough o s fits, count)

pub load_tree-returns-in-Atom-clause-cells :
    goal.load_tree-returns-in-Atom-clause-cells
load_tree-returns-in-Atom-clause-cells t c =
    cells-one c.push_atom.result c.args.self.now c.push_atom.new.self (tree.Atom c.in-Atom.text) (size_of c.args.tree.now) c.push_atom.ensures.added (omega (arith, ap size_of c.in-Atom.is, size-Atom c.in-Atom.text))

pub load_tree-returns-in-Bin-clause-cells :
    goal.load_tree-returns-in-Bin-clause-cells
load_tree-returns-in-Bin-clause-cells t c =
    cells-one c.push_bin.result c.args.self.now c.push_bin.new.self (tree.Bin c.in-Bin.bytes) (size_of c.args.tree.now) c.push_bin.ensures.added (omega (arith, ap size_of c.in-Bin.is, size-Bin c.in-Bin.bytes))

pub load_tree-returns-in-Nil-clause-cells :
    goal.load_tree-returns-in-Nil-clause-cells
load_tree-returns-in-Nil-clause-cells t c =
    cells-one c.push.result c.args.self.now c.push.new.self tree.Nil (size_of c.args.tree.now) c.push.ensures.added (omega (arith, ap size_of c.in-Nil.is, size-Nil))

pub load_tree-returns-in_ok-items-in-Tuple-clause-cells :
    goal.load_tree-returns-in_ok-items-in-Tuple-clause-cells
load_tree-returns-in_ok-items-in-Tuple-clause-cells t c =
    let s = c.as_slice-in-Tuple.result.now in
    let is : c.args.tree.now ≡ tree.Tuple s = c.in-Tuple.is ∙ ap (λ ps. tree.Tuple ps) (sym c.as_slice-in-Tuple.ensures) in
    let new = c.load_all-in-Tuple.new.self in
    let items = c.as_slice-in-Tuple-2.result.now in
    let count : length items ≡ length s = sym (length-terms_at new items) ∙ ap length (ap (terms_at new) c.as_slice-in-Tuple-2.ensures.value ∙ c.in_ok-items-in-Tuple.ensures.terms) in
    let few : length c.tuple.new.self + 1 ≤ length c.args.self.now + 2 * size_of c.args.tree.now = omega (arith, ap size_of is, size-Tuple s, c.in_ok-items-in-Tuple.ensures.cells, count, c.tuple.ensures.cells) in
    on_ok c.tuple.result few

pub load_tree-returns-in_ok-pairs-in-Map-clause-cells :
    goal.load_tree-returns-in_ok-pairs-in-Map-clause-cells
load_tree-returns-in_ok-pairs-in-Map-clause-cells t c =
    let s = c.as_slice-in-Map.result.now in
    let is : c.args.tree.now ≡ tree.Map s = c.in-Map.is ∙ ap (λ ps. tree.Map ps) (sym c.as_slice-in-Map.ensures) in
    let new = c.load_pairs.new.self in
    let pairs = c.as_slice-in-Map-2.result.now in
    let same : pairs_at new pairs ≡ s = ap (pairs_at new) c.as_slice-in-Map-2.ensures.value ∙ c.in_ok-pairs-in-Map.ensures.terms in
    let count : length pairs ≡ length s = length-pairs_at new pairs ∙ ap length same in
    let few : length c.map.new.self + 1 ≤ length c.args.self.now + 2 * size_of c.args.tree.now = omega (arith, ap size_of is, size-Map s, c.in_ok-pairs-in-Map.ensures.cells, count, c.map.ensures.cells) in
    on_ok c.map.result few

pub load_tree-returns-in_ok-env-in-Closure-clause-cells :
    goal.load_tree-returns-in_ok-env-in-Closure-clause-cells
load_tree-returns-in_ok-env-in-Closure-clause-cells t c =
    let s = c.as_slice-in-Closure.result.now in
    let o = c.in-Closure.origin in
    let is : c.args.tree.now ≡ tree.Closure o s = c.in-Closure.is ∙ ap (λ ps. tree.Closure o ps) (sym c.as_slice-in-Closure.ensures) in
    let new = c.load_all-in-Closure.new.self in
    let env = c.as_slice-in-Closure-2.result.now in
    let count : length env ≡ length s = sym (length-terms_at new env) ∙ ap length (ap (terms_at new) c.as_slice-in-Closure-2.ensures.value ∙ c.in_ok-env-in-Closure.ensures.terms) in
    let few : length c.closure.new.self + 1 ≤ length c.args.self.now + 2 * size_of c.args.tree.now = omega (arith, ap size_of is, size-Closure o s, c.in_ok-env-in-Closure.ensures.cells, count, c.closure.ensures.cells) in
    on_ok c.closure.result few
