use Rattle.std.proofs.Common.{ℕ, ◌≤◌, [], ◌∷◌, length, ap, sym, subst, arith, length-append}
use Rattle.kh_heap.specs.Heap.{term_at, Holds}
use Rattle.kh_heap.proofs.Growth.{Grew-append, Grew-trans, Holds-grew}
use Rattle.kh_heap.proofs.Settling.{length-so_far, grew-so_far, pair-pushed}
use Rattle.kh_heap.proofs.heap.Heap.push_pairs.Goals as goal

pub push_copy-requires-clause-room : goal.push_copy-requires-clause-room
push_copy-requires-clause-room c =
    let old = c.args.self.now in let ps = c.args.pairs.now in let i = c.loop-pair.pair-index in let l = c.loop-pair-test.true in
    let p = c.pair-item.result in
    let within : i ≤ length ps = omega (arith, l) in
    let held : Holds old p.0 × Holds old p.1 = subst (λ (q : ℕ × ℕ). Holds old q.0 × Holds old q.1) (sym c.pair-item.is) (c.requires.held i p l) in
    omega (arith, c.requires.room, l, length-so_far old c.loop-pair.self ps i c.loop-pair.invariant within)

pub push_copy-requires-clause-held : goal.push_copy-requires-clause-held
push_copy-requires-clause-held c =
    let old = c.args.self.now in let ps = c.args.pairs.now in let i = c.loop-pair.pair-index in let l = c.loop-pair-test.true in
    let p = c.pair-item.result in
    let within : i ≤ length ps = omega (arith, l) in
    let held : Holds old p.0 × Holds old p.1 = subst (λ (q : ℕ × ℕ). Holds old q.0 × Holds old q.1) (sym c.pair-item.is) (c.requires.held i p l) in
    Holds-grew old c.loop-pair.self p.0 (grew-so_far old c.loop-pair.self ps i c.loop-pair.invariant within) held.0

pub push_copy-requires-in-loop-pair-clause-room : goal.push_copy-requires-in-loop-pair-clause-room
push_copy-requires-in-loop-pair-clause-room c =
    let old = c.args.self.now in let ps = c.args.pairs.now in let i = c.loop-pair.pair-index in let l = c.loop-pair-test.true in
    let p = c.pair-item.result in
    let within : i ≤ length ps = omega (arith, l) in
    let held : Holds old p.0 × Holds old p.1 = subst (λ (q : ℕ × ℕ). Holds old q.0 × Holds old q.1) (sym c.pair-item.is) (c.requires.held i p l) in
    omega (arith, c.requires.room, l, length-so_far old c.loop-pair.self ps i c.loop-pair.invariant within, ap length c.in_ok-push_copy.ensures.added, length-append c.loop-pair.self (term_at c.loop-pair.self p.0 ∷ []))

pub push_copy-requires-in-loop-pair-clause-held : goal.push_copy-requires-in-loop-pair-clause-held
push_copy-requires-in-loop-pair-clause-held c =
    let old = c.args.self.now in let ps = c.args.pairs.now in let i = c.loop-pair.pair-index in let l = c.loop-pair-test.true in
    let p = c.pair-item.result in
    let within : i ≤ length ps = omega (arith, l) in
    let held : Holds old p.0 × Holds old p.1 = subst (λ (q : ℕ × ℕ). Holds old q.0 × Holds old q.1) (sym c.pair-item.is) (c.requires.held i p l) in
    let self = c.loop-pair.self in
    let grew = grew-so_far old self ps i c.loop-pair.invariant within in
    let more = Grew-append self c.push_copy.new.self (term_at self p.0 ∷ []) c.in_ok-push_copy.ensures.added in
    Holds-grew old c.push_copy.new.self p.1 (Grew-trans old self c.push_copy.new.self grew more) held.1

pub loop-pair-preserved : goal.loop-pair-preserved
loop-pair-preserved c =
    let old = c.args.self.now in let ps = c.args.pairs.now in let i = c.loop-pair.pair-index in let l = c.loop-pair-test.true in
    let p = c.pair-item.result in
    let within : i ≤ length ps = omega (arith, l) in
    let held : Holds old p.0 × Holds old p.1 = subst (λ (q : ℕ × ℕ). Holds old q.0 × Holds old q.1) (sym c.pair-item.is) (c.requires.held i p l) in
    pair-pushed old c.loop-pair.self ps i c.loop-pair.invariant within c.push_copy.new.self c.push_copy-in-loop-pair.new.self p l c.pair-item.is held.0 held.1 c.in_ok-push_copy.ensures.added c.in_ok-push_copy-2.ensures.added
