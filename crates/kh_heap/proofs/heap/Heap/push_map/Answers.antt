use Rattle.std.proofs.Common.{◌≡◌, ◌+◌, ◌*◌, length, ap, sym, subst, arith, length-append}
use Rattle.kh_term.specs.declared.tree.TermTree.TheVariants as tree
use Rattle.kh_heap.specs.Cells.{Measured, paired, run_at}
use Rattle.kh_heap.specs.Heap.{pairs_at}
use Rattle.kh_heap.specs.Parts.{in_turn}
use Rattle.kh_heap.proofs.Seen.{length-in_turn}
use Rattle.kh_heap.proofs.Runs.{length-pairs_at}
use Rattle.kh_heap.proofs.Settling.{map-run, stands-pushed, cells-pushed}
use Rattle.kh_heap.proofs.heap.Heap.push_map.Goals as goal

pub push-requires-clause-room : goal.push-requires-clause-room
push-requires-clause-room c =
    let old = c.args.self.now in let mid = c.push_pairs.new.self in let ps = pairs_at old c.args.pairs.now in
    let count = length-pairs_at old c.args.pairs.now in
    let added = c.in_ok-push_pairs.ensures.added in
    let long : length mid ≡ length old + 2 * length c.args.pairs.now = omega (arith, count, ap length added, length-append old (in_turn ps), length-in_turn ps) in
    let run = map-run old mid ps c.len-first.result (length c.args.pairs.now) added c.len-first.ensures count in
    omega (arith, c.requires.room, long)

pub push-requires-clause-below : goal.push-requires-clause-below
push-requires-clause-below c =
    let old = c.args.self.now in let mid = c.push_pairs.new.self in let ps = pairs_at old c.args.pairs.now in
    let count = length-pairs_at old c.args.pairs.now in
    let added = c.in_ok-push_pairs.ensures.added in
    let long : length mid ≡ length old + 2 * length c.args.pairs.now = omega (arith, count, ap length added, length-append old (in_turn ps), length-in_turn ps) in
    let run = map-run old mid ps c.len-first.result (length c.args.pairs.now) added c.len-first.ensures count in
    omega (arith, c.len-first.ensures, long)

pub push-requires-clause-measured : goal.push-requires-clause-measured
push-requires-clause-measured c =
    let old = c.args.self.now in let mid = c.push_pairs.new.self in let ps = pairs_at old c.args.pairs.now in
    let count = length-pairs_at old c.args.pairs.now in
    let added = c.in_ok-push_pairs.ensures.added in
    let long : length mid ≡ length old + 2 * length c.args.pairs.now = omega (arith, count, ap length added, length-append old (in_turn ps), length-in_turn ps) in
    let run = map-run old mid ps c.len-first.result (length c.args.pairs.now) added c.len-first.ensures count in
    subst (λ qs. Measured c.args.size c.args.depth (tree.Map qs)) (sym run) c.requires.measured

pub returns-clause-term : goal.returns-clause-term
returns-clause-term c =
    let old = c.args.self.now in let mid = c.push_pairs.new.self in let ps = pairs_at old c.args.pairs.now in
    let count = length-pairs_at old c.args.pairs.now in
    let added = c.in_ok-push_pairs.ensures.added in
    let long : length mid ≡ length old + 2 * length c.args.pairs.now = omega (arith, count, ap length added, length-append old (in_turn ps), length-in_turn ps) in
    let run = map-run old mid ps c.len-first.result (length c.args.pairs.now) added c.len-first.ensures count in
    stands-pushed c.push.result mid c.push.new.self (tree.Map (paired (run_at mid c.len-first.result (2 * length c.args.pairs.now)))) (tree.Map ps) c.push.ensures.place c.push.ensures.added (ap (λ qs. tree.Map qs) run)

pub returns-clause-cells : goal.returns-clause-cells
returns-clause-cells c =
    let old = c.args.self.now in let mid = c.push_pairs.new.self in let ps = pairs_at old c.args.pairs.now in
    let count = length-pairs_at old c.args.pairs.now in
    let added = c.in_ok-push_pairs.ensures.added in
    let long : length mid ≡ length old + 2 * length c.args.pairs.now = omega (arith, count, ap length added, length-append old (in_turn ps), length-in_turn ps) in
    let run = map-run old mid ps c.len-first.result (length c.args.pairs.now) added c.len-first.ensures count in
    cells-pushed c.push.result mid c.push.new.self (tree.Map (paired (run_at mid c.len-first.result (2 * length c.args.pairs.now)))) (length old + 2 * length c.args.pairs.now) c.push.ensures.added (omega (arith, long))
