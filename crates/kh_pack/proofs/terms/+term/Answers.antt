use Rattle.std.proofs.Common.{◌≡◌, true, false, [], ◌∷◌, ◌++◌, length, ap, arith}
use Rattle.std.proofs.lemmas.List.{length-append}
use Rattle.std.proofs.lemmas.Result.{err_from_is_err_and}
use Rattle.kh_term.specs.Lookup.{rises_after}
use Rattle.kh_pack.specs.Reading.{many_at, pairs_at, term_at}
use Rattle.kh_pack.proofs.Loops.{part_read, part_fails, parts_read, pair_read, key_fails, value_fails, falls, pairs_read}
use Rattle.kh_pack.proofs.terms.+term.Goals as goal

pub read_many-parts-preserved : goal.read_many-parts-preserved
read_many-parts-preserved t c =
    let part = c.in_ok-part.part.node in
    record {
      exact = rw c.in_ok-push.ensures.ok (part_read (term_at c.args.depth) c.args.count c.parts.counter c.parts.parts.nodes c.parts.rest.now part c.in_ok-part.after.now
          (many_at (term_at c.args.depth) c.args.count [] c.args.bytes.now) c.parts-test.true c.in_ok-part.ensures c.parts.invariant.exact);
      number = omega (arith, ap length c.in_ok-push.ensures.ok, length-append c.parts.parts.nodes (part ∷ []), c.parts.invariant.number);
    }

pub read_many-returns-clause-exact : goal.read_many-returns-clause-exact
read_many-returns-clause-exact t c =
    parts_read (term_at c.args.depth) c.args.count c.parts.counter c.parts.parts.nodes c.parts.rest.now _ c.parts-test.false c.parts.invariant.exact

pub read_many-returns-in_err-part-clause-exact : goal.read_many-returns-in_err-part-clause-exact
read_many-returns-in_err-part-clause-exact t c =
    let p = err_from_is_err_and c.from_residual.result c.from_residual.ensures.1 in
    rw (p.1, p.2) (part_fails c.in_err-part.field-0.0 (term_at c.args.depth) c.args.count c.parts.counter c.parts.parts.nodes c.parts.rest.now
    (many_at (term_at c.args.depth) c.args.count [] c.args.bytes.now) c.parts-test.true c.in_err-part.ensures c.parts.invariant.exact)

pub read_pairs-entries-preserved : goal.read_pairs-entries-preserved
read_pairs-entries-preserved t c =
    let rises : rises_after c.entries.pairs.nodes c.in_ok-key.key.node ≡ true = cc (c.in_ok-rises.ensures.answer) in
    let added : c.push.new.self.nodes ≡ c.entries.pairs.nodes ++ (c.in_ok-key.key.node, c.in_ok-value.value.node) ∷ [] = rw rises at c.in_ok-rises.ensures.ok in
    rw added (pair_read (term_at c.args.depth) c.args.count c.entries.counter c.entries.pairs.nodes c.entries.rest.now c.in_ok-key.key.node c.in_ok-key.after.now c.in_ok-value.value.node c.in_ok-value.after.now
    (pairs_at (term_at c.args.depth) c.args.count [] c.args.bytes.now) c.entries-test.true c.in_ok-key.ensures c.in_ok-value.ensures rises c.entries.invariant)

pub read_pairs-returns : goal.read_pairs-returns
read_pairs-returns t c =
    pairs_read (term_at c.args.depth) c.args.count c.entries.counter c.entries.pairs.nodes c.entries.rest.now _ c.entries-test.false c.entries.invariant

pub read_pairs-returns-in_err-key : goal.read_pairs-returns-in_err-key
read_pairs-returns-in_err-key t c =
    let p = err_from_is_err_and c.from_residual.result c.from_residual.ensures.1 in
    rw (p.1, p.2) (key_fails c.in_err-key.field-0.0 (term_at c.args.depth) c.args.count c.entries.counter c.entries.pairs.nodes c.entries.rest.now
    (pairs_at (term_at c.args.depth) c.args.count [] c.args.bytes.now) c.entries-test.true c.in_err-key.ensures c.entries.invariant)

pub read_pairs-returns-in_err-value : goal.read_pairs-returns-in_err-value
read_pairs-returns-in_err-value t c =
    let p = err_from_is_err_and c.from_residual-in_err-value.result c.from_residual-in_err-value.ensures.1 in
    rw (p.1, p.2) (value_fails c.in_err-value.field-0.0 (term_at c.args.depth) c.args.count c.entries.counter c.entries.pairs.nodes c.entries.rest.now c.in_ok-key.key.node c.in_ok-key.after.now
    (pairs_at (term_at c.args.depth) c.args.count [] c.args.bytes.now) c.entries-test.true c.in_ok-key.ensures c.in_err-value.ensures c.entries.invariant)

pub read_pairs-returns-then-not-rises : goal.read_pairs-returns-then-not-rises
read_pairs-returns-then-not-rises t c =
    let stays : rises_after c.entries.pairs.nodes c.in_ok-key.key.node ≡ false = cc (c.in_ok-rises.ensures.answer) in
    falls (term_at c.args.depth) c.args.count c.entries.counter c.entries.pairs.nodes c.entries.rest.now c.in_ok-key.key.node c.in_ok-key.after.now c.in_ok-value.value.node c.in_ok-value.after.now _
    c.entries-test.true c.in_ok-key.ensures c.in_ok-value.ensures stays c.entries.invariant
