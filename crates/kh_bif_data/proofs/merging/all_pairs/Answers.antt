use Rattle.std.proofs.Common.{◌≡◌, ◌+◌, ◌++◌, [], ◌∷◌, List, ℕ, map, take, length, sym, ap, subst, ◌∙◌, arith}
use Rattle.std.proofs.lemmas.List.{map-append, take_more, get_or-map, length-map, take_all}
use Rattle.std.specs.Prelude.{Some, option_map}
use Rattle.kh_term.specs.declared.tree.TermTree.TheVariants as tree
use Rattle.kh_term.specs.Lemmas.Fits.{fits_pushed}
use Rattle.kh_term.specs.WellFormed.{AreTerms}
use Rattle.kh_heap.specs.Heap.{term_at, terms_at, pairs_at, Holds}
use Rattle.kh_bif_data.specs.Maps.{all_pairs, pair_of}
use Rattle.kh_bif_data.proofs.Merged.{shown, more_held}
use Rattle.kh_bif_data.proofs.Ordered.{keys}
use Rattle.kh_bif_data.proofs.Paired.{all_pushed, all_none}
use Rattle.kh_bif_data.proofs.merging.all_pairs.Goals as goal

pub pair-requires : goal.pair-requires
pair-requires c = subst (λ (r : ℕ). Holds c.args.heap.now r) (sym c.tuple-item.is) (c.requires c.loop-tuple.tuple-index c.tuple-item.result c.loop-tuple-test.true)

pub loop-tuple-preserved : goal.loop-tuple-preserved
loop-tuple-preserved c =
    let heap = c.args.heap.now in
    let had = c.loop-tuple.invariant in
    let i = c.loop-tuple.tuple-index in
    let tuples = c.args.tuples.now in
    let p = c.in-Some.found in
    let pushed = c.in_ok-push.ensures.items in
    let shows : pairs_at heap c.push.new.self.items ≡ pairs_at heap c.loop-tuple.all.items ++ shown heap p ∷ [] = ap (pairs_at heap) pushed ∙ map-append (shown heap) c.loop-tuple.all.items (p ∷ []) in
    let more : terms_at heap (take (i + 1) tuples) ≡ terms_at heap (take i tuples) ++ term_at heap c.tuple-item.result ∷ [] =
    ap (terms_at heap) (take_more tuples i c.tuple-item.result c.loop-tuple-test.true) ∙ map-append (term_at heap) (take i tuples) _
    ∙ ap (λ r. terms_at heap (take i tuples) ++ term_at heap r ∷ []) (sym c.tuple-item.is)
    in
    let is : pair_of (term_at heap c.tuple-item.result) ≡ Some (shown heap p) = sym c.pair.ensures.terms ∙ ap (option_map (shown heap)) c.in-Some.is in
    record {
      held = more_held heap c.loop-tuple.all.items c.push.new.self.items p pushed had.held c.in-Some.ensures.held;
      fit =
          subst AreTerms (sym (ap keys shows ∙ map-append (λ q. q.0) (pairs_at heap c.loop-tuple.all.items) (shown heap p ∷ [])))
          (fits_pushed (keys (pairs_at heap c.loop-tuple.all.items)) (term_at heap p.0) had.fit c.in-Some.ensures.fits);
      terms = ap all_pairs more ∙ all_pushed (terms_at heap (take i tuples)) (term_at heap c.tuple-item.result) (pairs_at heap c.loop-tuple.all.items) (shown heap p) had.terms is ∙ ap (λ ps. Some ps) (sym shows);
    }

pub returns-in_default-clause-terms : goal.returns-in_default-clause-terms
returns-in_default-clause-terms c =
    let heap = c.args.heap.now in
    let i = c.loop-tuple.tuple-index in
    let tuples = c.args.tuples.now in
    let l = c.loop-tuple-test.true in
    let none = sym c.pair.ensures.terms ∙ ap (option_map (shown heap)) c.in_default.is in
    sym (
    all_none (terms_at heap tuples) i tree.Nil (omega (arith, l, length-map tuples (term_at heap)))
    (ap pair_of (get_or-map (term_at heap) tuples i c.tuple-item.result tree.Nil l ∙ ap (term_at heap) (sym c.tuple-item.is)) ∙ none)
    )

pub returns-clause-terms : goal.returns-clause-terms
returns-clause-terms c =
    let heap = c.args.heap.now in
    sym c.loop-tuple.invariant.terms ∙ ap (λ rs. all_pairs (terms_at heap rs)) (take_all c.loop-tuple.tuple-index c.args.tuples.now c.loop-tuple-test.false)
