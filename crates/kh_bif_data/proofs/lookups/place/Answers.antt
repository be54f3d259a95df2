use Rattle.std.proofs.Common.{◌≡◌, ◌<◌, ◌≤◌, ◌+◌, ◌-◌, ◌/◌, ℕ, length, get_or, sym, ap, ◌∙◌, arith}
use Rattle.std.specs.declared.cmp.Ordering.TheVariants.{Less, Equal, Greater}
use Rattle.kh_term.specs.declared.tree.TermTree.{TermTree}
use Rattle.kh_term.specs.Order.{term_cmp}
use Rattle.kh_heap.specs.Heap.{term_at}
use Rattle.kh_heap.specs.Parts.{pairs_in}
use Rattle.kh_bif_data.proofs.Collecting.{key_at}
use Rattle.kh_bif_data.proofs.Searching.{map_rises, map_fits, less_up_to, greater_from, same_at}
use Rattle.kh_bif_data.proofs.lookups.place.Goals as goal

pub search-init : goal.search-init
search-init c = record {
  order = omega arith;
  within = omega arith;
  less = λ i d low high. absurd (omega (arith, low, high));
  greater = λ i d low high. absurd (omega (arith, low, high));
}

pub search-preserved-in-Less : goal.search-preserved-in-Less
search-preserved-in-Less c =
    let heap = c.args.heap.now in
    let t = term_at heap c.args.m in
    let ps = pairs_in t in
    let key = term_at heap c.args.key in
    let had = c.search.invariant in
    let middle = c.search.low + (c.search.high - c.search.low) / 2 in
    let within : middle < length ps = omega (arith, c.search-test.true, had.within, c.requires.map.1) in
    let found : (d : TermTree × TermTree) → term_cmp (get_or ps middle d).0 key ≡ Less =
    λ d. sym (ap (λ k. term_cmp k key) (c.part.ensures.part ∙ key_at t middle d c.requires.map.0 within)) ∙ sym c.compare.ensures ∙ c.in-Less.is
    in
    record {
      order = omega (arith, c.search-test.true);
      within = had.within;
      less = less_up_to ps key (map_rises t c.requires.map.0 c.size-map.ensures.fits) (map_fits t c.requires.map.0 c.size-map.ensures.fits) c.size-key.ensures.fits middle within found;
      greater = had.greater;
    }

pub search-preserved : goal.search-preserved
search-preserved c =
    let heap = c.args.heap.now in
    let t = term_at heap c.args.m in
    let ps = pairs_in t in
    let key = term_at heap c.args.key in
    let had = c.search.invariant in
    let middle = c.search.low + (c.search.high - c.search.low) / 2 in
    let within : middle < length ps = omega (arith, c.search-test.true, had.within, c.requires.map.1) in
    let found : (d : TermTree × TermTree) → term_cmp (get_or ps middle d).0 key ≡ Greater =
    λ d. sym (ap (λ k. term_cmp k key) (c.part.ensures.part ∙ key_at t middle d c.requires.map.0 within)) ∙ sym c.compare.ensures ∙ c.in-Greater.is
    in
    let from = greater_from ps key (map_rises t c.requires.map.0 c.size-map.ensures.fits) (map_fits t c.requires.map.0 c.size-map.ensures.fits) c.size-key.ensures.fits middle within found in
    record {
      order = omega (arith, c.search-test.true);
      within = omega (arith, c.search-test.true, had.within);
      less = had.less;
      greater = λ i d low high. from i d low (omega (arith, high, c.requires.map.1));
    }

pub returns-in-Equal : goal.returns-in-Equal
returns-in-Equal c =
    let heap = c.args.heap.now in
    let t = term_at heap c.args.m in
    let ps = pairs_in t in
    let key = term_at heap c.args.key in
    let had = c.search.invariant in
    let middle = c.search.low + (c.search.high - c.search.low) / 2 in
    let within : middle < length ps = omega (arith, c.search-test.true, had.within, c.requires.map.1) in
    let found : (d : TermTree × TermTree) → term_cmp (get_or ps middle d).0 key ≡ Equal =
    λ d. sym (ap (λ k. term_cmp k key) (c.part.ensures.part ∙ key_at t middle d c.requires.map.0 within)) ∙ sym c.compare.ensures ∙ c.in-Equal.is
    in (
      within,
      same_at ps key (map_rises t c.requires.map.0 c.size-map.ensures.fits) (map_fits t c.requires.map.0 c.size-map.ensures.fits) c.size-key.ensures.fits middle within found,
    )

pub returns : goal.returns
returns c =
    let had = c.search.invariant in (
      omega (arith, c.search-test.false, had.order, had.within, c.requires.map.1),
      (had.less, λ i d low high. had.greater i d (omega (arith, low, c.search-test.false, had.order)) (omega (arith, high, c.requires.map.1))),
    )
