use Rattle.std.proofs.Common.{refl, sym, subst}
use Rattle.std.proofs.lemmas.List.Elements.{All-set}
use Rattle.kh_heap.specs.Heap.{term_at, HoldsPairs}
use Rattle.kh_heap.specs.Parts.{pairs_in}
use Rattle.kh_bif_data.proofs.Changed.{put_over, put_in}
use Rattle.kh_bif_data.proofs.Editing.{All-inserted}
use Rattle.kh_bif_data.proofs.Merged.{Held}
use Rattle.kh_bif_data.proofs.Searching.{map_rises, map_fits}
use Rattle.kh_bif_data.proofs.changing.pairs_with.Goals as goal

pub returns-in-Ok-clause-held : goal.returns-in-Ok-clause-held
returns-in-Ok-clause-held c =
    All-set (Held c.args.heap.now) c.in_ok-items.items.items c.in-Ok.at (c.args.key, c.args.item) (c.requires.first, c.requires.second) c.in_ok-items.ensures.held

pub returns-in-Ok-clause-terms : goal.returns-in-Ok-clause-terms
returns-in-Ok-clause-terms c =
    let heap = c.args.heap.now in
    let t = term_at heap c.args.m in
    let is = c.requires.map.0 in
    put_over heap c.in_ok-items.items.items _ (pairs_in t) c.in_ok-items.ensures.terms c.args.key c.args.item c.in-Ok.at (map_rises t is c.size-map.ensures.fits) (map_fits t is c.size-map.ensures.fits) c.size-key.ensures.fits
    c.in-Ok.ensures.0 c.in-Ok.ensures.1 refl

pub returns-in_ok-insert-in-Err-clause-held : goal.returns-in_ok-insert-in-Err-clause-held
returns-in_ok-insert-in-Err-clause-held c =
    let e = c.in_ok-insert-in-Err.ensures.items in
    subst (λ us. HoldsPairs c.args.heap.now us) (sym e) (All-inserted (Held c.args.heap.now) c.in_ok-items.items.items c.in-Err.at (c.args.key, c.args.item) c.in_ok-items.ensures.held (c.requires.first, c.requires.second))

pub returns-in_ok-insert-in-Err-clause-terms : goal.returns-in_ok-insert-in-Err-clause-terms
returns-in_ok-insert-in-Err-clause-terms c =
    let heap = c.args.heap.now in
    let t = term_at heap c.args.m in
    let is = c.requires.map.0 in
    put_in heap c.in_ok-items.items.items c.insert.new.self.items (pairs_in t) c.in_ok-items.ensures.terms c.args.key c.args.item c.in-Err.at (map_rises t is c.size-map.ensures.fits) (map_fits t is c.size-map.ensures.fits)
    c.size-key.ensures.fits c.in-Err.ensures.0 c.in-Err.ensures.1 c.in_ok-insert-in-Err.ensures.items
