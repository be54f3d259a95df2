use Rattle.std.proofs.Common.{[], ◌<◌, length, sym, subst, ap, ◌∙◌}
use Rattle.kh_arena.specs.Listed.{items}
use Rattle.std.proofs.Common.{get_or}
use Rattle.std.proofs.lemmas.Option.{get_or_from_slice_get}
use Rattle.kh_heap.specs.Heap.{term_at}
use Rattle.kh_heap.specs.Cells.{Tables}
use Rattle.kh_heap.proofs.Cells.{found-within, cell-of}
use Rattle.kh_heap.proofs.Seen.{bin-number}
use Rattle.kh_heap.proofs.heap.Heap.bytes.Goals as goal

pub get-requires : goal.get-requires
get-requires c =
    let inside = c.self.inside in
    let t : Tables = record { atoms = inside.atoms; binaries = inside.binaries; origins = inside.origins } in
    let cells = items inside.cells in
    found-within t cells c.args.self.now c.args.r c.r.inside.place c.self.invariant c.self.view_is c.r.view_is c.requires.held

pub get-requires-2 : goal.get-requires-2
get-requires-2 c =
    let inside = c.self.inside in
    let t : Tables = record { atoms = inside.atoms; binaries = inside.binaries; origins = inside.origins } in
    let cells = items inside.cells in
    let is = cell-of t cells c.args.self.now c.args.r c.r.inside.place c.self.invariant c.self.view_is c.r.view_is c.get.result.now c.get.ensures.item in
    let found = bin-number t c.args.self.now c.args.r (term_at c.args.self.now c.args.r) c.get.result.now.kind is.below is.term c.requires.binary in
    subst (λ k. k < length inside.binaries) (sym c.number.ensures) found.0

pub returns : goal.returns
returns c =
    let inside = c.self.inside in
    let t : Tables = record { atoms = inside.atoms; binaries = inside.binaries; origins = inside.origins } in
    let cells = items inside.cells in
    let is = cell-of t cells c.args.self.now c.args.r c.r.inside.place c.self.invariant c.self.view_is c.r.view_is c.get.result.now c.get.ensures.item in
    let found = bin-number t c.args.self.now c.args.r (term_at c.args.self.now c.args.r) c.get.result.now.kind is.below is.term c.requires.binary in
    sym (get_or_from_slice_get inside.binaries c.number.result c.get-2.result.now [] c.get-2.ensures) ∙ ap (λ k. get_or inside.binaries k []) c.number.ensures ∙ found.1
