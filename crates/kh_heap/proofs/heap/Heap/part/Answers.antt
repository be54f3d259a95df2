use Rattle.std.proofs.Common.{arith, ap, ◌∙◌}
use Rattle.kh_arena.specs.Listed.{items}
use Rattle.std.proofs.Common.{◌+◌}
use Rattle.kh_heap.specs.Heap.{term_at}
use Rattle.kh_heap.specs.Cells.{Tables}
use Rattle.kh_heap.proofs.Cells.{found-within, cell-of}
use Rattle.kh_heap.proofs.Seen.{part-place}
use Rattle.kh_heap.proofs.heap.Heap.part.Goals as goal

pub get-requires : goal.get-requires
get-requires c =
    let inside = c.self.inside in
    let t : Tables = record { atoms = inside.atoms; binaries = inside.binaries; origins = inside.origins } in
    let cells = items inside.cells in
    found-within t cells c.args.self.now c.args.r c.r.inside.place c.self.invariant c.self.view_is c.r.view_is c.requires.held

pub overflow_add-result : goal.overflow_add-result
overflow_add-result c =
    let inside = c.self.inside in
    let t : Tables = record { atoms = inside.atoms; binaries = inside.binaries; origins = inside.origins } in
    let cells = items inside.cells in
    let is = cell-of t cells c.args.self.now c.args.r c.r.inside.place c.self.invariant c.self.view_is c.r.view_is c.get.result.now c.get.ensures.item in
    let there = part-place t c.args.self.now c.args.r (term_at c.args.self.now c.args.r) c.get.result.now.kind c.args.i is.below c.requires.held.within is.term c.requires.within in
    record { fits = omega (arith, there.0, c.first.ensures, c.r.view_is, c.r.invariant) }

pub invariant_of-result : goal.invariant_of-result
invariant_of-result c =
    let inside = c.self.inside in
    let t : Tables = record { atoms = inside.atoms; binaries = inside.binaries; origins = inside.origins } in
    let cells = items inside.cells in
    let is = cell-of t cells c.args.self.now c.args.r c.r.inside.place c.self.invariant c.self.view_is c.r.view_is c.get.result.now c.get.ensures.item in
    let there = part-place t c.args.self.now c.args.r (term_at c.args.self.now c.args.r) c.get.result.now.kind c.args.i is.below c.requires.held.within is.term c.requires.within in
    omega (arith, there.0, c.first.ensures, c.r.view_is, c.r.invariant)

pub returns-clause-held : goal.returns-clause-held
returns-clause-held c =
    let inside = c.self.inside in
    let t : Tables = record { atoms = inside.atoms; binaries = inside.binaries; origins = inside.origins } in
    let cells = items inside.cells in
    let is = cell-of t cells c.args.self.now c.args.r c.r.inside.place c.self.invariant c.self.view_is c.r.view_is c.get.result.now c.get.ensures.item in
    let there = part-place t c.args.self.now c.args.r (term_at c.args.self.now c.args.r) c.get.result.now.kind c.args.i is.below c.requires.held.within is.term c.requires.within in
    record { within = omega (arith, there.0, c.first.ensures, c.requires.held.within) }

pub returns-clause-part : goal.returns-clause-part
returns-clause-part c =
    let inside = c.self.inside in
    let t : Tables = record { atoms = inside.atoms; binaries = inside.binaries; origins = inside.origins } in
    let cells = items inside.cells in
    let is = cell-of t cells c.args.self.now c.args.r c.r.inside.place c.self.invariant c.self.view_is c.r.view_is c.get.result.now c.get.ensures.item in
    let there = part-place t c.args.self.now c.args.r (term_at c.args.self.now c.args.r) c.get.result.now.kind c.args.i is.below c.requires.held.within is.term c.requires.within in
    ap (λ k. term_at c.args.self.now (k + c.args.i)) c.first.ensures ∙ there.1

pub returns-clause-before : goal.returns-clause-before
returns-clause-before c =
    let inside = c.self.inside in
    let t : Tables = record { atoms = inside.atoms; binaries = inside.binaries; origins = inside.origins } in
    let cells = items inside.cells in
    let is = cell-of t cells c.args.self.now c.args.r c.r.inside.place c.self.invariant c.self.view_is c.r.view_is c.get.result.now c.get.ensures.item in
    let there = part-place t c.args.self.now c.args.r (term_at c.args.self.now c.args.r) c.get.result.now.kind c.args.i is.below c.requires.held.within is.term c.requires.within in
    omega (arith, there.0, c.first.ensures)
