use Rattle.kh_arena.specs.Listed.{items}
use Rattle.kh_heap.specs.Cells.{Tables}
use Rattle.kh_heap.proofs.Cells.{found-within, cell-of}
use Rattle.kh_heap.proofs.heap.Heap.depth.Goals as goal

pub get-requires : goal.get-requires
get-requires c =
    let inside = c.self.inside in
    let t : Tables = record { atoms = inside.atoms; binaries = inside.binaries; origins = inside.origins } in
    let cells = items inside.cells in
    found-within t cells c.args.self.now c.args.r c.r.inside.place c.self.invariant c.self.view_is c.r.view_is c.requires

pub returns-clause-depth : goal.returns-clause-depth
returns-clause-depth c =
    let inside = c.self.inside in
    let t : Tables = record { atoms = inside.atoms; binaries = inside.binaries; origins = inside.origins } in
    let cells = items inside.cells in
    let is = cell-of t cells c.args.self.now c.args.r c.r.inside.place c.self.invariant c.self.view_is c.r.view_is c.get.result.now c.get.ensures.item in
    is.measured.depth_is

pub returns-clause-low : goal.returns-clause-low
returns-clause-low c =
    let inside = c.self.inside in
    let t : Tables = record { atoms = inside.atoms; binaries = inside.binaries; origins = inside.origins } in
    let cells = items inside.cells in
    let is = cell-of t cells c.args.self.now c.args.r c.r.inside.place c.self.invariant c.self.view_is c.r.view_is c.get.result.now c.get.ensures.item in
    is.measured.low
