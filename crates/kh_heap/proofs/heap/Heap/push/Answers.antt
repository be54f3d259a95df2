use Rattle.std.proofs.Common.{length, sym, ap, ◌∙◌, arith}
use Rattle.kh_arena.specs.Listed.{items}
use Rattle.kh_heap.specs.declared.cell.Cell.{Cell}
use Rattle.kh_heap.specs.Cells.{Tables}
use Rattle.kh_heap.proofs.Cells.{length-heap, are-plain, heap-plain}
use Rattle.kh_heap.proofs.heap.Heap.push.Goals as goal

pub push-requires : goal.push-requires
push-requires c =
    let inside = c.self.inside in
    let t : Tables = record { atoms = inside.atoms; binaries = inside.binaries; origins = inside.origins } in
    let cells = items inside.cells in
    omega (arith, c.requires.room, length-heap t cells c.self.invariant, ap length c.self.view_is)

pub invariant_of-self-2 : goal.invariant_of-self-2
invariant_of-self-2 c =
    let inside = c.self.inside in
    let t : Tables = record { atoms = inside.atoms; binaries = inside.binaries; origins = inside.origins } in
    let cells = items inside.cells in
    let cell : Cell = record { kind = c.args.kind; size = c.args.size; depth = c.args.depth } in
    are-plain t cells (items c.push.new.self) c.args.self.now cell c.self.invariant c.self.view_is c.in_ok-place.ensures.appended c.requires.below c.requires.measured

pub returns-clause-place : goal.returns-clause-place
returns-clause-place c =
    let inside = c.self.inside in
    let t : Tables = record { atoms = inside.atoms; binaries = inside.binaries; origins = inside.origins } in
    let cells = items inside.cells in
    c.in_ok-place.ensures.place ∙ sym (length-heap t cells c.self.invariant) ∙ ap length c.self.view_is

pub returns-clause-added : goal.returns-clause-added
returns-clause-added c =
    let inside = c.self.inside in
    let t : Tables = record { atoms = inside.atoms; binaries = inside.binaries; origins = inside.origins } in
    let cells = items inside.cells in
    let cell : Cell = record { kind = c.args.kind; size = c.args.size; depth = c.args.depth } in
    heap-plain t cells (items c.push.new.self) c.args.self.now cell c.self.invariant c.self.view_is c.in_ok-place.ensures.appended c.requires.below c.requires.measured
