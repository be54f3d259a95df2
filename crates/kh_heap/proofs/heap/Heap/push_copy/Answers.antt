use Rattle.std.proofs.Common.{[], ◌∷◌, ◌++◌, length, sym, ap, ◌∙◌, arith}
use Rattle.kh_arena.specs.Listed.{items}
use Rattle.kh_heap.specs.Cells.{Tables}
use Rattle.kh_heap.proofs.Cells.{length-heap, are-copied, heap-copied}
use Rattle.kh_heap.specs.Heap.{term_at}
use Rattle.kh_heap.proofs.heap.Heap.push_copy.Goals as goal

pub get-cell-requires : goal.get-cell-requires
get-cell-requires c =
    let inside = c.self.inside in
    let t : Tables = record { atoms = inside.atoms; binaries = inside.binaries; origins = inside.origins } in
    let cells = items inside.cells in
    omega (arith, c.requires.held.within, c.r.view_is, length-heap t cells c.self.invariant, ap length c.self.view_is)

pub push-requires : goal.push-requires
push-requires c =
    let inside = c.self.inside in
    let t : Tables = record { atoms = inside.atoms; binaries = inside.binaries; origins = inside.origins } in
    let cells = items inside.cells in
    omega (arith, c.requires.room, length-heap t cells c.self.invariant, ap length c.self.view_is)

pub invariant_of-self-2 : goal.invariant_of-self-2
invariant_of-self-2 c =
    let inside = c.self.inside in
    let t : Tables = record { atoms = inside.atoms; binaries = inside.binaries; origins = inside.origins } in
    let cells = items inside.cells in
    are-copied t cells (items c.push.new.self) c.args.self.now c.get-cell.result.now c.self.invariant c.self.view_is c.in_ok-place.ensures.appended c.r.inside.place c.get-cell.ensures.item

pub returns-clause-place : goal.returns-clause-place
returns-clause-place c =
    let inside = c.self.inside in
    let t : Tables = record { atoms = inside.atoms; binaries = inside.binaries; origins = inside.origins } in
    let cells = items inside.cells in
    c.in_ok-place.ensures.place ∙ sym (length-heap t cells c.self.invariant) ∙ ap length c.self.view_is

pub returns-clause-added : goal.returns-clause-added
returns-clause-added c =
    let inside = c.self.inside in
    let t : Tables = record { atoms = inside.atoms; binaries = inside.binaries; origins = inside.origins } in
    let cells = items inside.cells in
    heap-copied t cells (items c.push.new.self) c.args.self.now c.get-cell.result.now c.self.invariant c.self.view_is c.in_ok-place.ensures.appended c.r.inside.place c.get-cell.ensures.item
    ∙ ap (λ r. c.args.self.now ++ term_at c.args.self.now r ∷ []) c.r.view_is
