use Rattle.std.proofs.Common.{length, sym, ap, ◌∙◌}
use Rattle.kh_arena.specs.Listed.{items}
use Rattle.kh_heap.specs.Cells.{Tables}
use Rattle.kh_heap.proofs.Cells.{length-heap}
use Rattle.kh_heap.proofs.heap.Heap.len.Goals as goal

pub returns : goal.returns
returns c =
    let inside = c.self.inside in
    let t : Tables = record { atoms = inside.atoms; binaries = inside.binaries; origins = inside.origins } in
    let cells = items inside.cells in
    c.len.ensures ∙ sym (length-heap t cells c.self.invariant) ∙ ap length c.self.view_is
