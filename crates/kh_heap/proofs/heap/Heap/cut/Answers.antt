use Rattle.std.proofs.Common.{◌≤◌, length, take, sym, ap, subst, ◌∙◌, arith}
use Rattle.kh_arena.specs.Listed.{items}
use Rattle.kh_heap.specs.Cells.{Tables}
use Rattle.kh_heap.proofs.Cells.{length-heap, heap-take, AreCells-take}
use Rattle.kh_heap.specs.Cells.{heap_of, AreCells}
use Rattle.kh_heap.proofs.heap.Heap.cut.Goals as goal

pub cut-requires : goal.cut-requires
cut-requires c =
    let inside = c.self.inside in
    let t : Tables = record { atoms = inside.atoms; binaries = inside.binaries; origins = inside.origins } in
    let cells = items inside.cells in
    omega (arith, c.requires, length-heap t cells c.self.invariant, ap length c.self.view_is)

pub invariant_of-self : goal.invariant_of-self
invariant_of-self c =
    let inside = c.self.inside in
    let t : Tables = record { atoms = inside.atoms; binaries = inside.binaries; origins = inside.origins } in
    let cells = items inside.cells in
    let within : c.args.mark ≤ length cells = omega (arith, c.requires, length-heap t cells c.self.invariant, ap length c.self.view_is) in
    subst (λ cs. AreCells t cs) (sym c.cut.ensures.items) (AreCells-take t cells c.self.invariant c.args.mark within)

pub returns : goal.returns
returns c =
    let inside = c.self.inside in
    let t : Tables = record { atoms = inside.atoms; binaries = inside.binaries; origins = inside.origins } in
    let cells = items inside.cells in
    let within : c.args.mark ≤ length cells = omega (arith, c.requires, length-heap t cells c.self.invariant, ap length c.self.view_is) in
    ap (λ cs. heap_of t cs) c.cut.ensures.items ∙ heap-take t cells c.self.invariant c.args.mark within ∙ ap (take c.args.mark) c.self.view_is
