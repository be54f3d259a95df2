use Rattle.std.proofs.Common.{◌<◌, ◌≤◌, length, ap, subst, arith}
use Rattle.kh_arena.specs.Listed.{items}
use Rattle.kh_term.specs.Limits.{most_size}
use Rattle.kh_term.specs.WellFormed.{IsTerm}
use Rattle.kh_heap.specs.Cells.{Tables, heap_of}
use Rattle.kh_heap.specs.Heap.{term_at}
use Rattle.kh_heap.specs.Parts.{parts_in}
use Rattle.kh_heap.proofs.Cells.{length-heap}
use Rattle.kh_heap.proofs.Smaller.{parts-few}
use Rattle.kh_heap.proofs.heap.Heap.stands_for_terms.Goals as goal

pub returns-clause-fits : goal.returns-clause-fits
returns-clause-fits c r held =
    let inside = c.self.inside in
    let t : Tables = record { atoms = inside.atoms; binaries = inside.binaries; origins = inside.origins } in
    let cells = items inside.cells in
    let within : r < length cells = omega (arith, held.within, length-heap t cells c.self.invariant, ap length c.self.view_is) in
    subst (λ heap. IsTerm (term_at heap r)) c.self.view_is (c.self.invariant.each r within).measured.fits

pub returns-clause-few : goal.returns-clause-few
returns-clause-few c r held =
    let inside = c.self.inside in
    let t : Tables = record { atoms = inside.atoms; binaries = inside.binaries; origins = inside.origins } in
    let cells = items inside.cells in
    let within : r < length cells = omega (arith, held.within, length-heap t cells c.self.invariant, ap length c.self.view_is) in
    let few = (c.self.invariant.each r within).measured.few in
    subst (λ heap. length (parts_in (term_at heap r)) ≤ most_size) c.self.view_is (omega (arith, few, parts-few (term_at (heap_of t cells) r)))
