use Rattle.std.proofs.Common.{arith, ap, ◌∙◌}
use Rattle.kh_arena.specs.Listed.{items}
use Rattle.std.proofs.Common.{◌≡◌}
use Rattle.kh_term.specs.Size.{depth_of}
use Rattle.kh_heap.specs.Cells.{tail_depth}
use Rattle.kh_heap.specs.Heap.{term_at}
use Rattle.kh_heap.specs.Cells.{Tables}
use Rattle.kh_heap.proofs.Cells.{found-within, cell-of}
use Rattle.kh_heap.proofs.Seen.{tail-depth, tail_depth-few}
use Rattle.kh_heap.proofs.heap.Heap.cons_depth.Goals as goal

pub get-cell-requires : goal.get-cell-requires
get-cell-requires c =
    let inside = c.self.inside in
    let t : Tables = record { atoms = inside.atoms; binaries = inside.binaries; origins = inside.origins } in
    let cells = items inside.cells in
    found-within t cells c.args.self.now c.args.tail c.tail.inside.place c.self.invariant c.self.view_is c.tail.view_is c.requires.tail_held

pub overflow_add-result : goal.overflow_add-result
overflow_add-result c =
    let inside = c.self.inside in
    let t : Tables = record { atoms = inside.atoms; binaries = inside.binaries; origins = inside.origins } in
    let cells = items inside.cells in
    let is = cell-of t cells c.args.self.now c.args.tail c.tail.inside.place c.self.invariant c.self.view_is c.tail.view_is c.get-cell.result.now c.get-cell.ensures.item in
    record { fits = omega (arith, c.max.ensures, c.depth-above.ensures.depth, c.depth-above.ensures.low, c.tail_depth.ensures, tail_depth-few c.get-cell.result.now.kind c.get-cell.result.now.depth, is.measured.depth_is, is.measured.low) }

pub returns : goal.returns
returns c =
    let inside = c.self.inside in
    let t : Tables = record { atoms = inside.atoms; binaries = inside.binaries; origins = inside.origins } in
    let cells = items inside.cells in
    let is = cell-of t cells c.args.self.now c.args.tail c.tail.inside.place c.self.invariant c.self.view_is c.tail.view_is c.get-cell.result.now c.get-cell.ensures.item in
    let k = c.get-cell.result.now.kind in
    let x = term_at c.args.self.now c.args.tail in
    let depth = tail-depth t c.args.self.now c.args.tail x k (term_at c.args.self.now c.args.head) is.term in
    let same : c.tail_depth.result ≡ tail_depth k (depth_of x) = c.tail_depth.ensures ∙ ap (tail_depth k) is.measured.depth_is in
    omega (arith, depth, c.max.ensures, c.depth-above.ensures.depth, same)
