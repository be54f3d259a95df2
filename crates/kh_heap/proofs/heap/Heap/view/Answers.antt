use Rattle.std.proofs.Common.{[], ◌≡◌, length, get_or, arith, sym, subst, ap, ◌∙◌}
use Rattle.kh_arena.specs.Listed.{items}
use Rattle.std.proofs.lemmas.Option.{get_or_from_slice_get}
use Rattle.kh_term.specs.declared.tree.TermTree.TheVariants as tree
use Rattle.kh_term.specs.WellFormed.{IsTerm}
use Rattle.kh_heap.specs.declared.cell.Kind.TheVariants as kind
use Rattle.kh_heap.specs.Cells.{value, Below}
use Rattle.kh_heap.specs.Heap.{term_at}
use Rattle.kh_heap.specs.Cells.{Tables}
use Rattle.kh_heap.proofs.Cells.{found-within, cell-of}
use Rattle.kh_heap.proofs.Measures.{int-back, bin-few}
use Rattle.kh_heap.proofs.Seen.{seen-Atom, seen-Bin, seen-Tuple, seen-Map, seen-Closure}
use Rattle.kh_heap.proofs.heap.Heap.view.Goals as goal

pub get-cell-requires : goal.get-cell-requires
get-cell-requires c =
    let inside = c.self.inside in
    let t : Tables = record { atoms = inside.atoms; binaries = inside.binaries; origins = inside.origins } in
    let cells = items inside.cells in
    found-within t cells c.args.self.now c.args.r c.r.inside.place c.self.invariant c.self.view_is c.r.view_is c.requires

pub get-requires : goal.get-requires
get-requires c =
    let inside = c.self.inside in
    let t : Tables = record { atoms = inside.atoms; binaries = inside.binaries; origins = inside.origins } in
    let cells = items inside.cells in
    let is = cell-of t cells c.args.self.now c.args.r c.r.inside.place c.self.invariant c.self.view_is c.r.view_is c.get-cell.result.now c.get-cell.ensures.item in
    let heap = c.args.self.now in let x = term_at heap c.args.r in
    let same : value t heap (kind.Bin c.in-Bin.number) ≡ x = ap (value t heap) (sym c.in-Bin.is) ∙ is.term in
    let below : Below t c.args.r (kind.Bin c.in-Bin.number) = subst (λ k. Below t c.args.r k) c.in-Bin.is is.below in
    below

pub overflow_cast-result : goal.overflow_cast-result
overflow_cast-result c =
    let inside = c.self.inside in
    let t : Tables = record { atoms = inside.atoms; binaries = inside.binaries; origins = inside.origins } in
    let cells = items inside.cells in
    let is = cell-of t cells c.args.self.now c.args.r c.r.inside.place c.self.invariant c.self.view_is c.r.view_is c.get-cell.result.now c.get-cell.ensures.item in
    let heap = c.args.self.now in let x = term_at heap c.args.r in
    let same : value t heap (kind.Bin c.in-Bin.number) ≡ x = ap (value t heap) (sym c.in-Bin.is) ∙ is.term in
    let below : Below t c.args.r (kind.Bin c.in-Bin.number) = subst (λ k. Below t c.args.r k) c.in-Bin.is is.below in
    let bytes = get_or inside.binaries c.in-Bin.number [] in
    let len : c.as_slice.result.now ≡ bytes = c.as_slice.ensures.bytes ∙ sym (get_or_from_slice_get inside.binaries c.in-Bin.number c.get.result.now [] c.get.ensures) in
    record { fits = omega (arith, bin-few bytes x same is.measured.few, ap length len) }

pub returns-in-Int : goal.returns-in-Int
returns-in-Int c =
    let inside = c.self.inside in
    let t : Tables = record { atoms = inside.atoms; binaries = inside.binaries; origins = inside.origins } in
    let cells = items inside.cells in
    let is = cell-of t cells c.args.self.now c.args.r c.r.inside.place c.self.invariant c.self.view_is c.r.view_is c.get-cell.result.now c.get-cell.ensures.item in
    let heap = c.args.self.now in let x = term_at heap c.args.r in
    let same : value t heap (kind.Int c.in-Int.number) ≡ x = ap (value t heap) (sym c.in-Int.is) ∙ is.term in
    let below : Below t c.args.r (kind.Int c.in-Int.number) = subst (λ k. Below t c.args.r k) c.in-Int.is is.below in
    sym same ∙ ap (λ n. tree.Int n) (sym (int-back c.in-Int.number (subst IsTerm (sym same) is.measured.fits)))

pub returns-in-Atom : goal.returns-in-Atom
returns-in-Atom c =
    let inside = c.self.inside in
    let t : Tables = record { atoms = inside.atoms; binaries = inside.binaries; origins = inside.origins } in
    let cells = items inside.cells in
    let is = cell-of t cells c.args.self.now c.args.r c.r.inside.place c.self.invariant c.self.view_is c.r.view_is c.get-cell.result.now c.get-cell.ensures.item in
    let heap = c.args.self.now in let x = term_at heap c.args.r in
    let same : value t heap (kind.Atom c.in-Atom.field-0) ≡ x = ap (value t heap) (sym c.in-Atom.is) ∙ is.term in
    let below : Below t c.args.r (kind.Atom c.in-Atom.field-0) = subst (λ k. Below t c.args.r k) c.in-Atom.is is.below in
    seen-Atom t heap c.args.r x c.in-Atom.field-0 same

pub returns-in-Bin : goal.returns-in-Bin
returns-in-Bin c =
    let inside = c.self.inside in
    let t : Tables = record { atoms = inside.atoms; binaries = inside.binaries; origins = inside.origins } in
    let cells = items inside.cells in
    let is = cell-of t cells c.args.self.now c.args.r c.r.inside.place c.self.invariant c.self.view_is c.r.view_is c.get-cell.result.now c.get-cell.ensures.item in
    let heap = c.args.self.now in let x = term_at heap c.args.r in
    let same : value t heap (kind.Bin c.in-Bin.number) ≡ x = ap (value t heap) (sym c.in-Bin.is) ∙ is.term in
    let below : Below t c.args.r (kind.Bin c.in-Bin.number) = subst (λ k. Below t c.args.r k) c.in-Bin.is is.below in
    let bytes = get_or inside.binaries c.in-Bin.number [] in
    let len : c.as_slice.result.now ≡ bytes = c.as_slice.ensures.bytes ∙ sym (get_or_from_slice_get inside.binaries c.in-Bin.number c.get.result.now [] c.get.ensures) in
    seen-Bin t heap c.args.r x c.in-Bin.number (length c.as_slice.result.now) same (ap length len)

pub returns-in-Nil : goal.returns-in-Nil
returns-in-Nil c =
    let inside = c.self.inside in
    let t : Tables = record { atoms = inside.atoms; binaries = inside.binaries; origins = inside.origins } in
    let cells = items inside.cells in
    let is = cell-of t cells c.args.self.now c.args.r c.r.inside.place c.self.invariant c.self.view_is c.r.view_is c.get-cell.result.now c.get-cell.ensures.item in
    let heap = c.args.self.now in let x = term_at heap c.args.r in
    let same : value t heap kind.Nil ≡ x = ap (value t heap) (sym c.in-Nil.is) ∙ is.term in
    let below : Below t c.args.r kind.Nil = subst (λ k. Below t c.args.r k) c.in-Nil.is is.below in
    sym same

pub returns-in-Cons : goal.returns-in-Cons
returns-in-Cons c =
    let inside = c.self.inside in
    let t : Tables = record { atoms = inside.atoms; binaries = inside.binaries; origins = inside.origins } in
    let cells = items inside.cells in
    let is = cell-of t cells c.args.self.now c.args.r c.r.inside.place c.self.invariant c.self.view_is c.r.view_is c.get-cell.result.now c.get-cell.ensures.item in
    let heap = c.args.self.now in let x = term_at heap c.args.r in
    let same : value t heap (kind.Cons c.in-Cons.head c.in-Cons.tail) ≡ x = ap (value t heap) (sym c.in-Cons.is) ∙ is.term in
    let below : Below t c.args.r (kind.Cons c.in-Cons.head c.in-Cons.tail) = subst (λ k. Below t c.args.r k) c.in-Cons.is is.below in
    (sym same, record { within = omega (arith, below.0, c.requires.within) }, record { within = omega (arith, below.1, c.requires.within) })

pub returns-in-Tuple : goal.returns-in-Tuple
returns-in-Tuple c =
    let inside = c.self.inside in
    let t : Tables = record { atoms = inside.atoms; binaries = inside.binaries; origins = inside.origins } in
    let cells = items inside.cells in
    let is = cell-of t cells c.args.self.now c.args.r c.r.inside.place c.self.invariant c.self.view_is c.r.view_is c.get-cell.result.now c.get-cell.ensures.item in
    let heap = c.args.self.now in let x = term_at heap c.args.r in
    let same : value t heap (kind.Tuple c.in-Tuple.field-0 c.in-Tuple.count) ≡ x = ap (value t heap) (sym c.in-Tuple.is) ∙ is.term in
    let below : Below t c.args.r (kind.Tuple c.in-Tuple.field-0 c.in-Tuple.count) = subst (λ k. Below t c.args.r k) c.in-Tuple.is is.below in
    seen-Tuple t heap c.args.r x c.in-Tuple.field-0 c.in-Tuple.count (omega (arith, below, c.requires.within)) same

pub returns-in-Map : goal.returns-in-Map
returns-in-Map c =
    let inside = c.self.inside in
    let t : Tables = record { atoms = inside.atoms; binaries = inside.binaries; origins = inside.origins } in
    let cells = items inside.cells in
    let is = cell-of t cells c.args.self.now c.args.r c.r.inside.place c.self.invariant c.self.view_is c.r.view_is c.get-cell.result.now c.get-cell.ensures.item in
    let heap = c.args.self.now in let x = term_at heap c.args.r in
    let same : value t heap (kind.Map c.in-Map.field-0 c.in-Map.count) ≡ x = ap (value t heap) (sym c.in-Map.is) ∙ is.term in
    let below : Below t c.args.r (kind.Map c.in-Map.field-0 c.in-Map.count) = subst (λ k. Below t c.args.r k) c.in-Map.is is.below in
    seen-Map t heap c.args.r x c.in-Map.field-0 c.in-Map.count (omega (arith, below, c.requires.within)) same

pub returns-in-Closure : goal.returns-in-Closure
returns-in-Closure c =
    let inside = c.self.inside in
    let t : Tables = record { atoms = inside.atoms; binaries = inside.binaries; origins = inside.origins } in
    let cells = items inside.cells in
    let is = cell-of t cells c.args.self.now c.args.r c.r.inside.place c.self.invariant c.self.view_is c.r.view_is c.get-cell.result.now c.get-cell.ensures.item in
    let heap = c.args.self.now in let x = term_at heap c.args.r in
    let same : value t heap (kind.Closure c.in-Closure.field-0 c.in-Closure.field-1 c.in-Closure.count) ≡ x = ap (value t heap) (sym c.in-Closure.is) ∙ is.term in
    let below : Below t c.args.r (kind.Closure c.in-Closure.field-0 c.in-Closure.field-1 c.in-Closure.count) = subst (λ k. Below t c.args.r k) c.in-Closure.is is.below in
    seen-Closure t heap c.args.r x c.in-Closure.field-0 c.in-Closure.field-1 c.in-Closure.count (omega (arith, below.1, c.requires.within)) same
