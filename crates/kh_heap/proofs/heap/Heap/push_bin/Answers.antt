use Rattle.std.proofs.Common.{◌≡◌, [], ◌∷◌, ◌++◌, length, sym, ap, subst, ◌∙◌, arith}
use Rattle.kh_arena.specs.Listed.{items}
use Rattle.kh_term.specs.declared.tree.TermTree.TheVariants as tree
use Rattle.kh_heap.specs.declared.cell.Cell.{Cell}
use Rattle.kh_heap.specs.declared.cell.Kind.TheVariants as kind
use Rattle.kh_heap.specs.Cells.{Tables, Measured, heap_of, AreCells}
use Rattle.kh_heap.proofs.Cells.{length-heap, more_binaries, heap-extends, AreCells-extends, number-last, are-pushed, heap-pushed}
use Rattle.kh_heap.proofs.Growth.{on_err}
use Rattle.kh_heap.proofs.heap.Heap.push_bin.Goals as goal

pub push-requires-2 : goal.push-requires-2
push-requires-2 c =
    let inside = c.self.inside in
    let t : Tables = record { atoms = inside.atoms; binaries = inside.binaries; origins = inside.origins } in
    let cells = items inside.cells in
    omega (arith, c.requires.room, length-heap t cells c.self.invariant, ap length c.self.view_is)

pub invariant_of-self-in_err-place : goal.invariant_of-self-in_err-place
invariant_of-self-in_err-place c =
    let inside = c.self.inside in
    let t : Tables = record { atoms = inside.atoms; binaries = inside.binaries; origins = inside.origins } in
    let cells = items inside.cells in
    let more = c.push.new.self in
    let added : more ≡ inside.binaries ++ c.args.bytes.now ∷ [] = c.in_ok-number.ensures.ok ∙ ap (λ x. inside.binaries ++ x ∷ []) c.in_ok-copy.ensures in
    let u : Tables = record t { binaries = more } in
    let e = more_binaries t more c.args.bytes.now added in
    let are = AreCells-extends t cells c.self.invariant u e in
    let view : heap_of u cells ≡ c.args.self.now = heap-extends t cells c.self.invariant u e ∙ c.self.view_is in
    subst (λ cs. AreCells u cs) (sym (ap items c.in_err-place.ensures.refused)) are

pub returns-in_err-place-clause-refused : goal.returns-in_err-place-clause-refused
returns-in_err-place-clause-refused c =
    let inside = c.self.inside in
    let t : Tables = record { atoms = inside.atoms; binaries = inside.binaries; origins = inside.origins } in
    let cells = items inside.cells in
    let more = c.push.new.self in
    let added : more ≡ inside.binaries ++ c.args.bytes.now ∷ [] = c.in_ok-number.ensures.ok ∙ ap (λ x. inside.binaries ++ x ∷ []) c.in_ok-copy.ensures in
    let u : Tables = record t { binaries = more } in
    let e = more_binaries t more c.args.bytes.now added in
    let are = AreCells-extends t cells c.self.invariant u e in
    let view : heap_of u cells ≡ c.args.self.now = heap-extends t cells c.self.invariant u e ∙ c.self.view_is in
    let same : heap_of u (items c.push-2.new.self) ≡ c.args.self.now = ap (λ v. heap_of u (items v)) c.in_err-place.ensures.refused ∙ view in
    on_err c.from_residual-in_err-place.result same

pub invariant_of-self-2 : goal.invariant_of-self-2
invariant_of-self-2 c =
    let inside = c.self.inside in
    let t : Tables = record { atoms = inside.atoms; binaries = inside.binaries; origins = inside.origins } in
    let cells = items inside.cells in
    let more = c.push.new.self in
    let added : more ≡ inside.binaries ++ c.args.bytes.now ∷ [] = c.in_ok-number.ensures.ok ∙ ap (λ x. inside.binaries ++ x ∷ []) c.in_ok-copy.ensures in
    let u : Tables = record t { binaries = more } in
    let e = more_binaries t more c.args.bytes.now added in
    let are = AreCells-extends t cells c.self.invariant u e in
    let view : heap_of u cells ≡ c.args.self.now = heap-extends t cells c.self.invariant u e ∙ c.self.view_is in
    let last = number-last inside.binaries more c.args.bytes.now [] c.in_ok-number.number added c.in_ok-number.ensures.number in
    let cell : Cell = record { kind = kind.Bin c.in_ok-number.number; size = c.args.size; depth = 0 } in
    let measured = subst (λ x. Measured c.args.size 0 (tree.Bin x)) (sym last.1) c.requires.measured in
    are-pushed u cells (items c.push-2.new.self) c.args.self.now cell are view c.in_ok-place.ensures.appended last.0 measured

pub returns-clause-place : goal.returns-clause-place
returns-clause-place c =
    let inside = c.self.inside in
    let t : Tables = record { atoms = inside.atoms; binaries = inside.binaries; origins = inside.origins } in
    let cells = items inside.cells in
    c.in_ok-place.ensures.place ∙ sym (length-heap t cells c.self.invariant) ∙ ap length c.self.view_is

pub returns-clause-added : goal.returns-clause-added
returns-clause-added c =
    let inside = c.self.inside in
    let t : Tables = record { atoms = inside.atoms; binaries = inside.binaries; origins = inside.origins } in
    let cells = items inside.cells in
    let more = c.push.new.self in
    let added : more ≡ inside.binaries ++ c.args.bytes.now ∷ [] = c.in_ok-number.ensures.ok ∙ ap (λ x. inside.binaries ++ x ∷ []) c.in_ok-copy.ensures in
    let u : Tables = record t { binaries = more } in
    let e = more_binaries t more c.args.bytes.now added in
    let are = AreCells-extends t cells c.self.invariant u e in
    let view : heap_of u cells ≡ c.args.self.now = heap-extends t cells c.self.invariant u e ∙ c.self.view_is in
    let last = number-last inside.binaries more c.args.bytes.now [] c.in_ok-number.number added c.in_ok-number.ensures.number in
    let cell : Cell = record { kind = kind.Bin c.in_ok-number.number; size = c.args.size; depth = 0 } in
    let measured = subst (λ x. Measured c.args.size 0 (tree.Bin x)) (sym last.1) c.requires.measured in
    heap-pushed u cells (items c.push-2.new.self) c.args.self.now cell are view c.in_ok-place.ensures.appended last.0 measured
    ∙ ap (λ x. c.args.self.now ++ tree.Bin x ∷ []) last.1
