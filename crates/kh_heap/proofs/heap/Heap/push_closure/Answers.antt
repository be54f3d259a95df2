use Rattle.std.proofs.Common.{◌≡◌, [], ◌∷◌, ◌++◌, length, sym, ap, subst, ◌∙◌, arith}
use Rattle.kh_arena.specs.Listed.{items}
use Rattle.kh_term.specs.declared.tree.TermTree.TheVariants as tree
use Rattle.kh_heap.specs.declared.cell.Cell.{Cell}
use Rattle.kh_heap.specs.declared.cell.Kind.TheVariants as kind
use Rattle.kh_heap.specs.Parts.{no_origin}
use Rattle.kh_heap.specs.Cells.{Tables, Measured, run_at, heap_of, AreCells}
use Rattle.kh_heap.proofs.Cells.{length-heap, more_origins, heap-extends, AreCells-extends, number-last, are-pushed, heap-pushed}
use Rattle.kh_heap.proofs.Growth.{on_err}
use Rattle.kh_heap.proofs.heap.Heap.push_closure.Goals as goal

pub push-requires-2 : goal.push-requires-2
push-requires-2 c =
    let inside = c.self.inside in
    let t : Tables = record { atoms = inside.atoms; binaries = inside.binaries; origins = inside.origins } in
    let cells = items inside.cells in
    omega (arith, c.requires.room, length-heap t cells c.self.invariant, ap length c.self.view_is)

pub invariant_of-self-in_err-place : goal.invariant_of-self-in_err-place
invariant_of-self-in_err-place c =
    let inside = c.self.inside in
    let t : Tables = record { atoms = inside.atoms; binaries = inside.binaries; origins = inside.origins } in
    let cells = items inside.cells in
    let more = c.push.new.self in
    let added : more ≡ inside.origins ++ c.args.origin.now ∷ [] = c.in_ok-number.ensures.ok ∙ ap (λ x. inside.origins ++ x ∷ []) c.in_ok-copy.ensures in
    let u : Tables = record t { origins = more } in
    let e = more_origins t more c.args.origin.now added in
    let are = AreCells-extends t cells c.self.invariant u e in
    let view : heap_of u cells ≡ c.args.self.now = heap-extends t cells c.self.invariant u e ∙ c.self.view_is in
    subst (λ cs. AreCells u cs) (sym (ap items c.in_err-place.ensures.refused)) are

pub returns-in_err-place-clause-refused : goal.returns-in_err-place-clause-refused
returns-in_err-place-clause-refused c =
    let inside = c.self.inside in
    let t : Tables = record { atoms = inside.atoms; binaries = inside.binaries; origins = inside.origins } in
    let cells = items inside.cells in
    let more = c.push.new.self in
    let added : more ≡ inside.origins ++ c.args.origin.now ∷ [] = c.in_ok-number.ensures.ok ∙ ap (λ x. inside.origins ++ x ∷ []) c.in_ok-copy.ensures in
    let u : Tables = record t { origins = more } in
    let e = more_origins t more c.args.origin.now added in
    let are = AreCells-extends t cells c.self.invariant u e in
    let view : heap_of u cells ≡ c.args.self.now = heap-extends t cells c.self.invariant u e ∙ c.self.view_is in
    let same : heap_of u (items c.push-2.new.self) ≡ c.args.self.now = ap (λ v. heap_of u (items v)) c.in_err-place.ensures.refused ∙ view in
    on_err c.from_residual-in_err-place.result same

pub invariant_of-self-2 : goal.invariant_of-self-2
invariant_of-self-2 c =
    let inside = c.self.inside in
    let t : Tables = record { atoms = inside.atoms; binaries = inside.binaries; origins = inside.origins } in
    let cells = items inside.cells in
    let more = c.push.new.self in
    let added : more ≡ inside.origins ++ c.args.origin.now ∷ [] = c.in_ok-number.ensures.ok ∙ ap (λ x. inside.origins ++ x ∷ []) c.in_ok-copy.ensures in
    let u : Tables = record t { origins = more } in
    let e = more_origins t more c.args.origin.now added in
    let are = AreCells-extends t cells c.self.invariant u e in
    let view : heap_of u cells ≡ c.args.self.now = heap-extends t cells c.self.invariant u e ∙ c.self.view_is in
    let last = number-last inside.origins more c.args.origin.now no_origin c.in_ok-number.number added c.in_ok-number.ensures.number in
    let cell : Cell = record { kind = kind.Closure c.in_ok-number.number c.args.first c.args.count; size = c.args.size; depth = c.args.depth } in
    let measured = subst (λ o. Measured c.args.size c.args.depth (tree.Closure o (run_at c.args.self.now c.args.first c.args.count))) (sym last.1) c.requires.measured in
    are-pushed u cells (items c.push-2.new.self) c.args.self.now cell are view c.in_ok-place.ensures.appended (last.0, c.requires.below) measured

pub returns-clause-place : goal.returns-clause-place
returns-clause-place c =
    let inside = c.self.inside in
    let t : Tables = record { atoms = inside.atoms; binaries = inside.binaries; origins = inside.origins } in
    let cells = items inside.cells in
    c.in_ok-place.ensures.place ∙ sym (length-heap t cells c.self.invariant) ∙ ap length c.self.view_is

pub returns-clause-added : goal.returns-clause-added
returns-clause-added c =
    let inside = c.self.inside in
    let t : Tables = record { atoms = inside.atoms; binaries = inside.binaries; origins = inside.origins } in
    let cells = items inside.cells in
    let more = c.push.new.self in
    let added : more ≡ inside.origins ++ c.args.origin.now ∷ [] = c.in_ok-number.ensures.ok ∙ ap (λ x. inside.origins ++ x ∷ []) c.in_ok-copy.ensures in
    let u : Tables = record t { origins = more } in
    let e = more_origins t more c.args.origin.now added in
    let are = AreCells-extends t cells c.self.invariant u e in
    let view : heap_of u cells ≡ c.args.self.now = heap-extends t cells c.self.invariant u e ∙ c.self.view_is in
    let last = number-last inside.origins more c.args.origin.now no_origin c.in_ok-number.number added c.in_ok-number.ensures.number in
    let cell : Cell = record { kind = kind.Closure c.in_ok-number.number c.args.first c.args.count; size = c.args.size; depth = c.args.depth } in
    let measured = subst (λ o. Measured c.args.size c.args.depth (tree.Closure o (run_at c.args.self.now c.args.first c.args.count))) (sym last.1) c.requires.measured in
    heap-pushed u cells (items c.push-2.new.self) c.args.self.now cell are view c.in_ok-place.ensures.appended (last.0, c.requires.below) measured
    ∙ ap (λ o. c.args.self.now ++ tree.Closure o (run_at c.args.self.now c.args.first c.args.count) ∷ []) last.1
