use Rattle.std.proofs.Common.{◌≡◌, ℕ, ◌+◌, ◌<◌, List, [], ◌∷◌, ◌++◌, length, take, get_or, refl, sym, ap, subst, ◌∙◌, arith}
use Rattle.kh_arena.specs.Listed.{items}
use Rattle.kh_term.specs.declared.tree.TermTree.{TermTree}
use Rattle.kh_term.specs.declared.tree.TermTree.TheVariants as tree
use Rattle.kh_heap.specs.declared.cell.Cell.{Cell}
use Rattle.kh_heap.specs.declared.cell.Kind.TheVariants as kind
use Rattle.kh_heap.specs.Parts.{no_origin}
use Rattle.kh_heap.specs.Cells.{Tables, Measured, run_at}
use Rattle.kh_heap.proofs.Cells.{length-heap}
use Rattle.kh_heap.specs.Cells.{heap_of, terms_upto}
use Rattle.kh_heap.proofs.heap.Heap.new.Goals as goal

pub returns : goal.returns
unfolding terms_upto
returns c =
    let t : Tables = record { atoms = c.new-2.result; binaries = c.new-3.result; origins = c.new-4.result } in
    ap (λ v. heap_of t (items v)) c.new.ensures
