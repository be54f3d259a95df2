use Rattle.std.proofs.Common.{◌≡◌, ℕ, List, refl, sym, ap, ◌∙◌}
use Rattle.kh_term.specs.declared.tree.TermTree.{TermTree, out-TermTree}
use Rattle.kh_term.specs.declared.tree.TermTree.TheOpen.{TermTree-F}
use Rattle.kh_term.specs.Size.{size_of}
use Rattle.kh_heap.specs.declared.view.View.{View}
use Rattle.kh_heap.specs.declared.view.View.TheVariants as view
use Rattle.kh_heap.specs.Heap.{term_at}
use Rattle.kh_heap.specs.View.{IsSeen}
use Rattle.kh_bif_base.proofs.Seen.{layer_at, layer_seen}
use Rattle.kh_bif_data.specs.Lists.{list_size, list_size_on}
use Rattle.kh_bif_data.proofs.lists.list_size.Goals as goal

seen : (heap : List TermTree) (t : TermTree) (v : View) → IsSeen heap t v → list_size t ≡ list_size_on (layer_at heap t v) (size_of t)
seen heap t v s = ap (λ (l : TermTree-F TermTree). list_size_on l (size_of t)) (layer_seen heap t v s)

none : (heap : List TermTree) (t : TermTree) (v : View) (n : ℕ) → (v ≡ view.Nil → ⊥) → ((h r : ℕ) → v ≡ view.Cons h r → ⊥) → 0 ≡ list_size_on (layer_at heap t v) n
none heap t view.Nil n m o = absurd (m refl)
none heap t (view.Cons h r) n m o = absurd (o h r refl)
none heap t v n m o = refl

pub returns-in_default : goal.returns-in_default
returns-in_default c =
    let heap = c.args.heap.now in
    let t = term_at heap c.args.a in
    none heap t c.view.result (size_of t) (λ e. c.in_default.not-Nil e) (λ x y e. c.in_default.not-Cons x y e) ∙ sym (seen heap t c.view.result c.view.ensures)

pub returns-in-Nil : goal.returns-in-Nil
returns-in-Nil c =
    let heap = c.args.heap.now in
    let t = term_at heap c.args.a in
    c.size.ensures.size ∙ sym (seen heap t view.Nil c.in-Nil.ensures)

pub returns-in-Cons : goal.returns-in-Cons
returns-in-Cons c =
    let heap = c.args.heap.now in
    let t = term_at heap c.args.a in
    c.size-in-Cons.ensures.size ∙ sym (seen heap t (view.Cons c.in-Cons.field-0 c.in-Cons.field-1) c.in-Cons.ensures)
