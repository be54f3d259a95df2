use Rattle.std.proofs.Common.{◌≡◌, ℤ, List, rules, refl, sym, ap, ◌∙◌, SFits}
use Rattle.std.specs.Int.{w128}
use Rattle.std.specs.Prelude.{Option, Some, None}
use Rattle.std.proofs.lemmas.Int.{to_z-of_z}
use Rattle.kh_term.specs.declared.tree.TermTree.{TermTree}
use Rattle.kh_heap.specs.declared.view.View.{View}
use Rattle.kh_heap.specs.declared.view.View.TheVariants as view
use Rattle.kh_heap.specs.Heap.{term_at}
use Rattle.kh_heap.specs.View.{IsSeen}
use Rattle.kh_bif_base.specs.Integers.{integer_in, integer_on}
use Rattle.kh_bif_base.proofs.Seen.{layer_at, layer_seen}
use Rattle.kh_bif_base.proofs.arguments.integer.Goals as goal

pub returns-in-Int : goal.returns-in-Int
returns-in-Int c =
    let fits : SFits w128 c.in-Int.number = search rules in
    let seen : IsSeen c.args.heap.now (term_at c.args.heap.now c.args.r) (view.Int c.in-Int.number) = search rules in
    ap Some (to_z-of_z w128 c.in-Int.number fits) ∙ sym (ap integer_on (layer_seen c.args.heap.now (term_at c.args.heap.now c.args.r) (view.Int c.in-Int.number) seen))

none : (heap : List TermTree) (t : TermTree) (v : View) → ((n : ℤ) → v ≡ view.Int n → ⊥) → None ≡ integer_on (layer_at heap t v)
none heap t (view.Int n) h = absurd (h n refl)
none heap t v h = refl

pub returns-in_default : goal.returns-in_default
returns-in_default c =
    none c.args.heap.now (term_at c.args.heap.now c.args.r) c.view.result (λ n e. c.in_default.not-Int n e) ∙ sym (ap integer_on (layer_seen c.args.heap.now (term_at c.args.heap.now c.args.r) c.view.result c.view.ensures))
