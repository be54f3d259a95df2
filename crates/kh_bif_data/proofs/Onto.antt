-- Lists that are built from their end.
use Rattle.std.proofs.Common.{◌≡◌, ℕ, ◌+◌, ◌<◌, false, List, ◌∷◌, length, drop, get_or, sym, ap, subst, ◌∙◌, arith}
use Rattle.std.specs.Prelude.{Err}
use Rattle.std.proofs.lemmas.List.{at_drop_more, get_or-map, length-map}
use Rattle.kh_term.specs.declared.tree.TermTree.{TermTree}
use Rattle.kh_term.specs.declared.tree.TermTree.TheVariants as tree
use Rattle.kh_term.specs.Limits.{is_small}
use Rattle.kh_term.specs.Make.{list_with_tail}
use Rattle.kh_heap.specs.declared.error.HeapError.TheVariants as error
use Rattle.kh_heap.specs.Heap.{term_at, terms_at, Holds, HoldsAll, Grew, Limits, cons_tree}
use Rattle.kh_heap.proofs.Growth.{Holds-grew, term_at-grew}
use Rattle.kh_bif_data.proofs.Conses.{onto-cons, large-onto}

-- one head more in front of what a loop has built
module _ (old heap : List TermTree) (items : List ℕ) (i head list : ℕ) (tail : TermTree) (g : Grew old heap) (h : HoldsAll old items) (l : i < length items) (at : head ≡ get_or items i head) (so_far : term_at heap list ≡ list_with_tail (drop (i + 1) (terms_at old items)) tail) where
  pub head-held : Holds heap head
  head-held = Holds-grew old heap head g (subst (λ (r : ℕ). Holds old r) (sym at) (h i head l))

  pub next : cons_tree (term_at heap head) (term_at heap list) ≡ list_with_tail (drop i (terms_at old items)) tail
  next =
      let ts = terms_at old items in
      let held : Holds old head = subst (λ (r : ℕ). Holds old r) (sym at) (h i head l) in
      let here : term_at heap head ≡ get_or ts i tree.Nil =
      term_at-grew old heap head g held ∙ sym (get_or-map (term_at old) items i head tree.Nil l ∙ ap (term_at old) (sym at)) in
      let within : i < length ts = omega (arith, l, length-map items (term_at old)) in
      (λ j. cons_tree (here j) (so_far j)) ∙ sym (onto-cons (get_or ts i tree.Nil) (drop (i + 1) ts) tail)
      ∙ sym (at_drop_more (λ us. list_with_tail us tail) ts i tree.Nil within)

  -- where that is past the limits the whole list is
  pub too_large : Limits (Err error.TooLarge) (cons_tree (term_at heap head) (term_at heap list)) → is_small (list_with_tail (terms_at old items) tail) ≡ false
  too_large e = large-onto (terms_at old items) tail i (ap is_small (sym next) ∙ e)
