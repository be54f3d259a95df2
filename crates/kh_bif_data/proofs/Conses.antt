-- Lists as a head in front of a tail.
use Rattle.std.proofs.Common.{◌≡◌, ℕ, zero, suc, ◌+◌, ◌<◌, ◌≤◌, max, Bool, true, false, ◌&&◌, nat_le, if◌then◌else◌, List, [], ◌∷◌, ◌++◌, length, map, drop, refl, sym, ap, ◌∙◌, arith}
use Rattle.std.proofs.lemmas.Bool.Decides.{nat_tests}
use Rattle.kh_term.specs.declared.tree.TermTree.{TermTree, out-TermTree}
use Rattle.kh_term.specs.declared.tree.TermTree.TheVariants as tree
use Rattle.kh_term.specs.declared.tree.TermTree.TheVariants.{outs-List, outs-Nil, rolls-List}
use Rattle.kh_term.specs.declared.tree.TermTree.TheOpen.{TermTree-F}
use Rattle.kh_term.specs.declared.tree.TermTree.TheOpen as layer
use Rattle.kh_term.specs.declared.tree.TermTree.TheViews.{roll-TermTree, roll-out-TermTree}
use Rattle.kh_term.specs.Lemmas.Fits.{sum-cons}
use Rattle.kh_term.specs.Limits.{is_small, most_size, most_depth}
use Rattle.kh_term.specs.Make.{list_of, list_with_tail, in_front_of}
use Rattle.kh_term.specs.Size.{size_of, depth_of, is_nil}
use Rattle.kh_term.proofs.Layers.{size-List, depth-List, depth-Nil}
use Rattle.kh_heap.specs.Heap.{cons_tree}
use Rattle.kh_bif_base.proofs.Seen.{more_on, last_on, cons_is, out-cons}
use Rattle.kh_bif_data.specs.Lists.{elements, elements_on, ends_in_nil, ends_on}

-- ---- elements and ends

same_elements : (l : TermTree-F TermTree) → more_on l ≡ elements_on l
same_elements (layer.List parts tail) = refl
same_elements l = refl

pub elements-cons : (h t : TermTree) → elements (cons_tree h t) ≡ h ∷ elements t
elements-cons h t = ap elements_on (out-cons h t) ∙ ap (λ (ts : List TermTree). h ∷ ts) (same_elements (out-TermTree t))

ends : (t : TermTree) (l : TermTree-F TermTree) → out-TermTree t ≡ l → is_nil (out-TermTree (last_on l t)) ≡ ends_on l
ends t (layer.List parts tail) e = refl
ends t layer.Nil e = ap is_nil e
ends t l e = ap is_nil e

pub ends-cons : (h t : TermTree) → ends_in_nil (cons_tree h t) ≡ ends_in_nil t
ends-cons h t = ap ends_on (out-cons h t) ∙ ends t (out-TermTree t) refl

-- ---- terms in front of a tail

cons-List : (x : TermTree) (xs : List TermTree) (tail : TermTree) → cons_tree x (tree.List xs tail) ≡ tree.List (x ∷ xs) tail
cons-List x xs tail =
    cons_is x (tree.List xs tail) ∙ ap (λ (l : TermTree-F TermTree). tree.List (x ∷ more_on l) (last_on l (tree.List xs tail))) (outs-List xs tail)

front : (x y : TermTree) (ys : List TermTree) (t : TermTree) (l : TermTree-F TermTree) → in_front_of (x ∷ y ∷ ys) l t ≡ cons_tree x (in_front_of (y ∷ ys) l t)
front x y ys t (layer.List more tail) = sym (cons-List x (y ∷ ys ++ more) tail)
front x y ys t l = sym (cons-List x (y ∷ ys) t)

pub onto-cons : (x : TermTree) (xs : List TermTree) (t : TermTree) → list_with_tail (x ∷ xs) t ≡ cons_tree x (list_with_tail xs t)
unfolding cons_tree
onto-cons x [] t = refl
onto-cons x (y ∷ ys) t = front x y ys t (out-TermTree t)

pub list-onto : (ts : List TermTree) → list_with_tail ts tree.Nil ≡ list_of ts
list-onto [] = refl
list-onto (x ∷ xs) = ap (λ (l : TermTree-F TermTree). in_front_of (x ∷ xs) l tree.Nil) outs-Nil

pub cons-list_of : (x : TermTree) (xs : List TermTree) → cons_tree x (list_of xs) ≡ list_of (x ∷ xs)
cons-list_of x xs = ap (cons_tree x) (sym (list-onto xs)) ∙ sym (onto-cons x xs tree.Nil) ∙ list-onto (x ∷ xs)

-- ---- sizes and depths

back : (t : TermTree) (parts : List TermTree) (tail : TermTree) → out-TermTree t ≡ layer.List parts tail → tree.List parts tail ≡ t
back t parts tail e = sym (rolls-List parts tail) ∙ ap roll-TermTree (sym e) ∙ roll-out-TermTree t

larger : (h t : TermTree) (l : TermTree-F TermTree) → out-TermTree t ≡ l → size_of h + size_of t + 1 ≤ size_of (tree.List (h ∷ more_on l) (last_on l t))
larger h t (layer.List parts tail) e =
    omega (arith, ap size_of (back t parts tail e), size-List parts tail, size-List (h ∷ parts) tail, sum-cons (size_of h) (map size_of parts))
larger h t l e = omega (arith, size-List (h ∷ []) t, sum-cons (size_of h) [])

pub size-cons : (h t : TermTree) → size_of h + size_of t < size_of (cons_tree h t)
size-cons h t = omega (arith, ap size_of (cons_is h t), larger h t (out-TermTree t) refl)

bounded : (t : TermTree) (l : TermTree-F TermTree) → out-TermTree t ≡ l → length (elements_on l) ≤ size_of t
bounded t (layer.List parts tail) e = omega (arith, ap size_of (back t parts tail e), size-List parts tail)
bounded t l e = omega arith

-- a list has no more elements than its size
pub elements-few : (t : TermTree) → length (elements t) ≤ size_of t
elements-few t = bounded t (out-TermTree t) refl

nil-low : (t : TermTree) → out-TermTree t ≡ layer.Nil → depth_of t ≤ 1
nil-low t e =
    let is : t ≡ tree.Nil = sym (roll-out-TermTree t) ∙ ap roll-TermTree (e ∙ sym outs-Nil) ∙ roll-out-TermTree tree.Nil in
    omega (arith, ap depth_of is, depth-Nil)

deeper : (h t : TermTree) (l : TermTree-F TermTree) → out-TermTree t ≡ l → depth_of t ≤ depth_of (tree.List (h ∷ more_on l) (last_on l t))
deeper h t (layer.List parts tail) e =
    omega (arith, ap depth_of (back t parts tail e), depth-List parts tail, depth-List (h ∷ parts) tail)
deeper h t layer.Nil e = omega (arith, nil-low t e, depth-List (h ∷ []) t)
deeper h t l e =
    omega (arith, depth-List (h ∷ []) t, ap (λ (m : TermTree-F TermTree). if is_nil m then 0 else depth_of t) e)

pub depth-tail : (h t : TermTree) → depth_of t ≤ depth_of (cons_tree h t)
depth-tail h t = omega (arith, ap depth_of (cons_is h t), deeper h t (out-TermTree t) refl)

-- a list whose tail is past the limits is so too
pub large-tail : (h t : TermTree) → is_small t ≡ false → is_small (cons_tree h t) ≡ false
large-tail h t e = go (is_small (cons_tree h t)) refl
  where
    go : (b : Bool) → is_small (cons_tree h t) ≡ b → is_small (cons_tree h t) ≡ false
    go false f = f
    go true f = absurd (grind (arith, nat_tests, e, f, size-cons h t, depth-tail h t))

-- terms in front of a tail are past the limits where the last of them in front of it are
pub large-onto : (ts : List TermTree) (t : TermTree) (i : ℕ) → is_small (list_with_tail (drop i ts) t) ≡ false → is_small (list_with_tail ts t) ≡ false
large-onto ts t zero e = e
large-onto [] t (suc i) e = e
large-onto (x ∷ xs) t (suc i) e = ap is_small (onto-cons x xs t) ∙ large-tail x (list_with_tail xs t) (large-onto xs t i e)
