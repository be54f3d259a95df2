-- The layer of a term that a heap shows.
use Rattle.std.proofs.Common.{◌≡◌, ℕ, List, [], ◌∷◌, ◌++◌, refl, sym, ap, ◌∙◌}
use Rattle.kh_term.specs.declared.tree.TermTree.{TermTree, out-TermTree}
use Rattle.kh_term.specs.declared.tree.TermTree.TheVariants as tree
use Rattle.kh_term.specs.declared.tree.TermTree.TheVariants.{outs-Int, outs-Atom, outs-Bin, outs-Nil, outs-List, outs-Tuple, outs-Map, outs-Closure}
use Rattle.kh_term.specs.declared.tree.TermTree.TheOpen.{TermTree-F}
use Rattle.kh_term.specs.declared.tree.TermTree.TheOpen as layer
use Rattle.kh_term.specs.Make.{in_front_of}
use Rattle.kh_heap.specs.declared.view.View.{View}
use Rattle.kh_heap.specs.declared.view.View.TheVariants as view
use Rattle.kh_heap.specs.Heap.{term_at, cons_tree}
use Rattle.kh_heap.specs.Parts.{text_in, bytes_in, origin_in, pairs_in, parts_in}
use Rattle.kh_heap.specs.View.{IsSeen}

-- the elements of a list, and its tail; another term has none, and is the tail itself
abbrev pub more_on : TermTree-F TermTree → List TermTree
more_on (layer.List parts tail) = parts
more_on l = []

abbrev pub last_on : TermTree-F TermTree → TermTree → TermTree
last_on (layer.List parts tail) t = tail
last_on l t = t

front : (h t : TermTree) (l : TermTree-F TermTree) → in_front_of (h ∷ []) l t ≡ tree.List (h ∷ more_on l) (last_on l t)
front h t (layer.List parts tail) = refl
front h t l = refl

pub cons_is : (h t : TermTree) → cons_tree h t ≡ tree.List (h ∷ more_on (out-TermTree t)) (last_on (out-TermTree t) t)
unfolding cons_tree
cons_is h t = front h t (out-TermTree t)

-- the layer of a head in front of a tail
pub out-cons : (h t : TermTree) → out-TermTree (cons_tree h t) ≡ layer.List (h ∷ more_on (out-TermTree t)) (last_on (out-TermTree t) t)
out-cons h t = ap out-TermTree (cons_is h t) ∙ outs-List (h ∷ more_on (out-TermTree t)) (last_on (out-TermTree t) t)

-- the layer of a term of which this is shown
abbrev pub layer_at : List TermTree → TermTree → View → TermTree-F TermTree
layer_at heap t (view.Int n) = layer.Int n
layer_at heap t view.Atom = layer.Atom (text_in t)
layer_at heap t (view.Bin n) = layer.Bin (bytes_in t)
layer_at heap t view.Nil = layer.Nil
layer_at heap t (view.Cons head tail) =
    layer.List (term_at heap head ∷ more_on (out-TermTree (term_at heap tail))) (last_on (out-TermTree (term_at heap tail)) (term_at heap tail))
layer_at heap t (view.Tuple n) = layer.Tuple (parts_in t)
layer_at heap t (view.Map n) = layer.Map (pairs_in t)
layer_at heap t (view.Closure n) = layer.Closure (origin_in t) (parts_in t)

pub layer_seen : (heap : List TermTree) (t : TermTree) (v : View) → IsSeen heap t v → out-TermTree t ≡ layer_at heap t v
layer_seen heap t (view.Int n) s = ap out-TermTree s ∙ outs-Int n
layer_seen heap t view.Atom s = ap out-TermTree s ∙ outs-Atom (text_in t)
layer_seen heap t (view.Bin n) s = ap out-TermTree s.0 ∙ outs-Bin (bytes_in t)
layer_seen heap t view.Nil s = ap out-TermTree s ∙ outs-Nil
layer_seen heap t (view.Cons head tail) s = ap out-TermTree s.0 ∙ out-cons (term_at heap head) (term_at heap tail)
layer_seen heap t (view.Tuple n) s = ap out-TermTree s.0 ∙ outs-Tuple (parts_in t)
layer_seen heap t (view.Map n) s = ap out-TermTree s.0 ∙ outs-Map (pairs_in t)
layer_seen heap t (view.Closure n) s = ap out-TermTree s.0 ∙ outs-Closure (origin_in t) (parts_in t)
