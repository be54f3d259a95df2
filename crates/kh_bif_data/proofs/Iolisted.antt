-- The bytes of each kind of term.
use Rattle.std.proofs.Common.{◌≡◌, ℕ, List, [], ◌∷◌, map, refl, sym, ap, ◌∙◌}
use Rattle.std.specs.Prelude.{Option, Some, None}
use Rattle.kh_term.specs.declared.tree.TermTree.{TermTree, out-TermTree}
use Rattle.kh_term.specs.declared.tree.TermTree.TheVariants as tree
use Rattle.kh_term.specs.declared.tree.TermTree.TheVariants.{rolls-Bin, rolls-Nil, rolls-List}
use Rattle.kh_term.specs.declared.tree.TermTree.TheFolds.{para-roll-TermTree}
use Rattle.kh_term.specs.declared.tree.TermTree.TheOpen.{TermTree-F}
use Rattle.kh_term.specs.declared.tree.TermTree.TheOpen as layer
use Rattle.kh_term.specs.declared.tree.TermTree.TheViews.{roll-TermTree, roll-out-TermTree}
use Rattle.kh_heap.specs.Heap.{cons_tree}
use Rattle.kh_bif_base.proofs.Seen.{more_on, last_on, cons_is}
use Rattle.kh_bif_data.specs.Iolists.{Found, iolist, iolist_step, joined, piece_of, pieces}

-- a term beside its bytes
abbrev pub found : TermTree → Found
found t = (t, iolist t)

pub iolist-Bin : (bytes : List ℕ) → iolist (tree.Bin bytes) ≡ Some bytes
iolist-Bin bytes = ap iolist (sym (rolls-Bin bytes)) ∙ para-roll-TermTree (Option (List ℕ)) iolist_step (layer.Bin bytes)

pub iolist-Nil : iolist tree.Nil ≡ Some []
iolist-Nil = ap iolist (sym rolls-Nil) ∙ para-roll-TermTree (Option (List ℕ)) iolist_step layer.Nil

pub iolist-List : (parts : List TermTree) (tail : TermTree) → iolist (tree.List parts tail) ≡ pieces (map found parts) (iolist tail)
iolist-List parts tail = ap iolist (sym (rolls-List parts tail)) ∙ para-roll-TermTree (Option (List ℕ)) iolist_step (layer.List parts tail)

back : (t : TermTree) (parts : List TermTree) (tail : TermTree) → out-TermTree t ≡ layer.List parts tail → t ≡ tree.List parts tail
back t parts tail e = sym (roll-out-TermTree t) ∙ ap roll-TermTree e ∙ rolls-List parts tail

behind : (t : TermTree) (l : TermTree-F TermTree) → out-TermTree t ≡ l → pieces (map found (more_on l)) (iolist (last_on l t)) ≡ iolist t
behind t (layer.List parts tail) e = sym (ap iolist (back t parts tail e) ∙ iolist-List parts tail)
behind t l e = refl

-- the bytes of the head, and then those of the tail
pub iolist-cons : (h t : TermTree) → iolist (cons_tree h t) ≡ joined (piece_of h) (iolist t)
iolist-cons h t =
    ap iolist (cons_is h t) ∙ iolist-List (h ∷ more_on (out-TermTree t)) (last_on (out-TermTree t) t)
    ∙ ap (joined (piece_of h)) (behind t (out-TermTree t) refl)
