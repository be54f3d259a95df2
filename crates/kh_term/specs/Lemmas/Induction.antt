-- Induction over terms, variant by variant.
use Rattle.std.proofs.Common.{◌≡◌, ℕ, List, [], ◌∷◌, map, sym, subst, ℤ}
use Rattle.kh_term.specs.declared.name.Origin.{Origin}
use Rattle.kh_term.specs.declared.tree.TermTree.{TermTree}
use Rattle.kh_term.specs.declared.tree.TermTree.TheVariants as tree
use Rattle.kh_term.specs.declared.tree.TermTree.TheVariants.{rolls-Int, rolls-Atom, rolls-Bin, rolls-Nil, rolls-List, rolls-Tuple, rolls-Map, rolls-Closure}
use Rattle.kh_term.specs.declared.tree.TermTree.TheViews.{roll-TermTree}
use Rattle.kh_term.specs.declared.tree.TermTree.TheOpen.{TermTree-F}
use Rattle.kh_term.specs.declared.tree.TermTree.TheOpen as layer
use Rattle.kh_term.specs.declared.tree.TermTree.TheFolds.{ind-TermTree, map-TermTree}

-- P of each element
abbrev pub Each : {A : Type 0} → (A → Type 0) → List A → Type 0
Each P [] = Unit {0}
Each P (x ∷ xs) = P x × Each P xs

-- P of a key and of its value
abbrev pub OfBoth : (TermTree → Type 0) → TermTree × TermTree → Type 0
OfBoth P p = P p.0 × P p.1

-- What shows P of each term: each variant, where it is shown of the parts.
pub record Steps (P : TermTree → Type 0) : Type 0 where
  pub at_int : (n : ℤ) → P (tree.Int n)
  pub at_atom : (text : List ℕ) → P (tree.Atom text)
  pub at_bin : (bytes : List ℕ) → P (tree.Bin bytes)
  pub at_nil : P tree.Nil
  pub at_list : (xs : List TermTree) (t : TermTree) → Each P xs → P t → P (tree.List xs t)
  pub at_tuple : (xs : List TermTree) → Each P xs → P (tree.Tuple xs)
  pub at_map : (ps : List (TermTree × TermTree)) → Each (OfBoth P) ps → P (tree.Map ps)
  pub at_closure : (origin : Origin) (xs : List TermTree) → Each P xs → P (tree.Closure origin xs)

parts_of : (P : TermTree → Type 0) (ys : List ((t : TermTree) × P t)) → Each P (map (λ e. e.0) ys)
parts_of P [] = tt
parts_of P (y ∷ ys) = (y.1, parts_of P ys)

pairs_of : (P : TermTree → Type 0) (ys : List (((t : TermTree) × P t) × ((t : TermTree) × P t))) → Each (OfBoth P) (map (λ e. (e.0.0, e.1.0)) ys)
pairs_of P [] = tt
pairs_of P (y ∷ ys) = ((y.0.1, y.1.1), pairs_of P ys)

pub by_parts : (P : TermTree → Type 0) → Steps P → (t : TermTree) → P t
by_parts P steps = ind-TermTree P step
  where
    step : (x : TermTree-F TermTree) (y : TermTree-F ((t : TermTree) × P t)) → map-TermTree ((t : TermTree) × P t) TermTree (λ e. e.0) y ≡ x → P (roll-TermTree x)
    step x (layer.Int n) is = subst (λ z. P (roll-TermTree z)) is (subst P (sym (rolls-Int n)) (steps.at_int n))
    step x (layer.Atom text) is = subst (λ z. P (roll-TermTree z)) is (subst P (sym (rolls-Atom text)) (steps.at_atom text))
    step x (layer.Bin bytes) is = subst (λ z. P (roll-TermTree z)) is (subst P (sym (rolls-Bin bytes)) (steps.at_bin bytes))
    step x layer.Nil is = subst (λ z. P (roll-TermTree z)) is (subst P (sym rolls-Nil) steps.at_nil)
    step x (layer.List ys t) is = subst (λ z. P (roll-TermTree z)) is (subst P (sym (rolls-List _ _)) (steps.at_list _ t.0 (parts_of P ys) t.1))
    step x (layer.Tuple ys) is = subst (λ z. P (roll-TermTree z)) is (subst P (sym (rolls-Tuple _)) (steps.at_tuple _ (parts_of P ys)))
    step x (layer.Map ys) is = subst (λ z. P (roll-TermTree z)) is (subst P (sym (rolls-Map _)) (steps.at_map _ (pairs_of P ys)))
    step x (layer.Closure origin ys) is = subst (λ z. P (roll-TermTree z)) is (subst P (sym (rolls-Closure origin _)) (steps.at_closure origin _ (parts_of P ys)))
