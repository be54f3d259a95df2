-- The order of paths, and their fronts.
use Rattle.std.proofs.Common.{◌≡◌, ◌⊎◌, inl, inr, ℕ, zero, suc, ◌+◌, ◌<◌, ◌≤◌, ◌&&◌, Bool, true, false, List, [], ◌∷◌, length, take, refl, ap, sym, subst, ◌∙◌, arith}
use Rattle.std.proofs.lemmas.Cmp.{tied_itself}
use Rattle.std.specs.declared.cmp.Ordering.{Ordering}
use Rattle.std.specs.declared.cmp.Ordering.TheVariants.{Less, Equal, Greater}
use Rattle.std.specs.Cmp.{IsTotalOrder}
use Rattle.std.specs.Cmp.Lexicographic.{pointwise}
use Rattle.std.specs.Ordering.{eq_by_cmp, is_eq, ordering_then, ordering_reverse}
use Rattle.kh_term.specs.declared.name.Name.{Name}
use Rattle.kh_term.specs.Lemmas.Alike.{names}
use Rattle.kh_term.specs.Name.{name_cmp, name_total, path_cmp, path_total}
use Rattle.kh_tree.specs.Nodes.{same_path}
use Rattle.kh_tree.proofs.Paths.{exact}

-- a number that is at most another is less or the same
pub eq_or_less : (a b : ℕ) → a ≤ b → (a < b) ⊎ (a ≡ b)
eq_or_less zero zero e = inr refl
eq_or_less zero (suc b) e = inl (omega arith)
eq_or_less (suc a) zero e = absurd (omega (arith, e))
eq_or_less (suc a) (suc b) e = elim (eq_or_less a b (omega (arith, e))) [ inl f ↦ inl (omega (arith, f)) | inr f ↦ inr (ap suc f) ]

-- what is before another isn't behind it
pub not_both : (p q : List Name) → path_cmp p q ≡ Less → path_cmp q p ≡ Less → ⊥
not_both p q e f = let g : path_cmp p q ≡ ordering_reverse (path_cmp q p) = path_total.antisymm p q in turned (path_cmp q p) f (sym g ∙ e) where
  turned : (r : Ordering) → r ≡ Less → ordering_reverse r ≡ Less → ⊥
  turned Less a b = cc
  turned Equal a b = cc
  turned Greater a b = cc

tied : (s t : Name) → s ≡ t → name_cmp s t ≡ Equal
tied s t e = subst (λ z. name_cmp s z ≡ Equal) e (tied_itself name_total s)

-- one name of a front more
between_more : (n : Name) (p : List Name) (k : Name) (x : List Name) (l : Name) (y : List Name) → l ≡ n
    → (ordering_then (name_cmp k n) (path_cmp x p) ≡ Less → ⊥) → (ordering_then (name_cmp l k) (path_cmp y x) ≡ Less → ⊥)
    → ((path_cmp x p ≡ Less → ⊥) → (path_cmp y x ≡ Less → ⊥) → take (length p) x ≡ p)
    → (r : Ordering) → name_cmp k n ≡ r → k ∷ take (length p) x ≡ n ∷ p
between_more n p k x l y first a b more Less e = absurd (a (ap (λ r. ordering_then r (path_cmp x p)) e))
between_more n p k x l y first a b more Equal e =
    let same : k ≡ n = names k n e in
    let rest : take (length p) x ≡ p =
    more (λ h. a (ap (λ r. ordering_then r (path_cmp x p)) e ∙ h)) (λ h. b (ap (λ r. ordering_then r (path_cmp y x)) (tied l k (first ∙ sym same)) ∙ h)) in
    λ i. same i ∷ rest i
between_more n p k x l y first a b more Greater e =
    let turned : name_cmp n k ≡ Less = name_total.antisymm n k ∙ ap ordering_reverse e in
    absurd (b (ap (λ r. ordering_then r (path_cmp y x)) (ap (λ z. name_cmp z k) first ∙ turned)))

-- The order of paths goes by the first difference, so a path between a front and a path that begins with it begins with it too.
pub between : (p x y : List Name) → (path_cmp x p ≡ Less → ⊥) → (path_cmp y x ≡ Less → ⊥) → take (length p) y ≡ p → take (length p) x ≡ p
between [] x y a b is = refl
between (n ∷ p) [] y a b is = absurd (a refl)
between (n ∷ p) (k ∷ x) [] a b is = absurd (cc)
between (n ∷ p) (k ∷ x) (l ∷ y) a b is =
    let first : l ≡ n = cc in
    let rest : take (length p) y ≡ p = cc in
    between_more n p k x l y first a b (λ f g. between p x y f g rest) (name_cmp k n) refl

-- a path that begins with another isn't before it
pub not_before : (p x : List Name) → take (length p) x ≡ p → path_cmp x p ≡ Less → ⊥
not_before [] [] is e = cc
not_before [] (k ∷ x) is e = cc
not_before (n ∷ p) [] is e = cc
not_before (n ∷ p) (k ∷ x) is e =
    let same : k ≡ n = cc in
    let rest : take (length p) x ≡ p = cc in
    let tied : name_cmp k n ≡ Equal = subst (λ z. name_cmp k z ≡ Equal) same (tied_itself name_total k) in
    not_before p x rest (sym (ap (λ r. ordering_then r (path_cmp x p)) tied) ∙ e)

-- and is behind it where it has more names
pub behind_front : (p x : List Name) → take (length p) x ≡ p → length p < length x → path_cmp p x ≡ Less
behind_front [] [] is h = absurd (omega (arith, h))
behind_front [] (k ∷ x) is h = refl
behind_front (n ∷ p) [] is h = absurd (omega (arith, h))
behind_front (n ∷ p) (k ∷ x) is h =
    let same : n ≡ k = cc in
    let rest : take (length p) x ≡ p = cc in
    let tied : name_cmp n k ≡ Equal = subst (λ z. name_cmp n z ≡ Equal) same (tied_itself name_total n) in
    ap (λ r. ordering_then r (path_cmp p x)) tied ∙ behind_front p x rest (omega (arith, h))

-- of two paths one is before the other, or they are the same
pub by_order : {A : Type 0} (p q : List Name) → (path_cmp p q ≡ Less → A) → (p ≡ q → A) → (path_cmp q p ≡ Less → A) → A
by_order {A} p q less same greater = chosen (path_cmp p q) refl where
  chosen : (r : Ordering) → path_cmp p q ≡ r → A
  chosen Less e = less e
  chosen Equal e = same (exact p q e)
  chosen Greater e = greater (path_total.antisymm q p ∙ ap ordering_reverse e)

-- names are the same one by one where they compare equal
pub same_names : (p x : List Name) → pointwise (eq_by_cmp name_cmp) p x ≡ same_path p x
same_names [] [] = refl
same_names [] (k ∷ x) = refl
same_names (n ∷ p) [] = refl
same_names (n ∷ p) (k ∷ x) = by_first (name_cmp n k) (same_names p x) where
  by_first : (r : Ordering) → pointwise (eq_by_cmp name_cmp) p x ≡ same_path p x → (is_eq r && pointwise (eq_by_cmp name_cmp) p x) ≡ is_eq (ordering_then r (path_cmp p x))
  by_first Less e = refl
  by_first Equal e = e
  by_first Greater e = refl
