-- Paths: when two are the same, and their fronts.
use Rattle.std.proofs.Common.{◌≡◌, ◌≢◌, ◌<◌, ◌≤◌, ◌+◌, ◌-◌, ◌&&◌, ◌⊎◌, Bool, true, false, cond, ℕ, zero, suc, List, [], ◌∷◌, length, take, nat_eq, nat_le, inl, inr, refl, ap, sym, subst, ◌∙◌, arith}
use Rattle.std.proofs.Math.Seq.{take-length}
use Rattle.std.proofs.lemmas.Bool.{cases_Bool, and_parts, eqb-true, eq-eqb}
use Rattle.std.proofs.lemmas.List.{length-take-le, take_all}
use Rattle.std.proofs.lemmas.Cmp.{tied_itself}
use Rattle.std.specs.FinMap.{IsAntisymmetric, slice_cmp-IsAntisymmetric}
use Rattle.std.specs.Ordering.{is_eq}
use Rattle.kh_term.specs.declared.name.Name.{Name}
use Rattle.kh_term.specs.Lemmas.Alike.{names, is_equal}
use Rattle.kh_term.specs.Name.{name_cmp, path_cmp, path_total}
use Rattle.kh_tree.specs.Nodes.{same_path, begins, is_child, parent}

-- paths that compare equal are one path
pub exact : IsAntisymmetric path_cmp
exact = slice_cmp-IsAntisymmetric (λ m n e. names m n e)

pub same_is : (p q : List Name) → same_path p q ≡ true → p ≡ q
same_is p q h = exact p q (is_equal (path_cmp p q) h)

pub same_itself : (p : List Name) → same_path p p ≡ true
same_itself p = ap is_eq (tied_itself path_total p)

pub is_same : (p q : List Name) → p ≡ q → same_path p q ≡ true
is_same p q e = subst (λ x. same_path p x ≡ true) e (same_itself p)

pub never : {A : Type 0} → true ≡ false → A
never e = absurd (cc)

-- what isn't true is false
pub is_false : (b : Bool) → (b ≡ true → ⊥) → b ≡ false
is_false true no_way = absurd (no_way refl)
is_false false no_way = refl

pub apart : (p q : List Name) → p ≢ q → same_path p q ≡ false
apart p q differs = is_false (same_path p q) (λ same. differs (same_is p q same))

pub take_take : {A : Type 0} (a b : ℕ) (l : List A) → a ≤ b → take a (take b l) ≡ take a l
take_take zero b l h = refl
take_take (suc a) zero l h = absurd (omega (arith, h))
take_take (suc a) (suc b) [] h = refl
take_take (suc a) (suc b) (x ∷ l) h = ap (λ r. x ∷ r) (take_take a b l (omega (arith, h)))

-- two numbers: the first is at most the second, or greater
pub order : (a b : ℕ) → (a ≤ b) ⊎ (b < a)
order zero b = inl (omega arith)
order (suc a) zero = inr (omega arith)
order (suc a) (suc b) = elim (order a b) [ inl h ↦ inl (omega (arith, h)) | inr h ↦ inr (omega (arith, h)) ]

module _ (p : List Name) where
  pub length_parent : length (parent p) ≡ length p - 1
  length_parent = length-take-le (length p - 1) p (omega arith)

  -- a path that has a name isn't its parent
  pub parent_differs : 0 < length p → p ≢ parent p
  parent_differs some e = let shorter = length_parent in let same = ap length e in omega (arith, some, shorter, same)

  -- the front with one name more than the parent is the path
  pub next_of_parent : 0 < length p → take (length (parent p) + 1) p ≡ p
  next_of_parent some = let shorter = length_parent in take_all (length (parent p) + 1) p (omega (arith, some, shorter))

  pub begins_parent : begins (parent p) p ≡ true
  begins_parent = is_same (parent p) (take (length (parent p)) p) (sym (ap (λ n. take n p) length_parent))

  -- fronts of the parent are those of the path
  pub front_of_parent : (k : ℕ) → k ≤ length p - 1 → take k (parent p) ≡ take k p
  front_of_parent k h = take_take k (length p - 1) p h

module _ (p q : List Name) where
  pub begins_is : begins p q ≡ true → p ≡ take (length p) q
  begins_is h = same_is p (take (length p) q) h

  -- what begins a path and is another is shorter
  pub shorter : begins p q ≡ true → p ≢ q → length p < length q
  shorter h differs =
      elim (order (length q) (length p)) [
        | inl long ↦ absurd (differs (begins_is h ∙ take_all (length p) q long))
        | inr short ↦ short
      ]

  -- a child's path without its last name
  pub parent_of_child : is_child p q ≡ true → parent q ≡ p
  parent_of_child h =
      let parts = and_parts (begins p q) (nat_eq (length q) (length p + 1)) h in
      let long : length q ≡ length p + 1 = eqb-true (length q) (length p + 1) parts.1 in
      let one : length q - 1 ≡ length p = omega (arith, long) in
      ap (λ n. take n q) one ∙ sym (begins_is parts.0)

pub both_true : {a b : Bool} → a ≡ true → b ≡ true → (a && b) ≡ true
both_true {a} {b} e f = ap (λ x. x && b) e ∙ f

-- a path is a child of its parent
pub child_of_parent : (q : List Name) → 0 < length q → is_child (parent q) q ≡ true
child_of_parent q some =
    let shorter = length_parent q in
    let long : length q ≡ length (parent q) + 1 = omega (arith, some, shorter) in
    both_true (begins_parent q) (eq-eqb (length q) (length (parent q) + 1) long)

-- and of no other path
pub child_test : (p q : List Name) → 0 < length q → is_child p q ≡ same_path p (parent q)
child_test p q some =
    elim (cases_Bool (same_path p (parent q))) [
      | inl same ↦ subst (λ x. is_child x q ≡ true) (sym (same_is p (parent q) same)) (child_of_parent q some) ∙ sym same
      | inr other ↦ is_false (is_child p q) (λ child. never (sym (is_same p (parent q) (sym (parent_of_child p q child))) ∙ other)) ∙ sym other
    ]

-- no path is a child of itself
pub not_own : (p : List Name) → is_child p p ≡ false
not_own p =
    is_false (is_child p p) (λ child.
    let long : length p ≡ length p + 1 = eqb-true (length p) (length p + 1) (and_parts (begins p p) (nat_eq (length p) (length p + 1)) child).1 in
    omega (arith, long))
