-- What judging a component finds.
use Rattle.std.proofs.Common.{◌≡◌, ◌↔◌, ℕ, suc, ◌+◌, ◌<◌, ◌≤◌, ◌&&◌, Bool, true, false, List, [], ◌∷◌, length, drop, map, sum, get_or, Option, Some, None, IsTrue, inl, inr, refl, ap, sym, ◌∙◌, add-one, drop-cons, take, take_all, arith}
use Rattle.std.proofs.lemmas.Bool.{and_parts}
use Rattle.std.specs.FinMap.{contains_key}
use Rattle.std.specs.List.{list_all}
use Rattle.std.specs.Option.{is_none}
use Rattle.kh_cond.specs.declared.cond.Cond.{Cond}
use Rattle.kh_cond.specs.declared.cond.Regex.{Regex}
use Rattle.kh_cond.specs.Holds.{Search, is_found}
use Rattle.kh_cond.specs.Texts.{lacking}
use Rattle.kh_term.specs.Lemmas.Fits.{sum-cons}
use Rattle.kh_term.specs.declared.name.Name.{Name}
use Rattle.kh_term.specs.declared.view.NodeView.{NodeView}
use Rattle.kh_tree.specs.Nodes.{Nodes}
use Rattle.kh_tree.proofs.Paths.{both_true, never}
use Rattle.kh_walk.specs.Rows.{AreNodes, IsFound, IsSeen}
use Rattle.kh_walk.specs.Takes.{joined}
use Rattle.kh_walk.proofs.Orders.{eq_or_less}

-- a view that was made is that of the node
pub seen_is : (made view : Option NodeView) → IsSeen made view → is_none made ≡ false → made ≡ view
seen_is None view s e = never e
seen_is (Some v) view s e = s

-- a node stands at the path itself
pub whole_node : {S : Type 0} (m : Nodes S) (path : List Name) → AreNodes m path → contains_key m path ≡ true
whole_node m path nodes = ap (contains_key m) (sym (take_all (length path) path (omega arith))) ∙ nodes (length path)

module _ (search : Search) (rows : List (List Bool)) (path : List Name) (i : ℕ) (regex : Regex) (at : ℕ) (b : Bool)
    (is : b ≡ (get_or (get_or rows at []) i false && is_found search regex (joined (drop at path)))) where
  -- it is found behind a front
  pub found_here : b ≡ true → at < length path → IsFound search rows path i regex
  found_here so fits =
      let parts = and_parts (get_or (get_or rows at []) i false) (is_found search regex (joined (drop at path))) (sym is ∙ so) in
      record { at = at; within = fits; marked = parts.0; found = parts.1 }

  pub found_so : b ≡ true → at < length path → IsTrue true ↔ IsFound search rows path i regex
  found_so so fits = (λ _. found_here so fits, λ _. refl)

  -- or behind none up to it
  pub none_more : b ≡ false → ((f : IsFound search rows path i regex) → f.at < at → ⊥) → (f : IsFound search rows path i regex) → f.at < at + 1 → ⊥
  none_more off before f h = elim (eq_or_less f.at at (omega (arith, h))) [
    | inl less ↦ before f less
    | inr e ↦ never (sym (is ∙ both_true (ap (λ n. get_or (get_or rows n []) i false) (sym e) ∙ f.marked) (ap (λ n. is_found search regex (joined (drop n path))) (sym e) ∙ f.found)) ∙ off)
  ]

-- it is found nowhere where it isn't found behind any front
pub found_nowhere : (search : Search) (rows : List (List Bool)) (path : List Name) (i : ℕ) (regex : Regex) (end : ℕ)
    → length path ≤ end → ((f : IsFound search rows path i regex) → f.at < end → ⊥) → IsTrue false ↔ IsFound search rows path i regex
found_nowhere search rows path i regex end long none = (λ off. never (sym off), λ f. absurd (none f (let w = f.within in omega (arith, w, long))))

-- conditions, and those behind one that holds
pub all_next : {A : Type 0} (f : A → Bool) (xs : List A) (i : ℕ) (x : A) → i < length xs → x ≡ get_or xs i x → f x ≡ true → list_all f (drop i xs) ≡ list_all f (drop (i + 1) xs)
all_next f xs i x h e holds =
    let first : f (get_or xs i x) ≡ true = ap f (sym e) ∙ holds in
    rw (add-one i, drop-cons xs i x h) (rw first refl)

pub lacking_next : (known : List (List ℕ)) (xs : List Cond) (i : ℕ) (d : Cond) → i < length xs
    → sum (map (lacking known) (drop i xs)) ≡ lacking known (get_or xs i d) + sum (map (lacking known) (drop (i + 1) xs))
lacking_next known xs i d h = rw (add-one i, drop-cons xs i d h) (sum-cons (lacking known (get_or xs i d)) (map (lacking known) (drop (suc i) xs)))

pub lacking_here : (known : List (List ℕ)) (xs : List Cond) (i : ℕ) (x : Cond) → i < length xs → x ≡ get_or xs i x → sum (map (lacking known) (drop i xs)) ≡ 0 → lacking known x ≡ 0
lacking_here known xs i x h is none =
    let n = lacking_next known xs i x h in
    let here : lacking known (get_or xs i x) ≡ 0 = omega (arith, n, none) in
    ap (lacking known) is ∙ here
