-- Components read one after another, and the elements of a list.
use Rattle.std.proofs.Common.{◌≡◌, ◌<◌, ◌+◌, ℕ, List, [], ◌∷◌, ◌++◌, length, get_or, take, Some, None, IfSome, slice_get, refl, ap, sym, subst, ◌∙◌, inl, inr}
use Rattle.std.proofs.lemmas.List.{take_more}
use Rattle.std.proofs.lemmas.Option.{none-some, same_Some, slice_get-get_or}
use Rattle.kh_term.specs.Lemmas.Total.{layered}
use Rattle.kh_term.specs.declared.tree.TermTree.{TermTree, out-TermTree}
use Rattle.kh_term.specs.declared.tree.TermTree.TheOpen.{TermTree-F}
use Rattle.kh_term.specs.declared.tree.TermTree.TheOpen as layer
use Rattle.kh_term.specs.declared.tree.TermTree.TheVariants as tree
use Rattle.kh_term.specs.declared.tree.TermTree.TheVariants.{outs-List, outs-Nil, rolls-List, rolls-Nil}
use Rattle.kh_term.specs.Make.{list_of}
use Rattle.kh_term.specs.Size.{is_nil}
use Rattle.kh_term.specs.WellFormed.{IsTerm}
use Rattle.kh_cond.specs.declared.component.Component.{Component}
use Rattle.kh_cond.specs.declared.error.CondError.{CondError}
use Rattle.kh_cond.specs.declared.error.CondError.TheVariants as error
use Rattle.kh_cond.specs.Faults.{BadBy, IsNoComponent, IsFaultOf}
use Rattle.kh_cond.specs.Reading.{component_in, elements_of}
use Rattle.kh_cond.specs.Spells.{SpellsComponent, SpellComponents}
use Rattle.kh_cond.specs.Spells as spells
use Rattle.kh_cond.proofs.Complete.{chosen, nil_tail}
use Rattle.kh_cond.proofs.Sound.{list_shape, if_then}
use Rattle.kh_cond.proofs.ComponentSpells.{component_none}

components_more : (ts : List TermTree) (cs : List Component) (t : TermTree) (c : Component) → SpellComponents ts cs → SpellsComponent t c →
    SpellComponents (ts ++ t ∷ []) (cs ++ c ∷ [])
components_more ts cs t c spells.end s = spells.next t c [] [] s spells.end
components_more ts cs t c (spells.next u d us ds r rest) s = spells.next u d (us ++ t ∷ []) (ds ++ c ∷ []) r (components_more us ds t c rest s)

-- one more component of a front
pub front_more : (ts : List TermTree) (i : ℕ) (t : TermTree) (c : Component) (cs : List Component) → i < length ts → t ≡ get_or ts i t →
    SpellComponents (take i ts) cs → SpellsComponent t c → SpellComponents (take (i + 1) ts) (cs ++ c ∷ [])
front_more ts i t c cs h e front s =
    subst (λ us. SpellComponents us (cs ++ c ∷ [])) (ap (λ u. take i ts ++ u ∷ []) e ∙ sym (take_more ts i t h)) (components_more (take i ts) cs t c front s)

-- the fault at a place
pub fault_at : (ts : List TermTree) (i : ℕ) (t : TermTree) (cs : List Component) → i < length ts → i < 32 → t ≡ get_or ts i t →
    SpellComponents (take i ts) cs → component_in t ≡ None → IsFaultOf ts (i + 1)
fault_at ts i t cs h small e front none =
    let got : slice_get ts i ≡ Some t = slice_get-get_or ts i t h ∙ ap Some (sym e) in
    inl (i, small, (cs, front), subst (λ o. IfSome o IsNoComponent) (sym got) (component_none t none), h, refl)

pub too_many : (ts : List TermTree) (cs : List Component) → 32 < length ts → SpellComponents (take 32 ts) cs → IsFaultOf ts 33
too_many ts cs h front = inr ((cs, front), h, refl)

-- ---- the elements of a list

pub elements_list : (t : TermTree) (ts : List TermTree) → IsTerm t → elements_of (out-TermTree t) ≡ Some ts → t ≡ list_of ts
elements_list t ts fits h = go (out-TermTree t) refl h
  where
    go : (l : TermTree-F TermTree) → out-TermTree t ≡ l → elements_of l ≡ Some ts → t ≡ list_of ts
    go layer.Nil e h = layered t _ e ∙ (rolls-Nil ∙ ap list_of (same_Some _ _ h))
    go (layer.List us tail) e h =
        let p = if_then (is_nil (out-TermTree tail)) (Some us) ts h in
        let is : t ≡ tree.List us tail = layered t _ e ∙ rolls-List us tail in
        is ∙ (list_shape us tail (subst IsTerm is fits) p.0 ∙ ap list_of (same_Some _ _ p.1))
    go l e h = absurd (none-some ts h)

pub list_elements : (ts : List TermTree) → elements_of (out-TermTree (list_of ts)) ≡ Some ts
list_elements [] = ap elements_of outs-Nil
list_elements (t ∷ ts) = ap elements_of (outs-List (t ∷ ts) tree.Nil) ∙ chosen (is_nil (out-TermTree tree.Nil)) (Some (t ∷ ts)) None nil_tail

pub no_list : (t : TermTree) → elements_of (out-TermTree t) ≡ None → (ts : List TermTree) → t ≡ list_of ts → ⊥
no_list t e ts is = none-some ts (sym e ∙ (ap (λ u. elements_of (out-TermTree u)) is ∙ list_elements ts))

-- a fault that is handed on
pub handed_on : (P Q : ℕ → Type 0) → ((n : ℕ) → P n → Q n) → (e : CondError) → BadBy e P → BadBy e Q
handed_on P Q f (error.BadCondition n) h = f n h
handed_on P Q f error.NoMemory h = tt
