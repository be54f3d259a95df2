-- What a component spells is what it is read as, and the other way round.
use Rattle.std.proofs.Common.{◌≡◌, Bool, true, List, [], ◌∷◌, codes, Option, Some, None, refl, ap, sym, subst, ◌∙◌}
use Rattle.std.proofs.lemmas.Option.{none-some, same_Some}
use Rattle.std.specs.Option.{option_map, option_or}
use Rattle.kh_term.specs.Lemmas.Fits.{parts_of_tuple, parts_of_list, fits_front, fits_behind}
use Rattle.kh_term.specs.Lemmas.Induction.{Each}
use Rattle.kh_term.specs.Lemmas.Total.{layered}
use Rattle.kh_term.specs.declared.tree.TermTree.{TermTree, out-TermTree}
use Rattle.kh_term.specs.declared.tree.TermTree.TheOpen.{TermTree-F}
use Rattle.kh_term.specs.declared.tree.TermTree.TheOpen as layer
use Rattle.kh_term.specs.declared.tree.TermTree.TheVariants as tree
use Rattle.kh_term.specs.declared.tree.TermTree.TheVariants.{outs-List, outs-Tuple, rolls-List, rolls-Tuple}
use Rattle.kh_term.specs.Make.{list_of}
use Rattle.kh_term.specs.Size.{is_nil}
use Rattle.kh_term.specs.WellFormed.{IsTerm, AreTerms}
use Rattle.kh_cond.specs.declared.cond.Regex.{Regex}
use Rattle.kh_cond.specs.declared.cond.Cond.{Cond}
use Rattle.kh_cond.specs.declared.cond.Cond.TheVariants as cond
use Rattle.kh_cond.specs.declared.component.Component.{Component}
use Rattle.kh_cond.specs.declared.component.Component.TheVariants as component
use Rattle.kh_cond.specs.declared.words.Word.{Word}
use Rattle.kh_cond.specs.declared.words.Word.TheVariants as word
use Rattle.kh_cond.specs.Forms.{form}
use Rattle.kh_cond.specs.Spells.{SpellConds, SpellsPathRegex, SpellsComponent, SpellComponents}
use Rattle.kh_cond.specs.Spells as spells
use Rattle.kh_cond.specs.Reading.{cond_in, each_in, before, word_in, is_undefined, component_in, path_regex_in, path_regex_by, path_regex_of_parts, many_all_in, many_by, many_of_elements, many_of_list, many_of_parts, many_with}
use Rattle.kh_cond.proofs.Complete.{chosen, nil_tail, regex_read, atom_read, undefined_read, form_read, record_read, list_read, cond_read, each_read}
use Rattle.kh_cond.proofs.Sound.{Sound, sound, each_sound, regex_sound, word_inverse, atom_inverse, list_shape, if_then}

-- ---- what spells is read

path_complete : (t : TermTree) (r : Regex) → SpellsPathRegex t r → path_regex_in (out-TermTree t) ≡ Some r
path_complete t r (spells.short u q s) =
    ap path_regex_in (outs-Tuple (tree.Atom (codes "if_path_matches") ∷ u ∷ []))
    ∙ ((λ i. path_regex_by (atom_read word.PathMatches i) u true) ∙ regex_read u q s)
path_complete t r (spells.record_spelling u q s) =
    ap path_regex_in (outs-Tuple (tree.Atom (codes "if_path_matches") ∷ u ∷ tree.Atom (codes "undefined") ∷ []))
    ∙ ((λ i. path_regex_by (atom_read word.PathMatches i) u (undefined_read i)) ∙ regex_read u q s)

-- a path's regular expression is no condition
path_no_cond : (t : TermTree) (r : Regex) → SpellsPathRegex t r → cond_in t ≡ None
path_no_cond t r (spells.short u q s) = form_read word.PathMatches u
path_no_cond t r (spells.record_spelling u q s) = record_read word.PathMatches u

many_complete : (t : TermTree) (r : Regex) (ts : List TermTree) (cs : List Cond) → SpellsPathRegex t r → SpellConds ts cs →
    many_all_in (out-TermTree (form (codes "if_all") (list_of (t ∷ ts)))) ≡ Some (component.ManyAll r cs)
many_complete t r ts cs s ss =
    ap many_all_in (outs-Tuple (tree.Atom (codes "if_all") ∷ list_of (t ∷ ts) ∷ []))
    ∙ ((λ i. many_by (atom_read word.All i) (list_of (t ∷ ts)))
    ∙ (ap many_of_list (outs-List (t ∷ ts) tree.Nil)
    ∙ (chosen (is_nil (out-TermTree tree.Nil)) (many_of_elements (t ∷ ts)) None nil_tail
    ∙ (λ i. many_with (path_complete t r s i) (each_read ts cs ss i)))))

many_no_cond : (t : TermTree) (r : Regex) (ts : List TermTree) → SpellsPathRegex t r → cond_in (form (codes "if_all") (list_of (t ∷ ts))) ≡ None
many_no_cond t r ts s =
    form_read word.All (list_of (t ∷ ts)) ∙ ap (option_map cond.All) (list_read (t ∷ ts) ∙ ap (λ o. before o (each_in ts)) (path_no_cond t r s))

many_no_path : (t : TermTree) → path_regex_in (out-TermTree (form (codes "if_all") t)) ≡ None
many_no_path t = ap path_regex_in (outs-Tuple (tree.Atom (codes "if_all") ∷ t ∷ [])) ∙ ap (λ o. path_regex_by o t true) (atom_read word.All)

pub component_complete : (t : TermTree) (c : Component) → SpellsComponent t c → component_in t ≡ Some c
component_complete t c (spells.one u x s) =
    ap (λ o. option_or (option_map component.One o) (option_or (option_map component.Many (path_regex_in (out-TermTree u))) (many_all_in (out-TermTree u)))) (cond_read u x s)
component_complete t c (spells.many u r s) =
    λ i. option_or (option_map component.One (path_no_cond u r s i)) (option_or (option_map component.Many (path_complete u r s i)) (many_all_in (out-TermTree u)))
component_complete t c (spells.many_all u r us cs s ss) =
    λ i. option_or (option_map component.One (many_no_cond u r us s i))
    (option_or (option_map component.Many (many_no_path (list_of (u ∷ us)) i)) (many_complete u r us cs s ss i))

-- ---- what is read spells

path_by_sound : (w t : TermTree) (r : Regex) → IsTerm t → (o : Option Word) → word_in (out-TermTree w) ≡ o → path_regex_by o t true ≡ Some r →
    SpellsPathRegex (tree.Tuple (w ∷ t ∷ [])) r
path_by_sound w t r fits (Some word.PathMatches) e h =
    subst (λ u. SpellsPathRegex (tree.Tuple (u ∷ t ∷ [])) r) (sym (word_inverse w word.PathMatches e)) (spells.short t r (regex_sound t r fits h))
path_by_sound w t r fits o e h = absurd (none-some r h)

path_record_sound : (w t last : TermTree) (r : Regex) → IsTerm t → (o : Option Word) (b : Bool) → word_in (out-TermTree w) ≡ o → is_undefined last ≡ b →
    path_regex_by o t b ≡ Some r → SpellsPathRegex (tree.Tuple (w ∷ t ∷ last ∷ [])) r
path_record_sound w t last r fits (Some word.PathMatches) true e f h =
    subst (λ u. SpellsPathRegex (tree.Tuple (u ∷ t ∷ last ∷ [])) r) (sym (word_inverse w word.PathMatches e))
    (subst (λ u. SpellsPathRegex (tree.Tuple (tree.Atom (codes "if_path_matches") ∷ t ∷ u ∷ [])) r) (sym (atom_inverse last (codes "undefined") f))
    (spells.record_spelling t r (regex_sound t r fits h)))
path_record_sound w t last r fits o b e f h = absurd (none-some r h)

path_parts_sound : (ts : List TermTree) (r : Regex) → AreTerms ts → path_regex_of_parts ts ≡ Some r → SpellsPathRegex (tree.Tuple ts) r
path_parts_sound (w ∷ t ∷ []) r fit h = path_by_sound w t r (fits_front t [] (fits_behind w (t ∷ []) fit)) (word_in (out-TermTree w)) refl h
path_parts_sound (w ∷ t ∷ last ∷ []) r fit h =
    path_record_sound w t last r (fits_front t (last ∷ []) (fits_behind w (t ∷ last ∷ []) fit)) (word_in (out-TermTree w)) (is_undefined last) refl refl h
path_parts_sound [] r fit h = absurd (none-some r h)
path_parts_sound (w ∷ []) r fit h = absurd (none-some r h)
path_parts_sound (w ∷ t ∷ last ∷ more ∷ ts) r fit h = absurd (none-some r h)

path_sound : (t : TermTree) (r : Regex) → IsTerm t → path_regex_in (out-TermTree t) ≡ Some r → SpellsPathRegex t r
path_sound t r fits h = go (out-TermTree t) refl h
  where
    go : (l : TermTree-F TermTree) → out-TermTree t ≡ l → path_regex_in l ≡ Some r → SpellsPathRegex t r
    go (layer.Tuple parts) e h =
        let is : t ≡ tree.Tuple parts = layered t _ e ∙ rolls-Tuple parts in
        subst (λ u. SpellsPathRegex u r) (sym is) (path_parts_sound parts r (parts_of_tuple parts (subst IsTerm is fits)) h)
    go l e h = absurd (none-some r h)

-- several conditions behind a path's regular expression
Begun : List TermTree → Component → Type 0
Begun ts c = (t : TermTree) × (us : List TermTree) × (r : Regex) × (cs : List Cond) × (ts ≡ t ∷ us) × SpellsPathRegex t r × SpellConds us cs × (component.ManyAll r cs ≡ c)

all_sound : (ts : List TermTree) → Each Sound ts
all_sound [] = tt
all_sound (t ∷ ts) = (sound t, all_sound ts)

elements_sound : (ts : List TermTree) (c : Component) → AreTerms ts → many_of_elements ts ≡ Some c → Begun ts c
unfolding Begun
elements_sound [] c fit h = absurd (none-some c h)
elements_sound (t ∷ ts) c fit h = go (path_regex_in (out-TermTree t)) (each_in ts) refl refl h
  where
    go : (o : Option Regex) (rest : Option (List Cond)) → path_regex_in (out-TermTree t) ≡ o → each_in ts ≡ rest → many_with o rest ≡ Some c → Begun (t ∷ ts) c
    go (Some r) (Some cs) e f h =
        (t, ts, r, cs, refl, path_sound t r (fits_front t ts fit) e, each_sound ts (all_sound ts) (fits_behind t ts fit) cs f, same_Some _ _ h)
    go (Some r) None e f h = absurd (none-some c h)
    go None rest e f h = absurd (none-some c h)

list_sound : (t : TermTree) (c : Component) → IsTerm t → many_of_list (out-TermTree t) ≡ Some c → (ts : List TermTree) × (t ≡ list_of ts) × Begun ts c
list_sound t c fits h = go (out-TermTree t) refl h
  where
    go : (l : TermTree-F TermTree) → out-TermTree t ≡ l → many_of_list l ≡ Some c → (ts : List TermTree) × (t ≡ list_of ts) × Begun ts c
    go (layer.List ts tail) e h =
        let is : t ≡ tree.List ts tail = layered t _ e ∙ rolls-List ts tail in
        let here : IsTerm (tree.List ts tail) = subst IsTerm is fits in
        let p = if_then (is_nil (out-TermTree tail)) (many_of_elements ts) c h in
        (ts, is ∙ list_shape ts tail here p.0, elements_sound ts c (parts_of_list ts tail here) p.1)
    go l e h = absurd (none-some c h)

many_by_sound : (w t : TermTree) (c : Component) → IsTerm t → (o : Option Word) → word_in (out-TermTree w) ≡ o → many_by o t ≡ Some c →
    SpellsComponent (tree.Tuple (w ∷ t ∷ [])) c
unfolding Begun
many_by_sound w t c fits (Some word.All) e h =
    let l = list_sound t c fits h in
    let b = l.2 in
    let is : t ≡ list_of (b.0 ∷ b.1) = l.1 ∙ ap list_of b.4 in
    subst (λ u. SpellsComponent (tree.Tuple (u ∷ t ∷ [])) c) (sym (word_inverse w word.All e))
    (subst (λ u. SpellsComponent (form (codes "if_all") u) c) (sym is)
    (subst (SpellsComponent (form (codes "if_all") (list_of (b.0 ∷ b.1)))) b.7 (spells.many_all b.0 b.2 b.1 b.3 b.5 b.6)))
many_by_sound w t c fits o e h = absurd (none-some c h)

many_parts_sound : (ts : List TermTree) (c : Component) → AreTerms ts → many_of_parts ts ≡ Some c → SpellsComponent (tree.Tuple ts) c
many_parts_sound (w ∷ t ∷ []) c fit h = many_by_sound w t c (fits_front t [] (fits_behind w (t ∷ []) fit)) (word_in (out-TermTree w)) refl h
many_parts_sound [] c fit h = absurd (none-some c h)
many_parts_sound (w ∷ []) c fit h = absurd (none-some c h)
many_parts_sound (w ∷ t ∷ more ∷ ts) c fit h = absurd (none-some c h)

many_sound : (t : TermTree) (c : Component) → IsTerm t → many_all_in (out-TermTree t) ≡ Some c → SpellsComponent t c
many_sound t c fits h = go (out-TermTree t) refl h
  where
    go : (l : TermTree-F TermTree) → out-TermTree t ≡ l → many_all_in l ≡ Some c → SpellsComponent t c
    go (layer.Tuple parts) e h =
        let is : t ≡ tree.Tuple parts = layered t _ e ∙ rolls-Tuple parts in
        subst (λ u. SpellsComponent u c) (sym is) (many_parts_sound parts c (parts_of_tuple parts (subst IsTerm is fits)) h)
    go l e h = absurd (none-some c h)

pub component_sound : (t : TermTree) (c : Component) → IsTerm t → component_in t ≡ Some c → SpellsComponent t c
component_sound t c fits h = go (cond_in t) (path_regex_in (out-TermTree t)) (many_all_in (out-TermTree t)) refl refl refl h
  where
    go : (o : Option Cond) (p : Option Regex) (m : Option Component) → cond_in t ≡ o → path_regex_in (out-TermTree t) ≡ p → many_all_in (out-TermTree t) ≡ m →
        option_or (option_map component.One o) (option_or (option_map component.Many p) m) ≡ Some c → SpellsComponent t c
    go (Some x) p m e f g h = subst (SpellsComponent t) (same_Some _ _ h) (spells.one t x ((sound t fits).0 x e))
    go None (Some r) m e f g h = subst (SpellsComponent t) (same_Some _ _ h) (spells.many t r (path_sound t r fits f))
    go None None m e f g h = many_sound t c fits (g ∙ h)

-- where none is read, none is spelled
pub component_none : (t : TermTree) → component_in t ≡ None → (c : Component) → SpellsComponent t c → ⊥
component_none t e c s = none-some c (sym e ∙ component_complete t c s)
