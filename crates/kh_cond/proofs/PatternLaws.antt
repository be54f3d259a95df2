-- Why the laws of patterns hold.
use Rattle.std.proofs.Common.{◌≡◌, List, map, Some, codes, refl, ap, sym, ◌∙◌}
use Rattle.std.proofs.lemmas.Option.{same_Some}
use Rattle.kh_term.specs.Make.{list_of}
use Rattle.kh_term.specs.declared.tree.TermTree.{TermTree, out-TermTree}
use Rattle.kh_cond.specs.declared.cond.Regex.{Regex}
use Rattle.kh_cond.specs.declared.component.Component.{Component}
use Rattle.kh_cond.specs.Forms.{form}
use Rattle.kh_cond.specs.Laws.{PatternSpellsAtMostOne, ShortPatternIsSpelling}
use Rattle.kh_cond.specs.Reading.{before, component_in, each, elements_of}
use Rattle.kh_cond.specs.Short.{cond_tree, component_tree, regex_tree}
use Rattle.kh_cond.specs.Spells.{SpellsPathRegex, SpellsComponent, SpellComponents, SpellsPattern}
use Rattle.kh_cond.specs.Spells as spells
use Rattle.kh_cond.proofs.ComponentSpells.{component_complete}
use Rattle.kh_cond.proofs.LawLemmas.{cond_short, conds_short, regex_short}
use Rattle.kh_cond.proofs.PatternReads.{list_elements}

components_read : (ts : List TermTree) (cs : List Component) → SpellComponents ts cs → each component_in ts ≡ Some cs
components_read ts cs spells.end = refl
components_read ts cs (spells.next t c us ds s rest) = λ i. before (component_complete t c s i) (components_read us ds rest i)

same_elements : (t : TermTree) (ts us : List TermTree) → t ≡ list_of ts → t ≡ list_of us → ts ≡ us
same_elements t ts us e f =
    same_Some _ _ (sym (list_elements ts) ∙ (ap (λ u. elements_of (out-TermTree u)) (sym e ∙ f) ∙ list_elements us))

pub one_pattern : PatternSpellsAtMostOne
one_pattern t p q s r =
    let same : each component_in s.0 ≡ each component_in r.0 = ap (each component_in) (same_elements t s.0 r.0 s.1 r.1) in
    same_Some _ _ (sym (components_read s.0 p s.2) ∙ (same ∙ components_read r.0 q r.2))

path_short : (t : TermTree) (r : Regex) → SpellsPathRegex t r → SpellsPathRegex (form (codes "if_path_matches") (regex_tree r)) r
path_short t r (spells.short u q s) = spells.short (regex_tree q) q (regex_short u q s)
path_short t r (spells.record_spelling u q s) = spells.short (regex_tree q) q (regex_short u q s)

component_short : (t : TermTree) (c : Component) → SpellsComponent t c → SpellsComponent (component_tree c) c
component_short t c (spells.one u x s) = spells.one (cond_tree x) x (cond_short u x s)
component_short t c (spells.many u r s) = spells.many _ r (path_short u r s)
component_short t c (spells.many_all u r us cs s ss) = spells.many_all _ r (map cond_tree cs) cs (path_short u r s) (conds_short us cs ss)

components_short : (ts : List TermTree) (cs : List Component) → SpellComponents ts cs → SpellComponents (map component_tree cs) cs
components_short ts cs spells.end = spells.end
components_short ts cs (spells.next t c us ds s rest) = spells.next (component_tree c) c (map component_tree ds) ds (component_short t c s) (components_short us ds rest)

pub pattern_short : ShortPatternIsSpelling
pattern_short t q s = (map component_tree q, refl, components_short s.0 q s.2, s.3)
