-- What kh_term says of trees and their parts.
use Rattle.std.proofs.Common.{◌≡◌, ℕ, Bool, true, false, if◌then◌else◌, List, [], ◌∷◌, Option, Some, None, refl, ◌∙◌, subst}
use Rattle.kh_term.specs.declared.tree.TermTree.{TermTree, out-TermTree}
use Rattle.kh_term.specs.declared.tree.TermTree.TheVariants.{rolls-List, rolls-Tuple}
use Rattle.kh_term.specs.declared.tree.TermTree.TheOpen.{TermTree-F}
use Rattle.kh_term.specs.declared.tree.TermTree.TheOpen as layer
use Rattle.kh_term.specs.WellFormed.{IsTerm, AreTerms}
use Rattle.kh_term.specs.Lemmas.Total.{layered}
use Rattle.kh_term.specs.Lemmas.Fits.{part_of, parts_of_tuple, parts_of_list, tail_of_list, fits_front, fits_behind}
use Rattle.kh_term.proofs.Layers.{nils}
use Rattle.kh_instr.specs.Operands.{items_of, items_in, ended_by, parts_of, parts_in, tagged, tagged_in, behind, behind_word, atom_of, is_word}

pub ruleset layers = (nils)

pub ruleset parts = (part_of, parts_of_tuple, parts_of_list, tail_of_list, fits_front, fits_behind)

pub ruleset trees = (layers, parts)

-- ---- what is found in a term is a term

ended : (xs : List TermTree) (l : TermTree-F TermTree) (items : List TermTree) → ended_by xs l ≡ Some items → xs ≡ items
ended xs layer.Nil items e = cc
ended xs l items e = absurd (cc)

pub items_fit : (t : TermTree) (items : List TermTree) → IsTerm t → items_of t ≡ Some items → AreTerms items
items_fit t items h e = go (out-TermTree t) refl e
  where
    go : (l : TermTree-F TermTree) → out-TermTree t ≡ l → items_in l ≡ Some items → AreTerms items
    go layer.Nil k f = let same : [] ≡ items = cc in subst AreTerms same refl
    go (layer.List xs tail) k f =
        subst AreTerms (ended xs (out-TermTree tail) items f) (parts_of_list xs tail (subst IsTerm (layered t _ k ∙ rolls-List xs tail) h))
    go l k f = absurd (cc)

pub parts_fit : (t : TermTree) (parts : List TermTree) → IsTerm t → parts_of t ≡ Some parts → AreTerms parts
parts_fit t parts h e = go (out-TermTree t) refl e
  where
    go : (l : TermTree-F TermTree) → out-TermTree t ≡ l → parts_in l ≡ Some parts → AreTerms parts
    go (layer.Tuple xs) k f =
        let same : xs ≡ parts = cc in subst AreTerms same (parts_of_tuple xs (subst IsTerm (layered t _ k ∙ rolls-Tuple xs) h))
    go l k f = absurd (cc)

behind_one : (word : List ℕ) (text : Option (List ℕ)) (part u : TermTree) → behind_word word text part ≡ Some u → part ≡ u
behind_one word None part u e = absurd (cc)
behind_one word (Some text) part u e = go (is_word word (Some text)) e
  where
    go : (b : Bool) → (if b then Some part else None) ≡ Some u → part ≡ u
    go true f = cc
    go false f = absurd (cc)

behind_fits : (word : List ℕ) (parts : List TermTree) (u : TermTree) → AreTerms parts → behind word parts ≡ Some u → IsTerm u
behind_fits word (first ∷ part ∷ []) u h e = subst IsTerm (behind_one word (atom_of first) part u e) (fits_front part [] (fits_behind first (part ∷ []) h))
behind_fits word parts u h e = absurd (cc)

pub tagged_fits : (word : List ℕ) (t u : TermTree) → IsTerm t → tagged word t ≡ Some u → IsTerm u
tagged_fits word t u h e = go (parts_of t) refl e
  where
    go : (o : Option (List TermTree)) → parts_of t ≡ o → tagged_in word o ≡ Some u → IsTerm u
    go None k f = absurd (cc)
    go (Some parts) k f = behind_fits word parts u (parts_fit t parts h k) f

pub ruleset items = (items_fit, parts_fit, tagged_fits)
