-- What matching says of each kind of pattern.
use Rattle.std.proofs.Common.{◌≡◌, ℕ, suc, ◌||◌, Bool, List, [], ◌∷◌, length, map, codes, refl, ap, sym, ◌∙◌, ℤ}
use Rattle.std.specs.Str.{bytes_eq}
use Rattle.kh_term.specs.declared.name.Origin.{Origin}
use Rattle.kh_term.specs.declared.tree.TermTree.{TermTree, out-TermTree}
use Rattle.kh_term.specs.declared.tree.TermTree.TheVariants as tree
use Rattle.kh_term.specs.declared.tree.TermTree.TheVariants.{rolls-Int, rolls-Atom, rolls-Bin, rolls-Nil, rolls-List, rolls-Tuple, rolls-Map, rolls-Closure}
use Rattle.kh_term.specs.declared.tree.TermTree.TheOpen as layer
use Rattle.kh_term.specs.declared.tree.TermTree.TheFolds.{para-roll-TermTree}
use Rattle.kh_cond.specs.Matching.{matches_data, matched, matched_pair, match_step, int_match, text_match, bin_match, nil_match, list_match, tuple_match, map_match, closure_match}

-- the terms beside the results are the terms
terms_of : {B : Type 0} (f : TermTree → B) (xs : List TermTree) → map {A = TermTree × B} {B = TermTree} (λ p. p.0) (map (λ y. (y, f y)) xs) ≡ xs
terms_of f [] = refl
terms_of f (x ∷ xs) = ap (λ ys. x ∷ ys) (terms_of f xs)

pub matches-Int : (n : ℤ) (whole : TermTree) → matches_data (tree.Int n) whole ≡ int_match n (out-TermTree whole)
matches-Int n whole = (λ i. matches_data (sym (rolls-Int n) i) whole) ∙ (λ i. para-roll-TermTree (TermTree → Bool) match_step (layer.Int n) i whole)

pub matches-Atom : (text : List ℕ) (whole : TermTree) → matches_data (tree.Atom text) whole ≡ (bytes_eq text (codes "_") || text_match text (out-TermTree whole))
matches-Atom text whole = (λ i. matches_data (sym (rolls-Atom text) i) whole) ∙ (λ i. para-roll-TermTree (TermTree → Bool) match_step (layer.Atom text) i whole)

pub matches-Bin : (bytes : List ℕ) (whole : TermTree) → matches_data (tree.Bin bytes) whole ≡ bin_match bytes (out-TermTree whole)
matches-Bin bytes whole = (λ i. matches_data (sym (rolls-Bin bytes) i) whole) ∙ (λ i. para-roll-TermTree (TermTree → Bool) match_step (layer.Bin bytes) i whole)

pub matches-Nil : (whole : TermTree) → matches_data tree.Nil whole ≡ nil_match (out-TermTree whole)
matches-Nil whole = (λ i. matches_data (sym rolls-Nil i) whole) ∙ (λ i. para-roll-TermTree (TermTree → Bool) match_step layer.Nil i whole)

pub matches-List : (ps : List TermTree) (tail whole : TermTree) → matches_data (tree.List ps tail) whole ≡ list_match (map matched ps) (matched tail) (out-TermTree whole)
matches-List ps tail whole = (λ i. matches_data (sym (rolls-List ps tail) i) whole) ∙ (λ i. para-roll-TermTree (TermTree → Bool) match_step (layer.List ps tail) i whole)

pub matches-Tuple : (ps : List TermTree) (whole : TermTree) → matches_data (tree.Tuple ps) whole ≡ tuple_match (map matched ps) (out-TermTree whole)
matches-Tuple ps whole = (λ i. matches_data (sym (rolls-Tuple ps) i) whole) ∙ (λ i. para-roll-TermTree (TermTree → Bool) match_step (layer.Tuple ps) i whole)

pub matches-Map : (ps : List (TermTree × TermTree)) (whole : TermTree) → matches_data (tree.Map ps) whole ≡ map_match (map matched_pair ps) (out-TermTree whole)
matches-Map ps whole = (λ i. matches_data (sym (rolls-Map ps) i) whole) ∙ (λ i. para-roll-TermTree (TermTree → Bool) match_step (layer.Map ps) i whole)

pub matches-Closure : (origin : Origin) (env : List TermTree) (whole : TermTree) → matches_data (tree.Closure origin env) whole ≡ closure_match origin env whole
matches-Closure origin env whole =
    (λ i. matches_data (sym (rolls-Closure origin env) i) whole)
    ∙ ((λ i. para-roll-TermTree (TermTree → Bool) match_step (layer.Closure origin env) i whole)
    ∙ (λ i. closure_match origin (terms_of matches_data env i) whole))

pub length_matched : (ps : List TermTree) → length (map matched ps) ≡ length ps
length_matched [] = refl
length_matched (p ∷ ps) = ap suc (length_matched ps)

pub length_matched_pairs : (ps : List (TermTree × TermTree)) → length (map matched_pair ps) ≡ length ps
length_matched_pairs [] = refl
length_matched_pairs (p ∷ ps) = ap suc (length_matched_pairs ps)

pub ruleset matching = (matches-Int, matches-Atom, matches-Bin, matches-Nil, matches-List, matches-Tuple, matches-Map, matches-Closure, length_matched, length_matched_pairs)
