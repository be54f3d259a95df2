-- Terms built from their parts: as far as a loop has come, and at its end.
use Rattle.std.proofs.Common.{◌≡◌, ℕ, ◌+◌, ◌*◌, ◌<◌, ◌≤◌, List, [], ◌∷◌, ◌++◌, length, take, get_or, sym, ap, ◌∙◌, arith, append_assoc}
use Rattle.std.proofs.lemmas.List.{take_more, take_all}
use Rattle.kh_term.specs.declared.tree.TermTree.{TermTree}
use Rattle.kh_term.specs.declared.tree.TermTree.TheVariants as tree
use Rattle.kh_heap.specs.Cells.{paired, onto}
use Rattle.kh_heap.specs.Heap.{cons_tree}
use Rattle.kh_heap.specs.Parts.{in_turn}
use Rattle.kh_heap.proofs.Measures.{onto-pushed}
use Rattle.kh_heap.proofs.Runs.{in_turn-pushed}
use Rattle.kh_heap.proofs.Seen.{paired-in_turn}

-- one element more of a list
pub list-pushed : (ts : List TermTree) (t first rest behind whole : TermTree) → whole ≡ onto ts rest → rest ≡ cons_tree first behind → t ≡ first → whole ≡ onto (ts ++ t ∷ []) behind
list-pushed ts t first rest behind whole so_far is e =
    let next : rest ≡ cons_tree t behind = is ∙ ap (λ x. cons_tree x behind) (sym e) in
    so_far ∙ ap (onto ts) next ∙ sym (onto-pushed ts t behind)

-- one key and one value more
pub pair-pushed : (all : List TermTree) (ps : List (TermTree × TermTree)) (i : ℕ) (k v : TermTree) → in_turn ps ≡ take (2 * i) all → 2 * i + 1 < length all
    → k ≡ get_or all (2 * i) tree.Nil → v ≡ get_or all (2 * i + 1) tree.Nil → in_turn (ps ++ (k, v) ∷ []) ≡ take (2 * (i + 1)) all
pair-pushed all ps i k v so_far l key value =
    let a = get_or all (2 * i) tree.Nil in let b = get_or all (2 * i + 1) tree.Nil in
    let first : take (2 * i + 1) all ≡ take (2 * i) all ++ a ∷ [] = take_more all (2 * i) tree.Nil (omega (arith, l)) in
    let second : take (2 * i + 1 + 1) all ≡ take (2 * i + 1) all ++ b ∷ [] = take_more all (2 * i + 1) tree.Nil l in
    let many : 2 * i + 1 + 1 ≡ 2 * (i + 1) = omega arith in
    in_turn-pushed ps k v ∙ (λ j. so_far j ++ key j ∷ value j ∷ []) ∙ sym (append_assoc (take (2 * i) all) (a ∷ []) (b ∷ []))
    ∙ ap (λ us. us ++ b ∷ []) (sym first) ∙ sym second ∙ ap (λ (n : ℕ). take n all) many

-- all parts
pub parts-whole : (all ts : List TermTree) (i : ℕ) → ts ≡ take i all → length all ≤ i → ts ≡ all
parts-whole all ts i so_far l = so_far ∙ take_all i all l

-- all keys and values, two by two
pub pairs-whole : (all : List TermTree) (ps : List (TermTree × TermTree)) (i : ℕ) → in_turn ps ≡ take (2 * i) all → length all ≤ 2 * i → ps ≡ paired all
pairs-whole all ps i so_far l = sym (paired-in_turn ps) ∙ ap paired (parts-whole all (in_turn ps) (2 * i) so_far l)
