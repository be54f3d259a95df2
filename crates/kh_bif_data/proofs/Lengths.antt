-- How many pairs there are.
use Rattle.std.proofs.Common.{◌≡◌, ℕ, suc, ◌+◌, ◌<◌, ◌≤◌, List, [], ◌∷◌, length, take, drop, refl, sym, ap, ◌∙◌, arith}
use Rattle.std.proofs.lemmas.List.{length-map, length-append, length-take, length-drop}
use Rattle.std.specs.BTreeMap.{insert_entry}
use Rattle.std.specs.List as lists
use Rattle.std.specs.Ordering.{match_ordering}
use Rattle.std.specs.declared.cmp.Ordering.{Ordering}
use Rattle.std.specs.declared.cmp.Ordering.TheVariants.{Less, Equal, Greater}
use Rattle.kh_term.specs.declared.tree.TermTree.{TermTree}
use Rattle.kh_term.specs.MapOf.{map_of, map_with}
use Rattle.kh_term.specs.Order.{term_cmp}
use Rattle.kh_heap.specs.Heap.{pairs_at}
use Rattle.kh_bif_data.proofs.Merged.{shown}
use Rattle.kh_bif_data.proofs.Ordered.{Pairs}

put_step : (p : TermTree × TermTree) (ps : Pairs) (key value : TermTree) (o : Ordering) → length (insert_entry term_cmp ps key value) ≤ length ps + 1
    → length (match_ordering o ((key, value) ∷ p ∷ ps) ((p.0, value) ∷ ps) (p ∷ insert_entry term_cmp ps key value)) ≤ length (p ∷ ps) + 1
put_step p ps key value Less h = omega arith
put_step p ps key value Equal h = omega arith
put_step p ps key value Greater h = omega (arith, h)

pub put_length : (ps : Pairs) (key value : TermTree) → length (insert_entry term_cmp ps key value) ≤ length ps + 1
put_length [] key value = omega arith
put_length (p ∷ ps) key value = put_step p ps key value (term_cmp key p.0) (put_length ps key value)

pub with_length : (ps qs : Pairs) → length (map_with ps qs) ≤ length ps + length qs
with_length ps [] = omega arith
with_length ps (q ∷ qs) = omega (arith, put_length ps q.0 q.1, with_length (insert_entry term_cmp ps q.0 q.1) qs)

pub of_length : (qs : Pairs) → length (map_of qs) ≤ length qs
of_length qs = omega (arith, with_length [] qs)

pub removed_length : {A : Type 0} (xs : List A) (i : ℕ) → i < length xs → length (lists.remove xs i) + 1 ≡ length xs
removed_length xs i l = omega (arith, length-append (take i xs) (drop (suc i) xs), length-take i xs, length-drop (suc i) xs)

-- as many as there are references
pub shown_length : (heap : List TermTree) (rs : List (ℕ × ℕ)) (ps : Pairs) → pairs_at heap rs ≡ ps → length rs ≡ length ps
shown_length heap rs ps e = sym (length-map rs (shown heap)) ∙ ap length e
