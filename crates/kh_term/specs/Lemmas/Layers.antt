-- What well-formedness says of each variant.
use Rattle.std.proofs.lemmas.List.Sums.{sum-map, sum_by-drop_more}
use Rattle.std.proofs.Common.{true, false, arith, add-one, drop-cons, ◌<◌, drop, get_or, ◌≡◌, ℕ, suc, ◌+◌, ◌/◌, max, ◌&&◌, ◌||◌, Bool, nat_le, if◌then◌else◌, List, [], ◌∷◌, ◌++◌, length, map, sum, refl, ap, sym, ◌∙◌, ℤ}
use Rattle.std.specs.List.{flat_map, list_any}
use Rattle.std.specs.Int.{to_be_bytes, w32}
use Rattle.kh_term.specs.declared.name.Origin.{Origin}
use Rattle.kh_term.specs.declared.tree.TermTree.{TermTree, out-TermTree}
use Rattle.kh_term.specs.declared.tree.TermTree.TheVariants as tree
use Rattle.kh_term.specs.declared.tree.TermTree.TheVariants.{outs-Int, outs-Atom, outs-Bin, outs-Nil, outs-List, outs-Tuple, outs-Map, outs-Closure, rolls-Int, rolls-Atom, rolls-Bin, rolls-Nil, rolls-List, rolls-Tuple, rolls-Map, rolls-Closure}
use Rattle.kh_term.specs.declared.tree.TermTree.TheOpen.{TermTree-F}
use Rattle.kh_term.specs.declared.tree.TermTree.TheOpen as layer
use Rattle.kh_term.specs.declared.tree.TermTree.TheFolds.{fold-roll-TermTree, para-roll-TermTree}
use Rattle.kh_term.specs.Text.{is_atom_text, are_bytes}
use Rattle.kh_term.specs.WellFormed.{faults_of, fault_step, fault_unless, fits_128, keys_rise, is_list_of, is_origin}
use Rattle.kh_term.specs.Size.{size_of, size_step, sizes_of, pair_sizes_of, depth_of, depth_step, greatest, is_nil, width_of, width_step}
use Rattle.kh_term.specs.Limits.{holds_closure, closure_step}
use Rattle.kh_term.specs.Packed.{packed_of, packed_step, all_packed_of, pairs_packed_of, integer_len, integer_bytes, short_text, count_bytes}

-- the results beside the parts are the results of the parts
pub results : {A B : Type 0} (f : A → B) (xs : List A) → map {A = A × B} {B = B} (λ p. p.1) (map (λ y. (y, f y)) xs) ≡ map f xs
results f [] = refl
results f (x ∷ xs) = ap (λ ys. f x ∷ ys) (results f xs)

-- two maps, one after the other
pub joined : {A B C : Type 0} (f : A → B) (g : B → C) (xs : List A) → map g (map f xs) ≡ map (λ x. g (f x)) xs
joined f g [] = refl
joined f g (x ∷ xs) = ap (λ ys. g (f x) ∷ ys) (joined f g xs)

-- Whether a list with a tail is one doesn't look at what stands beside the elements.
pub list_beside : {B : Type 0} (f : TermTree → B) (xs : List TermTree) (t : TermTree) → is_list_of {A = TermTree × B} (map (λ y. (y, f y)) xs) t ≡ is_list_of xs t
list_beside f [] t = refl
list_beside f (x ∷ xs) t = refl

pub length_beside : {A B : Type 0} (f : A → B) (xs : List A) → length (map f xs) ≡ length xs
length_beside f [] = refl
length_beside f (x ∷ xs) = ap suc (length_beside f xs)

-- ---- the rules

pub faults-Int : (n : ℤ) → faults_of (tree.Int n) ≡ fault_unless (fits_128 n)
faults-Int n = ap faults_of (sym (rolls-Int n)) ∙ para-roll-TermTree ℕ fault_step (layer.Int n)

pub faults-Atom : (text : List ℕ) → faults_of (tree.Atom text) ≡ fault_unless (is_atom_text text)
faults-Atom text = ap faults_of (sym (rolls-Atom text)) ∙ para-roll-TermTree ℕ fault_step (layer.Atom text)

pub faults-Bin : (bytes : List ℕ) → faults_of (tree.Bin bytes) ≡ fault_unless (are_bytes bytes)
faults-Bin bytes = ap faults_of (sym (rolls-Bin bytes)) ∙ para-roll-TermTree ℕ fault_step (layer.Bin bytes)

pub faults-Nil : faults_of tree.Nil ≡ 0
faults-Nil = ap faults_of (sym rolls-Nil) ∙ para-roll-TermTree ℕ fault_step layer.Nil

pub faults-List : (parts : List TermTree) (tail : TermTree) → faults_of (tree.List parts tail) ≡ fault_unless (is_list_of parts tail) + sum (map faults_of parts) + faults_of tail
faults-List parts tail =
    ap faults_of (sym (rolls-List parts tail)) ∙ (para-roll-TermTree ℕ fault_step (layer.List parts tail)
    ∙ (λ i. fault_unless (list_beside faults_of parts tail i) + sum (results faults_of parts i) + faults_of tail))

pub faults-Tuple : (parts : List TermTree) → faults_of (tree.Tuple parts) ≡ sum (map faults_of parts)
faults-Tuple parts =
    ap faults_of (sym (rolls-Tuple parts)) ∙ (para-roll-TermTree ℕ fault_step (layer.Tuple parts) ∙ ap sum (results faults_of parts))

pub faults-Map : (pairs : List (TermTree × TermTree)) → faults_of (tree.Map pairs) ≡ fault_unless (keys_rise (map (λ p. p.0) pairs)) + sum (map (λ p. faults_of p.0 + faults_of p.1) pairs)
faults-Map pairs =
    ap faults_of (sym (rolls-Map pairs)) ∙ (para-roll-TermTree ℕ fault_step (layer.Map pairs)
    ∙ (λ i. fault_unless (keys_rise (joined {A = TermTree × TermTree} {B = (TermTree × ℕ) × (TermTree × ℕ)} (λ p. ((p.0, faults_of p.0), (p.1, faults_of p.1))) (λ p. p.0.0) pairs i))
    + sum (joined {A = TermTree × TermTree} {B = (TermTree × ℕ) × (TermTree × ℕ)} (λ p. ((p.0, faults_of p.0), (p.1, faults_of p.1))) (λ p. p.0.1 + p.1.1) pairs i)))

pub faults-Closure : (origin : Origin) (env : List TermTree) → faults_of (tree.Closure origin env) ≡ fault_unless (is_origin origin && nat_le (length env) origin.arity) + sum (map faults_of env)
faults-Closure origin env =
    ap faults_of (sym (rolls-Closure origin env)) ∙ (para-roll-TermTree ℕ fault_step (layer.Closure origin env)
    ∙ (λ i. fault_unless (is_origin origin && nat_le (length_beside {B = TermTree × ℕ} (λ y. (y, faults_of y)) env i) origin.arity) + sum (results faults_of env i)))
