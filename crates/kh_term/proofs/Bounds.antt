-- Depth is at most size, and size at most twice the packed length.
use Rattle.std.proofs.Common.{◌++◌, ◌≡◌, ◌≤◌, ℕ, ◌+◌, ◌*◌, max, Bool, true, false, if◌then◌else◌, List, [], ◌∷◌, length, map, sum, IsTrue, sym, ◌∙◌, arith}
use mathlib.Core.Bool.{true≢false}
use Rattle.kh_term.specs.declared.tree.TermTree.{TermTree, out-TermTree}
use Rattle.kh_term.specs.declared.tree.TermTree.TheVariants as tree
use Rattle.std.proofs.lemmas.Bool.{and_parts, leb-true}
use Rattle.kh_term.specs.declared.name.Origin.{Origin}
use Rattle.kh_term.specs.Text.{is_atom_text}
use Rattle.kh_term.proofs.Integers.{len_holds, fits_behind_sign}
use Rattle.kh_term.specs.WellFormed.{IsTerm, AreTerms, ArePairs, faults_of}
use Rattle.kh_term.specs.Size.{size_of, sizes_of, pair_sizes_of, depth_of, greatest, is_nil, width_of}
use Rattle.kh_term.specs.Packed.{packed_of, all_packed_of, pairs_packed_of, behind_sign}
use Rattle.kh_term.specs.Lemmas.Fits.{holds, sum-cons, fits_front, fits_behind, parts_of_tuple, parts_of_list, tail_of_list, ends_list, parts_of_closure, origin_of_closure, pairs_of_map}
use Rattle.kh_term.specs.Lemmas.Induction.{by_parts, Each, OfBoth}
use Rattle.kh_term.proofs.Layers.{size-Int, size-Atom, size-Bin, size-Nil, size-List, size-Tuple, size-Map, size-Closure, depth-Int, depth-Atom, depth-Bin, depth-Nil, depth-List, depth-Tuple, depth-Map, depth-Closure, width-Int, width-Atom, width-Bin, width-Nil, width-List, width-Tuple, width-Map, width-Closure, faults-Int, faults-Atom}
use Rattle.kh_term.proofs.Lengths.{length-Int, length-Atom, length-Bin, length-Nil, length-List, length-Tuple, length-Map, length-Closure}
use Rattle.std.proofs.lemmas.List.{length-append}

-- ---- depth

abbrev Shallow : TermTree → Type 0
Shallow t = IsTerm t → depth_of t ≤ size_of t

shallow_parts : (xs : List TermTree) → Each Shallow xs → AreTerms xs → greatest (map depth_of xs) ≤ sizes_of xs
shallow_parts [] each h = omega arith
shallow_parts (x ∷ xs) each h =
    omega (arith, sum-cons (size_of x) (map size_of xs), each.0 (fits_front x xs h), shallow_parts xs each.1 (fits_behind x xs h))

shallow_pairs : (ps : List (TermTree × TermTree)) → Each (OfBoth Shallow) ps → sum (map (λ p. faults_of p.0 + faults_of p.1) ps) ≡ 0 → greatest (map (λ p. max (depth_of p.0) (depth_of p.1)) ps) ≤ pair_sizes_of ps
shallow_pairs [] each h = omega arith
shallow_pairs (p ∷ ps) each h =
    let split = sum-cons (faults_of p.0 + faults_of p.1) (map (λ q. faults_of q.0 + faults_of q.1) ps) in
    let key : IsTerm p.0 = omega (arith, h, split) in
    let value : IsTerm p.1 = omega (arith, h, split) in
    let none : sum (map (λ q. faults_of q.0 + faults_of q.1) ps) ≡ 0 = omega (arith, h, split) in
    omega (arith, sum-cons (size_of p.0 + size_of p.1) (map (λ q. size_of q.0 + size_of q.1) ps), each.0.0 key, each.0.1 value, shallow_pairs ps each.1 none)

unless : (b : Bool) (d m : ℕ) → d ≤ m → (if b then 0 else d) ≤ m
unless true d m h = omega arith
unless false d m h = h

pub depth_le_size : (t : TermTree) → IsTerm t → depth_of t ≤ size_of t
depth_le_size = by_parts Shallow record {
  at_int = λ n h. omega (arith, depth-Int n);
  at_atom = λ text h. omega (arith, depth-Atom text);
  at_bin = λ bytes h. omega (arith, depth-Bin bytes);
  at_nil = λ h. omega (arith, depth-Nil, size-Nil);
  at_list = lists;
  at_tuple = λ xs each h. omega (arith, depth-Tuple xs, size-Tuple xs, shallow_parts xs each (parts_of_tuple xs h));
  at_map = λ ps each h. maps ps each (pairs_of_map ps h);
  at_closure = λ origin xs each h. omega (arith, depth-Closure origin xs, size-Closure origin xs, shallow_parts xs each (parts_of_closure origin xs h));
}
  where
    lists : (xs : List TermTree) (t : TermTree) → Each Shallow xs → Shallow t → Shallow (tree.List xs t)
    lists [] t each f h = absurd (true≢false (sym (ends_list [] t h)))
    lists (x ∷ xs) t each f h =
        omega (arith, depth-List (x ∷ xs) t, size-List (x ∷ xs) t, shallow_parts (x ∷ xs) each (parts_of_list (x ∷ xs) t h), unless (is_nil (out-TermTree t)) (depth_of t) (size_of t) (f (tail_of_list (x ∷ xs) t h)))

    maps : (ps : List (TermTree × TermTree)) → Each (OfBoth Shallow) ps → ArePairs ps → depth_of (tree.Map ps) ≤ size_of (tree.Map ps)
    maps ps each h = omega (arith, depth-Map ps, size-Map ps, shallow_pairs ps each (omega (arith, h)))

-- ---- packed length

abbrev Light : TermTree → Type 0
Light t = size_of t + 1 ≤ 2 * length (packed_of t)

light_parts : (xs : List TermTree) → Each Light xs → length xs + sizes_of xs ≤ 2 * length (all_packed_of xs)
light_parts [] each = omega arith
light_parts (x ∷ xs) each =
    omega (arith, sum-cons (size_of x) (map size_of xs), each.0, light_parts xs each.1, length-append (packed_of x) (all_packed_of xs))

light_pairs : (ps : List (TermTree × TermTree)) → Each (OfBoth Light) ps → pair_sizes_of ps ≤ 2 * length (pairs_packed_of ps)
light_pairs [] each = omega arith
light_pairs (p ∷ ps) each =
    omega (arith, sum-cons (size_of p.0 + size_of p.1) (map (λ q. size_of q.0 + size_of q.1) ps), each.0.0, each.0.1, light_pairs ps each.1, length-append (packed_of p.0 ++ packed_of p.1) (pairs_packed_of ps), length-append (packed_of p.0) (packed_of p.1))

light : (t : TermTree) → Light t
light = by_parts Light record {
  at_int = λ n. omega (arith, size-Int n, length-Int n);
  at_atom = λ text. omega (arith, size-Atom text, length-Atom text);
  at_bin = λ bytes. omega (arith, size-Bin bytes, length-Bin bytes);
  at_nil = omega (arith, size-Nil, length-Nil);
  at_list = λ xs t each f. omega (arith, size-List xs t, length-List xs t, light_parts xs each, f);
  at_tuple = λ xs each. omega (arith, size-Tuple xs, length-Tuple xs, light_parts xs each);
  at_map = λ ps each. omega (arith, size-Map ps, length-Map ps, light_pairs ps each);
  at_closure = λ origin xs each. omega (arith, size-Closure origin xs, length-Closure origin xs, light_parts xs each);
}

pub size_le_packed : (t : TermTree) → size_of t ≤ 2 * length (packed_of t)
size_le_packed t = omega (arith, light t)

-- ---- width

abbrev Wide : TermTree → Type 0
Wide t = width_of t ≤ length (packed_of t)

wide_parts : (xs : List TermTree) → Each Wide xs → max (length xs) (greatest (map width_of xs)) ≤ length (all_packed_of xs)
wide_parts [] each = omega arith
wide_parts (x ∷ xs) each = omega (arith, each.0, light x, wide_parts xs each.1, length-append (packed_of x) (all_packed_of xs))

wide_pairs : (ps : List (TermTree × TermTree)) → Each (OfBoth Wide) ps → max (length ps) (greatest (map (λ p. max (width_of p.0) (width_of p.1)) ps)) ≤ length (pairs_packed_of ps)
wide_pairs [] each = omega arith
wide_pairs (p ∷ ps) each =
    omega (arith, each.0.0, each.0.1, light p.0, wide_pairs ps each.1, length-append (packed_of p.0 ++ packed_of p.1) (pairs_packed_of ps), length-append (packed_of p.0) (packed_of p.1))

pub width_le_packed : (t : TermTree) → width_of t ≤ length (packed_of t)
width_le_packed = by_parts Wide record {
  at_int = λ n. omega (arith, width-Int n);
  at_atom = λ text. omega (arith, width-Atom text, length-Atom text);
  at_bin = λ bytes. omega (arith, width-Bin bytes, length-Bin bytes);
  at_nil = omega (arith, width-Nil);
  at_list = λ xs t each f. omega (arith, width-List xs t, length-List xs t, wide_parts xs each, f);
  at_tuple = λ xs each. omega (arith, width-Tuple xs, length-Tuple xs, wide_parts xs each);
  at_map = λ ps each. omega (arith, width-Map ps, length-Map ps, wide_pairs ps each);
  at_closure = λ origin xs each. omega (arith, width-Closure origin xs, length-Closure origin xs, wide_parts xs each);
}

-- ---- packed length by size

abbrev Short : TermTree → Type 0
Short t = IsTerm t → length (packed_of t) ≤ 515 * size_of t

short_parts : (xs : List TermTree) → Each Short xs → AreTerms xs → length (all_packed_of xs) ≤ 515 * sizes_of xs
short_parts [] each h = omega arith
short_parts (x ∷ xs) each h =
    omega (arith, sum-cons (size_of x) (map size_of xs), each.0 (fits_front x xs h), short_parts xs each.1 (fits_behind x xs h), length-append (packed_of x) (all_packed_of xs))

short_pairs : (ps : List (TermTree × TermTree)) → Each (OfBoth Short) ps → sum (map (λ p. faults_of p.0 + faults_of p.1) ps) ≡ 0 → length (pairs_packed_of ps) ≤ 515 * pair_sizes_of ps
short_pairs [] each h = omega arith
short_pairs (p ∷ ps) each h =
    let split = sum-cons (faults_of p.0 + faults_of p.1) (map (λ q. faults_of q.0 + faults_of q.1) ps) in
    let key : IsTerm p.0 = omega (arith, h, split) in
    let value : IsTerm p.1 = omega (arith, h, split) in
    let none : sum (map (λ q. faults_of q.0 + faults_of q.1) ps) ≡ 0 = omega (arith, h, split) in
    omega (arith, sum-cons (size_of p.0 + size_of p.1) (map (λ q. size_of q.0 + size_of q.1) ps), each.0.0 key, each.0.1 value, short_pairs ps each.1 none, length-append (packed_of p.0 ++ packed_of p.1) (pairs_packed_of ps), length-append (packed_of p.0) (packed_of p.1))

atom_short : (text : List ℕ) → IsTrue (is_atom_text text) → length text ≤ 255
atom_short text h = leb-true (length text) 255 (and_parts _ _ h).0

pub packed_le_size : (t : TermTree) → IsTerm t → length (packed_of t) ≤ 515 * size_of t
packed_le_size = by_parts Short record {
  at_int = λ n h. omega (arith, size-Int n, length-Int n, (len_holds (behind_sign n) (fits_behind_sign n (holds _ (sym (faults-Int n) ∙ h)))).most);
  at_atom = λ text h. omega (arith, size-Atom text, length-Atom text, atom_short text (holds _ (sym (faults-Atom text) ∙ h)));
  at_bin = λ bytes h. omega (arith, size-Bin bytes, length-Bin bytes);
  at_nil = λ h. omega (arith, size-Nil, length-Nil);
  at_list = lists;
  at_tuple = λ xs each h. omega (arith, size-Tuple xs, length-Tuple xs, short_parts xs each (parts_of_tuple xs h));
  at_map = λ ps each h. maps ps each (pairs_of_map ps h);
  at_closure = closures;
}
  where
    lists : (xs : List TermTree) (t : TermTree) → Each Short xs → Short t → Short (tree.List xs t)
    lists [] t each f h = absurd (true≢false (sym (ends_list [] t h)))
    lists (x ∷ xs) t each f h =
        omega (arith, size-List (x ∷ xs) t, length-List (x ∷ xs) t, short_parts (x ∷ xs) each (parts_of_list (x ∷ xs) t h), f (tail_of_list (x ∷ xs) t h))

    maps : (ps : List (TermTree × TermTree)) → Each (OfBoth Short) ps → ArePairs ps → length (packed_of (tree.Map ps)) ≤ 515 * size_of (tree.Map ps)
    maps ps each h = omega (arith, size-Map ps, length-Map ps, short_pairs ps each (omega (arith, h)))

    closures : (origin : Origin) (xs : List TermTree) → Each Short xs → Short (tree.Closure origin xs)
    closures origin xs each h =
        let texts = and_parts _ _ (and_parts _ _ (origin_of_closure origin xs h)).0 in
        let names = and_parts _ _ texts.0 in
        omega (arith, size-Closure origin xs, length-Closure origin xs, atom_short origin.module names.0, atom_short origin.name names.1, short_parts xs each (parts_of_closure origin xs h))
