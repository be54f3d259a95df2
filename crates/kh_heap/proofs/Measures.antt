-- The size and the depth of terms, from those of their parts.
use Rattle.std.proofs.Common.{◌≡◌, ℕ, zero, suc, ◌+◌, ◌-◌, ◌<◌, ◌≤◌, ◌&&◌, max, Bool, true, false, not, IsTrue, if◌then◌else◌, nat_le, List, [], ◌∷◌, ◌++◌, length, map, drop, refl, sym, ap, subst, ◌∙◌, ◌^◌, arith, div-add-mod', ℤ, pos, negsuc, of_z, to_z, SFits}
use mathlib.Core.Bool.{true≢false}
use borrow.Author.Tests.{leb-true, ltb-true, le-leb}
use Rattle.std.specs.Int.{w128}
use Rattle.std.proofs.lemmas.Int.{to_z-of_z}
use Rattle.kh_term.specs.declared.name.Origin.{Origin}
use Rattle.kh_term.specs.declared.tree.TermTree.{TermTree, out-TermTree}
use Rattle.kh_term.specs.declared.tree.TermTree.TheVariants as tree
use Rattle.kh_term.specs.declared.tree.TermTree.TheVariants.{outs-Int, outs-Atom, outs-Bin, outs-Nil, outs-List, outs-Tuple, outs-Map, outs-Closure}
use Rattle.kh_term.specs.declared.tree.TermTree.TheOpen.{TermTree-F}
use Rattle.kh_term.specs.declared.tree.TermTree.TheOpen as layer
use Rattle.kh_term.specs.Limits.{is_small, most_size, most_depth}
use Rattle.kh_term.specs.Make.{in_front_of}
use Rattle.kh_term.specs.Size.{size_of, sizes_of, depth_of, is_nil}
use Rattle.kh_term.specs.Text.{is_atom_text}
use Rattle.kh_term.specs.WellFormed.{IsTerm, is_list, is_list_of, fits_128}
use Rattle.kh_term.specs.Lemmas.Layers.{faults-Int}
use Rattle.kh_term.specs.Lemmas.Induction.{by_parts}
use Rattle.kh_term.specs.Lemmas.Fits.{holds, fits-Int, fits-Atom, fits-List, fits-Nil, fits_more, fits_proper, fits_in_front, sum-cons}
use Rattle.kh_term.proofs.Layers.{size-Int, size-Atom, size-Bin, size-Nil, size-List, depth-Int, depth-Atom, depth-Nil, depth-List}
use Rattle.kh_heap.specs.Cells.{Measured, onto}
use Rattle.kh_heap.specs.Heap.{cons_tree}

-- a term is within the limits exactly where both numbers are
pub small-both : (t : TermTree) → size_of t ≤ most_size → depth_of t ≤ most_depth → is_small t ≡ true
small-both t few low = λ i. le-leb (size_of t) most_size few i && le-leb (depth_of t) most_depth low i

both_true : (a b : Bool) → (a && b) ≡ true → (a ≡ true) × (b ≡ true)
both_true true b e = (refl, e)
both_true false b e = absurd (true≢false (sym e))

pub small-few : (t : TermTree) → is_small t ≡ true → size_of t ≤ most_size
small-few t e = leb-true (size_of t) most_size (both_true (nat_le (size_of t) most_size) (nat_le (depth_of t) most_depth) e).0

pub small-low : (t : TermTree) → is_small t ≡ true → depth_of t ≤ most_depth
small-low t e = leb-true (depth_of t) most_depth (both_true (nat_le (size_of t) most_size) (nat_le (depth_of t) most_depth) e).1

pub measured-of : (size depth : ℕ) (t : TermTree) → is_small t ≡ true → size ≡ size_of t → depth ≡ depth_of t → IsTerm t → Measured size depth t
measured-of size depth t small s d fits = record { size_is = s; depth_is = d; few = small-few t small; low = small-low t small; fits = fits }

-- ---- single cells

pub measured-Atom : (text : List ℕ) → IsTrue (is_atom_text text) → Measured 1 0 (tree.Atom text)
measured-Atom text fits = record {
  size_is = sym (size-Atom text);
  depth_is = sym (depth-Atom text);
  few = omega (arith, size-Atom text);
  low = omega (arith, depth-Atom text);
  fits = fits-Atom text fits;
}

pub measured-Nil : Measured 1 1 tree.Nil
measured-Nil = record { size_is = sym size-Nil; depth_is = sym depth-Nil; few = omega (arith, size-Nil); low = omega (arith, depth-Nil); fits = fits-Nil }

pub measured-Int : (n : ℤ) → SFits w128 n → Measured 1 0 (tree.Int (to_z w128 (of_z w128 n)))
measured-Int n fits =
    let m = to_z w128 (of_z w128 n) in
    record { size_is = sym (size-Int m); depth_is = sym (depth-Int m); few = omega (arith, size-Int m); low = omega (arith, depth-Int m); fits = fits-Int n fits }

-- a binary of a cell is short
pub bin-few : (bytes : List ℕ) (x : TermTree) → tree.Bin bytes ≡ x → size_of x ≤ most_size → length bytes < 2 ^ 32
bin-few bytes x e few =
    let n = length bytes in
    omega (arith, few, ap size_of e, size-Bin bytes, div-add-mod' (n + 7) 8)

-- an integer of a cell has 128 bits
pub int-back : (n : ℤ) → IsTerm (tree.Int n) → to_z w128 (of_z w128 n) ≡ n
int-back n h = to_z-of_z w128 n (in_range n (holds (fits_128 n) (sym (faults-Int n) ∙ h)))
  where
    in_range : (z : ℤ) → IsTrue (fits_128 z) → SFits w128 z
    in_range (pos m) e = record { sfits = ltb-true m (2 ^ 127) e }
    in_range (negsuc m) e = record { sfits = ltb-true m (2 ^ 127) e }

-- ---- a head in front of a tail

module _ (h : TermTree) where
  front-of : (t : TermTree) (l : TermTree-F TermTree) → out-TermTree t ≡ l → cons_tree h t ≡ in_front_of (h ∷ []) l t
  unfolding cons_tree
  front-of t l e = ap (λ m. in_front_of (h ∷ []) m t) e

  pub cons-List : (xs : List TermTree) (tail : TermTree) → cons_tree h (tree.List xs tail) ≡ tree.List (h ∷ xs) tail
  cons-List xs tail = front-of (tree.List xs tail) (layer.List xs tail) (outs-List xs tail)

  pub cons-Nil : cons_tree h tree.Nil ≡ tree.List (h ∷ []) tree.Nil
  cons-Nil = front-of tree.Nil layer.Nil outs-Nil

-- a tail that is neither a list nor nil
pub record IsOther (t : TermTree) : Type 0 where
  pub no_list : is_list (out-TermTree t) ≡ false
  pub no_nil : is_nil (out-TermTree t) ≡ false
  pub cons : (h : TermTree) → cons_tree h t ≡ tree.List (h ∷ []) t

pub other-Int : (n : ℤ) → IsOther (tree.Int n)
other-Int n = record { no_list = ap is_list (outs-Int n); no_nil = ap is_nil (outs-Int n); cons = λ h. front-of h (tree.Int n) (layer.Int n) (outs-Int n) }

pub other-Atom : (text : List ℕ) → IsOther (tree.Atom text)
other-Atom text = record { no_list = ap is_list (outs-Atom text); no_nil = ap is_nil (outs-Atom text); cons = λ h. front-of h (tree.Atom text) (layer.Atom text) (outs-Atom text) }

pub other-Bin : (bytes : List ℕ) → IsOther (tree.Bin bytes)
other-Bin bytes = record { no_list = ap is_list (outs-Bin bytes); no_nil = ap is_nil (outs-Bin bytes); cons = λ h. front-of h (tree.Bin bytes) (layer.Bin bytes) (outs-Bin bytes) }

pub other-Tuple : (xs : List TermTree) → IsOther (tree.Tuple xs)
other-Tuple xs = record { no_list = ap is_list (outs-Tuple xs); no_nil = ap is_nil (outs-Tuple xs); cons = λ h. front-of h (tree.Tuple xs) (layer.Tuple xs) (outs-Tuple xs) }

pub other-Map : (ps : List (TermTree × TermTree)) → IsOther (tree.Map ps)
other-Map ps = record { no_list = ap is_list (outs-Map ps); no_nil = ap is_nil (outs-Map ps); cons = λ h. front-of h (tree.Map ps) (layer.Map ps) (outs-Map ps) }

pub other-Closure : (o : Origin) (xs : List TermTree) → IsOther (tree.Closure o xs)
other-Closure o xs = record { no_list = ap is_list (outs-Closure o xs); no_nil = ap is_nil (outs-Closure o xs); cons = λ h. front-of h (tree.Closure o xs) (layer.Closure o xs) (outs-Closure o xs) }

-- What shows P of each tail and the list with a head in front of it.
pub record ByTail (h : TermTree) (P : TermTree → TermTree → Type 0) : Type 0 where
  pub at_list : (xs : List TermTree) (tail : TermTree) → P (tree.List xs tail) (tree.List (h ∷ xs) tail)
  pub at_nil : P tree.Nil (tree.List (h ∷ []) tree.Nil)
  pub at_other : (t : TermTree) → IsOther t → P t (tree.List (h ∷ []) t)

pub by_tail : (h : TermTree) (P : TermTree → TermTree → Type 0) → ByTail h P → (t : TermTree) → P t (cons_tree h t)
by_tail h P steps = by_parts (λ t. P t (cons_tree h t)) record {
  at_int = λ n. other (tree.Int n) (other-Int n);
  at_atom = λ text. other (tree.Atom text) (other-Atom text);
  at_bin = λ bytes. other (tree.Bin bytes) (other-Bin bytes);
  at_nil = subst (P tree.Nil) (sym (cons-Nil h)) steps.at_nil;
  at_list = λ xs t each tail. subst (P (tree.List xs t)) (sym (cons-List h xs t)) (steps.at_list xs t);
  at_tuple = λ xs each. other (tree.Tuple xs) (other-Tuple xs);
  at_map = λ ps each. other (tree.Map ps) (other-Map ps);
  at_closure = λ o xs each. other (tree.Closure o xs) (other-Closure o xs);
}
  where
    other : (t : TermTree) → IsOther t → P t (cons_tree h t)
    other t is = subst (P t) (sym (is.cons h)) (steps.at_other t is)

one_size : (h : TermTree) → sizes_of (h ∷ []) ≡ size_of h
one_size h = omega (arith, sum-cons (size_of h) [])

pub size-cons : (h t : TermTree) → size_of (cons_tree h t) ≡ 1 + size_of h + size_of t
size-cons h = by_tail h (λ t c. size_of c ≡ 1 + size_of h + size_of t) record {
  at_list = λ xs tail. omega (arith, size-List (h ∷ xs) tail, size-List xs tail, sum-cons (size_of h) (map size_of xs));
  at_nil = omega (arith, size-List (h ∷ []) tree.Nil, one_size h);
  at_other = λ t is. omega (arith, size-List (h ∷ []) t, one_size h);
}

pub depth-cons-List : (h : TermTree) (xs : List TermTree) (tail : TermTree) → depth_of (cons_tree h (tree.List xs tail)) ≡ 1 + max (depth_of h) (depth_of (tree.List xs tail) - 1)
depth-cons-List h xs tail =
    ap depth_of (cons-List h xs tail) ∙ depth-List (h ∷ xs) tail ∙ omega (arith, depth-List xs tail)

pub depth-cons-Nil : (h : TermTree) → depth_of (cons_tree h tree.Nil) ≡ 1 + max (depth_of h) 0
depth-cons-Nil h =
    ap depth_of (cons-Nil h) ∙ depth-List (h ∷ []) tree.Nil
    ∙ ap (λ l. 1 + max (max (depth_of h) 0) (if is_nil l then 0 else depth_of tree.Nil)) outs-Nil ∙ omega arith

pub depth-cons-other : (h t : TermTree) → IsOther t → depth_of (cons_tree h t) ≡ 1 + max (depth_of h) (depth_of t)
depth-cons-other h t is =
    ap depth_of (is.cons h) ∙ depth-List (h ∷ []) t
    ∙ ap (λ b. 1 + max (max (depth_of h) 0) (if b then 0 else depth_of t)) is.no_nil ∙ omega arith

pub fits-cons : (h t : TermTree) → IsTerm h → IsTerm t → IsTerm (cons_tree h t)
fits-cons h t fits = by_tail h (λ t c. IsTerm t → IsTerm c) record {
  at_list = λ xs tail fit. fits_in_front (h ∷ []) xs tail (fits_more h [] fits refl) fit;
  at_nil = λ fit. fits_proper (h ∷ []) (fits_more h [] fits refl) (λ e. cc);
  at_other = λ t is fit. fits-List (h ∷ []) t (fits_more h [] fits refl) fit (ap (λ b. not b) is.no_list);
} t

-- a list with a head is a list
pub cons-is-List : (h t : TermTree) → (xs : List TermTree) × (tail : TermTree) × (cons_tree h t ≡ tree.List xs tail)
cons-is-List h = by_tail h (λ t c. (xs : List TermTree) × (tail : TermTree) × (c ≡ tree.List xs tail)) record {
  at_list = λ xs tail. (h ∷ xs, tail, refl);
  at_nil = (h ∷ [], tree.Nil, refl);
  at_other = λ t is. (h ∷ [], t, refl);
}

-- a tail is no deeper than the list
pub depth-tail : (h t : TermTree) → depth_of t ≤ depth_of (cons_tree h t)
depth-tail h = by_tail h (λ t c. depth_of t ≤ depth_of c) record {
  at_list = λ xs tail. omega (arith, depth-List (h ∷ xs) tail, depth-List xs tail);
  at_nil = omega (arith, depth-List (h ∷ []) tree.Nil, depth-Nil);
  at_other = λ t is. omega (arith, depth-List (h ∷ []) t, ap (λ b. if b then 0 else depth_of t) is.no_nil);
}

-- terms in front of a tail: those from the i-th on are no larger and no deeper than all
pub onto-few : (ts : List TermTree) (x : TermTree) (i : ℕ) → size_of (onto (drop i ts) x) ≤ size_of (onto ts x)
onto-few ts x zero = omega arith
onto-few [] x (suc i) = omega arith
onto-few (t ∷ ts) x (suc i) = omega (arith, onto-few ts x i, size-cons t (onto ts x))

pub onto-low : (ts : List TermTree) (x : TermTree) (i : ℕ) → depth_of (onto (drop i ts) x) ≤ depth_of (onto ts x)
onto-low ts x zero = omega arith
onto-low [] x (suc i) = omega arith
onto-low (t ∷ ts) x (suc i) = omega (arith, onto-low ts x i, depth-tail t (onto ts x))

-- in front of what is no list they are the list of them
pub onto-List : (ts : List TermTree) (x : TermTree) → is_list_of ts x ≡ true → onto ts x ≡ tree.List ts x
onto-List [] x e = absurd (true≢false (sym e))
onto-List (t ∷ []) x e = by_tail t (λ y c. is_list_of (t ∷ []) y ≡ true → c ≡ tree.List (t ∷ []) y) record {
  at_list = λ xs tail f. absurd (true≢false (sym f ∙ ap (λ l. not (is_list l)) (outs-List xs tail)));
  at_nil = λ f. refl;
  at_other = λ y is f. refl;
} x e
onto-List (t ∷ u ∷ ts) x e = ap (cons_tree t) (onto-List (u ∷ ts) x e) ∙ cons-List t (u ∷ ts) x

pub onto-pushed : (ts : List TermTree) (t x : TermTree) → onto (ts ++ t ∷ []) x ≡ onto ts (cons_tree t x)
onto-pushed [] t x = refl
onto-pushed (u ∷ ts) t x = ap (cons_tree u) (onto-pushed ts t x)
