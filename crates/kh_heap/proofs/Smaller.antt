-- Parts are smaller than what they are parts of, and only a list is seen as one.
use Rattle.std.proofs.Common.{◌≡◌, ℕ, zero, suc, ◌+◌, ◌<◌, ◌≤◌, false, not, List, [], ◌∷◌, length, map, get_or, inl, inr, refl, sym, ap, ◌∙◌, arith}
use native.Mathlib.Nat.{not-suc-le-zero, le_of_suc-le-suc}
use Rattle.std.proofs.lemmas.Bool.{cases_eq}
use Rattle.kh_term.specs.declared.tree.TermTree.{TermTree, out-TermTree}
use Rattle.kh_term.specs.declared.tree.TermTree.TheVariants as tree
use Rattle.kh_term.specs.declared.tree.TermTree.TheVariants.{outs-Int, outs-Atom, outs-Bin, outs-Nil, outs-List, outs-Tuple, outs-Map, outs-Closure}
use Rattle.kh_term.specs.Lemmas.Fits.{sum-cons}
use Rattle.kh_term.specs.Lemmas.Induction.{by_parts}
use Rattle.kh_term.specs.Size.{size_of, sizes_of, pair_sizes_of}
use Rattle.kh_term.specs.WellFormed.{is_list}
use Rattle.kh_term.proofs.Layers.{size-Int, size-Atom, size-Bin, size-Nil, size-List, size-Tuple, size-Map, size-Closure}
use Rattle.kh_heap.specs.declared.view.View.{View}
use Rattle.kh_heap.specs.declared.view.View.TheVariants as view
use Rattle.kh_heap.specs.Cells.{onto, paired}
use Rattle.kh_heap.specs.Parts.{text_in, bytes_in, origin_in, pairs_in, in_turn, parts_on, parts_in}
use Rattle.kh_heap.specs.View.{IsSeen}
use Rattle.kh_heap.proofs.Measures.{onto-List}
use Rattle.kh_heap.proofs.Seen.{parts-Tuple, parts-Map, parts-Closure, paired-in_turn}

sizes-in_turn : (ps : List (TermTree × TermTree)) → sizes_of (in_turn ps) ≡ pair_sizes_of ps
sizes-in_turn [] = refl
sizes-in_turn (p ∷ ps) =
    omega (
      arith,
      sum-cons (size_of p.0) (map size_of (p.1 ∷ in_turn ps)),
      sum-cons (size_of p.1) (map size_of (in_turn ps)),
      sum-cons (size_of p.0 + size_of p.1) (map (λ (q : TermTree × TermTree). size_of q.0 + size_of q.1) ps),
      sizes-in_turn ps,
    )

-- the size of a term that has parts
abbrev Sized : TermTree → Type 0
Sized t = 0 < length (parts_in t) → size_of t ≡ 1 + sizes_of (parts_in t)

none : (t : TermTree) → parts_in t ≡ [] → Sized t
none t e l = absurd (omega (arith, l, ap length e))

pub size-parts : (t : TermTree) → 0 < length (parts_in t) → size_of t ≡ 1 + sizes_of (parts_in t)
size-parts = by_parts Sized record {
  at_int = λ n. none (tree.Int n) (ap parts_on (outs-Int n));
  at_atom = λ text. none (tree.Atom text) (ap parts_on (outs-Atom text));
  at_bin = λ bytes. none (tree.Bin bytes) (ap parts_on (outs-Bin bytes));
  at_nil = none tree.Nil (ap parts_on outs-Nil);
  at_list = λ xs t each tail. none (tree.List xs t) (ap parts_on (outs-List xs t));
  at_tuple = λ xs each l. size-Tuple xs ∙ ap (λ ts. 1 + sizes_of ts) (sym (parts-Tuple xs));
  at_map = λ ps each l. size-Map ps ∙ ap (λ n. 1 + n) (sym (sizes-in_turn ps)) ∙ ap (λ ts. 1 + sizes_of ts) (sym (parts-Map ps));
  at_closure = λ o xs each l. size-Closure o xs ∙ ap (λ ts. 1 + sizes_of ts) (sym (parts-Closure o xs));
}

some-size : (t : TermTree) → 1 ≤ size_of t
some-size = by_parts (λ t. 1 ≤ size_of t) record {
  at_int = λ n. omega (arith, size-Int n);
  at_atom = λ text. omega (arith, size-Atom text);
  at_bin = λ bytes. omega (arith, size-Bin bytes);
  at_nil = omega (arith, size-Nil);
  at_list = λ xs t each tail. omega (arith, size-List xs t, tail);
  at_tuple = λ xs each. omega (arith, size-Tuple xs);
  at_map = λ ps each. omega (arith, size-Map ps);
  at_closure = λ o xs each. omega (arith, size-Closure o xs);
}

length-sizes : (ts : List TermTree) → length ts ≤ sizes_of ts
length-sizes [] = omega arith
length-sizes (t ∷ ts) = omega (arith, sum-cons (size_of t) (map size_of ts), some-size t, length-sizes ts)

-- a term has no more parts than its size
pub parts-few : (t : TermTree) → length (parts_in t) ≤ size_of t
parts-few t = elim (cases_eq (length (parts_in t)) 0) [
  | inl eq ↦ omega (arith, eq)
  | inr ne ↦ omega (arith, length-sizes (parts_in t), size-parts t (omega (arith, ne)))
]

size-one : (ts : List TermTree) (i : ℕ) (d : TermTree) → i < length ts → size_of (get_or ts i d) ≤ sizes_of ts
size-one [] i d l = absurd (not-suc-le-zero l)
size-one (t ∷ ts) zero d l = omega (arith, sum-cons (size_of t) (map size_of ts))
size-one (t ∷ ts) (suc i) d l = omega (arith, sum-cons (size_of t) (map size_of ts), size-one ts i d (le_of_suc-le-suc l))

pub part-smaller : (t : TermTree) (i : ℕ) (part : TermTree) → i < length (parts_in t) → part ≡ get_or (parts_in t) i tree.Nil → size_of part < size_of t
part-smaller t i part l e = omega (arith, ap size_of e, size-one (parts_in t) i tree.Nil l, size-parts t (omega (arith, l)))

-- the keys and values of a map, two by two
pub pairs-paired : (t : TermTree) → t ≡ tree.Map (pairs_in t) → paired (parts_in t) ≡ pairs_in t
pairs-paired t e = ap (λ x. paired (parts_in x)) e ∙ ap paired (parts-Map (pairs_in t)) ∙ paired-in_turn (pairs_in t)

-- what is seen as something else is no list
pub no-list : (heap : List TermTree) (x : TermTree) (v : View) → IsSeen heap x v → ((a b : ℕ) → v ≡ view.Cons a b → ⊥) → is_list (out-TermTree x) ≡ false
no-list heap x (view.Int n) s h = ap (λ y. is_list (out-TermTree y)) s ∙ ap is_list (outs-Int n)
no-list heap x view.Atom s h = ap (λ y. is_list (out-TermTree y)) s ∙ ap is_list (outs-Atom (text_in x))
no-list heap x (view.Bin n) s h = ap (λ y. is_list (out-TermTree y)) s.0 ∙ ap is_list (outs-Bin (bytes_in x))
no-list heap x view.Nil s h = ap (λ y. is_list (out-TermTree y)) s ∙ ap is_list outs-Nil
no-list heap x (view.Cons a b) s h = absurd (h a b refl)
no-list heap x (view.Tuple n) s h = ap (λ y. is_list (out-TermTree y)) s.0 ∙ ap is_list (outs-Tuple (parts_in x))
no-list heap x (view.Map n) s h = ap (λ y. is_list (out-TermTree y)) s.0 ∙ ap is_list (outs-Map (pairs_in x))
no-list heap x (view.Closure n) s h = ap (λ y. is_list (out-TermTree y)) s.0 ∙ ap is_list (outs-Closure (origin_in x) (parts_in x))

pub onto-whole : (ts : List TermTree) (x : TermTree) → 0 < length ts → is_list (out-TermTree x) ≡ false → onto ts x ≡ tree.List ts x
onto-whole [] x l e = absurd (not-suc-le-zero l)
onto-whole (t ∷ ts) x l e = onto-List (t ∷ ts) x (ap not e)
