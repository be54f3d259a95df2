-- A map is larger than twice the number of its pairs.
use Rattle.std.proofs.Common.{◌≡◌, ℕ, ◌+◌, ◌*◌, ◌<◌, ◌≤◌, List, [], ◌∷◌, length, map, ap, arith}
use Rattle.kh_term.specs.declared.tree.TermTree.{TermTree}
use Rattle.kh_term.specs.declared.tree.TermTree.TheVariants as tree
use Rattle.kh_term.specs.Lemmas.Fits.{sum-cons}
use Rattle.kh_term.specs.Lemmas.Induction.{by_parts}
use Rattle.kh_term.specs.Size.{size_of, pair_sizes_of}
use Rattle.kh_term.proofs.Layers.{size-Int, size-Atom, size-Bin, size-Nil, size-List, size-Tuple, size-Map, size-Closure}
use Rattle.kh_heap.specs.Parts.{pairs_in}

pub some-size : (t : TermTree) → 1 ≤ size_of t
some-size = by_parts (λ t. 1 ≤ size_of t) record {
  at_int = λ n. omega (arith, size-Int n);
  at_atom = λ text. omega (arith, size-Atom text);
  at_bin = λ bytes. omega (arith, size-Bin bytes);
  at_nil = omega (arith, size-Nil);
  at_list = λ xs t each tail. omega (arith, size-List xs t, tail);
  at_tuple = λ xs each. omega (arith, size-Tuple xs);
  at_map = λ ps each. omega (arith, size-Map ps);
  at_closure = λ o xs each. omega (arith, size-Closure o xs);
}

pairs-few : (ps : List (TermTree × TermTree)) → 2 * length ps ≤ pair_sizes_of ps
pairs-few [] = omega arith
pairs-few (p ∷ ps) =
    omega (arith, sum-cons (size_of p.0 + size_of p.1) (map (λ (q : TermTree × TermTree). size_of q.0 + size_of q.1) ps), some-size p.0, some-size p.1, pairs-few ps)

pub map_few : (t : TermTree) → t ≡ tree.Map (pairs_in t) → 2 * length (pairs_in t) < size_of t
map_few t e = omega (arith, ap size_of e, size-Map (pairs_in t), pairs-few (pairs_in t))
