-- Why the short spelling of watched paths is no larger than another.
use Rattle.std.proofs.Common.{◌≡◌, ◌≤◌, ◌+◌, ◌*◌, ◌++◌, suc, max, List, [], ◌∷◌, length, map, refl, ap, sym, subst, arith}
use Rattle.std.proofs.lemmas.List.{length-append}
use Rattle.kh_term.proofs.Layers.{size-Map, depth-Map, width-Map}
use Rattle.kh_term.proofs.Lengths.{length-Map}
use Rattle.kh_term.specs.Lemmas.Fits.{sum-cons}
use Rattle.kh_term.specs.declared.limits.TheConstants.{MOST_TEXT_BYTES}
use Rattle.kh_term.specs.declared.tree.TermTree.{TermTree}
use Rattle.kh_term.specs.declared.tree.TermTree.TheVariants as tree
use Rattle.kh_term.specs.Packed.{packed_of, pairs_packed_of}
use Rattle.kh_term.specs.Size.{size_of, pair_sizes_of, depth_of, greatest, width_of}
use Rattle.kh_cond.specs.declared.cond.Cond.{Cond}
use Rattle.kh_cond.specs.Laws.{ShortWatchingIsNoLarger}
use Rattle.kh_cond.specs.NoLarger.{IsNoLarger}
use Rattle.kh_cond.specs.Short.{cond_tree}
use Rattle.kh_cond.specs.Watched.{Watched, SpellEntries, watched_tree, watching_tree}
use Rattle.kh_cond.specs.Watched as watched
use Rattle.kh_cond.proofs.Smaller.{cond_smaller}

abbrev Pairs : Type 0
Pairs = List (TermTree × TermTree)

-- the entries by their short spellings
abbrev shorts : List (Watched × Cond) → Pairs
shorts ws = map (λ e. (watched_tree e.0, cond_tree e.1)) ws

record PairsNoLarger (ps qs : Pairs) : Type 0 where
  many : length ps ≡ length qs
  size : pair_sizes_of ps ≤ pair_sizes_of qs
  depth : greatest (map (λ p. max (depth_of p.0) (depth_of p.1)) ps) ≤ greatest (map (λ p. max (depth_of p.0) (depth_of p.1)) qs)
  width : greatest (map (λ p. max (width_of p.0) (width_of p.1)) ps) ≤ max MOST_TEXT_BYTES (greatest (map (λ p. max (width_of p.0) (width_of p.1)) qs))
  packed : length (pairs_packed_of ps) ≤ 2 * length (pairs_packed_of qs)

-- one more key, with a value that is no larger
one_pair : (k s t : TermTree) (ps qs : Pairs) → IsNoLarger s t → PairsNoLarger ps qs → PairsNoLarger ((k, s) ∷ ps) ((k, t) ∷ qs)
one_pair k s t ps qs h r = record {
  many = ap suc r.many;
  size = omega (arith, sum-cons (size_of k + size_of s) (map (λ p. size_of p.0 + size_of p.1) ps), sum-cons (size_of k + size_of t) (map (λ p. size_of p.0 + size_of p.1) qs), h.size, r.size);
  depth = omega (arith, h.depth, r.depth);
  width = omega (arith, h.width, r.width);
  packed = omega (arith, length-append (packed_of k ++ packed_of s) (pairs_packed_of ps), length-append (packed_of k) (packed_of s), length-append (packed_of k ++ packed_of t) (pairs_packed_of qs), length-append (packed_of k) (packed_of t), h.packed, r.packed);
}

map_smaller : (ps qs : Pairs) → PairsNoLarger ps qs → IsNoLarger (tree.Map ps) (tree.Map qs)
map_smaller ps qs h = record {
  size = omega (arith, size-Map ps, size-Map qs, h.size);
  depth = omega (arith, depth-Map ps, depth-Map qs, h.depth);
  width = omega (arith, width-Map ps, width-Map qs, h.many, h.width);
  packed = omega (arith, length-Map ps, length-Map qs, h.packed);
}

entries_smaller : (ps : Pairs) (ws : List (Watched × Cond)) → SpellEntries ps ws → PairsNoLarger (shorts ws) ps
entries_smaller ps ws watched.end = record { many = refl; size = omega arith; depth = omega arith; width = omega arith; packed = omega arith }
entries_smaller ps ws (watched.next w t c qs us is s rest) = one_pair (watched_tree w) (cond_tree c) t (shorts us) qs (cond_smaller t c s) (entries_smaller qs us rest)

pub watching_smaller : ShortWatchingIsNoLarger
watching_smaller t ws s = subst (IsNoLarger (watching_tree ws)) (sym s.1) (map_smaller (shorts ws) s.0 (entries_smaller s.0 ws s.2))
