-- The terms of several references, one after another.
use Rattle.std.proofs.Common.{◌≡◌, ℕ, suc, ◌+◌, ◌<◌, max, List, [], ◌∷◌, ◌++◌, length, map, take, get_or, refl, sym, ap, ◌∙◌, arith}
use Rattle.std.proofs.lemmas.List.{map_more, map-append, append-nil, take_at, drop_at, length-map}
use Rattle.kh_term.specs.declared.tree.TermTree.{TermTree}
use Rattle.kh_term.specs.Size.{depth_of, greatest}
use Rattle.kh_heap.specs.Cells.{run_at, deepest_pair}
use Rattle.kh_heap.specs.Heap.{term_at, terms_at, pairs_at}
use Rattle.kh_heap.specs.Parts.{in_turn}

pub greatest-pushed : (ns : List ℕ) (n : ℕ) → greatest (ns ++ n ∷ []) ≡ max n (greatest ns)
greatest-pushed [] n = omega arith
greatest-pushed (m ∷ ns) n = omega (arith, greatest-pushed ns n)

module _ (heap : List TermTree) (rs : List ℕ) (i r : ℕ) (l : i < length rs) (at : r ≡ get_or rs i r) where
  pub terms-more : terms_at heap (take (i + 1) rs) ≡ terms_at heap (take i rs) ++ term_at heap r ∷ []
  terms-more = map_more (term_at heap) rs i r l ∙ ap (λ n. terms_at heap (take i rs) ++ term_at heap n ∷ []) (sym at)

  pub greatest-more : greatest (map depth_of (terms_at heap (take (i + 1) rs))) ≡ max (depth_of (term_at heap r)) (greatest (map depth_of (terms_at heap (take i rs))))
  greatest-more =
      ap (λ ts. greatest (map depth_of ts)) terms-more ∙ ap greatest (map-append depth_of (terms_at heap (take i rs)) (term_at heap r ∷ []))
      ∙ greatest-pushed (map depth_of (terms_at heap (take i rs))) (depth_of (term_at heap r))

pub length-terms_at : (heap : List TermTree) (rs : List ℕ) → length (terms_at heap rs) ≡ length rs
length-terms_at heap rs = length-map rs (term_at heap)

pub length-pairs_at : (heap : List TermTree) (ps : List (ℕ × ℕ)) → length ps ≡ length (pairs_at heap ps)
length-pairs_at heap [] = refl
length-pairs_at heap (p ∷ ps) = ap (λ (n : ℕ). suc n) (length-pairs_at heap ps)

-- one pair more behind the others
pub in_turn-pushed : (qs : List (TermTree × TermTree)) (a b : TermTree) → in_turn (qs ++ (a, b) ∷ []) ≡ in_turn qs ++ a ∷ b ∷ []
in_turn-pushed [] a b = refl
in_turn-pushed (q ∷ qs) a b = ap (λ ts. q.0 ∷ q.1 ∷ ts) (in_turn-pushed qs a b)

-- keys and values, as far as a loop has come
module _ (heap : List TermTree) (ps : List (ℕ × ℕ)) (i : ℕ) (p : ℕ × ℕ) (l : i < length ps) (at : p ≡ get_or ps i p) where
  pub pairs-more : pairs_at heap (take (i + 1) ps) ≡ pairs_at heap (take i ps) ++ (term_at heap p.0, term_at heap p.1) ∷ []
  pairs-more =
      map_more (λ (q : ℕ × ℕ). (term_at heap q.0, term_at heap q.1)) ps i p l
      ∙ ap (λ (q : ℕ × ℕ). pairs_at heap (take i ps) ++ (term_at heap q.0, term_at heap q.1) ∷ []) (sym at)

  pub deepest_pair-more : deepest_pair (pairs_at heap (take (i + 1) ps)) ≡ max (max (depth_of (term_at heap p.0)) (depth_of (term_at heap p.1))) (deepest_pair (pairs_at heap (take i ps)))
  deepest_pair-more =
      let f : TermTree × TermTree → ℕ = λ q. max (depth_of q.0) (depth_of q.1) in
      ap deepest_pair pairs-more ∙ ap greatest (map-append f (pairs_at heap (take i ps)) ((term_at heap p.0, term_at heap p.1) ∷ []))
      ∙ greatest-pushed (map f (pairs_at heap (take i ps))) (max (depth_of (term_at heap p.0)) (depth_of (term_at heap p.1)))

  pub in_turn-more : in_turn (pairs_at heap (take (i + 1) ps)) ≡ in_turn (pairs_at heap (take i ps)) ++ term_at heap p.0 ∷ term_at heap p.1 ∷ []
  in_turn-more = ap in_turn pairs-more ∙ in_turn-pushed (pairs_at heap (take i ps)) (term_at heap p.0) (term_at heap p.1)

-- the run of the cells that were added last
pub run-last : (heap ts : List TermTree) (s n : ℕ) → s ≡ length heap → n ≡ length ts → run_at (heap ++ ts) s n ≡ ts
run-last heap ts s n at count =
    ap (take n) (drop_at heap ts s (sym at)) ∙ ap (take n) (sym (append-nil ts)) ∙ take_at ts [] n (sym count)
