-- What calls answer: that a term is within the limits, or is not, and what a pushed cell leaves.
use Rattle.std.proofs.Common.{◌≡◌, ℕ, ◌+◌, ◌*◌, ◌<◌, ◌≤◌, ◌&&◌, nat_le, not, Bool, true, false, List, [], ◌∷◌, ◌++◌, length, take, get_or, refl, sym, ap, subst, ◌∙◌, arith, length-append}
use mathlib.Core.Bool.{true≢false}
use Rattle.std.specs.Prelude.{Result, Ok, Err, IfOk, IfErr, OnOk}
use Rattle.std.proofs.lemmas.List.{length-take-le, append_assoc}
use Rattle.kh_term.specs.declared.tree.TermTree.{TermTree}
use Rattle.kh_term.specs.Limits.{is_small, most_size, most_depth}
use Rattle.kh_term.specs.Size.{size_of, depth_of}
use Rattle.kh_heap.specs.declared.error.HeapError.{HeapError}
use Rattle.kh_heap.specs.declared.error.HeapError.TheVariants as error
use Rattle.kh_heap.specs.Cells.{paired, run_at}
use Rattle.kh_heap.specs.Heap.{term_at, pairs_at, Holds, Stands, Grew, Limits, is_too_large}
use Rattle.kh_heap.specs.Parts.{in_turn}
use Rattle.kh_heap.proofs.Growth.{Grew-append, term_at-grew, Stands-last}
use Rattle.kh_heap.proofs.Runs.{length-pairs_at, in_turn-more, run-last}
use Rattle.kh_heap.proofs.Seen.{length-in_turn, paired-in_turn}

not-true : (b : Bool) → not b ≡ true → b ≡ false
not-true true e = cc
not-true false e = refl

not-false : (b : Bool) → not b ≡ false → b ≡ true
not-false true e = refl
not-false false e = cc

-- the test of a term's numbers is one of the term
module _ (r : Bool) (size depth : ℕ) (t : TermTree) (test : r ≡ is_too_large size depth) (s : size ≡ size_of t) (d : depth ≡ depth_of t) where
  same : (nat_le size most_size && nat_le depth most_depth) ≡ is_small t
  same = λ i. nat_le (s i) most_size && nat_le (d i) most_depth

  pub past : r ≡ true → is_small t ≡ false
  past e = sym same ∙ not-true (nat_le size most_size && nat_le depth most_depth) (sym test ∙ e)

  pub within : r ≡ false → is_small t ≡ true
  within e = sym same ∙ not-false (nat_le size most_size && nat_le depth most_depth) (sym test ∙ e)

limits-small : (r : Result ℕ HeapError) (t : TermTree) → is_small t ≡ true → IfErr r (λ e. e ≡ error.NoMemory) → Limits r t
limits-small (Ok r) t small cause = small
limits-small (Err error.TooLarge) t small cause = absurd (cc)
limits-small (Err error.NoMemory) t small cause = small

-- a refusal of a term within the limits is for want of memory
pub limits : (made r : Result ℕ HeapError) (t : TermTree) → r ≡ made → is_small t ≡ true → IfErr made (λ e. e ≡ error.NoMemory) → Limits r t
limits made r t e small cause = subst (λ (q : Result ℕ HeapError). Limits q t) (sym e) (limits-small made t small cause)

-- the last cell is what was made
pub stands-pushed : (r : Result ℕ HeapError) (old new : List TermTree) (x t : TermTree) → IfOk r (λ r. r ≡ length old) → OnOk r (new ≡ old ++ x ∷ []) → x ≡ t → IfOk r (λ r. Stands new r t)
stands-pushed (Ok r) old new x t at added e = subst (λ (y : TermTree). Stands new r y) e (Stands-last old new r x added at)
stands-pushed (Err e) old new x t at added same = tt

pub cells-pushed : (r : Result ℕ HeapError) (old new : List TermTree) (x : TermTree) (n : ℕ) → OnOk r (new ≡ old ++ x ∷ []) → length old ≤ n → OnOk r (length new ≤ n + 1)
cells-pushed (Ok r) old new x n added l = omega (arith, l, ap length added, length-append old (x ∷ []))
cells-pushed (Err e) old new x n added l = tt

-- keys and values in turn, as far as a loop has come
module _ (old self : List TermTree) (ps : List (ℕ × ℕ)) (i : ℕ) (so_far : self ≡ old ++ in_turn (pairs_at old (take i ps))) (l : i ≤ length ps) where
  pub length-so_far : length self ≡ length old + 2 * i
  length-so_far =
      omega (
        arith,
        ap length so_far,
        length-append old (in_turn (pairs_at old (take i ps))),
        length-in_turn (pairs_at old (take i ps)),
        length-pairs_at old (take i ps),
        length-take-le i ps l,
      )

  pub grew-so_far : Grew old self
  grew-so_far = Grew-append old self (in_turn (pairs_at old (take i ps))) so_far

  pub pair-pushed : (mid new : List TermTree) (p : ℕ × ℕ) → i < length ps → p ≡ get_or ps i p → Holds old p.0 → Holds old p.1
      → mid ≡ self ++ term_at self p.0 ∷ [] → new ≡ mid ++ term_at mid p.1 ∷ [] → new ≡ old ++ in_turn (pairs_at old (take (i + 1) ps))
  pair-pushed mid new p m at h k first second =
      let key : term_at self p.0 ≡ term_at old p.0 = term_at-grew old self p.0 grew-so_far h in
      let later : Grew old mid = Grew-append old mid (in_turn (pairs_at old (take i ps)) ++ term_at self p.0 ∷ [])
      (first ∙ ap (λ (ts : List TermTree). ts ++ term_at self p.0 ∷ []) so_far ∙ append_assoc old (in_turn (pairs_at old (take i ps))) (term_at self p.0 ∷ [])) in
      let value : term_at mid p.1 ≡ term_at old p.1 = term_at-grew old mid p.1 later k in
      second ∙ (λ j. (first j) ++ value j ∷ []) ∙ (λ j. so_far j ++ key j ∷ [] ++ term_at old p.1 ∷ [])
      ∙ tail_two old (in_turn (pairs_at old (take i ps))) (term_at old p.0) (term_at old p.1)
      ∙ ap (λ (ts : List TermTree). old ++ ts) (sym (in_turn-more old ps i p m at))
    where
      tail_two : (xs ys : List TermTree) (a b : TermTree) → xs ++ ys ++ a ∷ [] ++ b ∷ [] ≡ xs ++ (ys ++ a ∷ b ∷ [])
      tail_two xs ys a b = append_assoc (xs ++ ys) (a ∷ []) (b ∷ []) ∙ append_assoc xs ys (a ∷ b ∷ [])

-- the cells that were added last are the keys and values
pub map-run : (old new : List TermTree) (ps : List (TermTree × TermTree)) (first n : ℕ) → new ≡ old ++ in_turn ps → first ≡ length old → n ≡ length ps → paired (run_at new first (2 * n)) ≡ ps
map-run old new ps first n e at count =
    ap (λ (ts : List TermTree). paired (run_at ts first (2 * n))) e
    ∙ ap paired (run-last old (in_turn ps) first (2 * n) at (omega (arith, count, length-in_turn ps))) ∙ paired-in_turn ps

-- a term within the limits is refused for want of memory alone
pub small-cause : (r : Result ℕ HeapError) (t : TermTree) → Limits r t → is_small t ≡ true → IfErr r (λ e. e ≡ error.NoMemory)
small-cause (Ok r) t limits small = tt
small-cause (Err error.TooLarge) t limits small = absurd (true≢false (sym small ∙ limits))
small-cause (Err error.NoMemory) t limits small = refl
