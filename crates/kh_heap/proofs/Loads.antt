-- Lists built from their ends, and what the parts of a term within the limits are.
use Rattle.std.proofs.Common.{◌≡◌, ℕ, zero, suc, ◌+◌, ◌*◌, ◌/◌, ◌<◌, ◌≤◌, ◌&&◌, nat_le, true, false, Bool, List, [], ◌∷◌, ◌++◌, length, map, take, drop, get_or, sym, ap, subst, ◌∙◌, arith, length-append}
use mathlib.Core.Bool.{true≢false}
use borrow.Author.Tests.{leb-true}
use Rattle.std.specs.Prelude.{Result, Ok, Err, OnOk}
use Rattle.std.proofs.lemmas.List.{at_drop_more, get_or-map, drop_all, map-append, take_more}
use Rattle.std.proofs.lemmas.List.Elements.{All-push}
use native.Mathlib.Nat.{not-suc-le-zero, le_of_suc-le-suc}
use Rattle.kh_term.specs.declared.name.Origin.{Origin}
use Rattle.kh_term.specs.declared.tree.TermTree.{TermTree}
use Rattle.kh_term.specs.declared.tree.TermTree.TheVariants as tree
use Rattle.kh_term.specs.Size.{size_of, depth_of}
use Rattle.kh_term.specs.WellFormed.{IsTerm, is_origin, faults_of}
use Rattle.kh_term.specs.Lemmas.Fits.{ends_list, origin_of_closure, sum-cons}
use Rattle.kh_term.proofs.Layers.{size-Bin, depth-Bin}
use Rattle.kh_term.specs.Limits.{most_size}
use Rattle.kh_heap.specs.declared.error.HeapError.{HeapError}
use Rattle.kh_heap.specs.Cells.{Measured, onto, pair_faults}
use Rattle.kh_heap.specs.Heap.{term_at, terms_at, pairs_at, Holds, HoldsAll, HoldsPairs, Stands, Grew, cons_tree}
use Rattle.kh_heap.proofs.Growth.{Grew-trans, Holds-grew, HoldsAll-grew, HoldsPairs-grew, term_at-grew, terms_at-grew, pairs_at-grew}
use Rattle.kh_heap.proofs.Measures.{onto-List, onto-low}
use Rattle.kh_heap.proofs.Runs.{length-terms_at}

-- one head more in front of what a loop has built
pub list-next : (old self : List TermTree) (heads : List ℕ) (i head list : ℕ) (x : TermTree) → Grew old self → HoldsAll old heads → i < length heads → head ≡ get_or heads i head
    → term_at self list ≡ onto (drop (i + 1) (terms_at old heads)) x → cons_tree (term_at self head) (term_at self list) ≡ onto (drop i (terms_at old heads)) x
list-next old self heads i head list x g h l at so_far =
    let ts = terms_at old heads in
    let held : Holds old head = subst (λ (r : ℕ). Holds old r) (sym at) (h i head l) in
    let here : term_at self head ≡ get_or ts i tree.Nil =
    term_at-grew old self head g held ∙ sym (get_or-map (term_at old) heads i head tree.Nil l ∙ ap (term_at old) (sym at)) in
    (λ j. cons_tree (here j) (so_far j)) ∙ sym (at_drop_more (λ us. onto us x) ts i tree.Nil (omega (arith, l, length-terms_at old heads)))

-- the tail of a list is no deeper
pub list-low : (parts : List TermTree) (tail : TermTree) → IsTerm (tree.List parts tail) → depth_of tail ≤ depth_of (tree.List parts tail)
list-low parts tail fits =
    omega (
      arith,
      onto-low parts tail (length parts),
      ap (λ us. depth_of (onto us tail)) (drop_all (length parts) parts (omega arith)),
      ap depth_of (onto-List parts tail (ends_list parts tail fits)),
    )

-- the heads that were loaded in front of the tail that was
pub list-whole : (mid new : List TermTree) (heads : List ℕ) (last : ℕ) (t : TermTree) (parts : List TermTree) (tail : TermTree) → IsTerm t → t ≡ tree.List parts tail
    → terms_at new heads ≡ parts → Grew mid new → Stands mid last tail → onto (terms_at new heads) (term_at new last) ≡ t
list-whole mid new heads last t parts tail fits is terms g stands =
    let fit : IsTerm (tree.List parts tail) = subst IsTerm is fits in
    let end : term_at new last ≡ tail = term_at-grew mid new last g stands.held ∙ stands.term in
    (λ j. onto (terms j) (end j)) ∙ onto-List parts tail (ends_list parts tail fit) ∙ sym is

-- one cell for a term of any size
pub cells-one : (r : Result ℕ HeapError) (old new : List TermTree) (x : TermTree) (n : ℕ) → OnOk r (new ≡ old ++ x ∷ []) → 1 ≤ n → OnOk r (length new + 1 ≤ length old + 2 * n)
cells-one (Ok r) old new x n added l = omega (arith, l, ap length added, length-append old (x ∷ []))
cells-one (Err e) old new x n added l = tt

-- a function's captured values are no more than its arity
pub arity-enough : (o : Origin) (env : List TermTree) → IsTerm (tree.Closure o env) → length env ≤ o.arity
arity-enough o env fits = leb-true (length env) o.arity (second (is_origin o) (nat_le (length env) o.arity) (origin_of_closure o env fits))
  where
    second : (a b : Bool) → (a && b) ≡ true → b ≡ true
    second true b e = e
    second false b e = absurd (true≢false (sym e))

pub measured-Bin : (bytes bs : List ℕ) (t : TermTree) → bs ≡ bytes → t ≡ tree.Bin bytes → size_of t ≤ most_size → IsTerm t → Measured (1 + (length bs + 7) / 8) 0 (tree.Bin bytes)
measured-Bin bytes bs t same is few fits = record {
  size_is = ap (λ (b : List ℕ). 1 + (length b + 7) / 8) same ∙ sym (size-Bin bytes);
  depth_is = sym (depth-Bin bytes);
  few = omega (arith, few, ap size_of is);
  low = omega (arith, depth-Bin bytes);
  fits = subst IsTerm is fits;
}

-- one term more behind those that are loaded
module _ (old new : List TermTree) (rs : List ℕ) (r : ℕ) (ts : List TermTree) (i : ℕ) (t : TermTree) (g : Grew old new) (held : HoldsAll old rs) (stands : Stands new r t) where
  pub held-more : HoldsAll new (rs ++ r ∷ [])
  held-more = All-push (Holds new) rs r (HoldsAll-grew old new rs g held) stands.held

  pub loaded-more : terms_at old rs ≡ take i ts → i < length ts → t ≡ get_or ts i t → terms_at new (rs ++ r ∷ []) ≡ take (i + 1) ts
  loaded-more same l at =
      let before : terms_at new rs ≡ take i ts = terms_at-grew old new rs g held ∙ same in
      let here : term_at new r ≡ get_or ts i t = stands.term ∙ at in
      map-append (term_at new) rs (r ∷ []) ∙ (λ j. before j ++ here j ∷ []) ∙ sym (take_more ts i t l)

-- one key and one value more
module _ (old mid new : List TermTree) (rs : List (ℕ × ℕ)) (k v : ℕ) (ps : List (TermTree × TermTree)) (i : ℕ) (p : TermTree × TermTree) (g : Grew old mid) (h : Grew mid new) (held : HoldsPairs old rs) (key : Stands mid k p.0) (value : Stands new v p.1) where
  pub pairs_held-more : HoldsPairs new (rs ++ (k, v) ∷ [])
  pairs_held-more =
      All-push (λ (q : ℕ × ℕ). Holds new q.0 × Holds new q.1) rs (k, v) (HoldsPairs-grew old new rs (Grew-trans old mid new g h) held) (Holds-grew mid new k h key.held, value.held)

  pub pairs_loaded-more : pairs_at old rs ≡ take i ps → i < length ps → p ≡ get_or ps i p → pairs_at new (rs ++ (k, v) ∷ []) ≡ take (i + 1) ps
  pairs_loaded-more same l at =
      let before : pairs_at new rs ≡ take i ps = pairs_at-grew old new rs (Grew-trans old mid new g h) held ∙ same in
      let first : term_at new k ≡ p.0 = term_at-grew mid new k h key.held ∙ key.term in
      map-append (λ (q : ℕ × ℕ). (term_at new q.0, term_at new q.1)) rs ((k, v) ∷ [])
      ∙ (λ j. before j ++ (first j, value.term j) ∷ []) ∙ ap (λ (q : TermTree × TermTree). take i ps ++ q ∷ []) at ∙ sym (take_more ps i p l)

-- a key and its value are terms
pub pair-fits : (ps : List (TermTree × TermTree)) (i : ℕ) (p : TermTree × TermTree) → pair_faults ps ≡ 0 → i < length ps → p ≡ get_or ps i p → IsTerm p.0 × IsTerm p.1
pair-fits [] i p h l e = absurd (not-suc-le-zero l)
pair-fits (q ∷ ps) zero p h l e =
    let split = sum-cons (faults_of q.0 + faults_of q.1) (map (λ (r : TermTree × TermTree). faults_of r.0 + faults_of r.1) ps) in
    subst (λ (r : TermTree × TermTree). IsTerm r.0 × IsTerm r.1) (sym e) (omega (arith, h, split), omega (arith, h, split))
pair-fits (q ∷ ps) (suc i) p h l e =
    let split = sum-cons (faults_of q.0 + faults_of q.1) (map (λ (r : TermTree × TermTree). faults_of r.0 + faults_of r.1) ps) in
    pair-fits ps i p (omega (arith, h, split)) (le_of_suc-le-suc l) e
