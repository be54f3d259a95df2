-- The parts of a term that a loop collects.
use Rattle.std.proofs.Common.{◌≡◌, ℕ, zero, suc, ◌+◌, ◌*◌, ◌<◌, List, [], ◌∷◌, ◌++◌, length, map, take, get_or, refl, sym, ap, ◌∙◌, arith}
use Rattle.std.proofs.lemmas.List.{append_assoc, map-append, take_more}
use Rattle.std.proofs.lemmas.Option.{get_or_from_slice_get}
use Rattle.std.specs.Prelude.{Some, slice_get}
use Rattle.std.proofs.lemmas.List.Elements.{All-push}
use Rattle.kh_term.specs.declared.tree.TermTree.{TermTree}
use Rattle.kh_term.specs.declared.tree.TermTree.TheVariants as tree
use Rattle.kh_term.specs.declared.tree.TermTree.TheVariants.{outs-Map}
use Rattle.kh_heap.specs.Heap.{term_at, terms_at, pairs_at, Holds, HoldsAll, HoldsPairs}
use Rattle.kh_heap.specs.Parts.{in_turn, pairs_in, parts_in, parts_on, side}

-- one reference more
module _ (heap : List TermTree) (rs : List ℕ) (r : ℕ) (h : HoldsAll heap rs) (held : Holds heap r) where
  pub held_more : HoldsAll heap (rs ++ r ∷ [])
  held_more = All-push (Holds heap) rs r h held

pub terms_more : (heap : List TermTree) (rs : List ℕ) (r : ℕ) (ts : List TermTree) (i : ℕ) (d : TermTree) → terms_at heap rs ≡ take i ts → i < length ts → term_at heap r ≡ get_or ts i d
    → terms_at heap (rs ++ r ∷ []) ≡ take (i + 1) ts
terms_more heap rs r ts i d so_far l at =
    map-append (term_at heap) rs (r ∷ []) ∙ (λ j. so_far j ++ at j ∷ []) ∙ sym (take_more ts i d l)

pub two_held : (heap : List TermTree) (k v : ℕ) → Holds heap k → Holds heap v → HoldsAll heap (k ∷ v ∷ [])
two_held heap k v a b zero d l = a
two_held heap k v a b (suc zero) d l = b
two_held heap k v a b (suc (suc n)) d l = absurd (omega (arith, l))

-- one pair more
pub pairs_held_more : (heap : List TermTree) (rs : List (ℕ × ℕ)) (k v : ℕ) → HoldsPairs heap rs → Holds heap k → Holds heap v → HoldsPairs heap (rs ++ (k, v) ∷ [])
pairs_held_more heap rs k v h a b = All-push (λ (q : ℕ × ℕ). Holds heap q.0 × Holds heap q.1) rs (k, v) h (a, b)

pub pairs_more : (heap : List TermTree) (rs : List (ℕ × ℕ)) (k v : ℕ) (ps : List (TermTree × TermTree)) (i : ℕ) (d : TermTree × TermTree) → pairs_at heap rs ≡ take i ps → i < length ps
    → term_at heap k ≡ (get_or ps i d).0 → term_at heap v ≡ (get_or ps i d).1 → pairs_at heap (rs ++ (k, v) ∷ []) ≡ take (i + 1) ps
pairs_more heap rs k v ps i d so_far l key value =
    map-append (λ (q : ℕ × ℕ). (term_at heap q.0, term_at heap q.1)) rs ((k, v) ∷ [])
    ∙ (λ j. so_far j ++ (key j, value j) ∷ []) ∙ sym (take_more ps i d l)

-- one byte more
pub bytes_more : (before bs items now : List ℕ) (i b : ℕ) → now ≡ items ++ b ∷ [] → items ≡ before ++ take i bs → i < length bs → slice_get bs i ≡ Some b → now ≡ before ++ take (i + 1) bs
bytes_more before bs items now i b pushed so_far l at =
    pushed ∙ ap (λ us. us ++ b ∷ []) so_far ∙ append_assoc before (take i bs) (b ∷ [])
    ∙ ap (λ us. before ++ us) (ap (λ c. take i bs ++ c ∷ []) (sym (get_or_from_slice_get bs i b 0 at)) ∙ sym (take_more bs i 0 l))

-- ---- the parts of a map

pub parts-Map : (t : TermTree) → t ≡ tree.Map (pairs_in t) → parts_in t ≡ in_turn (pairs_in t)
parts-Map t e = ap parts_in e ∙ ap parts_on (outs-Map (pairs_in t))

-- the keys stand at the even places, and each value behind its key
turn_at : (ps : List (TermTree × TermTree)) (i h : ℕ) (d : TermTree × TermTree) → h < 2 → i < length ps → get_or (in_turn ps) (2 * i + h) tree.Nil ≡ side h (get_or ps i d)
turn_at [] i h d half within = absurd (omega arith)
turn_at (p ∷ ps) zero zero d half within = refl
turn_at (p ∷ ps) zero (suc zero) d half within = refl
turn_at (p ∷ ps) zero (suc (suc h)) d half within = absurd (omega arith)
turn_at (p ∷ ps) (suc i) h d half within =
    let far : 2 * suc i + h ≡ suc (suc (2 * i + h)) = omega arith in
    ap (λ n. get_or (in_turn (p ∷ ps)) n tree.Nil) far ∙ turn_at ps i h d half (omega arith)

pub part_at : (t : TermTree) (i h : ℕ) (d : TermTree × TermTree) → t ≡ tree.Map (pairs_in t) → h < 2 → i < length (pairs_in t) → get_or (parts_in t) (2 * i + h) tree.Nil ≡ side h (get_or (pairs_in t) i d)
part_at t i h d e half within = ap (λ us. get_or us (2 * i + h) tree.Nil) (parts-Map t e) ∙ turn_at (pairs_in t) i h d half within

pub key_at : (t : TermTree) (i : ℕ) (d : TermTree × TermTree) → t ≡ tree.Map (pairs_in t) → i < length (pairs_in t) → get_or (parts_in t) (2 * i) tree.Nil ≡ (get_or (pairs_in t) i d).0
key_at t i d e within =
    let far : 2 * i ≡ 2 * i + 0 = omega arith in
    ap (λ n. get_or (parts_in t) n tree.Nil) far ∙ part_at t i 0 d e (omega arith) within

pub value_at : (t : TermTree) (i : ℕ) (d : TermTree × TermTree) → t ≡ tree.Map (pairs_in t) → i < length (pairs_in t) → get_or (parts_in t) (2 * i + 1) tree.Nil ≡ (get_or (pairs_in t) i d).1
value_at t i d e within = part_at t i 1 d e (omega arith) within
