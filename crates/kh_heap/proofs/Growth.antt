-- Heaps that grew: what a reference stood for it stands for.
use Rattle.std.proofs.Common.{◌≡◌, ℕ, suc, ◌≤◌, List, [], ◌∷◌, ◌++◌, length, take, get_or, refl, sym, ap, ◌∙◌, arith, length-append}
use Rattle.std.proofs.lemmas.List.{take_at, take_all, take-take, get_or_push, get_or-take, length-take}
use Rattle.std.specs.Prelude.{Result, Ok, Err, OnOk, OnErr}
use Rattle.kh_term.specs.declared.tree.TermTree.{TermTree}
use Rattle.kh_term.specs.declared.tree.TermTree.TheVariants as tree
use Rattle.kh_heap.specs.Heap.{term_at, terms_at, pairs_at, Holds, HoldsAll, HoldsPairs, Stands, Grew}

pub Grew-refl : (heap : List TermTree) → Grew heap heap
Grew-refl heap = record { front = take_all (length heap) heap (omega arith) }

pub Grew-append : (old new more : List TermTree) → new ≡ old ++ more → Grew old new
Grew-append old new more e = record { front = ap (take (length old)) e ∙ take_at old more (length old) refl }

pub length-grew : (old new : List TermTree) → Grew old new → length old ≤ length new
length-grew old new g = omega (arith, ap length g.front, length-take (length old) new)

pub Grew-trans : (a b c : List TermTree) → Grew a b → Grew b c → Grew a c
Grew-trans a b c g h = record {
  front = sym (take-take (length a) (length b) c (length-grew a b g)) ∙ ap (take (length a)) h.front ∙ g.front;
}

pub Holds-grew : (old new : List TermTree) (r : ℕ) → Grew old new → Holds old r → Holds new r
Holds-grew old new r g h = record { within = omega (arith, h.within, length-grew old new g) }

pub term_at-grew : (old new : List TermTree) (r : ℕ) → Grew old new → Holds old r → term_at new r ≡ term_at old r
term_at-grew old new r g h = sym (get_or-take (length old) new r tree.Nil h.within) ∙ ap (λ (heap : List TermTree). term_at heap r) g.front

pub Stands-grew : (old new : List TermTree) (r : ℕ) (t : TermTree) → Grew old new → Stands old r t → Stands new r t
Stands-grew old new r t g s = record { held = Holds-grew old new r g s.held; term = term_at-grew old new r g s.held ∙ s.term }

pub HoldsAll-grew : (old new : List TermTree) (rs : List ℕ) → Grew old new → HoldsAll old rs → HoldsAll new rs
HoldsAll-grew old new rs g h = λ k d l. Holds-grew old new (get_or rs k d) g (h k d l)

HoldsAll-behind : (heap : List TermTree) (r : ℕ) (rs : List ℕ) → HoldsAll heap (r ∷ rs) → HoldsAll heap rs
HoldsAll-behind heap r rs h = λ k d l. h (suc k) d (omega (arith, l))

pub terms_at-grew : (old new : List TermTree) (rs : List ℕ) → Grew old new → HoldsAll old rs → terms_at new rs ≡ terms_at old rs
terms_at-grew old new [] g h = refl
terms_at-grew old new (r ∷ rs) g h =
    let rest = terms_at-grew old new rs g (HoldsAll-behind old r rs h) in
    let first = term_at-grew old new r g (h 0 r (omega arith)) in
    λ i. first i ∷ rest i

pub HoldsPairs-grew : (old new : List TermTree) (ps : List (ℕ × ℕ)) → Grew old new → HoldsPairs old ps → HoldsPairs new ps
HoldsPairs-grew old new ps g h = λ k d l. (Holds-grew old new (get_or ps k d).0 g (h k d l).0, Holds-grew old new (get_or ps k d).1 g (h k d l).1)

pub pairs_at-grew : (old new : List TermTree) (ps : List (ℕ × ℕ)) → Grew old new → HoldsPairs old ps → pairs_at new ps ≡ pairs_at old ps
pairs_at-grew old new [] g h = refl
pairs_at-grew old new (p ∷ ps) g h =
    let rest = pairs_at-grew old new ps g (λ k d l. h (suc k) d (omega (arith, l))) in
    let key = term_at-grew old new p.0 g (h 0 p (omega arith)).0 in
    let value = term_at-grew old new p.1 g (h 0 p (omega arith)).1 in
    λ i. (key i, value i) ∷ rest i

-- the last cell
pub Stands-last : (old new : List TermTree) (r : ℕ) (t : TermTree) → new ≡ old ++ t ∷ [] → r ≡ length old → Stands new r t
Stands-last old new r t e at = record {
  held = record { within = omega (arith, at, ap length e, length-append old (t ∷ [])) };
  term = ap (λ (heap : List TermTree). term_at heap r) e ∙ get_or_push old t tree.Nil r (sym at);
}

-- what holds, holds where a call refused
pub on_err : {T E P : Type 0} (r : Result T E) → P → OnErr r P
on_err (Ok x) p = tt
on_err (Err e) p = p

-- what a caller that makes several terms needs of those that it made before
pub ruleset kept = (Grew-trans, Holds-grew, term_at-grew, Stands-grew)

pub on_ok : {T E P : Type 0} (r : Result T E) → P → OnOk r P
on_ok (Ok x) p = p
on_ok (Err e) p = tt
