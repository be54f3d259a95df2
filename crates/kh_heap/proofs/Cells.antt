-- The terms of cells: one cell more, fewer cells, and more texts.
use Rattle.std.proofs.Common.{◌≡◌, ℕ, zero, suc, ◌+◌, ◌*◌, ◌<◌, ◌≤◌, List, [], ◌∷◌, ◌++◌, length, take, drop, get_or, refl, sym, ap, subst, ◌∙◌, arith, inl, inr, add-one, length-append, length-drop}
use native.Mathlib.Nat.{not-suc-le-zero}
use Rattle.std.proofs.Math.ListN.{get_or-append}
use Rattle.std.proofs.lemmas.Bool.{cases_eq}
use Rattle.std.proofs.lemmas.List.{append-nil, take-append-le, take-append-drop, take_all, drop-append-le, get_or_push, get_or-take, length-take-le}
use Rattle.std.proofs.lemmas.Option.{get_or_from_slice_get, slice_get_within}
use Rattle.std.specs.Prelude.{slice_get, Some}
use Rattle.kh_term.specs.declared.name.Origin.{Origin}
use Rattle.kh_term.specs.declared.tree.TermTree.{TermTree}
use Rattle.kh_term.specs.declared.tree.TermTree.TheVariants as tree
use Rattle.kh_heap.specs.declared.cell.Cell.{Cell}
use Rattle.kh_heap.specs.declared.cell.Kind.{Kind}
use Rattle.kh_heap.specs.declared.cell.Kind.TheVariants as kind
use Rattle.kh_heap.specs.Heap.{term_at, cons_tree, Holds}
use Rattle.kh_heap.specs.Parts.{no_origin}
use Rattle.kh_heap.specs.Cells.{Tables, no_tables, paired, run_at, value, cell_at, terms_upto, heap_of, Below, Measured, IsCell, AreCells}

-- ---- lists of terms

pub term_at-append : (heap more : List TermTree) (r : ℕ) → r < length heap → term_at (heap ++ more) r ≡ term_at heap r
term_at-append heap more r l = get_or-append heap more tree.Nil r l

run_at-append : (heap more : List TermTree) (s n : ℕ) → s + n ≤ length heap → run_at (heap ++ more) s n ≡ run_at heap s n
run_at-append heap more s n l =
    ap (take n) (drop-append-le s heap more (omega (arith, l)))
    ∙ take-append-le n (drop s heap) more (omega (arith, l, length-drop s heap))

-- ---- the term of a cell looks at what is below the cell alone

value-append : (t : Tables) (heap more : List TermTree) (i : ℕ) (k : Kind) → Below t i k → i ≤ length heap → value t (heap ++ more) k ≡ value t heap k
value-append t heap more i (kind.Int n) b l = refl
value-append t heap more i (kind.Atom k) b l = refl
value-append t heap more i (kind.Bin k) b l = refl
value-append t heap more i kind.Nil b l = refl
value-append t heap more i (kind.Cons h k) b l =
    λ j. cons_tree (term_at-append heap more h (omega (arith, b.0, l)) j) (term_at-append heap more k (omega (arith, b.1, l)) j)
value-append t heap more i (kind.Tuple s n) b l = ap (λ ts. tree.Tuple ts) (run_at-append heap more s n (omega (arith, b, l)))
value-append t heap more i (kind.Map s n) b l = ap (λ ts. tree.Map (paired ts)) (run_at-append heap more s (2 * n) (omega (arith, b, l)))
value-append t heap more i (kind.Closure k s n) b l =
    ap (λ ts. tree.Closure (get_or t.origins k no_origin) ts) (run_at-append heap more s n (omega (arith, b.1, l)))

-- the tables have more, and what they had
pub record Extends (t u : Tables) : Type 0 where
  pub atoms_more : List (List ℕ)
  pub atoms : u.atoms ≡ t.atoms ++ atoms_more
  pub binaries_more : List (List ℕ)
  pub binaries : u.binaries ≡ t.binaries ++ binaries_more
  pub origins_more : List Origin
  pub origins : u.origins ≡ t.origins ++ origins_more

at-more : {A : Type 0} (xs ys more : List A) (k : ℕ) (d : A) → ys ≡ xs ++ more → k < length xs → get_or ys k d ≡ get_or xs k d
at-more xs ys more k d e l = ap (λ zs. get_or zs k d) e ∙ get_or-append xs more d k l

within-more : {A : Type 0} (xs ys more : List A) (k : ℕ) → ys ≡ xs ++ more → k < length xs → k < length ys
within-more xs ys more k e l = omega (arith, l, ap length e, length-append xs more)

value-extends : (t u : Tables) (heap : List TermTree) (i : ℕ) (k : Kind) → Extends t u → Below t i k → value u heap k ≡ value t heap k
value-extends t u heap i (kind.Int n) e b = refl
value-extends t u heap i (kind.Atom k) e b = ap (λ x. tree.Atom x) (at-more t.atoms u.atoms e.atoms_more k [] e.atoms b)
value-extends t u heap i (kind.Bin k) e b = ap (λ x. tree.Bin x) (at-more t.binaries u.binaries e.binaries_more k [] e.binaries b)
value-extends t u heap i kind.Nil e b = refl
value-extends t u heap i (kind.Cons h k) e b = refl
value-extends t u heap i (kind.Tuple s n) e b = refl
value-extends t u heap i (kind.Map s n) e b = refl
value-extends t u heap i (kind.Closure k s n) e b =
    ap (λ x. tree.Closure x (run_at heap s n)) (at-more t.origins u.origins e.origins_more k no_origin e.origins b.0)

Below-extends : (t u : Tables) (i : ℕ) (k : Kind) → Extends t u → Below t i k → Below u i k
Below-extends t u i (kind.Int n) e b = tt
Below-extends t u i (kind.Atom k) e b = within-more t.atoms u.atoms e.atoms_more k e.atoms b
Below-extends t u i (kind.Bin k) e b = within-more t.binaries u.binaries e.binaries_more k e.binaries b
Below-extends t u i kind.Nil e b = tt
Below-extends t u i (kind.Cons h k) e b = b
Below-extends t u i (kind.Tuple s n) e b = b
Below-extends t u i (kind.Map s n) e b = b
Below-extends t u i (kind.Closure k s n) e b = (within-more t.origins u.origins e.origins_more k e.origins b.0, b.1)

pub Below-later : (t : Tables) (i j : ℕ) (k : Kind) → i ≤ j → Below t i k → Below t j k
Below-later t i j (kind.Int n) l b = tt
Below-later t i j (kind.Atom k) l b = b
Below-later t i j (kind.Bin k) l b = b
Below-later t i j kind.Nil l b = tt
Below-later t i j (kind.Cons h k) l b = (omega (arith, b.0, l), omega (arith, b.1, l))
Below-later t i j (kind.Tuple s n) l b = omega (arith, b, l)
Below-later t i j (kind.Map s n) l b = omega (arith, b, l)
Below-later t i j (kind.Closure k s n) l b = (b.0, omega (arith, b.1, l))

-- a cell that names no text
pub Below-plain : (t : Tables) (i : ℕ) (k : Kind) → Below no_tables i k → Below t i k
Below-plain t i (kind.Int n) b = tt
Below-plain t i (kind.Atom k) b = absurd (not-suc-le-zero b)
Below-plain t i (kind.Bin k) b = absurd (not-suc-le-zero b)
Below-plain t i kind.Nil b = tt
Below-plain t i (kind.Cons h k) b = b
Below-plain t i (kind.Tuple s n) b = b
Below-plain t i (kind.Map s n) b = b
Below-plain t i (kind.Closure k s n) b = absurd (not-suc-le-zero b.0)

pub value-plain : (t : Tables) (heap : List TermTree) (i : ℕ) (k : Kind) → Below no_tables i k → value t heap k ≡ value no_tables heap k
value-plain t heap i (kind.Int n) b = refl
value-plain t heap i (kind.Atom k) b = absurd (not-suc-le-zero b)
value-plain t heap i (kind.Bin k) b = absurd (not-suc-le-zero b)
value-plain t heap i kind.Nil b = refl
value-plain t heap i (kind.Cons h k) b = refl
value-plain t heap i (kind.Tuple s n) b = refl
value-plain t heap i (kind.Map s n) b = refl
value-plain t heap i (kind.Closure k s n) b = absurd (not-suc-le-zero b.0)

-- ---- the terms of the first n cells

module _ (t : Tables) where
  pub length-upto : (cells : List Cell) (n : ℕ) → length (terms_upto t cells n) ≡ n
  unfolding terms_upto
  length-upto cells zero = refl
  length-upto cells (suc n) =
      let v = value t (terms_upto t cells n) (cell_at cells n).kind in
      length-append (terms_upto t cells n) (v ∷ []) ∙ omega (arith, length-upto cells n)

  upto-append : (cells more : List Cell) (n : ℕ) → n ≤ length cells → terms_upto t (cells ++ more) n ≡ terms_upto t cells n
  unfolding terms_upto
  upto-append cells more zero l = refl
  upto-append cells more (suc n) l =
      let before = upto-append cells more n (omega (arith, l)) in
      let same = get_or-append cells more (cell_at [] 0) n l in
      λ j. before j ++ value t (before j) (same j).kind ∷ []

  upto-take : (cells : List Cell) (n m : ℕ) → m ≤ n → take m (terms_upto t cells n) ≡ terms_upto t cells m
  unfolding terms_upto
  upto-take cells zero zero l = refl
  upto-take cells zero (suc m) l = absurd (not-suc-le-zero l)
  upto-take cells (suc n) m l =
      let v = value t (terms_upto t cells n) (cell_at cells n).kind in
      elim (cases_eq m (suc n)) [
        | inl eq ↦ ap (λ k. take k (terms_upto t cells n ++ v ∷ [])) eq
            ∙ take_all (suc n) (terms_upto t cells n ++ v ∷ []) (omega (arith, length-append (terms_upto t cells n) (v ∷ []), length-upto cells n))
            ∙ ap (λ k. terms_upto t cells k) (sym eq)
        | inr ne ↦ let less : m ≤ n = omega (arith, l, ne) in
            take-append-le m (terms_upto t cells n) (v ∷ []) (omega (arith, less, length-upto cells n)) ∙ upto-take cells n m less
      ]

upto-extends : (t u : Tables) (cells : List Cell) → Extends t u → ((i : ℕ) → i < length cells → Below t i (cell_at cells i).kind) → (n : ℕ) → n ≤ length cells → terms_upto u cells n ≡ terms_upto t cells n
unfolding terms_upto
upto-extends t u cells e below zero l = refl
upto-extends t u cells e below (suc n) l =
    let k = (cell_at cells n).kind in
    let before = upto-extends t u cells e below n (omega (arith, l)) in
    let same = value-extends t u (terms_upto t cells n) n k e (below n l) in
    (λ j. before j ++ value u (before j) k ∷ []) ∙ (λ j. terms_upto t cells n ++ same j ∷ [])

-- ---- all cells

module _ (t : Tables) (cells : List Cell) (are : AreCells t cells) where
  pub length-heap : length (heap_of t cells) ≡ length cells
  length-heap = length-upto t cells (length cells)

  -- a cell is what it stands for
  pub cell_is : (r : ℕ) (c : Cell) → slice_get cells r ≡ Some c → IsCell t (heap_of t cells) r c
  cell_is r c e =
      let within : r < length cells = slice_get_within cells r c e in
      subst (λ d. IsCell t (heap_of t cells) r d) (get_or_from_slice_get cells r c (cell_at [] 0) e) (are.each r within)

  -- more texts leave the terms
  module _ (u : Tables) (e : Extends t u) where
    pub heap-extends : heap_of u cells ≡ heap_of t cells
    heap-extends = upto-extends t u cells e (λ i l. (are.each i l).below) (length cells) (omega arith)

    pub AreCells-extends : AreCells u cells
    AreCells-extends = record {
      each = λ i l.
          let is = are.each i l in
          subst (λ (h : List TermTree). IsCell u h i (cell_at cells i)) (sym heap-extends) record {
            below = Below-extends t u i (cell_at cells i).kind e is.below;
            term = value-extends t u (heap_of t cells) i (cell_at cells i).kind e is.below ∙ is.term;
            measured = is.measured;
          };
    }

  -- one cell more
  module _ (c : Cell) where
    abbrev v : TermTree
    v = value t (heap_of t cells) c.kind

    last : cell_at (cells ++ c ∷ []) (length cells) ≡ c
    last = get_or_push cells c (cell_at [] 0) (length cells) refl

    pub heap-push : heap_of t (cells ++ c ∷ []) ≡ heap_of t cells ++ v ∷ []
    unfolding terms_upto
    heap-push =
        let count : length (cells ++ c ∷ []) ≡ suc (length cells) = length-append cells (c ∷ []) ∙ add-one (length cells) in
        let before = upto-append t cells (c ∷ []) (length cells) (omega arith) in
        ap (terms_upto t (cells ++ c ∷ [])) count
        ∙ (λ j. before j ++ value t (before j) (last j).kind ∷ [])

    pub AreCells-push : Below t (length cells) c.kind → Measured c.size c.depth v → AreCells t (cells ++ c ∷ [])
    AreCells-push below measured = record {
      each = λ i l.
          subst (λ (h : List TermTree). IsCell t h i (cell_at (cells ++ c ∷ []) i)) (sym heap-push)
          (elim (cases_eq i (length cells)) [
            | inl eq ↦ subst (λ (k : ℕ). IsCell t (heap_of t cells ++ v ∷ []) k (cell_at (cells ++ c ∷ []) k)) (sym eq)
                (subst (λ (d : Cell). IsCell t (heap_of t cells ++ v ∷ []) (length cells) d) (sym last) (
                let here : term_at (heap_of t cells ++ v ∷ []) (length cells) ≡ v = get_or_push (heap_of t cells) v tree.Nil (length cells) length-heap in
                record {
                  below = below;
                  term = value-append t (heap_of t cells) (v ∷ []) (length cells) c.kind below (omega (arith, length-heap)) ∙ sym here;
                  measured = subst (λ (x : TermTree). Measured c.size c.depth x) (sym here) measured;
                }))
            | inr ne ↦
                let before : i < length cells = omega (arith, l, ne, length-append cells (c ∷ [])) in
                let is = are.each i before in
                let here : term_at (heap_of t cells ++ v ∷ []) i ≡ term_at (heap_of t cells) i = term_at-append (heap_of t cells) (v ∷ []) i (omega (arith, before, length-heap)) in
                subst (λ (d : Cell). IsCell t (heap_of t cells ++ v ∷ []) i d) (sym (get_or-append cells (c ∷ []) (cell_at [] 0) i before)) record {
                  below = is.below;
                  term = value-append t (heap_of t cells) (v ∷ []) i (cell_at cells i).kind is.below (omega (arith, before, length-heap)) ∙ is.term ∙ sym here;
                  measured = subst (λ (x : TermTree). Measured (cell_at cells i).size (cell_at cells i).depth x) (sym here) is.measured;
                }
          ]);
    }

  -- fewer cells
  module _ (m : ℕ) (l : m ≤ length cells) where
    few : length (take m cells) ≡ m
    few = length-take-le m cells l

    front : terms_upto t (take m cells) m ≡ terms_upto t cells m
    front = sym (upto-append t (take m cells) (drop m cells) m (omega (arith, few))) ∙ ap (λ (cs : List Cell). terms_upto t cs m) (take-append-drop m cells)

    pub heap-take : heap_of t (take m cells) ≡ take m (heap_of t cells)
    heap-take = ap (terms_upto t (take m cells)) few ∙ front ∙ sym (upto-take t cells (length cells) m l)

    pub AreCells-take : AreCells t (take m cells)
    AreCells-take = record {
      each = λ i li.
          let below : i < m = omega (arith, li, few) in
          let is = are.each i (omega (arith, below, l)) in
          let c = cell_at cells i in
          let rest = drop m (heap_of t cells) in
          let whole : take m (heap_of t cells) ++ rest ≡ heap_of t cells = take-append-drop m (heap_of t cells) in
          let long : length (take m (heap_of t cells)) ≡ m = length-take-le m (heap_of t cells) (omega (arith, l, length-heap)) in
          let here : term_at (take m (heap_of t cells)) i ≡ term_at (heap_of t cells) i = get_or-take m (heap_of t cells) i tree.Nil below in
          subst (λ (h : List TermTree). IsCell t h i (cell_at (take m cells) i)) (sym heap-take)
          (subst (λ (d : Cell). IsCell t (take m (heap_of t cells)) i d) (sym (get_or-take m cells i (cell_at [] 0) below)) record {
            below = is.below;
            term = sym (value-append t (take m (heap_of t cells)) rest i c.kind is.below (omega (arith, below, long))) ∙ ap (λ (h : List TermTree). value t h c.kind) whole ∙ is.term ∙ sym here;
            measured = subst (λ (x : TermTree). Measured c.size c.depth x) (sym here) is.measured;
          });
    }

-- ---- one cell more, as the calls say it

module _ (t : Tables) (cells new : List Cell) (heap : List TermTree) (c : Cell) (are : AreCells t cells) (view : heap_of t cells ≡ heap) (pushed : new ≡ cells ++ c ∷ []) where
  pub count : length cells ≡ length heap
  count = sym (length-heap t cells are) ∙ ap length view

  -- any cell
  module _ (below : Below t (length heap) c.kind) (measured : Measured c.size c.depth (value t heap c.kind)) where
    pub are-pushed : AreCells t new
    are-pushed =
        subst (λ (cs : List Cell). AreCells t cs) (sym pushed)
        (AreCells-push t cells are c (subst (λ (n : ℕ). Below t n c.kind) (sym count) below)
        (subst (λ (h : List TermTree). Measured c.size c.depth (value t h c.kind)) (sym view) measured))

    pub heap-pushed : heap_of t new ≡ heap ++ value t heap c.kind ∷ []
    heap-pushed = ap (λ (cs : List Cell). heap_of t cs) pushed ∙ heap-push t cells are c ∙ (λ j. view j ++ value t (view j) c.kind ∷ [])

  -- one that names no text
  module _ (below : Below no_tables (length heap) c.kind) (measured : Measured c.size c.depth (value no_tables heap c.kind)) where
    same : value t heap c.kind ≡ value no_tables heap c.kind
    same = value-plain t heap (length heap) c.kind below

    here : Below t (length heap) c.kind
    here = Below-plain t (length heap) c.kind below

    fitting : Measured c.size c.depth (value t heap c.kind)
    fitting = subst (λ (x : TermTree). Measured c.size c.depth x) (sym same) measured

    pub are-plain : AreCells t new
    are-plain = are-pushed here fitting

    pub heap-plain : heap_of t new ≡ heap ++ value no_tables heap c.kind ∷ []
    heap-plain = heap-pushed here fitting ∙ ap (λ (x : TermTree). heap ++ x ∷ []) same

  -- a copy of another
  module _ (r : ℕ) (found : slice_get cells r ≡ Some c) where
    is : IsCell t heap r c
    is = subst (λ (h : List TermTree). IsCell t h r c) view (cell_is t cells are r c found)

    within : r ≤ length heap
    within = let l = slice_get_within cells r c found in omega (arith, l, count)

    copied : Below t (length heap) c.kind
    copied = Below-later t r (length heap) c.kind within is.below

    copied_fits : Measured c.size c.depth (value t heap c.kind)
    copied_fits = subst (λ (x : TermTree). Measured c.size c.depth x) (sym is.term) is.measured

    pub are-copied : AreCells t new
    are-copied = are-pushed copied copied_fits

    pub heap-copied : heap_of t new ≡ heap ++ term_at heap r ∷ []
    heap-copied = heap-pushed copied copied_fits ∙ ap (λ (x : TermTree). heap ++ x ∷ []) is.term

-- the cell of a reference
module _ (t : Tables) (cells : List Cell) (heap : List TermTree) (r place : ℕ) (are : AreCells t cells) (view : heap_of t cells ≡ heap) (at : place ≡ r) where
  pub found-within : Holds heap r → place < length cells
  found-within h = omega (arith, h.within, at, length-heap t cells are, ap length view)

  pub cell-of : (c : Cell) → slice_get cells place ≡ Some c → IsCell t heap r c
  cell-of c found =
      subst (λ (n : ℕ). IsCell t heap n c) at (subst (λ (h : List TermTree). IsCell t h place c) view (cell_is t cells are place c found))

-- the tables with one text more
pub more_atoms : (t : Tables) (new : List (List ℕ)) (text : List ℕ) → new ≡ t.atoms ++ text ∷ [] → Extends t (record t { atoms = new })
more_atoms t new text e = record { atoms_more = text ∷ []; atoms = e; binaries_more = []; binaries = sym (append-nil t.binaries); origins_more = []; origins = sym (append-nil t.origins) }

pub more_binaries : (t : Tables) (new : List (List ℕ)) (bytes : List ℕ) → new ≡ t.binaries ++ bytes ∷ [] → Extends t (record t { binaries = new })
more_binaries t new bytes e = record { atoms_more = []; atoms = sym (append-nil t.atoms); binaries_more = bytes ∷ []; binaries = e; origins_more = []; origins = sym (append-nil t.origins) }

pub more_origins : (t : Tables) (new : List Origin) (origin : Origin) → new ≡ t.origins ++ origin ∷ [] → Extends t (record t { origins = new })
more_origins t new origin e = record { atoms_more = []; atoms = sym (append-nil t.atoms); binaries_more = []; binaries = sym (append-nil t.binaries); origins_more = origin ∷ []; origins = e }

-- the text that was added last
pub number-last : {A : Type 0} (xs ys : List A) (y d : A) (k : ℕ) → ys ≡ xs ++ y ∷ [] → k ≡ length xs → (k < length ys) × (get_or ys k d ≡ y)
number-last xs ys y d k e at = (omega (arith, at, ap length e, length-append xs (y ∷ [])), ap (λ (zs : List _). get_or zs k d) e ∙ get_or_push xs y d k (sym at))
