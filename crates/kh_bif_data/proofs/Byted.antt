-- The law of lists of bytes.
use Rattle.std.proofs.Common.{◌≡◌, ◌<◌, ℕ, zero, suc, ◌+◌, ℤ, pos, negsuc, Bool, true, false, not, nat_lt, List, [], ◌∷◌, ◌++◌, map, refl, sym, ap, subst, ◌∙◌}
use Rattle.std.specs.Prelude.{◌↔◌, Option, Some, None, if◌then◌else◌}
use borrow.Author.Tests.{ltb-true, lt-ltb}
use Rattle.kh_term.specs.declared.name.Origin.{Origin}
use Rattle.kh_term.specs.declared.tree.TermTree.{TermTree, out-TermTree}
use Rattle.kh_term.specs.declared.tree.TermTree.TheVariants as tree
use Rattle.kh_term.specs.declared.tree.TermTree.TheVariants.{outs-Int, rolls-Int, rolls-Atom, rolls-Tuple, rolls-Map, rolls-Closure}
use Rattle.kh_term.specs.declared.tree.TermTree.TheFolds.{para-roll-TermTree}
use Rattle.kh_term.specs.declared.tree.TermTree.TheOpen.{TermTree-F}
use Rattle.kh_term.specs.declared.tree.TermTree.TheOpen as layer
use Rattle.kh_term.specs.Lemmas.Fits.{parts_of_list, tail_of_list, ends_list, fits_front, fits_behind}
use Rattle.kh_term.specs.Lemmas.Induction.{by_parts, Each}
use Rattle.kh_term.specs.Lemmas.Total.{layered}
use Rattle.kh_term.specs.Make.{list_with_tail, in_front_of}
use Rattle.kh_term.specs.WellFormed.{IsTerm, AreTerms, is_list, is_list_of}
use Rattle.kh_heap.specs.Heap.{cons_tree}
use Rattle.kh_bif_data.specs.Iolists.{IsIolist, binary, empty, byte_first, nested, byte, iolist, iolist_step, joined, piece_of, piece_on, pieces}
use Rattle.kh_bif_data.specs.Laws.{IolistsHaveTheirBytes}
use Rattle.kh_bif_data.proofs.Conses.{onto-cons}
use Rattle.kh_bif_data.proofs.Iolisted.{found, iolist-Bin, iolist-Nil, iolist-List, iolist-cons}

-- ---- terms that give no bytes

pub iolist-Int : (n : ℤ) → iolist (tree.Int n) ≡ None
iolist-Int n = ap iolist (sym (rolls-Int n)) ∙ para-roll-TermTree (Option (List ℕ)) iolist_step (layer.Int n)

pub iolist-Atom : (text : List ℕ) → iolist (tree.Atom text) ≡ None
iolist-Atom text = ap iolist (sym (rolls-Atom text)) ∙ para-roll-TermTree (Option (List ℕ)) iolist_step (layer.Atom text)

pub iolist-Tuple : (parts : List TermTree) → iolist (tree.Tuple parts) ≡ None
iolist-Tuple parts = ap iolist (sym (rolls-Tuple parts)) ∙ para-roll-TermTree (Option (List ℕ)) iolist_step (layer.Tuple parts)

pub iolist-Map : (pairs : List (TermTree × TermTree)) → iolist (tree.Map pairs) ≡ None
iolist-Map pairs = ap iolist (sym (rolls-Map pairs)) ∙ para-roll-TermTree (Option (List ℕ)) iolist_step (layer.Map pairs)

pub iolist-Closure : (o : Origin) (env : List TermTree) → iolist (tree.Closure o env) ≡ None
iolist-Closure o env = ap iolist (sym (rolls-Closure o env)) ∙ para-roll-TermTree (Option (List ℕ)) iolist_step (layer.Closure o env)

clash : (o : Option (List ℕ)) (bytes : List ℕ) → o ≡ None → o ≡ Some bytes → ⊥
clash o bytes e f = cc

-- ---- elements

pub piece-Int : (n : ℤ) → piece_of (tree.Int n) ≡ byte n
piece-Int n = ap (λ (l : TermTree-F TermTree). piece_on l (iolist (tree.Int n))) (outs-Int n)

no_Int : (t : TermTree) (n : ℤ) (bytes : List ℕ) → out-TermTree t ≡ layer.Int n → iolist t ≡ Some bytes → ⊥
no_Int t n bytes o e = clash (iolist t) bytes (ap iolist (layered t (layer.Int n) o ∙ rolls-Int n) ∙ iolist-Int n) e

-- the bytes of a list or a binary as an element are its own
pub piece-list : (t : TermTree) (bytes : List ℕ) → iolist t ≡ Some bytes → piece_of t ≡ Some bytes
piece-list t bytes e = go (out-TermTree t) refl
  where
    go : (l : TermTree-F TermTree) → out-TermTree t ≡ l → piece_on l (iolist t) ≡ Some bytes
    go (layer.Int n) o = absurd (no_Int t n bytes o e)
    go l o = e

one_byte : (b : ℕ) → b < 256 → byte (pos b) ≡ Some (b ∷ [])
one_byte b l = ap (λ (c : Bool). if c then Some (b ∷ []) else None) (lt-ltb b 256 l)

-- ---- what the relation says is computed

pub computed : (t : TermTree) (bytes : List ℕ) → IsIolist t bytes → iolist t ≡ Some bytes
computed t bytes (binary same_term same_bytes e) = ap iolist e ∙ iolist-Bin bytes
computed t bytes (empty same_term e) = ap iolist e ∙ iolist-Nil
computed t bytes (byte_first same_term rest b more l h e) =
    ap iolist e ∙ iolist-cons (tree.Int (pos b)) rest
    ∙ (λ i. joined ((piece-Int (pos b) ∙ one_byte b l) i) (computed rest more h i))
computed t bytes (nested same_term h rest same_bytes xs ys g k e all) =
    ap iolist e ∙ iolist-cons h rest ∙ (λ i. joined (piece-list h xs (computed h xs g) i) (computed rest ys k i))
    ∙ ap (λ (zs : List ℕ). Some zs) (sym all)

-- ---- what is computed the relation says

abbrev Says : TermTree → Type 0
Says t = IsTerm t → (bytes : List ℕ) → iolist t ≡ Some bytes → IsIolist t bytes

-- an element that is put in front
in_front : (h t whole : TermTree) (xs ys : List ℕ) → Says h → IsTerm h → whole ≡ cons_tree h t → piece_of h ≡ Some xs → IsIolist t ys → IsIolist whole (xs ++ ys)
in_front h t whole xs ys says fits is e k = go (out-TermTree h) refl
  where
    a_byte : (n : ℤ) → out-TermTree h ≡ layer.Int n → byte n ≡ Some xs → IsIolist whole (xs ++ ys)
    a_byte (pos n) o f = test (nat_lt n 256) refl
      where
        test : (c : Bool) → nat_lt n 256 ≡ c → IsIolist whole (xs ++ ys)
        test true g =
            let bytes : n ∷ [] ≡ xs = cc in
            let same : whole ≡ cons_tree (tree.Int (pos n)) t = is ∙ ap (λ x. cons_tree x t) (layered h (layer.Int (pos n)) o ∙ rolls-Int (pos n)) in
            subst (λ zs. IsIolist whole (zs ++ ys)) bytes (byte_first whole t n ys (ltb-true n 256 g) k same)
        test false g = absurd (clash (byte (pos n)) xs (ap (λ (c : Bool). if c then Some (n ∷ []) else None) g) f)
    a_byte (negsuc n) o f = absurd (clash (byte (negsuc n)) xs refl f)

    go : (l : TermTree-F TermTree) → out-TermTree h ≡ l → IsIolist whole (xs ++ ys)
    go (layer.Int n) o = a_byte n o (sym (ap (λ (l : TermTree-F TermTree). piece_on l (iolist h)) o) ∙ e)
    go l o = nested whole h t (xs ++ ys) xs ys (says fits xs (sym (ap (λ (l : TermTree-F TermTree). piece_on l (iolist h)) o) ∙ e)) k is refl

-- both parts of what is joined
pub halves : (a b : Option (List ℕ)) (bytes : List ℕ) → joined a b ≡ Some bytes → (xs : List ℕ) × (ys : List ℕ) × (a ≡ Some xs) × (b ≡ Some ys) × (xs ++ ys ≡ bytes)
halves (Some xs) (Some ys) bytes e = (xs, ys, refl, refl, cc)
halves (Some xs) None bytes e = absurd (cc)
halves None b bytes e = absurd (cc)

listed : (xs : List TermTree) (t : TermTree) → Each Says xs → Says t → AreTerms xs → IsTerm t → (bytes : List ℕ) → pieces (map found xs) (iolist t) ≡ Some bytes → IsIolist (list_with_tail xs t) bytes
listed [] t each tail fit fits bytes e = tail fits bytes e
listed (x ∷ xs) t each tail fit fits bytes e =
    let h = halves (piece_of x) (pieces (map found xs) (iolist t)) bytes e in
    let rest = listed xs t each.1 tail (fits_behind x xs fit) fits h.1 h.3 in
    subst (IsIolist (list_with_tail (x ∷ xs) t)) h.4
    (in_front x (list_with_tail xs t) (list_with_tail (x ∷ xs) t) h.0 h.1 each.0 (fits_front x xs fit) (onto-cons x xs t) h.2 rest)

not-true : (b : Bool) → not b ≡ true → b ≡ false
not-true true e = absurd (cc)
not-true false e = refl

front : (x : TermTree) (xs : List TermTree) (t : TermTree) (l : TermTree-F TermTree) → is_list l ≡ false → in_front_of (x ∷ xs) l t ≡ tree.List (x ∷ xs) t
front x xs t (layer.List parts tail) e = absurd (cc)
front x xs t l e = refl

pub whole : (xs : List TermTree) (t : TermTree) → is_list_of xs t ≡ true → list_with_tail xs t ≡ tree.List xs t
whole [] t e = absurd (cc)
whole (x ∷ xs) t e = front x xs t (out-TermTree t) (not-true (is_list (out-TermTree t)) e)

some_same : (xs ys : List ℕ) → Some xs ≡ Some ys → xs ≡ ys
some_same xs ys e = cc

said-Bin : (all : List ℕ) → Says (tree.Bin all)
said-Bin all fits bytes e = binary (tree.Bin all) bytes (ap tree.Bin (some_same all bytes (sym (iolist-Bin all) ∙ e)))

said-Nil : Says tree.Nil
said-Nil fits bytes e = subst (IsIolist tree.Nil) (some_same [] bytes (sym iolist-Nil ∙ e)) (empty tree.Nil refl)

said-List : (xs : List TermTree) (t : TermTree) → Each Says xs → Says t → Says (tree.List xs t)
said-List xs t each tail fits bytes e =
    subst (λ (x : TermTree). IsIolist x bytes) (whole xs t (ends_list xs t fits))
    (listed xs t each tail (parts_of_list xs t fits) (tail_of_list xs t fits) bytes (sym (iolist-List xs t) ∙ e))

pub said : (t : TermTree) → Says t
said = by_parts Says record {
  at_int = λ n fits bytes e. absurd (clash (iolist (tree.Int n)) bytes (iolist-Int n) e);
  at_atom = λ text fits bytes e. absurd (clash (iolist (tree.Atom text)) bytes (iolist-Atom text) e);
  at_bin = said-Bin;
  at_nil = said-Nil;
  at_list = said-List;
  at_tuple = λ xs each fits bytes e. absurd (clash (iolist (tree.Tuple xs)) bytes (iolist-Tuple xs) e);
  at_map = λ ps each fits bytes e. absurd (clash (iolist (tree.Map ps)) bytes (iolist-Map ps) e);
  at_closure = λ o xs each fits bytes e. absurd (clash (iolist (tree.Closure o xs)) bytes (iolist-Closure o xs) e);
}

pub iolists_have_their_bytes : IolistsHaveTheirBytes
iolists_have_their_bytes x bytes = (said x.node x.fits bytes, computed x.node bytes)
