-- Paths and origins are read back from their terms.
use borrow.Author.Tests.{le-leb}
use Rattle.std.proofs.Common.{◌≡◌, ◌≤◌, ◌&&◌, ℕ, suc, Bool, true, false, nat_le, IsTrue, if◌then◌else◌, List, [], ◌∷◌, length, map, Option, Some, None, refl, ap, sym, ◌∙◌, subst, ℤ, pos, negsuc, arith}
use Rattle.std.specs.List.{list_all}
use Rattle.std.proofs.lemmas.Bool.{and_from, and_parts, leb-true}
use Rattle.std.proofs.lemmas.List.{length-map}
use Rattle.kh_term.specs.declared.limits.TheConstants.{MOST_ARITY, MOST_NAMES}
use Rattle.kh_term.specs.declared.name.Name.{Name}
use Rattle.kh_term.specs.declared.name.Name.TheVariants as name
use Rattle.kh_term.specs.declared.name.Origin.{Origin}
use Rattle.kh_term.specs.declared.term.Term.{Term}
use Rattle.kh_term.specs.declared.tree.TermTree.{TermTree, out-TermTree}
use Rattle.kh_term.specs.declared.tree.TermTree.TheVariants as tree
use Rattle.kh_term.specs.declared.tree.TermTree.TheVariants.{outs-Int, outs-Atom, outs-Bin, outs-Nil, outs-List, outs-Tuple, rolls-Int, rolls-Atom, rolls-Bin, rolls-Nil, rolls-List, rolls-Tuple}
use Rattle.kh_term.specs.declared.tree.TermTree.TheOpen.{TermTree-F}
use Rattle.kh_term.specs.declared.tree.TermTree.TheOpen as layer
use Rattle.kh_term.specs.Make.{name_tree, path_tree}
use Rattle.kh_term.specs.Name.{is_name, is_path}
use Rattle.kh_term.specs.Size.{is_nil}
use Rattle.kh_term.specs.WellFormed.{IsTerm}
use Rattle.kh_term.specs.Parts.{named, name_in, name_of, names_of, in_front, path_in, path_of, origin_tree, atom_in, arity_in, arity_within, origin_with, origin_of_parts, origin_in, origin_of}
use Rattle.kh_term.specs.Lemmas.Fits.{ends_list}
use Rattle.kh_term.specs.Lemmas.Total.{layered}
use Rattle.kh_term.proofs.NamesRead.{names_are}

-- ---- names

named_same : (m n : Name) → named m ≡ Some n → m ≡ n
named_same m n e = go (is_name m) e
  where
    go : (b : Bool) → (if b then Some m else None) ≡ Some n → m ≡ n
    go true f = cc
    go false f = absurd (cc)

name_reads : (t : TermTree) (n : Name) → name_of t ≡ Some n → t ≡ name_tree n
name_reads t n e = go (out-TermTree t) refl e
  where
    go : (l : TermTree-F TermTree) → out-TermTree t ≡ l → name_in l ≡ Some n → t ≡ name_tree n
    go (layer.Atom text) f h = layered t _ f ∙ (rolls-Atom text ∙ ap name_tree (named_same (name.Atom text) n h))
    go (layer.Bin bytes) f h = layered t _ f ∙ (rolls-Bin bytes ∙ ap name_tree (named_same (name.Bin bytes) n h))
    go (layer.Int number) f h = absurd (cc)
    go layer.Nil f h = absurd (cc)
    go (layer.List parts tail) f h = absurd (cc)
    go (layer.Tuple parts) f h = absurd (cc)
    go (layer.Map pairs) f h = absurd (cc)
    go (layer.Closure origin env) f h = absurd (cc)

names_read : (ts : List TermTree) (ns : List Name) → names_of ts ≡ Some ns → ts ≡ map name_tree ns
names_read [] ns e = let same : [] ≡ ns = cc in ap (map name_tree) same
names_read (t ∷ ts) ns e = go (name_of t) (names_of ts) refl (names_read ts) e
  where
    go : (m : Option Name) (ms : Option (List Name)) → name_of t ≡ m → ((xs : List Name) → ms ≡ Some xs → ts ≡ map name_tree xs) → in_front m ms ≡ Some ns → t ∷ ts ≡ map name_tree ns
    go (Some m) (Some ms) f behind h =
        let same : m ∷ ms ≡ ns = cc in (λ i. name_reads t m f i ∷ behind ms refl i) ∙ ap (map name_tree) same
    go (Some m) None f behind h = absurd (cc)
    go None ms f behind h = absurd (cc)

nil_is : (t : TermTree) → is_nil (out-TermTree t) ≡ true → t ≡ tree.Nil
nil_is t e = go (out-TermTree t) refl e
  where
    go : (l : TermTree-F TermTree) → out-TermTree t ≡ l → is_nil l ≡ true → t ≡ tree.Nil
    go layer.Nil f h = layered t _ f ∙ rolls-Nil
    go (layer.Int number) f h = absurd (cc)
    go (layer.Atom text) f h = absurd (cc)
    go (layer.Bin bytes) f h = absurd (cc)
    go (layer.List parts tail) f h = absurd (cc)
    go (layer.Tuple parts) f h = absurd (cc)
    go (layer.Map pairs) f h = absurd (cc)
    go (layer.Closure origin env) f h = absurd (cc)

-- ---- paths

path_named : (ns : List Name) → length ns ≤ MOST_NAMES → list_all is_name ns ≡ true → is_path ns ≡ true
path_named ns few each = and_from _ _ (le-leb (length ns) MOST_NAMES few) each

of_list : (p : List Name) (n : TermTree) (parts : List TermTree) (tail : TermTree) → parts ≡ n ∷ map name_tree p → tail ≡ tree.Nil → tree.List parts tail ≡ tree.List (n ∷ map name_tree p) tree.Nil
of_list p n parts tail e f = λ i. tree.List (e i) (f i)

pub path_reads : (x : Term) (p : List Name) → path_of x.node ≡ Some p → (x.node ≡ path_tree p) × IsTrue (is_path p)
path_reads x p e = go (out-TermTree x.node) refl e
  where
    lists : (parts : List TermTree) (tail : TermTree) (ns : List Name) → IsTerm (tree.List parts tail) → tail ≡ tree.Nil → parts ≡ map name_tree ns → tree.List parts tail ≡ path_tree ns
    lists parts tail [] fits nil is = absurd (let some = subst (λ ps. IsTerm (tree.List ps tail)) is fits in let ends = ends_list [] tail some in cc)
    lists parts tail (n ∷ ns) fits nil is = of_list ns (name_tree n) parts tail is nil

    listed : (parts : List TermTree) (tail : TermTree) → x.node ≡ tree.List parts tail → (b : Bool) → is_nil (out-TermTree tail) && nat_le (length parts) MOST_NAMES ≡ b → (if b then names_of parts else None) ≡ Some p → (x.node ≡ path_tree p) × IsTrue (is_path p)
    listed parts tail f true g h =
        let both = and_parts (is_nil (out-TermTree tail)) (nat_le (length parts) MOST_NAMES) g in
        let are = names_are parts p (sym h) in
        let short = leb-true (length parts) MOST_NAMES both.1 in
        let few : length p ≤ MOST_NAMES = omega (arith, are.0, short) in
        (f ∙ lists parts tail p (subst IsTerm f x.fits) (nil_is tail both.0) (names_read parts p h), path_named p few are.1)
    listed parts tail f false g h = absurd (cc)

    go : (l : TermTree-F TermTree) → out-TermTree x.node ≡ l → path_in l ≡ Some p → (x.node ≡ path_tree p) × IsTrue (is_path p)
    go layer.Nil f h = let same : [] ≡ p = cc in (layered x.node _ f ∙ (rolls-Nil ∙ ap path_tree same), ap is_path (sym same))
    go (layer.List parts tail) f h = listed parts tail (layered x.node _ f ∙ rolls-List parts tail) _ refl h
    go (layer.Int number) f h = absurd (cc)
    go (layer.Atom text) f h = absurd (cc)
    go (layer.Bin bytes) f h = absurd (cc)
    go (layer.Tuple parts) f h = absurd (cc)
    go (layer.Map pairs) f h = absurd (cc)
    go (layer.Closure origin env) f h = absurd (cc)

name_back : (n : Name) → is_name n ≡ true → name_of (name_tree n) ≡ Some n
name_back (name.Atom text) h = ap name_in (outs-Atom text) ∙ ap (λ b. if b then Some (name.Atom text) else None) h
name_back (name.Bin bytes) h = ap name_in (outs-Bin bytes) ∙ ap (λ b. if b then Some (name.Bin bytes) else None) h

names_back : (ns : List Name) → list_all is_name ns ≡ true → names_of (map name_tree ns) ≡ Some ns
names_back [] h = refl
names_back (n ∷ ns) h =
    let both = and_parts (is_name n) (list_all is_name ns) h in λ i. in_front (name_back n both.0 i) (names_back ns both.1 i)

pub path_back : (t : TermTree) (p : List Name) → (t ≡ path_tree p) × IsTrue (is_path p) → path_of t ≡ Some p
path_back t p h = ap path_of h.0 ∙ back p h.1
  where
    back : (ns : List Name) → IsTrue (is_path ns) → path_of (path_tree ns) ≡ Some ns
    back [] g = ap path_in outs-Nil
    back (n ∷ ns) g =
        let both = and_parts (nat_le (length (n ∷ ns)) MOST_NAMES) (list_all is_name (n ∷ ns)) g in
        let short : nat_le (length (map name_tree (n ∷ ns))) MOST_NAMES ≡ true = ap (λ k. nat_le k MOST_NAMES) (length-map (n ∷ ns) name_tree) ∙ both.0 in
        ap path_in (outs-List (map name_tree (n ∷ ns)) tree.Nil)
        ∙ ((λ i. if is_nil (outs-Nil i) && short i then names_of (map name_tree (n ∷ ns)) else None) ∙ names_back (n ∷ ns) both.1)

-- ---- origins

atom_reads : (t : TermTree) (text : List ℕ) → atom_in (out-TermTree t) ≡ Some text → t ≡ tree.Atom text
atom_reads t text e = go (out-TermTree t) refl e
  where
    go : (l : TermTree-F TermTree) → out-TermTree t ≡ l → atom_in l ≡ Some text → t ≡ tree.Atom text
    go (layer.Atom x) f h = let same : x ≡ text = cc in layered t _ f ∙ (rolls-Atom x ∙ ap tree.Atom same)
    go (layer.Int number) f h = absurd (cc)
    go (layer.Bin bytes) f h = absurd (cc)
    go layer.Nil f h = absurd (cc)
    go (layer.List parts tail) f h = absurd (cc)
    go (layer.Tuple parts) f h = absurd (cc)
    go (layer.Map pairs) f h = absurd (cc)
    go (layer.Closure origin env) f h = absurd (cc)

within : (n a : ℕ) → (if nat_le n MOST_ARITY then Some n else None) ≡ Some a → (n ≡ a) × (a ≤ MOST_ARITY)
within n a e = go (nat_le n MOST_ARITY) refl e
  where
    go : (b : Bool) → nat_le n MOST_ARITY ≡ b → (if b then Some n else None) ≡ Some a → (n ≡ a) × (a ≤ MOST_ARITY)
    go true f h = let same : n ≡ a = cc in (same, subst (λ k. k ≤ MOST_ARITY) same (leb-true n MOST_ARITY f))
    go false f h = absurd (cc)

arity_reads : (t : TermTree) (a : ℕ) → arity_in (out-TermTree t) ≡ Some a → (t ≡ tree.Int (pos a)) × (a ≤ MOST_ARITY)
arity_reads t a e = go (out-TermTree t) refl e
  where
    go : (l : TermTree-F TermTree) → out-TermTree t ≡ l → arity_in l ≡ Some a → (t ≡ tree.Int (pos a)) × (a ≤ MOST_ARITY)
    go (layer.Int (pos n)) f h = let both = within n a h in (layered t _ f ∙ (rolls-Int (pos n) ∙ ap (λ k. tree.Int (pos k)) both.0), both.1)
    go (layer.Int (negsuc n)) f h = absurd (cc)
    go (layer.Atom x) f h = absurd (cc)
    go (layer.Bin bytes) f h = absurd (cc)
    go layer.Nil f h = absurd (cc)
    go (layer.List parts tail) f h = absurd (cc)
    go (layer.Tuple parts) f h = absurd (cc)
    go (layer.Map pairs) f h = absurd (cc)
    go (layer.Closure origin env) f h = absurd (cc)

parts_read : (ts : List TermTree) (o : Origin) → origin_of_parts ts ≡ Some o → (tree.Tuple ts ≡ origin_tree o) × (o.arity ≤ MOST_ARITY)
parts_read [] o e = absurd (cc)
parts_read (m ∷ []) o e = absurd (cc)
parts_read (m ∷ f ∷ []) o e = absurd (cc)
parts_read (m ∷ f ∷ a ∷ b ∷ ts) o e = absurd (cc)
parts_read (m ∷ f ∷ a ∷ []) o e = go (atom_in (out-TermTree m)) (atom_in (out-TermTree f)) (arity_in (out-TermTree a)) refl refl refl e
  where
    go : (x y : Option (List ℕ)) (z : Option ℕ) → atom_in (out-TermTree m) ≡ x → atom_in (out-TermTree f) ≡ y → arity_in (out-TermTree a) ≡ z → origin_with x y z ≡ Some o → (tree.Tuple (m ∷ f ∷ a ∷ []) ≡ origin_tree o) × (o.arity ≤ MOST_ARITY)
    go (Some x) (Some y) (Some z) i j k h =
        let number = arity_reads a z k in
        let same : record { «module» = x; name = y; arity = z } ≡ o = cc in
        ((λ w. tree.Tuple (atom_reads m x i w ∷ atom_reads f y j w ∷ number.0 w ∷ [])) ∙ ap origin_tree same, subst (λ q. q.arity ≤ MOST_ARITY) same number.1)
    go (Some x) (Some y) None i j k h = absurd (cc)
    go (Some x) None z i j k h = absurd (cc)
    go None y z i j k h = absurd (cc)

pub origin_reads : (t : TermTree) (o : Origin) → origin_of t ≡ Some o → (t ≡ origin_tree o) × (o.arity ≤ MOST_ARITY)
origin_reads t o e = go (out-TermTree t) refl e
  where
    go : (l : TermTree-F TermTree) → out-TermTree t ≡ l → origin_in l ≡ Some o → (t ≡ origin_tree o) × (o.arity ≤ MOST_ARITY)
    go (layer.Tuple parts) f h = let both = parts_read parts o h in (layered t _ f ∙ (rolls-Tuple parts ∙ both.0), both.1)
    go (layer.Int number) f h = absurd (cc)
    go (layer.Atom x) f h = absurd (cc)
    go (layer.Bin bytes) f h = absurd (cc)
    go layer.Nil f h = absurd (cc)
    go (layer.List parts tail) f h = absurd (cc)
    go (layer.Map pairs) f h = absurd (cc)
    go (layer.Closure origin env) f h = absurd (cc)

pub origin_back : (t : TermTree) (o : Origin) → (t ≡ origin_tree o) × (o.arity ≤ MOST_ARITY) → origin_of t ≡ Some o
origin_back t o h =
    ap origin_of h.0
    ∙ (ap origin_in (outs-Tuple (tree.Atom o.module ∷ tree.Atom o.name ∷ tree.Int (pos o.arity) ∷ []))
    ∙ ((λ i. origin_with (atom_in (outs-Atom o.module i)) (atom_in (outs-Atom o.name i)) (arity_in (outs-Int (pos o.arity) i)))
    ∙ ap (λ b. origin_with (Some o.module) (Some o.name) (if b then Some o.arity else None)) (le-leb o.arity MOST_ARITY h.1)))
