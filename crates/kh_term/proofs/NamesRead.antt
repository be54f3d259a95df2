-- The names of terms, one after another.
use Rattle.std.proofs.Common.{◌≡◌, ◌<◌, ◌≤◌, ◌↔◌, ◌&&◌, nat_le, if◌then◌else◌, Bool, true, false, IsTrue, IsSome, IfSome, arith, ℕ, suc, ◌+◌, List, [], ◌∷◌, ◌++◌, length, drop, get_or, append_assoc, append-nil, Option, Some, None, refl, ap, sym, ◌∙◌, add-one, drop-cons}
use borrow.Author.Tests.{le-leb}
use Rattle.std.specs.List.{list_all}
use Rattle.std.proofs.lemmas.Bool.{and_from}
use Rattle.kh_term.specs.declared.limits.TheConstants.{MOST_NAMES}
use Rattle.kh_term.specs.declared.name.Name.{Name}
use Rattle.kh_term.specs.declared.name.Name.TheVariants as name
use Rattle.kh_term.specs.declared.tree.TermTree.{out-TermTree}
use Rattle.kh_term.specs.declared.tree.TermTree.TheVariants as tree
use Rattle.kh_term.specs.declared.tree.TermTree.TheVariants.{outs-List}
use Rattle.kh_term.specs.declared.tree.TermTree.TheOpen.{TermTree-F}
use Rattle.kh_term.specs.declared.tree.TermTree.TheOpen as layer
use Rattle.kh_term.specs.Name.{is_name, is_path}
use Rattle.kh_term.specs.Size.{is_nil}
use Rattle.kh_term.specs.declared.tree.TermTree.{TermTree}
use Rattle.kh_term.specs.Parts.{named, name_in, name_of, names_of, in_front, path_in, path_of}

-- names that were read, in front of those that are left
abbrev pub ahead : List Name → Option (List Name) → Option (List Name)
ahead names None = None
ahead names (Some rest) = Some (names ++ rest)

-- one that stands for no name
pub none_read : (ts : List TermTree) (i : ℕ) (t : TermTree) (names : List Name) (all : Option (List Name)) → i < length ts → t ≡ get_or ts i t → None ≡ name_of t → ahead names (names_of (drop i ts)) ≡ all → None ≡ all
none_read ts i t names all h e none is =
    ap (λ n. ahead names (in_front n (names_of (drop (suc i) ts)))) (none ∙ ap name_of e) ∙ (sym (ap (λ xs. ahead names (names_of xs)) (drop-cons ts i t h)) ∙ is)

one_more : (names : List Name) (n : Name) (rest : Option (List Name)) → ahead (names ++ n ∷ []) rest ≡ ahead names (in_front (Some n) rest)
one_more names n None = refl
one_more names n (Some rest) = ap Some (append_assoc names (n ∷ []) rest)

-- one more name
pub name_read : (ts : List TermTree) (i : ℕ) (t : TermTree) (n : Name) (names more : List Name) (all : Option (List Name)) → i < length ts → t ≡ get_or ts i t → Some n ≡ name_of t → more ≡ names ++ n ∷ [] → ahead names (names_of (drop i ts)) ≡ all → ahead more (names_of (drop (i + 1) ts)) ≡ all
name_read ts i t n names more all h e some pushed is =
    rw add-one
    (ap (λ xs. ahead xs (names_of (drop (suc i) ts))) pushed
    ∙ (one_more names n (names_of (drop (suc i) ts))
    ∙ (ap (λ m. ahead names (in_front m (names_of (drop (suc i) ts)))) (some ∙ ap name_of e)
    ∙ (sym (ap (λ xs. ahead names (names_of xs)) (drop-cons ts i t h)) ∙ is))))

pub ruleset names_read = (none_read, name_read)

-- ---- names that were read are names

named_is : (m n : Name) → Some n ≡ named m → is_name n ≡ true
named_is m n e = go (is_name m) refl e
  where
    go : (b : Bool) → is_name m ≡ b → Some n ≡ (if b then Some m else None) → is_name n ≡ true
    go true h f = let same : n ≡ m = cc in ap is_name same ∙ h
    go false h f = absurd (cc)

name_in_is : (l : TermTree-F TermTree) (n : Name) → Some n ≡ name_in l → is_name n ≡ true
name_in_is (layer.Atom text) n e = named_is (name.Atom text) n e
name_in_is (layer.Bin bytes) n e = named_is (name.Bin bytes) n e
name_in_is (layer.Int number) n e = absurd (cc)
name_in_is layer.Nil n e = absurd (cc)
name_in_is (layer.List parts tail) n e = absurd (cc)
name_in_is (layer.Tuple parts) n e = absurd (cc)
name_in_is (layer.Map pairs) n e = absurd (cc)
name_in_is (layer.Closure origin env) n e = absurd (cc)

pub names_are : (ts : List TermTree) (ns : List Name) → Some ns ≡ names_of ts → (length ns ≡ length ts) × (list_all is_name ns ≡ true)
names_are [] ns e = let same : ns ≡ [] = cc in (ap length same, ap (list_all is_name) same)
names_are (t ∷ ts) ns e = go (name_of t) (names_of ts) refl (names_are ts) e
  where
    go : (m : Option Name) (ms : Option (List Name)) → name_of t ≡ m → ((xs : List Name) → Some xs ≡ ms → (length xs ≡ length ts) × (list_all is_name xs ≡ true)) → Some ns ≡ in_front m ms → (length ns ≡ length (t ∷ ts)) × (list_all is_name ns ≡ true)
    go (Some m) (Some ms) f later h =
        let same : ns ≡ m ∷ ms = cc in
        let behind = later ms refl in
        (ap length same ∙ ap suc behind.0, ap (list_all is_name) same ∙ and_from _ _ (name_in_is (out-TermTree t) m (sym f)) behind.1)
    go (Some m) None f later h = absurd (cc)
    go None ms f later h = absurd (cc)

-- the names of a list are a path where there are at most 32
path_at : (ns : List Name) (r : Option (List Name)) → is_path ns ≡ true → (IsSome r ↔ IsTrue (is_path ns)) → IfSome r (λ p. p ≡ ns) → r ≡ Some ns
path_at ns None fits accepts value = absurd (let known = accepts.1 fits in cc)
path_at ns (Some p) fits accepts value = ap Some value

pub path_read : (t : TermTree) (parts : List TermTree) (tail : TermTree) (ns : List Name) (r : Option (List Name)) → t ≡ tree.List parts tail → is_nil (out-TermTree tail) ≡ true → length parts ≤ MOST_NAMES → Some ns ≡ names_of parts → (IsSome r ↔ IsTrue (is_path ns)) → IfSome r (λ p. p ≡ ns) → r ≡ path_of t
path_read t parts tail ns r e nil short read accepts value =
    let are = names_are parts ns read in
    let few : length ns ≤ MOST_NAMES = omega (arith, are.0) in
    path_at ns r (and_from _ _ (le-leb (length ns) MOST_NAMES few) are.1) accepts value
    ∙ (read
    ∙ (sym (λ i. if nil i && le-leb (length parts) MOST_NAMES short i then names_of parts else None)
    ∙ sym (ap path_in (ap out-TermTree e ∙ outs-List parts tail))))
