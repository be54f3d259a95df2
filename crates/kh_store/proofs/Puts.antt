-- The command of a put: its width, its depth and its length, and that its bytes are those of one put.
use Rattle.std.proofs.Common.{◌≡◌, ◌<◌, ◌≤◌, ◌^◌, ◌-◌, ◌&&◌, nat_le, ℕ, zero, suc, ℤ, true, false, not, cond, IsTrue, List, [], ◌∷◌, ◌++◌, length, get_or, codes, map, Option, Some, None, IfOk, IfNone, Result, Ok, Err, inl, inr, IsSome, ◌↔◌, refl, ap, sym, ◌∙◌, arith}
use Rattle.std.specs.List.{list_all}
use Rattle.std.specs.Str.{bytes_eq}
use Rattle.std.proofs.lemmas.Bool.{and_parts, leb-true}
use Rattle.std.proofs.lemmas.List.{length-map, take_all}
use Rattle.kh_term.specs.declared.name.Name.{Name}
use Rattle.kh_term.specs.declared.name.Name.TheVariants as name
use Rattle.kh_term.specs.declared.term.Term.{Term}
use Rattle.kh_term.specs.declared.tree.TermTree.{TermTree, out-TermTree}
use Rattle.kh_term.specs.declared.tree.TermTree.TheVariants as tree
use Rattle.kh_term.specs.declared.tree.TermTree.TheVariants.{outs-Int, outs-Atom, outs-Bin, outs-Nil, outs-List, outs-Tuple}
use Rattle.kh_term.specs.declared.tree.TermTree.TheOpen.{TermTree-F}
use Rattle.kh_term.proofs.Tags.{tagged}
use Rattle.kh_term.proofs.Bounds.{packed_le_size}
use Rattle.kh_term.proofs.Layers.{size-Int, size-Atom, size-Nil, size-List, size-Tuple, size-Map, width-Int, width-Atom, width-Bin, width-Nil, width-List, width-Tuple, width-Map, depth-Int, depth-Atom, depth-Bin, depth-Nil, depth-List, depth-Tuple, depth-Map}
use Rattle.kh_term.specs.Lemmas.Fits.{sum-cons}
use Rattle.kh_term.specs.Make.{name_tree, path_tree}
use Rattle.kh_term.specs.Name.{has_name_length, is_name, is_path}
use Rattle.kh_term.specs.Packed.{packed_of}
use Rattle.kh_term.specs.Size.{size_of, sizes_of, width_of, depth_of, greatest, is_nil}
use Rattle.kh_term.proofs.{one_spelling}
use Rattle.kh_pack.specs.Standing.{IsPackedAt, IsUnlessMemory}
use Rattle.kh_store.specs.Command.{put_parts, put_command, is_atom, is_atom_path, IsPut}
use Rattle.kh_store.specs.State.{command_limit}

-- ---- width

short_name : (text : List ℕ) → IsTrue (has_name_length text) → length text ≤ 255
short_name text h = leb-true _ _ (and_parts (nat_le 1 (length text)) (nat_le (length text) 255) h).1

name_narrow : (n : Name) → IsTrue (is_name n) → width_of (name_tree n) ≤ 255
name_narrow (name.Atom text) h =
    let p = and_parts (has_name_length text && not (bytes_eq text (codes "."))) (not (bytes_eq text (codes "^"))) h in
    let q = and_parts (has_name_length text) (not (bytes_eq text (codes "."))) p.0 in
    omega (arith, width-Atom text, short_name text q.0)
name_narrow (name.Bin bytes) h = omega (arith, width-Bin bytes, short_name bytes h)

names_narrow : (names : List Name) → IsTrue (list_all is_name names) → greatest (map width_of (map name_tree names)) ≤ 255
names_narrow [] h = omega arith
names_narrow (n ∷ names) h =
    let p = and_parts (is_name n) (list_all is_name names) h in omega (arith, name_narrow n p.0, names_narrow names p.1)

path_narrow : (path : List Name) → IsTrue (is_path path) → width_of (path_tree path) ≤ 255
path_narrow [] h = omega (arith, width-Nil)
path_narrow (n ∷ path) h =
    let p = and_parts (nat_le (length (n ∷ path)) 32) (list_all is_name (n ∷ path)) h in
    omega (arith, width-List (map name_tree (n ∷ path)) tree.Nil, width-Nil, length-map (n ∷ path) name_tree, leb-true _ _ p.0, names_narrow (n ∷ path) p.1)

-- a put's command has room in packed bytes
pub put_narrow : (path : List Name) (number : ℤ) → IsTrue (is_path path) → width_of (put_command path number) < 2 ^ 32
put_narrow path number h =
    omega (arith, width-Tuple (put_parts path number), width-Atom (codes "put"), path_narrow path h, width-Int number, width-Map [])

-- ---- depth

name_flat : (n : Name) → depth_of (name_tree n) ≡ 0
name_flat (name.Atom text) = depth-Atom text
name_flat (name.Bin bytes) = depth-Bin bytes

names_flat : (names : List Name) → greatest (map depth_of (map name_tree names)) ≡ 0
names_flat [] = refl
names_flat (n ∷ names) = omega (arith, name_flat n, names_flat names)

path_shallow : (path : List Name) → depth_of (path_tree path) ≤ 1
path_shallow [] = omega (arith, depth-Nil)
path_shallow (n ∷ path) =
    omega (arith, depth-List (map name_tree (n ∷ path)) tree.Nil, names_flat (n ∷ path), ap (λ (l : TermTree-F TermTree). cond (is_nil l) 0 (depth_of tree.Nil)) outs-Nil)

-- a put's command is read again
pub put_shallow : (path : List Name) (number : ℤ) → depth_of (put_command path number) ≤ 256
put_shallow path number =
    omega (arith, depth-Tuple (put_parts path number), depth-Atom (codes "put"), path_shallow path, depth-Int number, depth-Map [])

-- ---- length

pub untrue : false ≡ true → ⊥
untrue e = cc

-- a path of atoms is a path
pub path_of_atoms : (path : List Name) → IsTrue (is_atom_path path) → IsTrue (is_path path)
path_of_atoms path h = (and_parts (nat_le 1 (length path)) (is_path path) (and_parts (nat_le 1 (length path) && is_path path) (list_all is_atom path) h).0).1

-- each name that is an atom has size 1
names_small : (path : List Name) → IsTrue (list_all is_atom path) → sizes_of (map name_tree path) ≡ length path
names_small [] h = refl
names_small (name.Atom text ∷ path) h =
    omega (arith, size-Atom text, sum-cons (size_of (tree.Atom text)) (map size_of (map name_tree path)), names_small path (and_parts (is_atom (name.Atom text)) (list_all is_atom path) h).1)
names_small (name.Bin bytes ∷ path) h = absurd (untrue (and_parts (is_atom (name.Bin bytes)) (list_all is_atom path) h).0)

path_small : (path : List Name) → IsTrue (is_path path) → IsTrue (list_all is_atom path) → size_of (path_tree path) ≤ 65
path_small [] h atoms = omega (arith, size-Nil)
path_small (n ∷ path) h atoms =
    let p = and_parts (nat_le (length (n ∷ path)) 32) (list_all is_name (n ∷ path)) h in
    omega (arith, size-List (map name_tree (n ∷ path)) tree.Nil, size-Nil, length-map (n ∷ path) name_tree, leb-true _ _ p.0, names_small (n ∷ path) atoms)

-- a put's command is short
pub put_short : (bytes : List ℕ) (path : List Name) (number : ℤ) → IsPut bytes path number → length bytes ≤ command_limit
put_short bytes path number is =
    let atoms = (and_parts (nat_le 1 (length path) && is_path path) (list_all is_atom path) is.names).1 in
    omega (
      arith,
      ap (λ (b : List ℕ). length b) is.packed,
      packed_le_size (put_command path number) is.term,
      size-Tuple (put_parts path number),
      size-Atom (codes "put"),
      path_small path (path_of_atoms path is.names) atoms,
      size-Int number,
      size-Map [],
      sum-cons (size_of (tree.Atom (codes "put"))) (size_of (path_tree path) ∷ size_of (tree.Int number) ∷ size_of (tree.Map []) ∷ []),
      sum-cons (size_of (path_tree path)) (size_of (tree.Int number) ∷ size_of (tree.Map []) ∷ []),
      sum-cons (size_of (tree.Int number)) (size_of (tree.Map []) ∷ []),
      sum-cons (size_of (tree.Map [])) [],
    )

-- ---- one put

-- equal trees have equal layers
pub layers : (t u : TermTree) (l m : TermTree-F TermTree) → out-TermTree t ≡ l → out-TermTree u ≡ m → t ≡ u → l ≡ m
layers t u l m e f same = sym e ∙ (ap out-TermTree same ∙ f)

pub int_same : (number last : ℤ) → tree.Int number ≡ tree.Int last → number ≡ last
int_same number last e = let l = layers _ _ _ _ (outs-Int number) (outs-Int last) e in cc

pub tuple_same : (xs ys : List TermTree) → tree.Tuple xs ≡ tree.Tuple ys → xs ≡ ys
tuple_same xs ys e = let l = layers _ _ _ _ (outs-Tuple xs) (outs-Tuple ys) e in cc

pub list_same : (xs ys : List TermTree) (t u : TermTree) → tree.List xs t ≡ tree.List ys u → (xs ≡ ys) × (t ≡ u)
list_same xs ys t u e = let l = layers _ _ _ _ (outs-List xs t) (outs-List ys u) e in (cc, cc)

pub nil_no_list : (xs : List TermTree) (t : TermTree) → tree.Nil ≡ tree.List xs t → ⊥
nil_no_list xs t e = let l = layers _ _ _ _ outs-Nil (outs-List xs t) e in cc

name_same : (m n : Name) → name_tree m ≡ name_tree n → m ≡ n
name_same (name.Atom x) (name.Atom y) e = let l = layers _ _ _ _ (outs-Atom x) (outs-Atom y) e in cc
name_same (name.Atom x) (name.Bin y) e = let l = layers _ _ _ _ (outs-Atom x) (outs-Bin y) e in cc
name_same (name.Bin x) (name.Atom y) e = let l = layers _ _ _ _ (outs-Bin x) (outs-Atom y) e in cc
name_same (name.Bin x) (name.Bin y) e = let l = layers _ _ _ _ (outs-Bin x) (outs-Bin y) e in cc

pub names_same : (p q : List Name) → map name_tree p ≡ map name_tree q → p ≡ q
names_same [] [] e = refl
names_same [] (n ∷ q) e = absurd cc
names_same (m ∷ p) [] e = absurd cc
names_same (m ∷ p) (n ∷ q) e =
    let head : name_tree m ≡ name_tree n = cc in
    let rest : map name_tree p ≡ map name_tree q = cc in
    (λ i. name_same m n head i ∷ names_same p q rest i)

path_same : (p q : List Name) → path_tree p ≡ path_tree q → p ≡ q
path_same [] [] e = refl
path_same [] (n ∷ q) e = absurd (nil_no_list _ _ e)
path_same (m ∷ p) [] e = absurd (nil_no_list _ _ (sym e))
path_same (m ∷ p) (n ∷ q) e = names_same (m ∷ p) (n ∷ q) (list_same _ _ _ _ e).0

command_same : (path other : List Name) (number last : ℤ) → put_command path number ≡ put_command other last → (path ≡ other) × (number ≡ last)
command_same path other number last e =
    let parts = tuple_same _ _ e in
    let place : path_tree path ≡ path_tree other = cc parts in
    let integer : tree.Int number ≡ tree.Int last = cc parts in
    (path_same path other place, int_same number last integer)

-- bytes are the command of one put at most
pub put_is_one : (bytes : List ℕ) (path other : List Name) (number last : ℤ) → IsPut bytes path number → IsPut bytes other last → (path ≡ other) × (number ≡ last)
put_is_one bytes path other number last first second =
    let x : Term = record { node = put_command path number; fits = first.term } in
    let y : Term = record { node = put_command other last; fits = second.term } in
    let same = one_spelling x y [] [] (put_narrow path number (path_of_atoms path first.names)) (put_narrow other last (path_of_atoms other second.names))
    (ap (λ (b : List ℕ). b ++ []) (sym first.packed ∙ second.packed)) in
    command_same path other number last (ap (λ (t : Term). t.node) same.0)

-- ---- names

-- trees of which one is no atom are not those of names that are atoms
pub no_names : (parts : List TermTree) (i : ℕ) (part : TermTree) → i < length parts → part ≡ get_or parts i part
    → ((n : Name) → part ≡ name_tree n → IsTrue (is_atom n) → ⊥) → (names : List Name) → parts ≡ map name_tree names → IsTrue (list_all is_atom names) → ⊥
no_names [] i part within is none names same atoms = absurd (omega arith)
no_names (x ∷ parts) i part within is none [] same atoms = absurd cc
no_names (x ∷ parts) zero part within is none (n ∷ names) same atoms =
    let head : x ≡ name_tree n = cc in
    none n (is ∙ head) (and_parts (is_atom n) (list_all is_atom names) atoms).0
no_names (x ∷ parts) (suc i) part within is none (n ∷ names) same atoms =
    let rest : parts ≡ map name_tree names = cc in
    no_names parts i part (omega arith) is none names rest (and_parts (is_atom n) (list_all is_atom names) atoms).1

-- no path of atoms has these names, where no path has them
pub no_path : {A : Type 0} (made : Option A) (names : List Name) (parts : List TermTree) → (IsSome made ↔ IsTrue (is_path names)) → parts ≡ map name_tree names
    → IfNone made ((path : List Name) → parts ≡ map name_tree path → IsTrue (is_atom_path path) → ⊥)
no_path (Some path) names parts accepts is = tt
no_path None names parts accepts is = λ path same atoms.
    let one : path ≡ names = names_same path names (sym same ∙ is) in
    untrue (accepts.1 (ap is_path (sym one) ∙ path_of_atoms path atoms))

-- ---- where a put stands

-- a put's bytes are packed, from the first to the last
pub put_stands : (bytes : List ℕ) (path : List Name) (number : ℤ) → IsPut bytes path number → IsPackedAt bytes 0 (length bytes) (put_command path number)
put_stands bytes path number is =
    let long : length bytes ≡ length (packed_of (put_command path number)) = ap (λ (b : List ℕ). length b) is.packed in
    let some : 0 < length (packed_of (put_command path number)) = omega (arith, ap (λ (b : List ℕ). length b) (tagged (put_command path number)).1) in
    (omega arith, omega arith, take_all (length bytes - 0) bytes (omega arith) ∙ is.packed, put_shallow path number, put_narrow path number (path_of_atoms path is.names))

abbrev pub command_of : (bytes : List ℕ) (path : List Name) (number : ℤ) → IsPut bytes path number → Term
command_of bytes path number is = record { node = put_command path number; fits = is.term }

-- the term that is packed where a put stands is the put's command
pub only_put : (bytes : List ℕ) (term : Term) (end : ℕ) (path : List Name) (number : ℤ)
    → ((t : Term) (e : ℕ) → IsPackedAt bytes 0 e t.node → IsUnlessMemory {X = Term × ℕ} (Ok (term, end)) (t, e))
    → IsPut bytes path number → (term.node ≡ put_command path number) × (end ≡ length bytes)
only_put bytes term end path number only is =
    elim (only (command_of bytes path number is) (length bytes) (put_stands bytes path number is)) [
      | inl same ↦ let both : (term, end) ≡ (command_of bytes path number is, length bytes) = cc in (ap (λ (y : Term × ℕ). y.0.node) both, ap (λ (y : Term × ℕ). y.1) both)
      | inr none ↦ absurd cc
    ]

-- what shows that nothing was read shows what follows from it
pub none_then : {A E P Q : Type 0} (result : Result (Option A) E) → (P → Q) → IfOk result (λ read. IfNone read P) → IfOk result (λ read. IfNone read Q)
none_then (Ok None) then none = then none
none_then (Ok (Some x)) then none = tt
none_then (Err e) then none = tt
