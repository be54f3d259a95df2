-- Bytes are a put, or they are none.
use Rattle.std.proofs.Common.{◌≡◌, ◌⊎◌, ℕ, ℤ, false, ◌&&◌, nat_eq, IsTrue, List, [], ◌∷◌, length, drop, codes, map, Some, None, inl, inr, refl, sym, ap, subst, ◌∙◌, arith}
use Rattle.std.specs.List.{list_all}
use Rattle.std.specs.Str.{bytes_eq}
use Rattle.std.proofs.lemmas.Bool.{and_parts, and_from, cases_Bool, eqb-true, eqb-false, eq-eqb}
use Rattle.std.proofs.lemmas.Slice.Eq.{bytes_eq-Decides}
use Rattle.kh_term.specs.declared.name.Name.{Name}
use Rattle.kh_term.specs.declared.name.Name.TheVariants as name
use Rattle.kh_term.specs.declared.tree.TermTree.{TermTree, out-TermTree}
use Rattle.kh_term.specs.declared.tree.TermTree.TheVariants as tree
use Rattle.kh_term.specs.declared.tree.TermTree.TheVariants.{outs-Int, outs-Atom, outs-Nil, outs-List, outs-Tuple, outs-Map, rolls-Int, rolls-Atom, rolls-Nil, rolls-List, rolls-Tuple, rolls-Map}
use Rattle.kh_term.specs.declared.tree.TermTree.TheOpen.{TermTree-F}
use Rattle.kh_term.specs.declared.tree.TermTree.TheOpen as layer
use Rattle.kh_term.proofs.Tags.{tag_of}
use Rattle.kh_term.specs.Lemmas.Total.{layered}
use Rattle.kh_term.specs.Make.{name_tree, path_tree}
use Rattle.kh_term.specs.Packed.{packed_of}
use Rattle.kh_term.specs.WellFormed.{IsTerm, faults_of}
use Rattle.kh_pack.specs.Reading.{Read, term_at}
use Rattle.kh_pack.proofs.{stands_again, none_stands}
use Rattle.std.proofs.lemmas.Option.{same_Some}
use Rattle.kh_store.specs.Command.{put_parts, put_command, put_bytes, is_atom, is_atom_path, IsPut}
use Rattle.kh_store.proofs.Puts.{layers, list_same, tuple_same, names_same, no_names, untrue, put_stands, command_of}

-- there is such a thing, or there is none
abbrev pub Found : {A : Type 0} → (A → Type 0) → Type 0
Found {A} P = ((x : A) × P x) ⊎ ((x : A) → P x → ⊥)

-- ---- a tree's variant

apart : (l m : TermTree-F TermTree) → nat_eq (tag_of l) (tag_of m) ≡ false → l ≡ m → ⊥
apart l m differ same = eqb-false (tag_of l) (tag_of m) differ (ap tag_of same)

atom_in : (t : TermTree) → Found (λ (text : List ℕ). t ≡ tree.Atom text)
atom_in t = go (out-TermTree t) refl
  where
    go : (l : TermTree-F TermTree) → out-TermTree t ≡ l → Found (λ (text : List ℕ). t ≡ tree.Atom text)
    go (layer.Atom text) e = inl (text, layered t _ e ∙ rolls-Atom text)
    go l e = inr (λ text same. apart l _ refl (layers t (tree.Atom text) l _ e (outs-Atom text) same))

int_in : (t : TermTree) → Found (λ (n : ℤ). t ≡ tree.Int n)
int_in t = go (out-TermTree t) refl
  where
    go : (l : TermTree-F TermTree) → out-TermTree t ≡ l → Found (λ (n : ℤ). t ≡ tree.Int n)
    go (layer.Int n) e = inl (n, layered t _ e ∙ rolls-Int n)
    go l e = inr (λ n same. apart l _ refl (layers t (tree.Int n) l _ e (outs-Int n) same))

list_in : (t : TermTree) → Found (λ (p : List TermTree × TermTree). t ≡ tree.List p.0 p.1)
list_in t = go (out-TermTree t) refl
  where
    go : (l : TermTree-F TermTree) → out-TermTree t ≡ l → Found (λ (p : List TermTree × TermTree). t ≡ tree.List p.0 p.1)
    go (layer.List parts tail) e = inl ((parts, tail), layered t _ e ∙ rolls-List parts tail)
    go l e = inr (λ p same. apart l _ refl (layers t (tree.List p.0 p.1) l _ e (outs-List p.0 p.1) same))

tuple_in : (t : TermTree) → Found (λ (parts : List TermTree). t ≡ tree.Tuple parts)
tuple_in t = go (out-TermTree t) refl
  where
    go : (l : TermTree-F TermTree) → out-TermTree t ≡ l → Found (λ (parts : List TermTree). t ≡ tree.Tuple parts)
    go (layer.Tuple parts) e = inl (parts, layered t _ e ∙ rolls-Tuple parts)
    go l e = inr (λ parts same. apart l _ refl (layers t (tree.Tuple parts) l _ e (outs-Tuple parts) same))

is_nil : (t : TermTree) → (t ≡ tree.Nil) ⊎ (t ≡ tree.Nil → ⊥)
is_nil t = go (out-TermTree t) refl
  where
    go : (l : TermTree-F TermTree) → out-TermTree t ≡ l → (t ≡ tree.Nil) ⊎ (t ≡ tree.Nil → ⊥)
    go layer.Nil e = inl (layered t _ e ∙ rolls-Nil)
    go l e = inr (λ same. apart l _ refl (layers t tree.Nil l _ e outs-Nil same))

is_empty_map : (t : TermTree) → (t ≡ tree.Map []) ⊎ (t ≡ tree.Map [] → ⊥)
is_empty_map t = go (out-TermTree t) refl
  where
    go : (l : TermTree-F TermTree) → out-TermTree t ≡ l → (t ≡ tree.Map []) ⊎ (t ≡ tree.Map [] → ⊥)
    go (layer.Map []) e = inl (layered t _ e ∙ rolls-Map [])
    go (layer.Map (p ∷ ps)) e = inr (λ same. let l = layers t (tree.Map []) _ _ e (outs-Map []) same in cc)
    go l e = inr (λ same. apart l _ refl (layers t (tree.Map []) l _ e (outs-Map []) same))

is_word : (t : TermTree) (text : List ℕ) → (t ≡ tree.Atom text) ⊎ (t ≡ tree.Atom text → ⊥)
is_word t text = elim (atom_in t) [
  | inl a ↦
      let decides = bytes_eq-Decides a.0 text in
      elim (cases_Bool (bytes_eq a.0 text)) [
        | inl holds ↦ inl (a.1 ∙ ap tree.Atom (decides.0 holds))
        | inr fails ↦ inr (λ same.
            let l = layers (tree.Atom a.0) (tree.Atom text) _ _ (outs-Atom a.0) (outs-Atom text) (sym a.1 ∙ same) in
            let one : a.0 ≡ text = cc in
            untrue (sym fails ∙ decides.1 one))
      ]
  | inr none ↦ inr (λ same. none text same)
]

-- ---- names

not_atom : (t : TermTree) → ((text : List ℕ) → t ≡ tree.Atom text → ⊥) → (n : Name) → (t ≡ name_tree n) × IsTrue (is_atom n) → ⊥
not_atom t none (name.Atom text) is = none text is.0
not_atom t none (name.Bin bytes) is = untrue is.1

name_in : (t : TermTree) → Found (λ (n : Name). (t ≡ name_tree n) × IsTrue (is_atom n))
name_in t = elim (atom_in t) [
  | inl a ↦ inl (name.Atom a.0, (a.1, refl))
  | inr none ↦ inr (not_atom t none)
]

abbrev AreNames : List TermTree → List Name → Type 0
AreNames ts names = (ts ≡ map name_tree names) × IsTrue (list_all is_atom names)

none_behind : (t : TermTree) (ts : List TermTree) → ((names : List Name) → AreNames ts names → ⊥) → (names : List Name) → AreNames (t ∷ ts) names → ⊥
none_behind t ts none [] is = let same = is.0 in cc
none_behind t ts none (n ∷ names) is =
    let same = is.0 in
    let rest : ts ≡ map name_tree names = cc in
    none names (rest, (and_parts (is_atom n) (list_all is_atom names) is.1).1)

names_in : (ts : List TermTree) → Found (AreNames ts)
names_in [] = inl ([], (refl, refl))
names_in (t ∷ ts) = elim (name_in t) [
  | inl n ↦ elim (names_in ts) [
    | inl ns ↦ inl (n.0 ∷ ns.0, ((λ i. n.1.0 i ∷ ns.1.0 i), and_from (is_atom n.0) (list_all is_atom ns.0) n.1.1 ns.1.1))
    | inr none ↦ inr (none_behind t ts none)
  ]
  | inr none ↦ inr (λ names is. no_names (t ∷ ts) 0 t (omega arith) refl (λ n same atom. none n (same, atom)) names is.0 is.1)
]

-- ---- paths

-- a path of atoms is a list
listed : (path : List Name) → IsTrue (is_atom_path path) → path_tree path ≡ tree.List (map name_tree path) tree.Nil
listed [] h = absurd (untrue h)
listed (n ∷ path) h = refl

abbrev AtomPath : TermTree → List Name → Type 0
AtomPath t path = (t ≡ path_tree path) × IsTrue (is_atom_path path)

all_atoms : (path : List Name) → IsTrue (is_atom_path path) → IsTrue (list_all is_atom path)
all_atoms path h = (and_parts _ (list_all is_atom path) h).1

path_in : (t : TermTree) → Found (AtomPath t)
path_in t = elim (list_in t) [
  | inl l ↦
      let seen : (path : List Name) → AtomPath t path → (l.0.0 ≡ map name_tree path) × (l.0.1 ≡ tree.Nil) =
      λ path is. list_same l.0.0 (map name_tree path) l.0.1 tree.Nil (sym l.1 ∙ (is.0 ∙ listed path is.1)) in
      elim (is_nil l.0.1) [
        | inl nil ↦ elim (names_in l.0.0) [
          | inl ns ↦ elim (cases_Bool (is_atom_path ns.0)) [
            | inl holds ↦ inl (ns.0, (l.1 ∙ ((λ i. tree.List (ns.1.0 i) (nil i)) ∙ sym (listed ns.0 holds)), holds))
            | inr fails ↦ inr (λ path is. untrue (sym fails ∙ (ap is_atom_path (names_same ns.0 path (sym ns.1.0 ∙ (seen path is).0)) ∙ is.1)))
          ]
          | inr none ↦ inr (λ path is. none path ((seen path is).0, all_atoms path is.1))
        ]
        | inr none ↦ inr (λ path is. none (seen path is).1)
      ]
  | inr none ↦ inr (λ path is. none (map name_tree path, tree.Nil) (is.0 ∙ listed path is.1))
]

-- ---- puts

abbrev Put : Type 0
Put = List Name × ℤ

abbrev HasParts : List TermTree → Put → Type 0
HasParts ts p = (ts ≡ put_parts p.0 p.1) × IsTrue (is_atom_path p.0)

four_in : (a b c d : TermTree) → Found (HasParts (a ∷ b ∷ c ∷ d ∷ []))
four_in a b c d = elim (is_word a (codes "put")) [
  | inl one ↦ elim (path_in b) [
    | inl two ↦ elim (int_in c) [
      | inl three ↦ elim (is_empty_map d) [
        | inl four ↦ inl ((two.0, three.0), ((λ i. one i ∷ two.1.0 i ∷ three.1 i ∷ four i ∷ []), two.1.1))
        | inr none ↦ inr (λ p is. none (let same = is.0 in cc))
      ]
      | inr none ↦ inr (λ p is. none p.1 (let same = is.0 in cc))
    ]
    | inr none ↦ inr (λ p is. none p.0 ((let same = is.0 in cc), is.1))
  ]
  | inr none ↦ inr (λ p is. none (let same = is.0 in cc))
]

parts_in : (ts : List TermTree) → Found (HasParts ts)
parts_in (a ∷ b ∷ c ∷ d ∷ []) = four_in a b c d
parts_in ts = inr (λ p is. let same = is.0 in cc)

put_in : (t : TermTree) → Found (λ (p : Put). (t ≡ put_command p.0 p.1) × IsTrue (is_atom_path p.0))
put_in t = elim (tuple_in t) [
  | inl parts ↦ elim (parts_in parts.0) [
    | inl p ↦ inl (p.0, (parts.1 ∙ ap tree.Tuple p.1.0, p.1.1))
    | inr none ↦ inr (λ p is. none p (tuple_same parts.0 (put_parts p.0 p.1) (sym parts.1 ∙ is.0), is.1))
  ]
  | inr none ↦ inr (λ p is. none (put_parts p.0 p.1) is.0)
]

-- bytes are a put, or they are none
pub put_or_not : (bytes : List ℕ) → Found (λ (p : Put). IsPut bytes p.0 p.1)
put_or_not bytes = go (term_at 256 bytes) refl
  where
    go : (read : Read TermTree) → term_at 256 bytes ≡ read → Found (λ (p : Put). IsPut bytes p.0 p.1)
    go None e = inr (λ p is. none_stands bytes 0 (length bytes) bytes (command_of bytes p.0 p.1 is) refl e (put_stands bytes p.0 p.1 is))
    go (Some x) e =
        let seen : (p : Put) → IsPut bytes p.0 p.1 → x.0 ≡ put_command p.0 p.1 =
        λ p is. ap (λ (y : TermTree × List ℕ). y.0) (same_Some x (put_command p.0 p.1, drop (length bytes) bytes)
        (sym e ∙ stands_again bytes 0 (length bytes) bytes (command_of bytes p.0 p.1 is) refl (put_stands bytes p.0 p.1 is))) in
        elim (put_in x.0) [
          | inl p ↦
              let text = put_bytes p.0.0 p.0.1 in
              let faults = faults_of (put_command p.0.0 p.0.1) in
              elim (cases_Bool (bytes_eq bytes text && nat_eq faults 0)) [
                | inl holds ↦
                    let both = and_parts (bytes_eq bytes text) (nat_eq faults 0) holds in
                    inl (p.0, record { packed = (bytes_eq-Decides bytes text).0 both.0; term = eqb-true faults 0 both.1; names = p.1.1 })
                | inr fails ↦ inr (λ q is.
                    let same : put_command q.0 q.1 ≡ put_command p.0.0 p.0.1 = sym (seen q is) ∙ p.1.0 in
                    let packed = (bytes_eq-Decides bytes text).1 (is.packed ∙ ap packed_of same) in
                    let term = eq-eqb faults 0 (subst IsTerm same is.term) in
                    untrue (sym fails ∙ and_from (bytes_eq bytes text) (nat_eq faults 0) packed term))
              ]
          | inr none ↦ inr (λ p is. none p (seen p is, is.names))
        ]
