-- What a put makes of the tree.
use Rattle.std.proofs.Common.{◌≡◌, ◌≢◌, ◌<◌, ◌≤◌, ◌+◌, ◌||◌, Bool, true, false, cond, ℕ, zero, suc, ℤ, List, [], ◌∷◌, ◌++◌, length, take, drop, length-append, length-drop, take-append-drop, Option, Some, None, inl, inr, unwrap_or, eq-or-lt_of_le, refl, ap, sym, ◌∙◌, arith}
use Rattle.std.specs.Prelude.{is_some, if◌then◌else◌}
use Rattle.std.specs.Ordering.{is_eq, match_ordering}
use Rattle.std.specs.BTreeMap.{insert_entry, is_at}
use Rattle.std.specs.Cmp.{Equal-is}
use Rattle.std.specs.FinMap.{IsAntisymmetric, nat_cmp-IsAntisymmetric, slice_cmp-IsAntisymmetric}
use Rattle.std.specs.FinMap.Entries as entries
use Rattle.std.specs.List.{list_any}
use Rattle.std.proofs.Math.Seq.{take-append_seam}
use Rattle.std.proofs.lemmas.Bool.{cases_Bool, or_left, or_right, or_from}
use Rattle.std.proofs.lemmas.Cmp.{tied_itself}
use Rattle.std.proofs.lemmas.List.Folds.{list_any-append}
use Rattle.kh_term.specs.declared.name.Name.{Name}
use Rattle.kh_term.specs.declared.name.Name.TheVariants as name
use Rattle.kh_term.specs.Name.{name_cmp, path_cmp, path_total}
use Rattle.kh_store.specs.Tree.{Node, node_at, data_at, fronts, parents_of, with_node, with_nodes, put, IsAbove}

-- ---- equal paths

-- names that compare equal are one name
name_cmp-IsAntisymmetric : IsAntisymmetric name_cmp
name_cmp-IsAntisymmetric (name.Atom text) (name.Atom other) e = ap name.Atom (slice_cmp-IsAntisymmetric nat_cmp-IsAntisymmetric text other e)
name_cmp-IsAntisymmetric (name.Atom text) (name.Bin bytes) e = absurd cc
name_cmp-IsAntisymmetric (name.Bin bytes) (name.Atom text) e = absurd cc
name_cmp-IsAntisymmetric (name.Bin bytes) (name.Bin other) e = ap name.Bin (slice_cmp-IsAntisymmetric nat_cmp-IsAntisymmetric bytes other e)

-- whether a look-up of a path takes this one for it
abbrev is_same : List Name → List Name → Bool
is_same sought path = is_at (path_cmp sought) path

is_same-itself : (path : List Name) → is_same path path ≡ true
is_same-itself path = ap is_eq (tied_itself path_total path)

-- it takes that path alone
one_path : (sought path : List Name) → is_same sought path ≡ true → sought ≡ path
one_path sought path same = slice_cmp-IsAntisymmetric name_cmp-IsAntisymmetric sought path ((Equal-is (path_cmp sought path)).0 same)

apart : (sought path : List Name) → sought ≢ path → is_same sought path ≡ false
apart sought path differs =
    elim (cases_Bool (is_same sought path)) [
      | inl same ↦ absurd (differs (one_path sought path same))
      | inr other ↦ other
    ]

-- ---- nodes that are set

-- a look-up is that of std's finite maps
pub as_find : (nodes : List Node) (path : List Name) → node_at nodes path ≡ entries.find path_cmp path nodes
as_find [] path = refl
as_find (e ∷ es) path = ap (cond (is_same path e.0) (Some e.1)) (as_find es path)

-- so is what sets a node
pub as_put : (path : List Name) (value : Option ℤ) (nodes : List Node) → insert_entry path_cmp nodes path value ≡ entries.put path_cmp path value nodes
as_put path value [] = refl
as_put path value (e ∷ es) =
    ap (λ (rest : List Node). match_ordering (path_cmp path e.0) ((path, value) ∷ e ∷ es) ((e.0, value) ∷ es) (e ∷ rest)) (as_put path value es)

-- what is at each path once a node is set
node_at-insert_entry : (path : List Name) (value : Option ℤ) (nodes : List Node) (sought : List Name)
    → node_at (insert_entry path_cmp nodes path value) sought ≡ cond (is_same sought path) (Some value) (node_at nodes sought)
node_at-insert_entry path value nodes sought =
    as_find (insert_entry path_cmp nodes path value) sought
    ∙ rw (as_put path value nodes, as_find nodes sought) (entries.find-put path_cmp path_total sought path value nodes)

-- ---- nodes that are made

-- one that is there stays, and another has no data
there_or_made : (nodes made : List Node) (sought : List Name) (found : Option (Option ℤ)) (same : Bool)
    → (same ≡ true → node_at nodes sought ≡ found) → node_at made sought ≡ cond same (Some None) (node_at nodes sought)
    → node_at (if is_some found then nodes else made) sought ≡ cond same (Some (data_at nodes sought)) (node_at nodes sought)
there_or_made nodes made sought None true was is = rw (was refl) is
there_or_made nodes made sought None false was is = is
there_or_made nodes made sought (Some value) true was is = rw (was refl) refl
there_or_made nodes made sought (Some value) false was is = refl

-- what is at each path once there is a node at one
node_at-with_node : (nodes : List Node) (path sought : List Name)
    → node_at (with_node nodes path) sought ≡ cond (is_same sought path) (Some (data_at nodes sought)) (node_at nodes sought)
node_at-with_node nodes path sought =
    there_or_made nodes (insert_entry path_cmp nodes path None) sought (node_at nodes path) (is_same sought path)
    (λ same. ap (node_at nodes) (one_path sought path same)) (node_at-insert_entry path None nodes sought)

-- made at first, or by what follows, or by both
first_or_later : (first later : Bool) (found : Option (Option ℤ))
    → cond later (Some (unwrap_or (cond first (Some (unwrap_or found None)) found) None)) (cond first (Some (unwrap_or found None)) found)
    ≡ cond (first || later) (Some (unwrap_or found None)) found
first_or_later true true found = refl
first_or_later true false found = refl
first_or_later false later found = refl

-- what is at each path once there is a node at each of some
node_at-with_nodes : (paths : List (List Name)) (nodes : List Node) (sought : List Name)
    → node_at (with_nodes nodes paths) sought ≡ cond (list_any (is_same sought) paths) (Some (data_at nodes sought)) (node_at nodes sought)
node_at-with_nodes [] nodes sought = refl
node_at-with_nodes (path ∷ paths) nodes sought =
    node_at-with_nodes paths (with_node nodes path) sought
    ∙ rw (node_at-with_node nodes path sought) (first_or_later (is_same sought path) (list_any (is_same sought) paths) (node_at nodes sought))

-- one more node is made behind others
pub with_nodes_behind : (paths : List (List Name)) (nodes : List Node) (path : List Name) → with_nodes nodes (paths ++ path ∷ []) ≡ with_node (with_nodes nodes paths) path
with_nodes_behind [] nodes path = refl
with_nodes_behind (first ∷ paths) nodes path = with_nodes_behind paths (with_node nodes first) path

-- ---- the paths above

-- where a front passes a test, one of the fronts does
some_front : (test : List Name → Bool) (path : List Name) (k n : ℕ) → k < n → test (take k path) ≡ true → list_any test (fronts n path) ≡ true
some_front test path k zero within passes = absurd (omega arith)
some_front test path k (suc n) within passes =
    let upto : k ≤ n = omega arith in
    list_any-append test (fronts n path) (take n path ∷ [])
    ∙ elim (eq-or-lt_of_le upto) [
      | inl last ↦ or_right _ _ (or_left _ _ (ap (λ (m : ℕ). test (take m path)) (sym last) ∙ passes))
      | inr before ↦ or_left _ _ (some_front test path k n before passes)
    ]

-- where each front fails a test, none of the fronts passes
no_front : (test : List Name → Bool) (path : List Name) (n : ℕ) → ((k : ℕ) → k < n → test (take k path) ≡ false) → list_any test (fronts n path) ≡ false
no_front test path zero fails = refl
no_front test path (suc n) fails =
    list_any-append test (fronts n path) (take n path ∷ [])
    ∙ or_from _ _ (no_front test path n (λ k within. fails k (omega arith))) (or_from _ _ (fails n (omega arith)) refl)

-- a front of fewer names is above the path
front_above : (path : List Name) (k : ℕ) → k < length path → (front : List Name) → front ≡ take k path → IsAbove front path
front_above path k within front is = go (drop k path) refl
  where
    go : (rest : List Name) → drop k path ≡ rest → IsAbove front path
    go [] none = absurd (omega (arith, length-drop k path, ap (λ (names : List Name). length names) none))
    go (name ∷ names) some = (name, names, sym (take-append-drop k path) ∙ rw (is, some) refl)

-- ---- a put

-- what is at each path other than that of a put
node_at-put : (tree : List Node) (path : List Name) (number : ℤ) (other : List Name) → other ≢ path
    → node_at (put tree path number) other ≡ cond (list_any (is_same other) (parents_of path)) (Some (data_at tree other)) (node_at tree other)
node_at-put tree path number other differs =
    node_at-insert_entry path (Some number) (with_nodes tree (parents_of path)) other
    ∙ rw (apart other path differs) (node_at-with_nodes (parents_of path) tree other)

-- its path has its data
pub put_own : (tree : List Node) (path : List Name) (number : ℤ) → node_at (put tree path number) path ≡ Some (Some number)
put_own tree path number = node_at-insert_entry path (Some number) (with_nodes tree (parents_of path)) path ∙ rw (is_same-itself path) refl

-- each path above it has a node, with the data that it had or none
pub put_above : (tree : List Node) (path : List Name) (number : ℤ) (other : List Name) → IsAbove other path
    → node_at (put tree path number) other ≡ Some (data_at tree other)
put_above tree path number other is =
    let longer : length path ≡ length other + length (is.0 ∷ is.1) = ap length is.2 ∙ length-append other (is.0 ∷ is.1) in
    let front : take (length other) path ≡ other = ap (take (length other)) is.2 ∙ take-append_seam other (is.0 ∷ is.1) in
    let differs : other ≢ path = λ same. omega (arith, ap (λ (names : List Name). length names) same) in
    let among = some_front (is_same other) path (length other) (length path) (omega arith) (ap (is_same other) front ∙ is_same-itself other) in
    node_at-put tree path number other differs ∙ rw among refl

-- every other path is as it was
pub put_others : (tree : List Node) (path : List Name) (number : ℤ) (other : List Name) → other ≢ path → (IsAbove other path → ⊥)
    → node_at (put tree path number) other ≡ node_at tree other
put_others tree path number other differs not_above =
    let none = no_front (is_same other) path (length path) (λ k within. apart other (take k path) (λ same. not_above (front_above path k within other same))) in
    node_at-put tree path number other differs ∙ rw none refl
