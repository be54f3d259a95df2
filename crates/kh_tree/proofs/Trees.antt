-- Trees in which a node is put: their keys, their counts of children, and what holds of them.
use Rattle.std.proofs.Common.{◌≡◌, ◌≢◌, ◌<◌, ◌≤◌, ◌+◌, ◌-◌, ◌||◌, Bool, true, false, cond, ℕ, zero, suc, T, List, [], ◌∷◌, length, take, Option, Some, None, MatchOption, IfSome, IsTrue, inl, inr, refl, ap, sym, subst, ◌∙◌, arith}
use Rattle.std.proofs.lemmas.Bool.{cases_Bool}
use Rattle.std.specs.FinMap.{FinMap, find, put, is_sorted, get, contains_key, insert, retain_keys, len, empty, get-insert, get-empty, get-retain_keys, len-insert, len-empty, same_map}
use Rattle.std.specs.FinMap.Entries.{is_sorted-put, find-put}
use Rattle.std.specs.Option.{is_some}
use Rattle.std.specs.declared.cmp.Ordering.TheVariants.{Equal}
use Rattle.kh_term.specs.declared.name.Name.{Name}
use Rattle.kh_term.specs.Name.{path_cmp, path_total}
use Rattle.kh_tree.specs.declared.entry.Entry.{Entry}
use Rattle.kh_tree.specs.Entries.{Kept, Counts, node_of, nodes_of, only_at, none_to_come}
use Rattle.kh_tree.specs.Node.{Node}
use Rattle.kh_tree.specs.Nodes.{Nodes, AreVersions, AreWithin, IsRoot, IsTree, child_count, is_child, most_nodes, node_count, parent, same_path}
use Rattle.kh_tree.proofs.Paths.{exact, same_is, same_itself, is_same, is_false, apart, never, child_test, not_own, parent_of_child}
use Rattle.kh_tree.proofs.Reading.{put_nodes}

-- there is nothing where a look-up isn't true
pub nothing : {A : Type 0} (o : Option A) → is_some o ≡ false → o ≡ None
nothing None e = refl
nothing (Some x) e = never e

pub something : {A : Type 0} (o : Option A) (x : A) → o ≡ Some x → is_some o ≡ true
something o x e = ap is_some e

pub no_key : {A : Type 0} (o : Option A) → o ≡ None → is_some o ≡ false
no_key o e = ap is_some e

one_chosen : {A : Type 0} (b within same : Bool) (n : A) (o : Option A) → (same ≡ true → within ≡ b)
    → cond within (cond same (Some n) o) None ≡ cond b (cond same (Some n) (cond within o None)) (cond within o None)
one_chosen true within true n o e = ap (λ w. cond w (Some n) None) (e refl)
one_chosen true within false n o e = refl
one_chosen false within true n o e = ap (λ w. cond w (Some n) None) (e refl) ∙ sym (ap (λ w. cond w o None) (e refl))
one_chosen false within false n o e = refl

some_choice : {A : Type 0} (b : Bool) (n : A) (o : Option A) → is_some (cond b (Some n) o) ≡ (b || is_some o)
some_choice true n o = refl
some_choice false n o = refl

module _ {S : Type 0} (m : Nodes S) (k : List Name) (n : Node S) where
  pub put_read : (q : List Name) → get (insert m k n) q ≡ cond (same_path q k) (Some n) (get m q)
  put_read q = get-insert path_total m k n q

  pub put_here : get (insert m k n) k ≡ Some n
  put_here = put_read k ∙ ap (λ b. cond b (Some n) (get m k)) (same_itself k)

  -- the keys are those that were there, and this one
  pub put_key : (q : List Name) → contains_key (insert m k n) q ≡ (same_path q k || contains_key m q)
  put_key q = ap is_some (put_read q) ∙ some_choice (same_path q k) n (get m q)

  pub stays_key : (q : List Name) → contains_key m q ≡ true → contains_key (insert m k n) q ≡ true
  stays_key q is = put_key q ∙ ap (λ b. same_path q k || b) is ∙ elim (same_path q k) as (λ b. (b || true) ≡ true) [ true ↦ refl | false ↦ refl ]

  -- what passes a test, once a node is put
  module _ (f : List Name → Bool) where
    alike : (q x : List Name) → path_cmp q x ≡ Equal → f x ≡ f q
    alike q x e = ap f (sym (exact q x e))

    kept : (q : List Name) → get (retain_keys m f) q ≡ cond (f q) (get m q) None
    kept q = get-retain_keys m f q (alike q)

    passing : retain_keys (insert m k n) f ≡ cond (f k) (insert (retain_keys m f) k n) (retain_keys m f)
    passing = same_map path_total exact _ _ there where
      choice : (q : List Name) → get (cond (f k) (insert (retain_keys m f) k n) (retain_keys m f)) q
          ≡ cond (f k) (cond (same_path q k) (Some n) (cond (f q) (get m q) None)) (cond (f q) (get m q) None)
      choice q =
          elim (f k) as (λ b. get (cond b (insert (retain_keys m f) k n) (retain_keys m f)) q ≡ cond b (cond (same_path q k) (Some n) (cond (f q) (get m q) None)) (cond (f q) (get m q) None)) [
            | true ↦ get-insert path_total (retain_keys m f) k n q ∙ ap (cond (same_path q k) (Some n)) (kept q)
            | false ↦ kept q
          ]

      there : (q : List Name) → get (retain_keys (insert m k n) f) q ≡ get (cond (f k) (insert (retain_keys m f) k n) (retain_keys m f)) q
      there q =
          get-retain_keys (insert m k n) f q (alike q)
          ∙ ap (λ o. cond (f q) o None) (put_read q)
          ∙ one_chosen (f k) (f q) (same_path q k) n (get m q) (λ same. ap f (same_is q k same))
          ∙ sym (choice q)

    pub how_many : len (retain_keys (insert m k n) f) ≡ len (retain_keys m f) + cond (contains_key m k) 0 (cond (f k) 1 0)
    how_many = ap len passing ∙ counted (f k) refl where
      one : (c : Bool) (l : ℕ) → cond c l (l + 1) ≡ l + cond c 0 1
      one true l = omega arith
      one false l = refl

      none : (c : Bool) (l : ℕ) → l ≡ l + cond c 0 0
      none true l = omega arith
      none false l = omega arith

      counted : (b : Bool) → f k ≡ b → len (cond b (insert (retain_keys m f) k n) (retain_keys m f)) ≡ len (retain_keys m f) + cond (contains_key m k) 0 (cond b 1 0)
      counted true is =
          len-insert path_total (retain_keys m f) k n
          ∙ ap (λ o. cond (is_some o) (len (retain_keys m f)) (len (retain_keys m f) + 1)) (kept k ∙ ap (λ b. cond b (get m k) None) is)
          ∙ one (contains_key m k) (len (retain_keys m f))
      counted false is = none (contains_key m k) (len (retain_keys m f))

  -- a path has one child more where the node is new and its child
  pub count_put : (p : List Name) → child_count (insert m k n) p ≡ child_count m p + cond (contains_key m k) 0 (cond (is_child p k) 1 0)
  count_put p = how_many (is_child p)

  pub len_put : len (insert m k n) ≡ cond (contains_key m k) (len m) (len m + 1)
  len_put = len-insert path_total m k n

  -- what has to hold of a node and its path so that a tree with it is one again
  pub tree_put : IsTree m → AreVersions n → (k ≡ [] → IsRoot n) → contains_key m (parent k) ≡ true → len (insert m k n) - 1 ≤ most_nodes → IsTree (insert m k n)
  tree_put t versions root above few = record { root = at_root; parents = closed; within = record { versions = limits; few = few } } where
    at_root : MatchOption (get (insert m k n) []) ⊥ IsRoot
    at_root = subst (λ o. MatchOption o ⊥ IsRoot) (sym (put_read [])) (chosen (same_path [] k) refl) where
      chosen : (b : Bool) → same_path [] k ≡ b → MatchOption (cond b (Some n) (get m [])) ⊥ IsRoot
      chosen true same = root (sym (same_is [] k same))
      chosen false same = t.root

    closed : (p : List Name) → IsTrue (contains_key (insert m k n) p) → IsTrue (contains_key (insert m k n) (parent p))
    closed p is = stays_key (parent p) (chosen (same_path p k) refl (sym (put_key p) ∙ is)) where
      chosen : (b : Bool) → same_path p k ≡ b → (b || contains_key m p) ≡ true → contains_key m (parent p) ≡ true
      chosen true same key = subst (λ x. contains_key m (parent x) ≡ true) (sym (same_is p k same)) above
      chosen false same key = t.parents p key

    limits : (p : List Name) → IfSome (get (insert m k n) p) AreVersions
    limits p = subst (λ o. IfSome o AreVersions) (sym (put_read p)) (elim (same_path p k) as (λ b. IfSome (cond b (Some n) (get m p)) AreVersions) [ true ↦ versions | false ↦ t.within.versions p ])

-- a path has no child where no key is one
pub no_child : {S : Type 0} (m : Nodes S) (p : List Name) → ((q : List Name) → is_child p q ≡ true → get m q ≡ None) → child_count m p ≡ 0
no_child {S} m p missing = ap len (same_map path_total exact (retain_keys m (is_child p)) empty there) ∙ len-empty path_cmp (Node S) where
  none : (q : List Name) (b : Bool) → is_child p q ≡ b → cond b (get m q) None ≡ None
  none q true child = missing q child
  none q false other = refl

  there : (q : List Name) → get (retain_keys m (is_child p)) q ≡ get (empty {X = Node S} {R = path_cmp}) q
  there q = get-retain_keys m (is_child p) q (λ x e. ap (is_child p) (sym (exact q x e))) ∙ none q (is_child p q) refl ∙ sym (get-empty path_cmp q)

-- so a path that is no key has none
pub childless : {S : Type 0} (m : Nodes S) → IsTree m → (p : List Name) → get m p ≡ None → child_count m p ≡ 0
childless m t p missing =
    no_child m p (λ q child.
    nothing (get m q) (is_false (contains_key m q) (λ key. never (sym (t.parents q key) ∙ ap (contains_key m) (parent_of_child p q child) ∙ no_key (get m p) missing))))

weaker : {A : Type 0} (P Q : A → Type 0) (o : Option A) → ((x : A) → P x → Q x) → IfSome o P → IfSome o Q
weaker P Q None f h = h
weaker P Q (Some x) f h = f x h

module _ {S : Type 0} (es : Kept S) (k : List Name) (e : Entry S) where
  -- entries with one put count their children where it does, and where the others do
  pub counts_put : (extra more : List Name → ℕ) → Counts es extra → IsTree (insert (nodes_of es) k (node_of e))
      → e.children ≡ child_count (insert (nodes_of es) k (node_of e)) k + more k
      → ((p : List Name) → same_path p k ≡ false → child_count (nodes_of es) p + extra p ≡ child_count (insert (nodes_of es) k (node_of e)) p + more p)
      → Counts (put path_cmp k e es) more
  counts_put extra more c tree here others = record {
    rises = is_sorted-put path_cmp path_total k e es c.rises;
    tree = subst IsTree (sym made) tree;
    counted = λ p. subst (λ (m : Nodes S). IfSome (find path_cmp p (put path_cmp k e es)) (λ x. x.children ≡ child_count m p + more p)) (sym made)
        (subst (λ o. IfSome o (λ x. x.children ≡ child_count new p + more p)) (sym (find-put path_cmp path_total p k e es)) (chosen p (same_path p k) refl));
  } where
    new : Nodes S
    new = insert (nodes_of es) k (node_of e)

    made : nodes_of (put path_cmp k e es) ≡ new
    made = put_nodes es c.rises k e

    chosen : (p : List Name) (b : Bool) → same_path p k ≡ b → IfSome (cond b (Some e) (find path_cmp p es)) (λ x. x.children ≡ child_count new p + more p)
    chosen p true same = subst (λ x. e.children ≡ child_count new x + more x) (sym (same_is p k same)) here
    chosen p false same = weaker _ _ (find path_cmp p es) (λ x is. is ∙ others p same) (c.counted p)
