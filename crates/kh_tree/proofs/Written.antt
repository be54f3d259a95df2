-- What the writes of a tree make of its entries.
use Rattle.std.proofs.Common.{◌≡◌, ◌≢◌, ◌<◌, ◌≤◌, ◌+◌, ◌-◌, ◌^◌, Bool, true, false, cond, ℕ, T, List, [], ◌∷◌, map, length, Option, Some, None, IfSome, MatchOption, Result, Ok, Err, OnErr, inl, inr, refl, ap, sym, subst, ◌∙◌, arith}
use Rattle.std.proofs.lemmas.Bool.{cases_Bool}
use Rattle.std.proofs.lemmas.List.{length-map}
use Rattle.std.specs.FinMap.{find, put, is_sorted, get, contains_key, insert, retain_keys, len, empty, from_entries, get-empty, get-from_entries, get-from_sorted, get-retain_keys, len-empty, same_map}
use Rattle.std.specs.FinMap.Entries.{length-put}
use Rattle.std.specs.Option.{is_some, option_map}
use Rattle.kh_term.specs.declared.name.Name.{Name}
use Rattle.kh_term.specs.Name.{path_cmp, path_total}
use Rattle.kh_tree.specs.declared.entry.Entry.{Entry}
use Rattle.kh_tree.specs.declared.error.TreeError.{TreeError}
use Rattle.kh_tree.specs.declared.error.TreeError.TheVariants as error
use Rattle.kh_tree.specs.declared.payload.Payload.{Payload}
use Rattle.kh_tree.specs.declared.payload.Payload.TheVariants as payload
use Rattle.kh_tree.specs.Entries.{Kept, Counts, IsMade, node_of, nodes_of, only_at, none_to_come}
use Rattle.kh_tree.specs.Node.{Node, new_node, with_child}
use Rattle.kh_tree.specs.Nodes.{Nodes, AreVersions, AreWithin, IsRoot, IsTree, Reads, begins, child_count, is_child, most_nodes, most_version, node_count, parent, same_path}
use Rattle.kh_tree.specs.Writes.{Refused, added, front_made, missing}
use Rattle.kh_tree.proofs.Paths.{exact, same_is, same_itself, apart, never, child_test, not_own, parent_differs, begins_parent, length_parent}
use Rattle.kh_tree.proofs.Reading.{as_node, sorted_mapped, get_nodes, len_nodes, put_nodes}
use Rattle.kh_tree.proofs.Trees.{nothing, something, no_key, put_read, put_here, how_many, count_put, len_put, tree_put, childless, counts_put}
use Rattle.kh_tree.proofs.Fronts.{missing_has_names, none_is_missing, one_more_missing, above_is_node, above_is_made, path_is_put}

-- a tree is never without nodes
pub some_node : {S : Type 0} (es : Kept S) (extra : List Name → ℕ) → Counts es extra → 0 < length es
some_node {S} [] extra c = absurd (subst (λ o. MatchOption o ⊥ (IsRoot {S = S})) (get_nodes [] c.rises []) c.tree.root)
some_node (e ∷ es) extra c = omega arith

-- no more keys pass a test than there are entries
at_most : {S : Type 0} (f : List Name → Bool) (ns : List (List Name × Node S)) → len (retain_keys (from_entries {R = path_cmp} ns) f) ≤ length ns
at_most {S} f [] = let none : len (retain_keys (empty {X = Node S} {R = path_cmp}) f) ≡ 0 = ap len (same_map path_total exact (retain_keys (empty {X = Node S} {R = path_cmp}) f) empty there) ∙ len-empty path_cmp (Node S) in omega (arith, none) where
  there : (q : List Name) → get (retain_keys (empty {X = Node S} {R = path_cmp}) f) q ≡ get (empty {X = Node S} {R = path_cmp}) q
  there q =
      get-retain_keys (empty {X = Node S} {R = path_cmp}) f q (λ x e. ap f (sym (exact q x e)))
      ∙ ap (λ o. cond (f q) o None) (get-empty path_cmp q)
      ∙ elim (f q) as (λ b. ◌≡◌ {A = Option (Node S)} (cond b None None) None) [ true ↦ refl | false ↦ refl ]
      ∙ sym (get-empty path_cmp q)
at_most f (e ∷ ns) = let more = how_many (from_entries ns) e.0 e.1 f in let rest = at_most f ns in omega (arith, rest, more, one (contains_key (from_entries {R = path_cmp} ns) e.0) (f e.0)) where
  one : (b c : Bool) → cond b 0 (cond c 1 0) ≤ 1
  one true c = omega arith
  one false true = omega arith
  one false false = omega arith

-- a node has no more children than there are entries
pub few_children : {S : Type 0} (es : Kept S) → T (is_sorted path_cmp es) → (p : List Name) → child_count (nodes_of es) p ≤ length es
few_children {S} es s p =
    let most = at_most (is_child p) (map as_node es) in
    let same : nodes_of es ≡ from_entries (map as_node es) = same_map path_total exact _ _ (λ q. get-from_sorted path_cmp (map as_node es) q (sorted_mapped es s) ∙ sym (get-from_entries path_total (map as_node es) q)) in
    let counts : child_count (nodes_of es) p ≡ len (retain_keys (from_entries (map as_node es)) (is_child p)) = ap (λ m. len (retain_keys m (is_child p))) same in
    let long = length-map es as_node in
    omega (arith, most, counts, long)

pub whatever : {A E P : Type 0} (r : Result A E) → P → OnErr r P
whatever (Ok x) p = tt
whatever (Err e) p = p

unmapped : {A B : Type 0} (f : A → B) (o : Option A) → option_map f o ≡ None → o ≡ None
unmapped f None e = refl
unmapped f (Some x) e = absurd (cc)

module _ {S : Type 0} (es : Kept S) (extra : List Name → ℕ) (c : Counts es extra) (k : List Name) where
  m : Nodes S
  m = nodes_of es

  -- an entry that is found stands for a node
  pub node_found : (x : Entry S) → find path_cmp k es ≡ Some x → get (nodes_of es) k ≡ Some (node_of x)
  node_found x found = get_nodes es c.rises k ∙ ap (option_map node_of) found

  pub node_missed : find path_cmp k es ≡ None → get (nodes_of es) k ≡ None
  node_missed missed = get_nodes es c.rises k ∙ ap (option_map node_of) missed

  pub entry_missed : get (nodes_of es) k ≡ None → find path_cmp k es ≡ None
  entry_missed none = unmapped node_of (find path_cmp k es) (sym (get_nodes es c.rises k) ∙ none)

  pub versions_found : (x : Entry S) → find path_cmp k es ≡ Some x → AreVersions (node_of x)
  versions_found x found = subst (λ o. IfSome o AreVersions) (node_found x found) (c.tree.within.versions k)

  pub children_found : (x : Entry S) → find path_cmp k es ≡ Some x → x.children ≡ child_count (nodes_of es) k + extra k
  children_found x found = subst (λ o. IfSome o (λ e. e.children ≡ child_count (nodes_of es) k + extra k)) found (c.counted k)

  root_found : (x : Entry S) → find path_cmp k es ≡ Some x → k ≡ [] → IsRoot (node_of x)
  root_found x found empty = subst (λ o. MatchOption o ⊥ IsRoot) (ap (get (nodes_of es)) (sym empty) ∙ node_found x found) c.tree.root

  same_length : (x y : Entry S) → find path_cmp k es ≡ Some x → length (put path_cmp k y es) ≡ length es
  same_length x y found = length-put path_cmp path_total k y es c.rises ∙ ap (λ o. cond (is_some o) (length es) (length es + 1)) found

  pub longer : (y : Entry S) → find path_cmp k es ≡ None → length (put path_cmp k y es) ≡ length es + 1
  longer y missed = length-put path_cmp path_total k y es c.rises ∙ ap (λ o. cond (is_some o) (length es) (length es + 1)) missed

  -- a tree whose node at k is another one
  replaced : (x y : Entry S) → find path_cmp k es ≡ Some x → AreVersions (node_of y) → (k ≡ [] → IsRoot (node_of y)) → IsTree (insert (nodes_of es) k (node_of y))
  replaced x y found versions root =
      let key : contains_key (nodes_of es) k ≡ true = something _ (node_of x) (node_found x found) in
      let long : len (insert (nodes_of es) k (node_of y)) ≡ len (nodes_of es) = len_put (nodes_of es) k (node_of y) ∙ ap (λ b. cond b (len (nodes_of es)) (len (nodes_of es) + 1)) key in
      tree_put (nodes_of es) k (node_of y) c.tree versions root (c.tree.parents k key) (subst (λ n. n - 1 ≤ most_nodes) (sym long) c.tree.within.few)

  count_stays : (x y : Entry S) → find path_cmp k es ≡ Some x → (p : List Name) → child_count (insert (nodes_of es) k (node_of y)) p ≡ child_count (nodes_of es) p
  count_stays x y found p =
      let key : contains_key (nodes_of es) k ≡ true = something _ (node_of x) (node_found x found) in
      let same = count_put (nodes_of es) k (node_of y) p ∙ ap (λ b. child_count (nodes_of es) p + cond b 0 (cond (is_child p k) 1 0)) key in
      omega (arith, same)

only_here : (p : List Name) (n : ℕ) → only_at p n p ≡ n
only_here p n = ap (λ b. cond b n 0) (same_itself p)

only_there : (p q : List Name) (n : ℕ) → same_path q p ≡ false → only_at p n q ≡ 0
only_there p q n other = ap (λ b. cond b n 0) other

module _ {S : Type 0} (es : Kept S) (c : Counts es none_to_come) (k : List Name) (x y : Entry S) (found : find path_cmp k es ≡ Some x) where
  -- a payload is set at a node that isn't the root
  pub counts_set : AreVersions (node_of y) → y.children ≡ x.children → 0 < length k → Counts (put path_cmp k y es) none_to_come
  counts_set versions children some =
      counts_put es k y none_to_come none_to_come c
      (replaced es none_to_come c k x y found versions (λ empty. let none = ap length empty in absurd (omega (arith, some, none))))
      (children ∙ children_found es none_to_come c k x found ∙ ap (λ n. n + 0) (sym (count_stays es none_to_come c k x y found k)))
      (λ p other. ap (λ n. n + 0) (sym (count_stays es none_to_come c k x y found p)))

  -- a node gets one child more, which is to come
  module _ (same : node_of y ≡ with_child (node_of x)) (children : y.children ≡ x.children + 1) (low : x.child_list_version < most_version) where
    versions_more : AreVersions (with_child (node_of x))
    versions_more =
        let old = versions_found es none_to_come c k x found in
        record { payload_from = old.payload_from; payload_to = old.payload_to; child_list_from = omega (arith, old.child_list_from); child_list_to = omega (arith, low) }

    pub counts_child : Counts (put path_cmp k y es) (only_at k 1)
    counts_child =
        counts_put es k y none_to_come (only_at k 1) c
        (replaced es none_to_come c k x y found (subst AreVersions (sym same) versions_more) (λ empty. subst IsRoot (sym same) (root_found es none_to_come c k x found empty)))
        (let had = children_found es none_to_come c k x found in let stays = count_stays es none_to_come c k x y found k in let here = only_here k 1 in omega (arith, children, had, stays, here))
        (λ p other. let stays = count_stays es none_to_come c k x y found p in let there = only_there k p 1 other in omega (arith, stays, there))

-- a new node with a child to come, or with none
pub counts_new : {S : Type 0} (es : Kept S) (k : List Name) → Counts es (only_at (parent k) 1) → get (nodes_of es) k ≡ None → contains_key (nodes_of es) (parent k) ≡ true
    → length es ≤ most_nodes → 0 < length k → (y : Entry S) (p : Payload S) → node_of y ≡ new_node p → Counts (put path_cmp k y es) (only_at k y.children)
counts_new {S} es k c none above room some y p same =
    counts_put es k y (only_at (parent k) 1) (only_at k y.children) c tree here others where
      m : Nodes S
      m = nodes_of es

      key : contains_key (nodes_of es) k ≡ false
      key = no_key _ none

      ones : AreVersions (new_node p)
      ones = record { payload_from = omega arith; payload_to = omega arith; child_list_from = omega arith; child_list_to = omega arith }

      tree : IsTree (insert (nodes_of es) k (node_of y))
      tree =
          let long : len (insert (nodes_of es) k (node_of y)) ≡ length es + 1 =
          len_put (nodes_of es) k (node_of y) ∙ ap (λ b. cond b (len (nodes_of es)) (len (nodes_of es) + 1)) key ∙ ap (λ n. n + 1) (len_nodes es c.rises) in
          tree_put (nodes_of es) k (node_of y) c.tree (subst AreVersions (sym same) ones) (λ empty. let none = ap length empty in absurd (omega (arith, some, none))) above (omega (arith, room, long))

      counted : (q : List Name) → child_count (insert (nodes_of es) k (node_of y)) q ≡ child_count (nodes_of es) q + cond (is_child q k) 1 0
      counted q = count_put (nodes_of es) k (node_of y) q ∙ ap (λ b. child_count (nodes_of es) q + cond b 0 (cond (is_child q k) 1 0)) key

      here : y.children ≡ child_count (insert (nodes_of es) k (node_of y)) k + only_at k y.children k
      here =
          let count : child_count (insert (nodes_of es) k (node_of y)) k ≡ child_count (nodes_of es) k + 0 = counted k ∙ ap (λ b. child_count (nodes_of es) k + cond b 1 0) (not_own k) in
          let bare = childless (nodes_of es) c.tree k none in
          let own = only_here k y.children in
          omega (arith, count, bare, own)

      others : (q : List Name) → same_path q k ≡ false → child_count (nodes_of es) q + only_at (parent k) 1 q ≡ child_count (insert (nodes_of es) k (node_of y)) q + only_at k y.children q
      others q other =
          let count : child_count (insert (nodes_of es) k (node_of y)) q ≡ child_count (nodes_of es) q + only_at (parent k) 1 q = counted q ∙ ap (λ b. child_count (nodes_of es) q + cond b 1 0) (child_test q k some) in
          let there = only_there k q y.children other in
          omega (arith, count, there)

-- a count of none to come
pub nothing_to_come : {S : Type 0} (es : Kept S) (p : List Name) (n : ℕ) → n ≡ 0 → Counts es (only_at p n) → Counts es none_to_come
nothing_to_come es p n zero c = record { rises = c.rises; tree = c.tree; counted = λ q. subst (λ k. IfSome (find path_cmp q es) (λ e. e.children ≡ child_count (nodes_of es) q + k)) (none q) (c.counted q) } where
  none : (q : List Name) → only_at p n q ≡ 0
  none q = ap (λ k. cond (same_path q p) k 0) zero ∙ elim (same_path q p) as (λ b. ◌≡◌ {A = ℕ} (cond b 0 0) 0) [ true ↦ refl | false ↦ refl ]

module _ {S : Type 0} (es : Kept S) (c : Counts es none_to_come) (p : List Name) (absent : find path_cmp p es ≡ None) where
  none : get (nodes_of es) p ≡ None
  none = node_missed es none_to_come c p absent

  pub has_names : 0 < length p
  has_names = missing_has_names (nodes_of es) c.tree p none

  -- the node above is there
  module _ (to : ℕ) (x : Entry S) (found : find path_cmp (parent p) es ≡ Some x) where
    above : get (nodes_of es) (parent p) ≡ Some (node_of x)
    above = node_found es none_to_come c (parent p) x found

    pub one_missing : missing (nodes_of es) p ≡ 1
    one_missing =
        let more = one_more_missing (nodes_of es) c.tree p none in
        let none_more = none_is_missing (nodes_of es) c.tree (parent p) (something _ (node_of x) above) in
        omega (arith, more, none_more)

    pub made_above : (y : Entry S) → node_of y ≡ with_child (node_of x) → y.children ≡ x.children + 1 → x.child_list_version < most_version
        → length es + (to - length p) ≤ most_nodes → IsMade (put path_cmp (parent p) y es) es p to
    made_above y same children low room = record {
      counts = counts_child es c (parent p) x y found same children low;
      reads = λ q.
          ap (λ (t : Nodes S). get t q) (put_nodes es c.rises (parent p) y)
          ∙ put_read (nodes_of es) (parent p) (node_of y) q
          ∙ ap (λ n. cond (same_path q (parent p)) (Some n) (get (nodes_of es) q)) same
          ∙ above_is_node (nodes_of es) c.tree p none (node_of x) above payload.Empty q;
      grows = let long = same_length es none_to_come c (parent p) x y found in let one = one_missing in omega (arith, long, one);
      room = let long = same_length es none_to_come c (parent p) x y found in omega (arith, long, room);
    }

    few_enough : AreWithin (added (nodes_of es) p payload.Empty) (node_count (nodes_of es) + missing (nodes_of es) p + (to - length p)) → length es + (to - length p) ≤ most_nodes
    few_enough within =
        let one = one_missing in
        let long = len_nodes es c.rises in
        let some = some_node es none_to_come c in
        let few = within.few in
        omega (arith, one, long, some, few)

    low_enough : AreWithin (added (nodes_of es) p payload.Empty) (node_count (nodes_of es) + missing (nodes_of es) p + (to - length p)) → x.child_list_version < most_version
    low_enough within =
        let same : Some (with_child (node_of x)) ≡ added (nodes_of es) p payload.Empty (parent p) =
        sym (ap (λ b. cond b (Some (with_child (node_of x))) (get (nodes_of es) (parent p))) (same_itself (parent p)))
        ∙ above_is_node (nodes_of es) c.tree p none (node_of x) above payload.Empty (parent p)
        ∙ ap (λ b. cond b None (added (nodes_of es) p payload.Empty (parent p))) (apart (parent p) p (λ e. parent_differs p has_names (sym e))) in
        let versions : AreVersions (with_child (node_of x)) = subst (λ o. IfSome o AreVersions) (sym same) (within.versions (parent p)) in
        omega (arith, versions.child_list_to)

    -- it would be too many nodes
    pub too_many : (n : ℕ) → n ≡ length es + (to - length p) → most_nodes < n → Refused error.StoreFull (AreWithin (added (nodes_of es) p payload.Empty) (node_count (nodes_of es) + missing (nodes_of es) p + (to - length p)))
    too_many n is many within = let few = few_enough within in omega (arith, is, many, few)

    -- it would be too great a version
    pub too_great : most_version ≤ x.child_list_version → Refused error.StoreFull (AreWithin (added (nodes_of es) p payload.Empty) (node_count (nodes_of es) + missing (nodes_of es) p + (to - length p)))
    too_great great within = let low = low_enough within in omega (arith, great, low)

  -- the node above is missing too
  module _ (to : ℕ) (fits : length p ≤ to) (absent_above : find path_cmp (parent p) es ≡ None) where
    none_above : get (nodes_of es) (parent p) ≡ None
    none_above = node_missed es none_to_come c (parent p) absent_above

    names_above : 0 < length (parent p)
    names_above = missing_has_names (nodes_of es) c.tree (parent p) none_above

    pub made_new : (new : Kept S) → IsMade new es (parent p) to → (y : Entry S) → node_of y ≡ new_node payload.Empty → y.children ≡ 1 → IsMade (put path_cmp (parent p) y new) es p to
    made_new new made y same children = record { counts = counts; reads = reads; grows = omega (arith, more, made.grows, longer_new); room = omega (arith, made.room, longer_new, fits, has_names, shorter_above) } where
      m : Nodes S
      m = nodes_of es

      not_yet : get (nodes_of new) (parent p) ≡ None
      not_yet = made.reads (parent p) ∙ ap (λ b. cond b None (added (nodes_of es) (parent p) payload.Empty (parent p))) (same_itself (parent p))

      key : contains_key (nodes_of new) (parent (parent p)) ≡ true
      key =
          let other = apart (parent (parent p)) (parent p) (λ e. parent_differs (parent p) names_above (sym e)) in
          ap is_some (made.reads (parent (parent p)) ∙ ap (λ b. cond b None (added (nodes_of es) (parent p) payload.Empty (parent (parent p)))) other)
          ∙ ap (λ b. is_some (cond b (Some (new_node payload.Empty)) (cond (begins (parent (parent p)) (parent p)) (front_made (nodes_of es) (parent p) (parent (parent p)) (get (nodes_of es) (parent (parent p)))) (get (nodes_of es) (parent (parent p)))))) other
          ∙ ap (λ b. is_some (cond b (front_made (nodes_of es) (parent p) (parent (parent p)) (get (nodes_of es) (parent (parent p)))) (get (nodes_of es) (parent (parent p))))) (begins_parent (parent p))
          ∙ there (get (nodes_of es) (parent (parent p))) where
            there : (o : Option (Node S)) → is_some (front_made (nodes_of es) (parent p) (parent (parent p)) o) ≡ true
            there None = refl
            there (Some n) = refl

      room_new : length new ≤ most_nodes
      room_new = omega (arith, made.room)

      counts : Counts (put path_cmp (parent p) y new) (only_at (parent p) 1)
      counts = subst (λ n. Counts (put path_cmp (parent p) y new) (only_at (parent p) n)) children
          (counts_new new (parent p) made.counts not_yet key room_new names_above y payload.Empty same)

      reads : Reads (nodes_of (put path_cmp (parent p) y new)) (λ q. cond (same_path q p) None (added (nodes_of es) p payload.Empty q))
      reads q =
          ap (λ (t : Nodes S). get t q) (put_nodes new made.counts.rises (parent p) y)
          ∙ put_read (nodes_of new) (parent p) (node_of y) q
          ∙ (λ i. cond (same_path q (parent p)) (Some (same i)) (made.reads q i))
          ∙ above_is_made (nodes_of es) c.tree p none none_above payload.Empty q

      longer_new : length (put path_cmp (parent p) y new) ≡ length new + 1
      longer_new = longer new (only_at (parent (parent p)) 1) made.counts (parent p) y (entry_missed new (only_at (parent (parent p)) 1) made.counts (parent p) not_yet)

      more : missing (nodes_of es) p ≡ missing (nodes_of es) (parent p) + 1
      more = one_more_missing (nodes_of es) c.tree p none

      shorter_above : length (parent p) ≡ length p - 1
      shorter_above = length_parent p

    -- what refuses the nodes above refuses this one
    pub refused_above : (e : TreeError) → Refused e (AreWithin (added (nodes_of es) (parent p) payload.Empty) (node_count (nodes_of es) + missing (nodes_of es) (parent p) + (to - length (parent p))))
        → Refused e (AreWithin (added (nodes_of es) p payload.Empty) (node_count (nodes_of es) + missing (nodes_of es) p + (to - length p)))
    refused_above error.NoMemory r = tt
    refused_above error.StoreFull r = λ within. r (record { versions = versions within; few = few within }) where
      Within : Type 0
      Within = AreWithin (added (nodes_of es) p payload.Empty) (node_count (nodes_of es) + missing (nodes_of es) p + (to - length p))

      few : AreWithin (added (nodes_of es) p payload.Empty) (node_count (nodes_of es) + missing (nodes_of es) p + (to - length p)) → node_count (nodes_of es) + missing (nodes_of es) (parent p) + (to - length (parent p)) ≤ most_nodes
      few within =
          let more = one_more_missing (nodes_of es) c.tree p none in
          let short = length_parent p in
          let some = has_names in
          let enough = within.few in
          omega (arith, more, short, some, fits, enough)

      versions : AreWithin (added (nodes_of es) p payload.Empty) (node_count (nodes_of es) + missing (nodes_of es) p + (to - length p)) → (q : List Name) → IfSome (added (nodes_of es) (parent p) payload.Empty q) AreVersions
      versions within q = chosen (same_path q (parent p)) refl where
        chosen : (b : Bool) → same_path q (parent p) ≡ b → IfSome (added (nodes_of es) (parent p) payload.Empty q) AreVersions
        chosen true same = subst (λ b. IfSome (cond b (Some (new_node payload.Empty)) (cond (begins q (parent p)) (front_made (nodes_of es) (parent p) q (get (nodes_of es) q)) (get (nodes_of es) q))) AreVersions) (sym same)
            (record { payload_from = omega arith; payload_to = omega arith; child_list_from = omega arith; child_list_to = omega arith })
        chosen false other =
            let same : added (nodes_of es) (parent p) payload.Empty q ≡ cond (same_path q p) None (added (nodes_of es) p payload.Empty q) =
            sym (ap (λ b. cond b (Some (new_node payload.Empty)) (cond b None (added (nodes_of es) (parent p) payload.Empty q))) other)
            ∙ above_is_made (nodes_of es) c.tree p none none_above payload.Empty q in
            subst (λ o. IfSome o AreVersions) (sym same)
            (elim (same_path q p) as (λ b. IfSome (cond b None (added (nodes_of es) p payload.Empty q)) AreVersions) [ true ↦ tt | false ↦ within.versions q ])

  -- the last node, of this path, is put
  module _ (new : Kept S) (made : IsMade new es p (length p)) (y : Entry S) (pay : Payload S) (same : node_of y ≡ new_node pay) (children : y.children ≡ 0) where
    not_there : get (nodes_of new) p ≡ None
    not_there = made.reads p ∙ ap (λ b. cond b None (added (nodes_of es) p payload.Empty p)) (same_itself p)

    key_above : contains_key (nodes_of new) (parent p) ≡ true
    key_above =
        let other = apart (parent p) p (λ e. parent_differs p has_names (sym e)) in
        ap is_some (made.reads (parent p) ∙ ap (λ b. cond b None (added (nodes_of es) p payload.Empty (parent p))) other)
        ∙ ap (λ b. is_some (cond b (Some (new_node payload.Empty)) (cond (begins (parent p) p) (front_made (nodes_of es) p (parent p) (get (nodes_of es) (parent p))) (get (nodes_of es) (parent p))))) other
        ∙ ap (λ b. is_some (cond b (front_made (nodes_of es) p (parent p) (get (nodes_of es) (parent p))) (get (nodes_of es) (parent p)))) (begins_parent p)
        ∙ there (get (nodes_of es) (parent p)) where
          there : (o : Option (Node S)) → is_some (front_made (nodes_of es) p (parent p) o) ≡ true
          there None = refl
          there (Some n) = refl

    pub counts_added : Counts (put path_cmp p y new) none_to_come
    counts_added = nothing_to_come (put path_cmp p y new) p y.children children
        (counts_new new p made.counts not_there key_above (omega (arith, made.room)) has_names y pay same)

    pub reads_added : Reads (nodes_of (put path_cmp p y new)) (added (nodes_of es) p pay)
    reads_added q =
        ap (λ (t : Nodes S). get t q) (put_nodes new made.counts.rises p y)
        ∙ put_read (nodes_of new) p (node_of y) q
        ∙ (λ i. cond (same_path q p) (Some (same i)) (made.reads q i))
        ∙ path_is_put (nodes_of es) c.tree p none pay q

    pub within_added : AreWithin (added (nodes_of es) p pay) (node_count (nodes_of es) + missing (nodes_of es) p)
    within_added = record {
      versions = λ q. subst (λ o. IfSome o AreVersions) (reads_added q) (counts_added.tree.within.versions q);
      few =
          let long = len_nodes es c.rises in
          let some = some_node es none_to_come c in
          let grows = made.grows in
          let room = made.room in
          omega (arith, long, some, grows, room);
    }

  -- what refuses the nodes above refuses the path
  pub refused_added : (pay : Payload S) (e : TreeError) → Refused e (AreWithin (added (nodes_of es) p payload.Empty) (node_count (nodes_of es) + missing (nodes_of es) p + (length p - length p)))
      → Refused e (AreWithin (added (nodes_of es) p pay) (node_count (nodes_of es) + missing (nodes_of es) p))
  refused_added pay error.NoMemory r = tt
  refused_added pay error.StoreFull r = λ within. r (record { versions = versions within; few = let few = within.few in omega (arith, few) }) where
    versions : AreWithin (added (nodes_of es) p pay) (node_count (nodes_of es) + missing (nodes_of es) p) → (q : List Name) → IfSome (added (nodes_of es) p payload.Empty q) AreVersions
    versions within q =
        elim (same_path q p) as (λ b. IfSome (cond b (Some (new_node pay)) (cond (begins q p) (front_made (nodes_of es) p q (get (nodes_of es) q)) (get (nodes_of es) q))) AreVersions
        → IfSome (cond b (Some (new_node payload.Empty)) (cond (begins q p) (front_made (nodes_of es) p q (get (nodes_of es) q)) (get (nodes_of es) q))) AreVersions) [
          | true ↦ λ v. record { payload_from = v.payload_from; payload_to = v.payload_to; child_list_from = v.child_list_from; child_list_to = v.child_list_to }
          | false ↦ λ v. v
        ] (within.versions q)
