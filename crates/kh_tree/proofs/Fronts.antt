-- The fronts of a path that is added.
use Rattle.std.proofs.Common.{◌≡◌, ◌≢◌, ◌<◌, ◌≤◌, ◌+◌, ◌-◌, Bool, true, false, cond, ℕ, zero, suc, zero-add, List, [], ◌∷◌, length, take, Option, Some, None, IfSome, MatchOption, inl, inr, refl, ap, sym, subst, ◌∙◌, arith}
use Rattle.std.proofs.Math.Seq.{take-length}
use Rattle.std.proofs.lemmas.Bool.{cases_Bool}
use Rattle.std.proofs.lemmas.List.{length-take-le, take_all}
use Rattle.std.specs.FinMap.{get, contains_key, len}
use Rattle.std.specs.Option.{is_some}
use Rattle.kh_term.specs.declared.name.Name.{Name}
use Rattle.kh_tree.specs.declared.payload.Payload.{Payload}
use Rattle.kh_tree.specs.declared.payload.Payload.TheVariants as payload
use Rattle.kh_tree.specs.Node.{Node, new_node, with_child}
use Rattle.kh_tree.specs.Nodes.{Nodes, AreVersions, AreWithin, IsRoot, IsTree, begins, most_version, node_count, parent, same_path}
use Rattle.kh_tree.specs.Writes.{added, front_made, missing, missing_to}
use Rattle.kh_tree.proofs.Paths.{same_is, same_itself, is_same, is_false, apart, never, order, take_take, length_parent, parent_differs, next_of_parent, begins_parent, front_of_parent, begins_is, shorter}
use Rattle.kh_tree.proofs.Trees.{nothing, something, no_key}

module _ {S : Type 0} (m : Nodes S) (t : IsTree m) where
  -- each front of a key is a key
  from_end : (w : List Name) → contains_key m w ≡ true → (d : ℕ) → contains_key m (take (length w - d) w) ≡ true
  from_end w is zero = let whole : length w - 0 ≡ length w = omega arith in ap (λ n. contains_key m (take n w)) whole ∙ ap (contains_key m) (take-length w) ∙ is
  from_end w is (suc d) =
      let before = from_end w is d in
      let long : length (take (length w - d) w) ≡ length w - d = length-take-le (length w - d) w (omega arith) in
      let same : parent (take (length w - d) w) ≡ take (length w - suc d) w =
      ap (λ n. take (n - 1) (take (length w - d) w)) long ∙ take_take (length w - d - 1) (length w - d) w (omega arith) ∙ ap (λ n. take n w) (omega arith) in
      ap (contains_key m) (sym same) ∙ t.parents (take (length w - d) w) before

  pub fronts_are_keys : (w : List Name) → contains_key m w ≡ true → (k : ℕ) → contains_key m (take k w) ≡ true
  fronts_are_keys w is k =
      elim (order (length w) k) [
        | inl long ↦ ap (contains_key m) (take_all k w long) ∙ is
        | inr short ↦ subst (λ n. contains_key m (take n w) ≡ true) (omega (arith, short)) (from_end w is (length w - k))
      ]

  -- so none of them is missing
  none_missing : (w : List Name) → contains_key m w ≡ true → (n : ℕ) → missing_to m w n ≡ 0
  none_missing w is zero = refl
  none_missing w is (suc n) = ap (λ b. cond b 0 1 + missing_to m w n) (fronts_are_keys w is (suc n)) ∙ zero-add (missing_to m w n) ∙ none_missing w is n

  pub none_is_missing : (w : List Name) → contains_key m w ≡ true → missing m w ≡ 0
  none_is_missing w is = none_missing w is (length w)

  -- the root is no missing path
  pub missing_has_names : (p : List Name) → get m p ≡ None → 0 < length p
  missing_has_names [] none = absurd (subst (λ o. MatchOption o ⊥ (IsRoot {S = S})) none t.root)
  missing_has_names (n ∷ p) none = omega arith

  missing_below : (p : List Name) (n : ℕ) → n ≤ length p - 1 → missing_to m p n ≡ missing_to m (parent p) n
  missing_below p zero h = refl
  missing_below p (suc n) h =
      (λ i. cond (contains_key m (sym (front_of_parent p (suc n) h) i)) 0 1 + missing_below p n (omega (arith, h)) i)

  -- a missing path is one more than its parent's missing fronts
  pub one_more_missing : (p : List Name) → get m p ≡ None → missing m p ≡ missing m (parent p) + 1
  one_more_missing p none = go (length p) refl (missing_has_names p none) where
    go : (n : ℕ) → length p ≡ n → 0 < n → missing m p ≡ missing m (parent p) + 1
    go zero is some = absurd (omega (arith, some))
    go (suc n) is some =
        let long : length (parent p) ≡ n = length_parent p ∙ omega (arith, is) in
        let below : missing_to m p n ≡ missing_to m (parent p) n = missing_below p n (omega (arith, is)) in
        let last : contains_key m (take (suc n) p) ≡ false = ap (contains_key m) (take_all (suc n) p (omega (arith, is))) ∙ no_key (get m p) none in
        let whole : missing m p ≡ 1 + missing_to m p n = ap (missing_to m p) is ∙ ap (λ b. cond b 0 1 + missing_to m p n) last in
        let rest : missing_to m (parent p) n ≡ missing m (parent p) = ap (missing_to m (parent p)) (sym long) in
        omega (arith, below, whole, rest)

  -- a front stays where the next one is a key
  front_stays : (p q : List Name) (o : Option (Node S)) → is_some o ≡ true → contains_key m (take (length q + 1) p) ≡ true → front_made m p q o ≡ o
  front_stays p q None is next = never (sym is)
  front_stays p q (Some n) is next = ap (λ b. Some (cond b n (with_child n))) next

module _ {S : Type 0} (m : Nodes S) (t : IsTree m) (p : List Name) (absent : get m p ≡ None) where
  some : 0 < length p
  some = missing_has_names m t p absent

  w : List Name
  w = parent p

  -- a path before p in its line, and neither p nor its parent, begins the parent, and is shorter
  pub front_of_both : (q : List Name) → same_path q p ≡ false → begins q p ≡ begins q (parent p)
  front_of_both q other =
      elim (order (length q) (length p - 1)) [
        | inl short ↦ ap (λ x. same_path q x) (sym (front_of_parent p (length q) short))
        | inr long ↦ is_false (begins q p) (λ is. short_enough is long) ∙ sym (is_false (begins q (parent p)) (λ is. also_short is long))
      ] where
        differs : q ≢ p
        differs e = never (sym (is_same q p e) ∙ other)

        short_enough : begins q p ≡ true → length p - 1 < length q → ⊥
        short_enough is long = let less = shorter q p is differs in omega (arith, less, long)

        also_short : begins q (parent p) ≡ true → length p - 1 < length q → ⊥
        also_short is long =
            let same : q ≡ take (length q) (parent p) = begins_is q (parent p) is in
            let all : take (length q) (parent p) ≡ parent p = let l = length_parent p in take_all (length q) (parent p) (omega (arith, l, long)) in
            let lengths : length q ≡ length (parent p) = ap length (same ∙ all) in
            let l = length_parent p in
            omega (arith, l, lengths, long)

  shorter_front : (q : List Name) → same_path q p ≡ false → same_path q (parent p) ≡ false → begins q p ≡ true → length q + 1 ≤ length p - 1
  shorter_front q other other_parent is =
      let less = shorter q (parent p) (sym (front_of_both q other) ∙ is) (λ e. never (sym (is_same q (parent p) e) ∙ other_parent)) in
      let l = length_parent p in
      omega (arith, less, l)

  -- the parent is a node: it has one child more, and every other path stays
  pub above_is_node : (n : Node S) → get m (parent p) ≡ Some n → (pay : Payload S) (q : List Name)
      → cond (same_path q (parent p)) (Some (with_child n)) (get m q) ≡ cond (same_path q p) None (added m p pay q)
  above_is_node n is pay q = elim (cases_Bool (same_path q p)) [
    | inl same ↦ at_path same
    | inr other ↦ elim (cases_Bool (same_path q (parent p))) [ inl same ↦ at_parent other same | inr other_parent ↦ elsewhere other other_parent ]
  ] where
    at_path : same_path q p ≡ true → cond (same_path q (parent p)) (Some (with_child n)) (get m q) ≡ cond (same_path q p) None (added m p pay q)
    at_path same =
        let here : q ≡ p = same_is q p same in
        let not_parent : same_path q (parent p) ≡ false = apart q (parent p) (λ e. parent_differs p some (sym here ∙ e)) in
        ap (λ b. cond b (Some (with_child n)) (get m q)) not_parent ∙ ap (get m) here ∙ absent ∙ sym (ap (λ b. cond b None (added m p pay q)) same)

    at_parent : same_path q p ≡ false → same_path q (parent p) ≡ true → cond (same_path q (parent p)) (Some (with_child n)) (get m q) ≡ cond (same_path q p) None (added m p pay q)
    at_parent other same =
        let here : q ≡ parent p = same_is q (parent p) same in
        let front : begins q p ≡ true = subst (λ x. begins x p ≡ true) (sym here) (begins_parent p) in
        let next : contains_key m (take (length q + 1) p) ≡ false = ap (λ x. contains_key m (take (length x + 1) p)) here ∙ ap (contains_key m) (next_of_parent p some) ∙ no_key (get m p) absent in
        ap (λ b. cond b (Some (with_child n)) (get m q)) same
        ∙ sym (ap (λ b. cond b None (added m p pay q)) other
        ∙ ap (λ b. cond b (Some (new_node pay)) (cond (begins q p) (front_made m p q (get m q)) (get m q))) other
        ∙ ap (λ b. cond b (front_made m p q (get m q)) (get m q)) front
        ∙ ap (front_made m p q) (ap (get m) here ∙ is)
        ∙ ap (λ b. Some (cond b n (with_child n))) next)

    elsewhere : same_path q p ≡ false → same_path q (parent p) ≡ false → cond (same_path q (parent p)) (Some (with_child n)) (get m q) ≡ cond (same_path q p) None (added m p pay q)
    elsewhere other other_parent =
        ap (λ b. cond b (Some (with_child n)) (get m q)) other_parent
        ∙ sym (ap (λ b. cond b None (added m p pay q)) other
        ∙ ap (λ b. cond b (Some (new_node pay)) (cond (begins q p) (front_made m p q (get m q)) (get m q))) other
        ∙ front (begins q p) refl) where
          key : contains_key m (parent p) ≡ true
          key = something (get m (parent p)) n is

          front : (b : Bool) → begins q p ≡ b → cond b (front_made m p q (get m q)) (get m q) ≡ get m q
          front false no_front = refl
          front true yes_front =
              let short = shorter_front q other other_parent yes_front in
              let here : take (length q) (parent p) ≡ q = sym (begins_is q (parent p) (sym (front_of_both q other) ∙ yes_front)) in
              let next : take (length q + 1) (parent p) ≡ take (length q + 1) p = front_of_parent p (length q + 1) short in
              front_stays m t p q (get m q)
              (ap (contains_key m) (sym here) ∙ fronts_are_keys m t (parent p) key (length q))
              (ap (contains_key m) (sym next) ∙ fronts_are_keys m t (parent p) key (length q + 1))

  -- what stands at q once the parent is made, where it is q or another one
  abbrev once_made : List Name → Bool → Option (Node S)
  once_made q here = cond here (Some (new_node payload.Empty)) (cond here None (added m (parent p) payload.Empty q))

  -- the parent is missing: it is made after its own fronts, and then all but p is as where p is added
  pub above_is_made : get m (parent p) ≡ None → (pay : Payload S) (q : List Name)
      → cond (same_path q (parent p)) (Some (new_node payload.Empty)) (cond (same_path q (parent p)) None (added m (parent p) payload.Empty q)) ≡ cond (same_path q p) None (added m p pay q)
  above_is_made is pay q = elim (cases_Bool (same_path q p)) [
    | inl same ↦ at_path same
    | inr other ↦ elim (cases_Bool (same_path q (parent p))) [ inl same ↦ at_parent other same | inr other_parent ↦ elsewhere other other_parent ]
  ] where
    at_path : same_path q p ≡ true → once_made q (same_path q (parent p)) ≡ cond (same_path q p) None (added m p pay q)
    at_path same =
        let here : q ≡ p = same_is q p same in
        let not_parent : same_path q (parent p) ≡ false = apart q (parent p) (λ e. parent_differs p some (sym here ∙ e)) in
        let no_front : begins q (parent p) ≡ false = is_false (begins q (parent p)) (λ front.
        let less = shorter q (parent p) front (λ e. parent_differs p some (sym here ∙ e)) in
        let l = length_parent p in
        let long = ap length here in
        omega (arith, less, l, long)) in
        ap (once_made q) not_parent
        ∙ ap (λ b. cond b (Some (new_node payload.Empty)) (cond (begins q (parent p)) (front_made m (parent p) q (get m q)) (get m q))) not_parent
        ∙ ap (λ b. cond b (front_made m (parent p) q (get m q)) (get m q)) no_front
        ∙ ap (get m) here ∙ absent
        ∙ sym (ap (λ b. cond b None (added m p pay q)) same)

    at_parent : same_path q p ≡ false → same_path q (parent p) ≡ true → once_made q (same_path q (parent p)) ≡ cond (same_path q p) None (added m p pay q)
    at_parent other same =
        let here : q ≡ parent p = same_is q (parent p) same in
        let front : begins q p ≡ true = subst (λ x. begins x p ≡ true) (sym here) (begins_parent p) in
        ap (once_made q) same
        ∙ sym (ap (λ b. cond b None (added m p pay q)) other
        ∙ ap (λ b. cond b (Some (new_node pay)) (cond (begins q p) (front_made m p q (get m q)) (get m q))) other
        ∙ ap (λ b. cond b (front_made m p q (get m q)) (get m q)) front
        ∙ ap (front_made m p q) (ap (get m) here ∙ is))

    elsewhere : same_path q p ≡ false → same_path q (parent p) ≡ false → once_made q (same_path q (parent p)) ≡ cond (same_path q p) None (added m p pay q)
    elsewhere other other_parent =
        ap (once_made q) other_parent
        ∙ ap (λ b. cond b (Some (new_node payload.Empty)) (cond (begins q (parent p)) (front_made m (parent p) q (get m q)) (get m q))) other_parent
        ∙ fronts (begins q p) refl
        ∙ sym (ap (λ b. cond b None (added m p pay q)) other
        ∙ ap (λ b. cond b (Some (new_node pay)) (cond (begins q p) (front_made m p q (get m q)) (get m q))) other) where
          same_front : (o : Option (Node S)) → begins q p ≡ true → front_made m (parent p) q o ≡ front_made m p q o
          same_front None is_front = refl
          same_front (Some n) is_front = ap (λ x. Some (cond (contains_key m x) n (with_child n))) (front_of_parent p (length q + 1) (shorter_front q other other_parent is_front))

          fronts : (b : Bool) → begins q p ≡ b → cond (begins q (parent p)) (front_made m (parent p) q (get m q)) (get m q) ≡ cond (begins q p) (front_made m p q (get m q)) (get m q)
          fronts true is_front =
              ap (λ b. cond b (front_made m (parent p) q (get m q)) (get m q)) (sym (front_of_both q other))
              ∙ ap (λ o. cond (begins q p) o (get m q)) (same_front (get m q) is_front)
          fronts false no_front =
              ap (λ b. cond b (front_made m (parent p) q (get m q)) (get m q)) (sym (front_of_both q other) ∙ no_front)
              ∙ sym (ap (λ b. cond b (front_made m p q (get m q)) (get m q)) no_front)

  -- the node itself is put last
  pub path_is_put : (pay : Payload S) (q : List Name) → cond (same_path q p) (Some (new_node pay)) (cond (same_path q p) None (added m p payload.Empty q)) ≡ added m p pay q
  path_is_put pay q =
      elim (same_path q p) as (λ b. cond b (Some (new_node pay)) (cond b None (cond b (Some (new_node payload.Empty)) (cond (begins q p) (front_made m p q (get m q)) (get m q))))
      ≡ cond b (Some (new_node pay)) (cond (begins q p) (front_made m p q (get m q)) (get m q))) [ true ↦ refl | false ↦ refl ]
