-- The walk over a subtree: what was found, and the rows.
use Rattle.std.proofs.Common.{◌≡◌, ◌≢◌, ◌↔◌, ◌⊎◌, ℕ, zero, suc, ◌+◌, ◌-◌, ◌<◌, ◌≤◌, Bool, true, false, cond, not, List, [], ◌∷◌, ◌++◌, length, take, get_or, Option, Some, None, MatchOption, IsTrue, inl, inr, refl, ap, sym, subst, ◌∙◌, length-take, length-append, take-take, get_or-take, arith}
use Rattle.std.proofs.lemmas.Cmp.{tied_itself}
use Rattle.std.proofs.lemmas.List.{get_or_append_left, get_or_default, get_or_push, length_push, nil_from_length}
use Rattle.std.specs.FinMap.{FinMap, empty, get, contains_key, retain_keys, remove, len, get-empty, get-remove, get-retain_keys, len-remove, empty_of_len, same_map}
use Rattle.std.specs.List.{AllPairs, IsAmong}
use Rattle.std.specs.Option.{is_some}
use Rattle.std.specs.Ordering.{is_lt}
use Rattle.std.specs.declared.cmp.Ordering.{Ordering}
use Rattle.std.specs.declared.cmp.Ordering.TheVariants.{Less, Equal, Greater}
use Rattle.kh_cond.specs.declared.component.Component.{Component}
use Rattle.kh_cond.specs.Holds.{Search}
use Rattle.kh_term.specs.declared.name.Name.{Name}
use Rattle.kh_term.specs.Name.{path_cmp, path_total}
use Rattle.kh_tree.specs.Node.{Node}
use Rattle.kh_tree.specs.Nodes.{Nodes, IsNext, IsTree, begins, parent, same_path}
use Rattle.kh_tree.proofs.Paths.{apart, begins_is, exact, is_same, length_parent, never, same_itself}
use Rattle.kh_walk.specs.Found.{Rise}
use Rattle.kh_walk.specs.Rows.{AreRows, IsRow}
use Rattle.kh_walk.specs.Takes.{Matches}
use Rattle.kh_walk.specs.Walked.{AreBelow, IsNextBelow, MatchesBelow, NoneBelow, with_path}
use Rattle.kh_walk.proofs.Orders.{behind_front, between, by_order, eq_or_less, not_before, not_both}

-- ---- paths that were found

pushed_before : (ps : List (List Name)) (p x : List Name) → IsAmong ps x → IsAmong (ps ++ p ∷ []) x
pushed_before ps p x (i, (h, is)) = (i, (let l = length_push ps p in omega (arith, l, h), is ∙ sym (get_or_append_left ps (p ∷ []) x i h)))

pushed_last : (ps : List (List Name)) (p x : List Name) → x ≡ p → IsAmong (ps ++ p ∷ []) x
pushed_last ps p x e = (length ps, (let l = length_push ps p in omega (arith, l), e ∙ sym (get_or_push ps p x (length ps) refl)))

pushed_is : (ps : List (List Name)) (p x : List Name) → IsAmong (ps ++ p ∷ []) x → IsAmong ps x ⊎ (x ≡ p)
pushed_is ps p x (i, (h, is)) = by_place (eq_or_less i (length ps) (let l = length_push ps p in omega (arith, l, h))) where
  by_place : (i < length ps) ⊎ (i ≡ length ps) → IsAmong ps x ⊎ (x ≡ p)
  by_place (inl short) = inl (i, (short, is ∙ get_or_append_left ps (p ∷ []) x i short))
  by_place (inr last) = inr (is ∙ get_or_push ps p x i (sym last))

-- paths that rise still do with one behind them
rise_pushed : (ps : List (List Name)) (p : List Name) → Rise ps → ((x : List Name) → IsAmong ps x → path_cmp x p ≡ Less) → Rise (ps ++ p ∷ [])
rise_pushed ps p rise below i j d h k = by_place (eq_or_less j (length ps) (let l = length_push ps p in omega (arith, l, k))) where
  first : i < length ps → get_or (ps ++ p ∷ []) i d ≡ get_or ps i d
  first short = get_or_append_left ps (p ∷ []) d i short

  by_place : (j < length ps) ⊎ (j ≡ length ps) → path_cmp (get_or (ps ++ p ∷ []) i d) (get_or (ps ++ p ∷ []) j d) ≡ Less
  by_place (inl short) =
      (λ t. path_cmp (first (omega (arith, h, short)) t) (get_or_append_left ps (p ∷ []) d j short t)) ∙ rise i j d h short
  by_place (inr last) =
      let short : i < length ps = omega (arith, h, last) in
      (λ t. path_cmp (first short t) (get_or_push ps p d j (sym last) t))
      ∙ below (get_or ps i d) (i, (short, get_or_default ps i d (get_or ps i d) short))

module _ {S : Type 0} (search : Search) (m : Nodes S) (q : List Component) (start : List Name) where
  -- the paths found are those that match and are before a path
  abbrev pub AreBefore : List Name → List (List Name) → Type 0
  AreBefore at found = (p : List Name) → IsAmong found p ↔ (MatchesBelow search m q start p × (path_cmp p at ≡ Less))

  -- or are that path too
  abbrev pub AreUpTo : List Name → List (List Name) → Type 0
  AreUpTo at found = (p : List Name) → IsAmong found p ↔ (MatchesBelow search m q start p × (path_cmp at p ≡ Less → ⊥))

  pub none_before : AreBefore start []
  none_before p = (λ a. absurd (let h = a.1.0 in omega (arith, h)), λ b. absurd (not_before start p (sym (begins_is start p b.0.below)) b.1))

  module _ (at : List Name) (found : List (List Name)) (before : AreBefore at found) where
    module _ (node : IsTrue (contains_key m at)) (below : IsTrue (begins start at)) where
      here : Matches search m q at → MatchesBelow search m q start at
      here t = record { node = node; below = below; matches = t }

      pub noted : (b : Bool) → IsTrue b ↔ Matches search m q at → AreUpTo at (with_path b found at)
      noted true mark p = (forth, back) where
        forth : IsAmong (found ++ at ∷ []) p → MatchesBelow search m q start p × (path_cmp at p ≡ Less → ⊥)
        forth a = elim (pushed_is found at p a) [
          | inl old ↦ let b = (before p).0 old in (b.0, λ h. not_both p at b.1 h)
          | inr e ↦ (subst (MatchesBelow search m q start) (sym e) (here (mark.0 refl)), λ h. let own : path_cmp at at ≡ Less = ap (path_cmp at) (sym e) ∙ h in not_both at at own own)
        ]

        back : MatchesBelow search m q start p × (path_cmp at p ≡ Less → ⊥) → IsAmong (found ++ at ∷ []) p
        back b = by_order p at (λ h. pushed_before found at p ((before p).1 (b.0, h))) (λ e. pushed_last found at p e) (λ h. absurd (b.1 h))
      noted false mark p = (λ a. let b = (before p).0 a in (b.0, λ h. not_both p at b.1 h), back) where
        back : MatchesBelow search m q start p × (path_cmp at p ≡ Less → ⊥) → IsAmong found p
        back b =
            by_order p at (λ h. (before p).1 (b.0, h))
            (λ e. never (sym (mark.1 (subst (Matches search m q) e b.0.matches)))) (λ h. absurd (b.1 h))

    pub rise_noted : (b : Bool) → Rise found → Rise (with_path b found at)
    rise_noted true rise = rise_pushed found at rise (λ x a. ((before x).0 a).1)
    rise_noted false rise = rise

  module _ (at : List Name) (found : List (List Name)) (up_to : AreUpTo at found) where
    pub before_next : (next : List Name) → IsNext m at next → AreBefore next found
    before_next next n p = (forth, back) where
      forth : IsAmong found p → MatchesBelow search m q start p × (path_cmp p next ≡ Less)
      forth a =
          let b = (up_to p).0 a in
          (b.0, by_order p at (λ h. path_total.trans p at next h n.greater) (λ e. ap (λ x. path_cmp x next) e ∙ n.greater) (λ h. absurd (b.1 h)))

      back : MatchesBelow search m q start p × (path_cmp p next ≡ Less) → IsAmong found p
      back b = (up_to p).1 (b.0, λ h. n.least p b.0.node h b.1)

    pub all_found : NoneBelow m start at → AreBelow search m q start found
    all_found none p = (λ a. ((up_to p).0 a).0, λ b. (up_to p).1 (b, λ h. none p b.node b.below h))

-- ---- the next node

module _ {S : Type 0} (m : Nodes S) (at next : List Name) (n : IsNext m at next) where
  -- it isn't the root
  pub next_has_names : 0 < length next
  next_has_names = some at next n.greater where
    some : (p x : List Name) → path_cmp p x ≡ Less → 0 < length x
    some [] [] e = absurd (cc)
    some (k ∷ p) [] e = absurd (cc)
    some p (k ∷ x) e = omega arith

  module _ (t : IsTree m) where
    long : length (parent next) ≡ length next - 1
    long = length_parent next

    front : take (length (parent next)) next ≡ parent next
    front = ap (λ k. take k next) long

    -- the path at which the walk is begins with the parent of the next one
    pub same_parent : take (length (parent next)) at ≡ parent next
    same_parent = between (parent next) at next not_before_parent (λ h. not_both at next n.greater h) front where
      shorter : length (parent next) < length next
      shorter = let some = next_has_names in omega (arith, long, some)

      not_before_parent : path_cmp at (parent next) ≡ Less → ⊥
      not_before_parent h = n.least (parent next) (t.parents next n.key) h (behind_front (parent next) next front shorter)

    pub next_short : length next ≤ length at + 1
    next_short =
        let l = length-take (length (parent next)) at in
        let e = ap length same_parent in
        omega (arith, l, e, long)

    fronts_alike : (j : ℕ) → j < length next → take j at ≡ take j next
    fronts_alike j h =
        let within : j ≤ length (parent next) = omega (arith, h, long) in
        sym (take-take j (length (parent next)) at within) ∙ ap (take j) (same_parent ∙ sym front) ∙ take-take j (length (parent next)) next within

    -- so the rows of the fronts that are shorter than the next one are known
    pub next_rows : (search : Search) (q : List Component) (rows : List (List Bool)) → AreRows search m q at rows → AreRows search m q next (take (length next) rows)
    next_rows search q rows are j h =
        let l = length-take (length next) rows in
        let less : j < length next = omega (arith, h, l) in
        let within : j < length rows = omega (arith, h, l) in
        subst (IsRow search m q (take j next)) (sym (get_or-take (length next) rows j [] less))
        (subst (λ p. IsRow search m q p (get_or rows j [])) (fronts_alike j less) (are j within))

-- ---- the end of a subtree

module _ {S : Type 0} (m : Nodes S) (start at : List Name) (within : begins start at ≡ true) where
  -- where the next node isn't below a path, none behind it is
  none_below : (next : List Name) → IsNext m at next → begins start next ≡ false → NoneBelow m start at
  none_below next n outside p key below h =
      let after : path_cmp next start ≡ Less → ⊥ = λ l. not_before start at (sym (begins_is start at within)) (path_total.trans at next start n.greater l) in
      let front : take (length start) next ≡ start = between start next p after (λ l. n.least p key h l) (sym (begins_is start p below)) in
      never (sym (is_same start (take (length start) next) (sym front)) ∙ outside)

  pub next_below : (next : List Name) → IsNext m at next → (o : Option (List Name)) → o ≡ cond (begins start next) (Some next) None → MatchOption o (NoneBelow m start at) (IsNextBelow m start at)
  next_below next n o e = subst (λ x. MatchOption x (NoneBelow m start at) (IsNextBelow m start at)) (sym e) (chosen (begins start next) refl) where
    chosen : (b : Bool) → begins start next ≡ b → MatchOption (cond b (Some next) None) (NoneBelow m start at) (IsNextBelow m start at)
    chosen true is = record { is_next = n; below = is }
    chosen false is = none_below next n is

-- ---- fewer nodes are left

-- how many nodes are behind a path
abbrev pub left_behind : {S : Type 0} → Nodes S → List Name → ℕ
left_behind m at = len (retain_keys m (λ p. is_lt (path_cmp at p)))

is_less : {r : Ordering} → r ≡ Less → is_lt r ≡ true
is_less e = ap is_lt e

isnt_less : (r : Ordering) → (r ≡ Less → ⊥) → is_lt r ≡ false
isnt_less Less h = absurd (h refl)
isnt_less Equal h = refl
isnt_less Greater h = refl

module _ {S : Type 0} (m : Nodes S) where
  alike : (at q x : List Name) → path_cmp q x ≡ Equal → is_lt (path_cmp at x) ≡ is_lt (path_cmp at q)
  alike at q x e = ap (λ p. is_lt (path_cmp at p)) (sym (exact q x e))

  behind : (at q : List Name) → get (retain_keys m (λ p. is_lt (path_cmp at p))) q ≡ cond (is_lt (path_cmp at q)) (get m q) None
  behind at q = get-retain_keys m (λ p. is_lt (path_cmp at p)) q (alike at q)

  module _ (at next : List Name) (n : IsNext m at next) where
    was : Nodes S
    was = retain_keys m (λ p. is_lt (path_cmp at p))

    key_or_not : (q : List Name) (o : Option (Node S)) → get m q ≡ o
        → cond (is_lt (path_cmp next q)) o None ≡ cond (same_path q next) None (cond (is_lt (path_cmp at q)) o None)
    key_or_not q None e = no_choice (is_lt (path_cmp next q)) ∙ sym (ap (cond (same_path q next) None) (no_choice (is_lt (path_cmp at q))) ∙ no_choice (same_path q next)) where
      no_choice : (b : Bool) → ◌≡◌ {A = Option (Node S)} (cond b None None) None
      no_choice true = refl
      no_choice false = refl
    key_or_not q (Some x) e =
        by_order next q
        (λ h. ap (λ b. cond b (Some x) None) (is_less h)
        ∙ sym ((λ i. cond (apart q next (λ s. not_both next q h (ap (λ p. path_cmp p next) s ∙ ap (path_cmp next) (sym s) ∙ h)) i) None (cond (is_lt (path_cmp at q)) (Some x) None))
        ∙ ap (λ b. cond b (Some x) None) (is_less (path_total.trans at next q n.greater h))))
        (λ s. ap (λ b. cond b (Some x) None) (isnt_less (path_cmp next q) (λ h. not_both next q h (ap (λ p. path_cmp q p) s ∙ ap (λ p. path_cmp p q) (sym s) ∙ h)))
        ∙ sym (ap (λ b. cond b None (cond (is_lt (path_cmp at q)) (Some x) None)) (is_same q next (sym s))))
        (λ h. ap (λ b. cond b (Some x) None) (isnt_less (path_cmp next q) (λ g. not_both next q g h))
        ∙ sym (ap (λ b. cond (same_path q next) None (cond b (Some x) None)) (isnt_less (path_cmp at q) (λ g. n.least q (ap is_some e) g h)) ∙ none_either (same_path q next))) where
          none_either : (b : Bool) → ◌≡◌ {A = Option (Node S)} (cond b None None) None
          none_either true = refl
          none_either false = refl

    one_gone : retain_keys m (λ p. is_lt (path_cmp next p)) ≡ remove was next
    unfolding was
    one_gone =
        same_map path_total exact _ _ (λ q.
        behind next q ∙ key_or_not q (get m q) refl ∙ sym (get-remove path_total was next q ∙ ap (cond (same_path q next) None) (behind at q)))

    next_was : contains_key was next ≡ true
    unfolding was
    next_was = ap is_some (behind at next ∙ ap (λ b. cond b (get m next) None) (is_less n.greater)) ∙ n.key

    some_left : 0 < left_behind m at
    unfolding was
    some_left = some (len was) refl where
      some : (k : ℕ) → len was ≡ k → 0 < len was
      some (suc k) e = omega (arith, e)
      some zero e = never (sym next_was ∙ ap is_some (ap (λ (t : Nodes S). get t next) (empty_of_len was e) ∙ get-empty path_cmp next))

    pub fewer_left : left_behind m next < left_behind m at
    unfolding was
    fewer_left =
        let e : left_behind m next ≡ len was - 1 = ap len one_gone ∙ len-remove path_total was next ∙ ap (λ b. cond b (len was - 1) (len was)) next_was in
        let some : 0 < len was = some_left in
        let less : left_behind m next < len was = omega (arith, e, some) in
        less
