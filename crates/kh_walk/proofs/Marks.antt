-- What a mark says.
use Rattle.std.proofs.Common.{◌≡◌, ◌↔◌, ◌⊎◌, inl, inr, nat_eq, eqb-true, eq-eqb, take-take, take_all, ℕ, zero, suc, ◌+◌, ◌-◌, ◌<◌, ◌≤◌, ◌&&◌, Bool, true, false, List, [], ◌∷◌, ◌++◌, length, take, drop, get_or, IsTrue, refl, ap, sym, subst, ◌∙◌, length-drop, take-append-drop, take-add, length-take-le, arith}
use Rattle.std.proofs.lemmas.Bool.{and_parts}
use Rattle.std.proofs.lemmas.List.{get_or_append_left, get_or_push, length_push, nil_from_length, take_more}
use Rattle.std.specs.FinMap.{contains_key}
use Rattle.std.specs.List.{list_all}
use Rattle.kh_cond.specs.declared.component.Component.{Component}
use Rattle.kh_cond.specs.declared.component.Component.TheVariants as component
use Rattle.kh_cond.specs.declared.cond.Cond.{Cond}
use Rattle.kh_cond.specs.declared.cond.Regex.{Regex}
use Rattle.kh_cond.specs.Holds.{Search, holds, is_found}
use Rattle.kh_term.specs.declared.name.Name.{Name}
use Rattle.kh_tree.specs.Nodes.{Nodes, view_of}
use Rattle.kh_tree.proofs.Paths.{both_true, never}
use Rattle.kh_walk.specs.Takes.{AllTake, Matches, Takes, TakesMany, TakesOne, joined}
use Rattle.kh_walk.specs.Rows.{AreNodes, AreRows, AreMarks, IsFound, IsRow, is_marked_last}
use Rattle.kh_walk.proofs.Orders.{eq_or_less}
use Rattle.kh_walk.proofs.Splits.{LastTakes, last_of, with_last}

module _ {S : Type 0} (search : Search) (m : Nodes S) (q : List Component) (path : List Name) (rows : List (List Bool)) (are : AreRows search m q path rows) (long : length rows ≡ length path) where
  -- there is a last row where a mark of it is set
  has_row : (i : ℕ) → is_marked_last rows i ≡ true → 0 < length rows
  has_row i is = some (length rows) refl where
    some : (n : ℕ) → length rows ≡ n → 0 < length rows
    some (suc n) e = omega (arith, e)
    some zero e =
        let none : rows ≡ [] = nil_from_length rows e in
        never (sym is ∙ ap (λ rs. is_marked_last rs i) none)

  module _ (i : ℕ) (fits : i < length q) where
    mark_is : (j : ℕ) → j < length rows → IsTrue (get_or (get_or rows j []) i false) ↔ AllTake search m [] (take i q) (take j path)
    mark_is j h = are j h i (omega (arith, fits))

    -- a component of one name
    module _ (c : Cond) (b : Bool) (is : b ≡ (is_marked_last rows i && holds search (view_of m path) c)) where
      pub one_taken : IsTrue (contains_key m path) → IsTrue b → LastTakes search m (take i q) (component.One c) path
      one_taken node so = record { at = length path - 1; within = omega arith; before = before; last = last } where
        parts : (is_marked_last rows i ≡ true) × (holds search (view_of m path) c ≡ true)
        parts = and_parts (is_marked_last rows i) (holds search (view_of m path) c) (sym is ∙ so)

        some : 0 < length path
        some = let h = has_row i parts.0 in omega (arith, h, long)

        marked : IsTrue (get_or (get_or rows (length path - 1) []) i false)
        marked = ap (λ n. get_or (get_or rows (n - 1) []) i false) (sym long) ∙ parts.0

        before : AllTake search m [] (take i q) (take (length path - 1) path)
        before = (mark_is (length path - 1) (omega (arith, some, long))).0 marked

        whole : take (length path - 1) path ++ drop (length path - 1) path ≡ path
        whole = take-append-drop (length path - 1) path

        last : TakesOne search m (take (length path - 1) path) c (drop (length path - 1) path)
        last = record {
          one = let l = length-drop (length path - 1) path in omega (arith, l, some);
          node = ap (contains_key m) whole ∙ node;
          holds = ap (λ p. holds search (view_of m p) c) whole ∙ parts.1;
        }

      pub one_marked : LastTakes search m (take i q) (component.One c) path → IsTrue b
      one_marked l = is ∙ both_true marked (ap (λ p. holds search (view_of m p) c) (sym (take-append-drop l.at path)) ∙ l.last.holds) where
        place : l.at + 1 ≡ length path
        place = let d = length-drop l.at path in let one = l.last.one in let w = l.within in omega (arith, d, one, w)

        marked : is_marked_last rows i ≡ true
        marked = let e : length rows - 1 ≡ l.at = omega (arith, long, place) in
            ap (λ n. get_or (get_or rows n []) i false) e ∙ (mark_is l.at (omega (arith, long, place))).1 l.before

    -- a component of one or more names
    module _ (regex : Regex) (further : List Cond) where
      before_found : (f : IsFound search rows path i regex) → AllTake search m [] (take i q) (take f.at path)
      before_found f = (mark_is f.at (let w = f.within in omega (arith, w, long))).0 f.marked

      pub behind_taken : AreNodes m path → (f : IsFound search rows path i regex) → IsTrue (list_all (holds search (view_of m path)) further)
          → TakesMany search m (take f.at path) regex further (drop f.at path)
      behind_taken nodes f hold = record {
        some = let d = length-drop f.at path in let w = f.within in omega (arith, d, w);
        nodes = λ k h. ap (contains_key m) (sym (take-add f.at (k + 1) path)) ∙ nodes (f.at + (k + 1));
        found = f.found;
        hold = ap (λ p. list_all (holds search (view_of m p)) further) (take-append-drop f.at path) ∙ hold;
      }

      pub found_of : (at : ℕ) → at ≤ length path → AllTake search m [] (take i q) (take at path) → TakesMany search m (take at path) regex further (drop at path) → IsFound search rows path i regex
      found_of at within before t =
          let less : at < length path = let d = length-drop at path in let some = t.some in omega (arith, d, some, within) in
          record { at = at; within = less; marked = (mark_is at (omega (arith, less, long))).1 before; found = t.found }

      pub held : (at : ℕ) → TakesMany search m (take at path) regex further (drop at path) → IsTrue (list_all (holds search (view_of m path)) further)
      held at t = ap (λ p. list_all (holds search (view_of m p)) further) (sym (take-append-drop at path)) ∙ t.hold

    module _ (nodes : AreNodes m path) (regex : Regex) where
      pub many_taken : IsFound search rows path i regex → LastTakes search m (take i q) (component.Many regex) path
      many_taken f = record { at = f.at; within = let w = f.within in omega (arith, w); before = before_found regex [] f; last = behind_taken regex [] nodes f refl }

      pub many_found : LastTakes search m (take i q) (component.Many regex) path → IsFound search rows path i regex
      many_found l = found_of regex [] l.at l.within l.before l.last

      module _ (further : List Cond) where
        pub all_taken : IsFound search rows path i regex → IsTrue (list_all (holds search (view_of m path)) further) → LastTakes search m (take i q) (component.ManyAll regex further) path
        all_taken f hold = record { at = f.at; within = let w = f.within in omega (arith, w); before = before_found regex further f; last = behind_taken regex further nodes f hold }

        pub all_found : LastTakes search m (take i q) (component.ManyAll regex further) path → IsFound search rows path i regex
        all_found l = found_of regex further l.at l.within l.before l.last

        pub all_held : LastTakes search m (take i q) (component.ManyAll regex further) path → IsTrue (list_all (holds search (view_of m path)) further)
        all_held l = held regex further l.at l.last

  -- the next mark says what one component more takes
  module _ (i : ℕ) (fits : i < length q) where
    pub next_taken : (c : Component) → c ≡ get_or q i c → LastTakes search m (take i q) c path → AllTake search m [] (take (i + 1) q) path
    next_taken c is l =
        subst (λ cs. AllTake search m [] cs path) (ap (λ d. take i q ++ d ∷ []) is ∙ sym (take_more q i c fits)) (with_last search m (take i q) c path l)

    pub next_last : (c : Component) → c ≡ get_or q i c → AllTake search m [] (take (i + 1) q) path → LastTakes search m (take i q) c path
    next_last c is t =
        last_of search m (take i q) c path (subst (λ cs. AllTake search m [] cs path) (take_more q i c fits ∙ ap (λ d. take i q ++ d ∷ []) (sym is)) t)

  -- a node stands at the path itself
  whole_node : AreNodes m path → IsTrue (contains_key m path)
  whole_node nodes = ap (contains_key m) (sym (take_all (length path) path (omega arith))) ∙ nodes (length path)

  module _ (i : ℕ) (fits : i < length q) (nodes : AreNodes m path) where
    -- the mark of a component of one name
    pub mark_one : (c : Cond) → component.One c ≡ get_or q i (component.One c) → (b : Bool) → b ≡ (is_marked_last rows i && holds search (view_of m path) c)
        → IsTrue b ↔ AllTake search m [] (take (i + 1) q) path
    mark_one c is b held = (
      λ so. next_taken i fits (component.One c) is (one_taken i fits c b held (whole_node nodes) so),
      λ t. one_marked i fits c b held (next_last i fits (component.One c) is t),
    )

    -- of a component of one or more names
    pub mark_many : (regex : Regex) → component.Many regex ≡ get_or q i (component.Many regex) → (b : Bool) → IsTrue b ↔ IsFound search rows path i regex
        → IsTrue b ↔ AllTake search m [] (take (i + 1) q) path
    mark_many regex is b found = (
      λ so. next_taken i fits (component.Many regex) is (many_taken i fits nodes regex (found.0 so)),
      λ t. found.1 (many_found i fits nodes regex (next_last i fits (component.Many regex) is t)),
    )

    -- and of one with further conditions
    module _ (regex : Regex) (further : List Cond) (is : component.ManyAll regex further ≡ get_or q i (component.ManyAll regex further)) where
      pub mark_all : IsFound search rows path i regex → (b : Bool) → b ≡ list_all (holds search (view_of m path)) further → IsTrue b ↔ AllTake search m [] (take (i + 1) q) path
      mark_all found b hold = (
        λ so. next_taken i fits (component.ManyAll regex further) is (all_taken i fits nodes regex further found (sym hold ∙ so)),
        λ t. hold ∙ all_held i fits nodes regex further (next_last i fits (component.ManyAll regex further) is t),
      )

      pub mark_none : (IsFound search rows path i regex → ⊥) → IsTrue false ↔ AllTake search m [] (take (i + 1) q) path
      mark_none missing = (λ off. never (sym off), λ t. absurd (missing (all_found i fits nodes regex further (next_last i fits (component.ManyAll regex further) is t))))

-- ---- rows

module _ {S : Type 0} (search : Search) (m : Nodes S) (q : List Component) (path : List Name) where
  -- nothing takes the root alone
  pub first_mark : AreMarks search m q path (nat_eq (length path) 0 ∷ [])
  first_mark zero h = (λ is. nil_from_length path (eqb-true (length path) 0 is), λ e. eq-eqb (length path) 0 (ap length e))
  first_mark (suc i) h = absurd (omega (arith, h))

  -- one mark more
  pub next_mark : (row : List Bool) (b : Bool) → AreMarks search m q path row → IsTrue b ↔ AllTake search m [] (take (length row) q) path → AreMarks search m q path (row ++ b ∷ [])
  next_mark row b are mark i h = by_place (eq_or_less i (length row) (let l = length_push row b in omega (arith, l, h))) where
    by_place : (i < length row) ⊎ (i ≡ length row) → IsTrue (get_or (row ++ b ∷ []) i false) ↔ AllTake search m [] (take i q) path
    by_place (inl short) = subst (λ x. IsTrue x ↔ AllTake search m [] (take i q) path) (sym (get_or_append_left row (b ∷ []) false i short)) (are i short)
    by_place (inr last) =
        subst (λ x. IsTrue x ↔ AllTake search m [] (take i q) path) (sym (get_or_push row b false i (sym last)))
        (subst (λ n. IsTrue b ↔ AllTake search m [] (take n q) path) (sym last) mark)

  pub whole_row : (row : List Bool) → length row ≡ length q + 1 → AreMarks search m q path row → IsRow search m q path row
  whole_row row long are i h = are i (omega (arith, long, h))

  -- the row of the path itself behind those of its fronts
  pub next_row : (rows : List (List Bool)) (row : List Bool) → length rows ≡ length path → AreRows search m q path rows → IsRow search m q path row → AreRows search m q path (rows ++ row ∷ [])
  next_row rows row long are is j h = by_place (eq_or_less j (length rows) (let l = length_push rows row in omega (arith, l, h))) where
    by_place : (j < length rows) ⊎ (j ≡ length rows) → IsRow search m q (take j path) (get_or (rows ++ row ∷ []) j [])
    by_place (inl short) = subst (IsRow search m q (take j path)) (sym (get_or_append_left rows (row ∷ []) [] j short)) (are j short)
    by_place (inr last) =
        subst (IsRow search m q (take j path)) (sym (get_or_push rows row [] j (sym last)))
        (subst (λ p. IsRow search m q p row) (sym (take_all j path (omega (arith, last, long)))) is)

  module _ (front : List Name) (k : ℕ) (is : front ≡ take k path) (within : k ≤ length path) where
    pub front_long : length front ≡ k
    front_long = ap length is ∙ length-take-le k path within

    -- a front of a front is one of the path
    fronts_alike : (j : ℕ) → j ≤ k → take j front ≡ take j path
    fronts_alike j h = ap (take j) is ∙ take-take j k path h

    -- rows of a front are rows of the path, and the other way round
    pub front_rows : (rows : List (List Bool)) → length rows ≡ k → AreRows search m q path rows → AreRows search m q front (take (length front) rows)
    front_rows rows long are =
        subst (AreRows search m q front) (sym (take_all (length front) rows (let l = front_long in omega (arith, l, long))))
        (λ j h. subst (λ p. IsRow search m q p (get_or rows j [])) (sym (fronts_alike j (omega (arith, h, long)))) (are j h))

    pub path_rows : (rows : List (List Bool)) → length rows ≡ length front + 1 → AreRows search m q front rows → AreRows search m q path rows
    path_rows rows long are j h =
        let l = front_long in
        subst (λ p. IsRow search m q p (get_or rows j [])) (fronts_alike j (omega (arith, h, l, long))) (are j h)

  -- the last mark of the path's own row says whether the pattern matches it
  pub last_mark : (rows : List (List Bool)) → AreRows search m q path rows → length rows ≡ length path + 1 → IsTrue (is_marked_last rows (length q)) ↔ Matches search m q path
  last_mark rows are long =
      let e : length rows - 1 ≡ length path = omega (arith, long) in
      let row : IsRow search m q path (get_or rows (length path) []) =
      subst (λ p. IsRow search m q p (get_or rows (length path) [])) (take_all (length path) path (omega arith)) (are (length path) (omega (arith, long))) in
      let mark : IsTrue (get_or (get_or rows (length path) []) (length q) false) ↔ Matches search m q path =
      subst (λ cs. IsTrue (get_or (get_or rows (length path) []) (length q) false) ↔ AllTake search m [] cs path) (take_all (length q) q (omega arith)) (row (length q) (omega arith)) in
      subst (λ n. IsTrue (get_or (get_or rows n []) (length q) false) ↔ Matches search m q path) (sym e) mark
