-- Exact patterns match at most their targets.
use Rattle.std.proofs.Common.{◌≡◌, ◌↔◌, ℕ, zero, suc, ◌+◌, ◌<◌, Bool, true, false, cond, List, [], ◌∷◌, ◌++◌, map, length, take, Option, Some, None, MatchOption, IsTrue, refl, ap, sym, subst, ◌∙◌, add-one, append_assoc, arith}
use Rattle.std.proofs.lemmas.Bool.{and_parts}
use Rattle.std.proofs.lemmas.Option.{none-some, same_Some}
use Rattle.std.specs.FinMap.{get, contains_key}
use Rattle.std.specs.List.{list_all, slice_get}
use Rattle.std.specs.Option.{is_some, option_map}
use Rattle.kh_cond.specs.declared.component.Component.{Component}
use Rattle.kh_cond.specs.declared.component.Component.TheVariants as component
use Rattle.kh_cond.specs.declared.cond.Cond.{Cond, out-Cond}
use Rattle.kh_cond.specs.declared.cond.Cond.TheOpen.{Cond-F}
use Rattle.kh_cond.specs.declared.cond.Cond.TheOpen as layer
use Rattle.kh_cond.specs.declared.cond.Cond.TheFolds.{fold-roll-Cond}
use Rattle.kh_cond.specs.declared.cond.Cond.TheViews.{roll-Cond, roll-out-Cond}
use Rattle.kh_cond.specs.Exact.{component_name, exact_name, first_name, plain_name, target_of}
use Rattle.kh_cond.specs.Holds.{Search, holds, holds_step, is_named}
use Rattle.kh_cond.specs.Reading.{before, each}
use Rattle.kh_term.specs.declared.name.Name.{Name}
use Rattle.kh_term.specs.declared.view.NodeView.{NodeView}
use Rattle.kh_term.specs.Lemmas.Alike.{is_equal, names}
use Rattle.kh_term.specs.Name.{is_name, name_cmp}
use Rattle.kh_term.specs.Parts.{named}
use Rattle.kh_tree.specs.Node.{Node, shown}
use Rattle.kh_tree.specs.Nodes.{Nodes, child_count, last_name, view_of}
use Rattle.kh_tree.proofs.Paths.{never}
use Rattle.kh_walk.specs.Laws.{ExactMatchesTarget, FrontsHold, IsHeld}
use Rattle.kh_walk.specs.Takes.{AllTake, Matches, Takes, TakesOne}
use Rattle.kh_walk.proofs.Fronts.{last_is}

named_is : (k n : Name) → named k ≡ Some n → k ≡ n
named_is k n = chosen (is_name k) where
  chosen : (b : Bool) → cond b (Some k) None ≡ Some n → k ≡ n
  chosen true e = same_Some k n e
  chosen false e = absurd (none-some n e)

named_by : (k : Name) (o : Option Name) → is_named k o ≡ true → o ≡ Some k
named_by k None h = never (sym h)
named_by k (Some l) h = ap Some (sym (names k l (is_equal (name_cmp k l) h)))

module _ (search : Search) (v : NodeView) (n : Name) where
  -- a name holds of a node with that name
  by_plain : (x : Cond-F Cond) → plain_name x ≡ Some n → holds search (Some v) (roll-Cond x) ≡ true → v.name ≡ Some n
  by_plain (layer.Name k) e h = named_by k v.name (sym (fold-roll-Cond Bool (holds_step search (Some v)) (layer.Name k)) ∙ h) ∙ ap Some (named_is k n e)
  by_plain x e h = absurd (none-some n e)

  first_holds : (cs : List Cond) → first_name cs ≡ Some n → list_all (λ x. x) (map (holds search (Some v)) cs) ≡ true → v.name ≡ Some n
  first_holds [] e h = absurd (none-some n e)
  first_holds (c ∷ cs) e h =
      let one : holds search (Some v) c ≡ true = (and_parts (holds search (Some v) c) (list_all (λ x. x) (map (holds search (Some v)) cs)) h).0 in
      by_plain (out-Cond c) e (ap (holds search (Some v)) (roll-out-Cond c) ∙ one)

  by_layer : (x : Cond-F Cond) → exact_name x ≡ Some n → holds search (Some v) (roll-Cond x) ≡ true → v.name ≡ Some n
  by_layer (layer.Name k) e h = by_plain (layer.Name k) e h
  by_layer (layer.All cs) e h = first_holds cs e (sym (fold-roll-Cond Bool (holds_step search (Some v)) (layer.All cs)) ∙ h)
  by_layer x e h = absurd (none-some n e)

  -- an exact condition holds of a node with its name
  exact_held : (c : Cond) → exact_name (out-Cond c) ≡ Some n → holds search (Some v) c ≡ true → v.name ≡ Some n
  exact_held c e h = by_layer (out-Cond c) e (ap (holds search (Some v)) (roll-out-Cond c) ∙ h)

-- the name of the first component and the target of the others
record Target (c : Component) (cs : List Component) (target : List Name) : Type 0 where
  name : Name
  others : List Name
  name_is : component_name c ≡ Some name
  others_are : target_of cs ≡ Some others
  whole : target ≡ name ∷ others

target_parts : (c : Component) (cs : List Component) (target : List Name) → target_of (c ∷ cs) ≡ Some target → Target c cs target
target_parts c cs target = parted (component_name c) (target_of cs) refl refl where
  parted : (o : Option Name) (p : Option (List Name)) → component_name c ≡ o → target_of cs ≡ p → before o p ≡ Some target → Target c cs target
  parted None p e f is = absurd (none-some target is)
  parted (Some n) None e f is = absurd (none-some target is)
  parted (Some n) (Some ns) e f is = record { name = n; others = ns; name_is = e; others_are = f; whole = sym (same_Some (n ∷ ns) target is) }

module _ {S : Type 0} (search : Search) (m : Nodes S) where
  -- each front of the names is a node of which the component in its place holds, after a path
  abbrev Along : List Name → List Component → List Name → Type 0
  Along above q names =
      (k : ℕ) → k < length names
      → IsTrue (contains_key m (above ++ take (suc k) names)) × MatchOption (slice_get q k) ⊥ (IsHeld search (view_of m (above ++ take (suc k) names)))

  record Exactly (above : List Name) (q : List Component) (names target : List Name) : Type 0 where
    same : names ≡ target
    along : Along above q target

  -- a component that has a name takes that name alone
  takes_name : (c : Component) (n : Name) (above front : List Name) → component_name c ≡ Some n → Takes search m above c front
      → (front ≡ n ∷ []) × (IsTrue (contains_key m (above ++ front)) × IsHeld search (view_of m (above ++ front)) c)
  takes_name (component.Many r) n above front e t = absurd (none-some n e)
  takes_name (component.ManyAll r cs) n above front e t = absurd (none-some n e)
  takes_name (component.One c) n above [] e t = absurd (let one = t.one in omega (arith, one))
  takes_name (component.One c) n above (k ∷ l ∷ front) e t = absurd (let one = t.one in omega (arith, one))
  takes_name (component.One c) n above (k ∷ []) e t = (λ i. sym same i ∷ [], (t.node, t.holds)) where
    of_node : (o : Option (Node S)) → is_some o ≡ true → holds search (option_map (shown (last_name (above ++ k ∷ [])) (child_count m (above ++ k ∷ []))) o) c ≡ true → last_name (above ++ k ∷ []) ≡ Some n
    of_node None some h = never (sym some)
    of_node (Some x) some h = exact_held search (shown (last_name (above ++ k ∷ [])) (child_count m (above ++ k ∷ [])) x) n c e h

    same : n ≡ k
    same = same_Some n k (sym (of_node (get m (above ++ k ∷ [])) t.node t.holds) ∙ last_is above k)

  -- one node more
  along_more : (c : Component) (q : List Component) (n : Name) (names above : List Name)
      → IsTrue (contains_key m (above ++ n ∷ [])) × IsHeld search (view_of m (above ++ n ∷ [])) c → Along (above ++ n ∷ []) q names → Along above (c ∷ q) (n ∷ names)
  along_more c q n names above first more zero h = first
  along_more c q n names above first more (suc k) h =
      subst (λ path. IsTrue (contains_key m path) × MatchOption (slice_get q k) ⊥ (IsHeld search (view_of m path)))
      (append_assoc above (n ∷ []) (take (suc k) names)) (more k (omega (arith, h)))

  exactly : (q : List Component) (above names target : List Name) → target_of q ≡ Some target → AllTake search m above q names → Exactly above q names target
  exactly [] above names target is t =
      let none : [] ≡ target = same_Some [] target is in
      record { same = t ∙ none; along = subst (Along above []) none (λ k h. absurd (omega (arith, h))) }
  exactly (c ∷ q) above names target is t =
      let p : Target c q target = target_parts c q target is in
      let first : (t.front ≡ p.name ∷ []) × (IsTrue (contains_key m (above ++ t.front)) × IsHeld search (view_of m (above ++ t.front)) c) =
      takes_name c p.name above t.front p.name_is t.front_is in
      let more : Exactly (above ++ p.name ∷ []) q t.rest p.others =
      exactly q (above ++ p.name ∷ []) t.rest p.others p.others_are (subst (λ f. AllTake search m (above ++ f) q t.rest) first.0 t.rest_is) in
      let here : IsTrue (contains_key m (above ++ p.name ∷ [])) × IsHeld search (view_of m (above ++ p.name ∷ [])) c =
      subst (λ f. IsTrue (contains_key m (above ++ f)) × IsHeld search (view_of m (above ++ f)) c) first.0 first.1 in
      record {
        same = t.whole ∙ ap (λ f. f ++ t.rest) first.0 ∙ ap (λ r. p.name ∷ r) more.same ∙ sym p.whole;
        along = subst (Along above (c ∷ q)) (sym p.whole) (along_more c q p.name p.others above here more.along);
      }

  -- and it takes that name where it holds of the node
  name_taken : (c : Component) (n : Name) (above : List Name) → component_name c ≡ Some n → IsTrue (contains_key m (above ++ n ∷ [])) → IsHeld search (view_of m (above ++ n ∷ [])) c → Takes search m above c (n ∷ [])
  name_taken (component.Many r) n above e node h = absurd h
  name_taken (component.ManyAll r cs) n above e node h = absurd h
  name_taken (component.One c) n above e node h = record { one = refl; node = node; holds = h }

  along_rest : (c : Component) (q : List Component) (n : Name) (names above : List Name) → Along above (c ∷ q) (n ∷ names) → Along (above ++ n ∷ []) q names
  along_rest c q n names above along k h =
      subst (λ path. IsTrue (contains_key m path) × MatchOption (slice_get q k) ⊥ (IsHeld search (view_of m path)))
      (sym (append_assoc above (n ∷ []) (take (suc k) names))) (along (suc k) (omega (arith, h)))

  all_taken : (q : List Component) (above target : List Name) → target_of q ≡ Some target → Along above q target → AllTake search m above q target
  all_taken [] above target is along = sym (same_Some [] target is)
  all_taken (c ∷ q) above target is along =
      let p : Target c q target = target_parts c q target is in
      let whole : Along above (c ∷ q) (p.name ∷ p.others) = subst (Along above (c ∷ q)) p.whole along in
      let here : IsTrue (contains_key m (above ++ p.name ∷ [])) × IsHeld search (view_of m (above ++ p.name ∷ [])) c = whole zero (omega arith) in
      record {
        front = p.name ∷ [];
        rest = p.others;
        whole = p.whole;
        front_is = name_taken c p.name above p.name_is here.0 here.1;
        rest_is = all_taken q (above ++ p.name ∷ []) p.others p.others_are (along_rest c q p.name p.others above whole);
      }

pub exact_target : (S : Type 0) → ExactMatchesTarget S
exact_target S search m q target is path = (forth, back) where
  forth : Matches search m q path → (path ≡ target) × FrontsHold search m q target
  forth t = let e : Exactly search m [] q path target = exactly search m q [] path target is t in (e.same, λ k h. rw add-one (e.along k h))

  back : (path ≡ target) × FrontsHold search m q target → Matches search m q path
  back h = subst (Matches search m q) (sym h.0) (all_taken search m q [] target is (λ k less. rw add-one at (h.1 k less)))
