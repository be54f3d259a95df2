-- The names with which a pattern begins.
use Rattle.std.proofs.Common.{◌≡◌, ℕ, zero, suc, ◌+◌, ◌-◌, ◌<◌, ◌≤◌, ◌&&◌, le-leb, Bool, true, false, List, [], ◌∷◌, ◌++◌, length, take, map, get_or, Option, Some, None, IsTrue, refl, ap, sym, subst, ◌∙◌, append_assoc, append-nil, length-append, arith}
use Rattle.std.proofs.lemmas.Bool.{and_parts}
use Rattle.std.proofs.lemmas.List.{length_push, map_push, take_more}
use Rattle.std.specs.FinMap.{get, contains_key}
use Rattle.std.specs.List.{list_all, slice_get}
use Rattle.std.specs.Option.{is_some, option_map}
use Rattle.kh_cond.specs.declared.component.Component.{Component}
use Rattle.kh_cond.specs.declared.component.Component.TheVariants as component
use Rattle.kh_cond.specs.declared.cond.Cond.TheVariants as cond
use Rattle.kh_cond.specs.declared.cond.Cond.TheVariants.{rolls-Name}
use Rattle.kh_cond.specs.declared.cond.Cond.TheOpen as layer
use Rattle.kh_cond.specs.declared.cond.Cond.TheFolds.{fold-roll-Cond}
use Rattle.kh_cond.specs.Holds.{Search, holds, holds_step, is_named}
use Rattle.kh_term.specs.declared.name.Name.{Name}
use Rattle.kh_term.specs.declared.view.NodeView.{NodeView}
use Rattle.kh_term.specs.Lemmas.Alike.{is_equal, names}
use Rattle.kh_term.specs.Name.{is_name, is_path, name_cmp}
use Rattle.kh_tree.specs.Node.{Node, shown}
use Rattle.kh_tree.specs.Nodes.{Nodes, begins, child_count, last_name, view_of}
use Rattle.kh_tree.proofs.Paths.{both_true, is_same, never}
use Rattle.kh_walk.specs.Front.{BeginsWith, plain}
use Rattle.kh_walk.specs.Takes.{AllTake, Matches, Takes, TakesOne}

-- the last name of a path
last_at : (above : List Name) (k : Name) → slice_get (above ++ k ∷ []) (length above) ≡ Some k
last_at [] k = refl
last_at (n ∷ above) k = last_at above k

pub last_is : (above : List Name) (k : Name) → last_name (above ++ k ∷ []) ≡ Some k
last_is above k = let l = length_push above k in let e : length (above ++ k ∷ []) - 1 ≡ length above = omega (arith, l) in ap (slice_get (above ++ k ∷ [])) e ∙ last_at above k

module _ {S : Type 0} (search : Search) (m : Nodes S) where
  -- a name holds of a node where it is the last of its path
  pub name_holds : (path : List Name) (n : Name) → contains_key m path ≡ true → holds search (view_of m path) (cond.Name n) ≡ is_named n (last_name path)
  name_holds path n node = of_node (get m path) node where
    of_node : (o : Option (Node S)) → is_some o ≡ true → holds search (option_map (shown (last_name path) (child_count m path)) o) (cond.Name n) ≡ is_named n (last_name path)
    of_node None e = never (sym e)
    of_node (Some x) e =
        let v : NodeView = shown (last_name path) (child_count m path) x in
        ap (holds search (Some v)) (sym (rolls-Name n)) ∙ fold-roll-Cond Bool (holds_step search (Some v)) (layer.Name n)

  -- so a name takes itself alone
  name_taken : (above : List Name) (n : Name) (front : List Name) → Takes search m above (plain n) front → front ≡ n ∷ []
  name_taken above n [] t = absurd (let one = t.one in omega (arith, one))
  name_taken above n (k ∷ l ∷ front) t = absurd (let one = t.one in omega (arith, one))
  name_taken above n (k ∷ []) t =
      let named : is_named n (Some k) ≡ true = sym (name_holds (above ++ k ∷ []) n t.node ∙ ap (is_named n) (last_is above k)) ∙ t.holds in
      let same : n ≡ k = names n k (is_equal (name_cmp n k) named) in
      λ i. sym same i ∷ []

  -- what a pattern takes begins with its first names, and they are a node
  pub record Begins (above names path : List Name) : Type 0 where
    pub front : take (length names) path ≡ names
    pub node : contains_key m (above ++ names) ≡ true

  pub begun : (names : List Name) (q : List Component) (above path : List Name) → contains_key m above ≡ true → BeginsWith q names → AllTake search m above q path → Begins above names path
  begun [] q above path node is t = record { front = refl; node = ap (contains_key m) (append-nil above) ∙ node }
  begun (n ∷ names) [] above path node is t = absurd (cc)
  begun (n ∷ names) (c ∷ q) above path node is t =
      let first : c ≡ plain n = cc in
      let rest : BeginsWith q names = cc in
      let given : Takes search m above (plain n) t.front = subst (λ d. Takes search m above d t.front) first t.front_is in
      let front_is : t.front ≡ n ∷ [] = name_taken above n t.front given in
      let taken : TakesOne search m above (cond.Name n) (n ∷ []) = subst (TakesOne search m above (cond.Name n)) front_is given in
      let more : Begins (above ++ n ∷ []) names t.rest =
      begun names q (above ++ n ∷ []) t.rest taken.node rest (subst (λ f. AllTake search m (above ++ f) q t.rest) front_is t.rest_is) in
      record {
        front = ap (take (length (n ∷ names))) (t.whole ∙ ap (λ f. f ++ t.rest) front_is) ∙ (λ i. n ∷ more.front i);
        node = ap (contains_key m) (sym (append_assoc above (n ∷ []) names)) ∙ more.node;
      }

-- one more name with which a pattern begins
pub begins_more : (q : List Component) (names : List Name) (c : Component) (n : Name) → length names < length q → c ≡ get_or q (length names) c → c ≡ plain n → BeginsWith q names → BeginsWith q (names ++ n ∷ [])
begins_more q names c n fits is named begun =
    ap (λ k. take k q) (length_push names n)
    ∙ take_more q (length names) c fits
    ∙ (λ i. begun i ++ (sym is ∙ named) i ∷ [])
    ∙ sym (map_push plain names n)

-- names that may name nodes still do with one more
pub named_more : (names : List Name) (n : Name) → list_all is_name names ≡ true → is_name n ≡ true → list_all is_name (names ++ n ∷ []) ≡ true
named_more [] n all one = both_true one refl
named_more (k ∷ names) n all one =
    let parts = and_parts (is_name k) (list_all is_name names) all in
    both_true parts.0 (named_more names n parts.1 one)

-- at most 32 of them are a path
pub are_path : (names : List Name) → length names ≤ 32 → list_all is_name names ≡ true → is_path names ≡ true
are_path names short all = both_true (le-leb (length names) 32 short) all
