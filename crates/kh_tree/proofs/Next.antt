-- The next key of a tree is that of its entries.
use Rattle.std.proofs.Common.{◌≡◌, ◌<◌, ◌+◌, Bool, true, false, cond, not, ℕ, zero, suc, T, List, [], ◌∷◌, length, Option, Some, None, MatchOption, refl, ap, sym, subst, ◌∙◌, arith}
use Rattle.std.specs.FinMap.{find, is_sorted, get, contains_key}
use Rattle.std.specs.List.{IsAmong, AllByRecursion}
use Rattle.std.specs.Option.{is_some, option_map}
use Rattle.std.specs.Ordering.{is_lt}
use Rattle.std.specs.declared.cmp.Ordering.{Ordering}
use Rattle.std.specs.declared.cmp.Ordering.TheVariants.{Less, Equal, Greater}
use Rattle.kh_pmap.specs.Keyed.{is_above, first_above, FirstIsLeast, IsLeastAbove, NoneAbove}
use Rattle.kh_term.specs.declared.name.Name.{Name}
use Rattle.kh_term.specs.Name.{path_cmp}
use Rattle.kh_tree.specs.declared.entry.Entry.{Entry}
use Rattle.kh_tree.specs.Entries.{Kept, node_of, nodes_of}
use Rattle.kh_tree.specs.Nodes.{Nodes, IsNext, NoneNext, same_path}
use Rattle.kh_tree.proofs.Paths.{same_is, is_same, never}
use Rattle.kh_tree.proofs.Reading.{get_nodes}

same_some : {A B : Type 0} (f : A → B) (o : Option A) → is_some (option_map f o) ≡ is_some o
same_some f None = refl
same_some f (Some x) = refl

is_less : (r : Ordering) → T (is_lt r) → r ≡ Less
is_less Less h = refl
is_less Equal h = absurd h
is_less Greater h = absurd h

less : {r : Ordering} → r ≡ Less → T (is_lt r)
less e = subst (λ r. T (is_lt r)) (sym e) tt

not_less : {r : Ordering} → T (not (is_lt r)) → r ≡ Less → ⊥
not_less h e = subst (λ r. T (not (is_lt r))) e h

module _ {S : Type 0} where
  -- what holds of each key holds of one that is found
  of_key : (P : List Name → Type 0) (x : List Name) (es : Kept S) → AllByRecursion (λ e. P e.0) es → is_some (find path_cmp x es) ≡ true → P x
  of_key P x [] all is = never (sym is)
  of_key P x (e ∷ es) all is = chosen (same_path x e.0) refl is (of_key P x es all.1) where
    chosen : (b : Bool) → same_path x e.0 ≡ b → is_some (cond b (Some e.1) (find path_cmp x es)) ≡ true → (is_some (find path_cmp x es) ≡ true → P x) → P x
    chosen true same h rest = subst P (sym (same_is x e.0 same)) all.0
    chosen false same h rest = rest h

  found : (es : Kept S) (e : List Name × Entry S) → IsAmong es e → is_some (find path_cmp e.0 es) ≡ true
  found [] e (i, (h, is)) = absurd (omega (arith, h))
  found (x ∷ es) e (zero, (h, is)) = ap (λ b. is_some (cond b (Some x.1) (find path_cmp e.0 es))) (is_same e.0 x.0 (ap (λ y. y.0) is))
  found (x ∷ es) e (suc i, (h, is)) =
      elim (same_path e.0 x.0) as (λ b. is_some (cond b (Some x.1) (find path_cmp e.0 es)) ≡ true) [ true ↦ refl | false ↦ found es e (i, (omega (arith, h), is)) ]

  module _ (es : Kept S) (s : T (is_sorted path_cmp es)) (q : List Name) where
    key_found : (x : List Name) → contains_key (nodes_of es) x ≡ is_some (find path_cmp x es)
    key_found x = ap is_some (get_nodes es s x) ∙ same_some node_of (find path_cmp x es)

    pub none_next : NoneAbove path_cmp q es → NoneNext (nodes_of es) q
    none_next none x key above = not_less (of_key (λ y. T (not (is_above path_cmp q y))) x es none (sym (key_found x) ∙ key)) above

    pub is_next : (e : List Name × Entry S) → IsLeastAbove path_cmp q e es → IsNext (nodes_of es) q e.0
    is_next e l = record {
      key = key_found e.0 ∙ found es e l.among;
      greater = is_less (path_cmp q e.0) l.above;
      least = λ x key above below. not_less (of_key (λ y. T (is_above path_cmp q y) → T (not (is_lt (path_cmp y e.0)))) x es l.least (sym (key_found x) ∙ key) (less above)) below;
    }

    -- the entry found above q tells the next key, and none is where none is found
    pub next_key : FirstIsLeast path_cmp (Entry S) → (o : Option (List Name × Entry S)) → o ≡ first_above path_cmp q es
        → MatchOption (option_map (λ e. e.0) o) (NoneNext (nodes_of es) q) (IsNext (nodes_of es) q)
    next_key law o is =
        subst (λ r. MatchOption (option_map (λ e. e.0) r) (NoneNext (nodes_of es) q) (IsNext (nodes_of es) q)) (sym is) (told (first_above path_cmp q es) (law q es s)) where
          told : (r : Option (List Name × Entry S)) → MatchOption r (NoneAbove path_cmp q es) (λ e. IsLeastAbove path_cmp q e es) → MatchOption (option_map (λ e. e.0) r) (NoneNext (nodes_of es) q) (IsNext (nodes_of es) q)
          told None h = none_next h
          told (Some e) h = is_next e h
