-- The tree of the root alone.
use Rattle.std.proofs.Common.{◌≡◌, ◌≤◌, ◌+◌, ◌-◌, Bool, true, false, cond, ℕ, T, List, [], ◌∷◌, Option, Some, None, IfSome, MatchOption, refl, ap, sym, subst, ◌∙◌, arith}
use Rattle.std.specs.FinMap.{find, put, get, contains_key, len}
use Rattle.std.specs.Option.{is_some, option_map}
use Rattle.kh_term.specs.declared.name.Name.{Name}
use Rattle.kh_term.specs.Name.{path_cmp}
use Rattle.kh_tree.specs.declared.entry.Entry.{Entry}
use Rattle.kh_tree.specs.declared.payload.Payload.TheVariants as payload
use Rattle.kh_tree.specs.Entries.{Counts, node_of, nodes_of, none_to_come}
use Rattle.kh_tree.specs.Node.{Node, new_node}
use Rattle.kh_tree.specs.Nodes.{Nodes, AreVersions, IsRoot, IsTree, Reads, child_count, is_child, most_nodes, parent, same_path}
use Rattle.kh_tree.specs.Writes.{root_alone}
use Rattle.kh_tree.proofs.Paths.{same_is, is_same, never, not_own}
use Rattle.kh_tree.proofs.Reading.{get_nodes, len_nodes}
use Rattle.kh_tree.proofs.Trees.{no_child}

module _ {S : Type 0} (k : List Name) (e : Entry S) (root : k ≡ []) (same : node_of e ≡ new_node payload.Empty) (children : e.children ≡ 0) where
  root_read : (q : List Name) → get (nodes_of ((k, e) ∷ [])) q ≡ cond (same_path q k) (Some (node_of e)) None
  root_read q = get_nodes ((k, e) ∷ []) tt q ∙ elim (same_path q k) as (λ b. option_map node_of (cond b (Some e) None) ≡ cond b (Some (node_of e)) None) [ true ↦ refl | false ↦ refl ]

  only_root : (q : List Name) → contains_key (nodes_of ((k, e) ∷ [])) q ≡ true → q ≡ []
  only_root q key = chosen (same_path q k) refl (sym (ap is_some (root_read q)) ∙ key) where
    chosen : (b : Bool) → same_path q k ≡ b → is_some (cond b (Some (node_of e)) None) ≡ true → q ≡ []
    chosen true here is = same_is q k here ∙ root
    chosen false here is = never (sym is)

  versions : AreVersions (node_of e)
  versions = subst AreVersions (sym same) (record { payload_from = omega arith; payload_to = omega arith; child_list_from = omega arith; child_list_to = omega arith })

  tree : IsTree (nodes_of ((k, e) ∷ []))
  tree = record {
    root = subst (λ o. MatchOption o ⊥ IsRoot) (sym (root_read [] ∙ ap (λ b. cond b (Some (node_of e)) None) (is_same [] k (sym root)))) (subst IsRoot (sym same) (refl, refl));
    parents = λ p key. subst (λ x. contains_key (nodes_of ((k, e) ∷ [])) x ≡ true) (subst (λ x. x ≡ parent x) (sym (only_root p key)) refl) key;
    within = record {
      versions = λ p. subst (λ o. IfSome o AreVersions) (sym (root_read p)) (elim (same_path p k) as (λ b. IfSome (cond b (Some (node_of e)) None) AreVersions) [ true ↦ versions | false ↦ tt ]);
      few = let one : len (nodes_of ((k, e) ∷ [])) ≡ 1 = len_nodes ((k, e) ∷ []) tt in omega (arith, one);
    };
  }

  no_children : (p : List Name) → p ≡ k → child_count (nodes_of ((k, e) ∷ [])) p ≡ 0
  no_children p is = no_child (nodes_of ((k, e) ∷ [])) p (λ q child. root_read q ∙ chosen q child (same_path q k) refl) where
    chosen : (q : List Name) → is_child p q ≡ true → (b : Bool) → same_path q k ≡ b → cond b (Some (node_of e)) None ≡ None
    chosen q child true here = never (sym child ∙ ap (is_child p) (same_is q k here ∙ sym is) ∙ not_own p)
    chosen q child false here = refl

  pub counts_root : Counts ((k, e) ∷ []) none_to_come
  counts_root = record { rises = tt; tree = tree; counted = λ p. chosen p (same_path p k) refl } where
    chosen : (p : List Name) (b : Bool) → same_path p k ≡ b → IfSome (cond b (Some e) (find path_cmp p [])) (λ x. x.children ≡ child_count (nodes_of ((k, e) ∷ [])) p + 0)
    chosen p true here = let none = no_children p (same_is p k here) in omega (arith, children, none)
    chosen p false here = tt

  pub reads_root : Reads (nodes_of ((k, e) ∷ [])) root_alone
  reads_root q = root_read q ∙ (λ i. cond (same_path q (root i)) (Some (same i)) None)
