-- What the calls of a tree answer, by its entries.
use Rattle.std.proofs.Common.{◌≡◌, ◌<◌, ◌≤◌, ◌+◌, ◌-◌, Bool, true, false, cond, ℕ, T, List, length, Option, Some, None, IfSome, refl, ap, sym, subst, ◌∙◌, arith}
use Rattle.std.proofs.Math.Bool.{Bool-set}
use Rattle.std.specs.FinMap.{find, put, get, contains_key, len}
use Rattle.std.specs.Option.{is_some, option_map}
use Rattle.kh_term.specs.declared.kinds.Kind.{Kind}
use Rattle.kh_term.specs.declared.name.Name.{Name}
use Rattle.kh_term.specs.declared.term.Term.{Term}
use Rattle.kh_term.specs.declared.view.NodeView.{NodeView}
use Rattle.kh_term.specs.Name.{path_cmp}
use Rattle.kh_term.specs.View.{is_data}
use Rattle.kh_tree.specs.declared.entry.Entry.{Entry}
use Rattle.kh_tree.specs.declared.error.TreeError.{TreeError}
use Rattle.kh_tree.specs.declared.error.TreeError.TheVariants as error
use Rattle.kh_tree.specs.declared.payload.Payload.{Payload}
use Rattle.kh_tree.specs.Entries.{Kept, Counts, node_of, nodes_of, none_to_come}
use Rattle.kh_tree.specs.Node.{Node, kind_of, data_of, data_stands, same_payload, shown, with_payload}
use Rattle.kh_tree.specs.Nodes.{Nodes, AreVersions, AreWithin, IsTree, Reads, child_count, last_name, most_version, node_count, same_path, view_of}
use Rattle.kh_tree.specs.Writes.{Refused, written}
use Rattle.kh_tree.proofs.Paths.{same_is, same_itself}
use Rattle.kh_tree.proofs.Reading.{get_nodes, len_nodes, put_nodes}
use Rattle.kh_tree.proofs.Trees.{put_read}
use Rattle.kh_tree.proofs.Written.{children_found, counts_set, node_found, node_missed, some_node, versions_found}

-- a view with an equal kind and equal data
held_alike : (a : NodeView) (p : Kind) → a.payload ≡ p → (d : Option Term) → a.datum ≡ d → (s : is_some d ≡ is_data p) → a ≡ record { name = a.name; payload = p; datum = d; payload_version = a.payload_version; child_list_version = a.child_list_version; children = a.children; data_stands = s }
held_alike a p e =
    subst (λ q. (d : Option Term) → a.datum ≡ d → (s : is_some d ≡ is_data q) → a ≡ record { name = a.name; payload = q; datum = d; payload_version = a.payload_version; child_list_version = a.child_list_version; children = a.children; data_stands = s }) e
    (λ d f. subst (λ x. (s : is_some x ≡ is_data a.payload) → a ≡ record { name = a.name; payload = a.payload; datum = x; payload_version = a.payload_version; child_list_version = a.child_list_version; children = a.children; data_stands = s }) f
    (λ s. ap (λ t. record { name = a.name; payload = a.payload; datum = a.datum; payload_version = a.payload_version; child_list_version = a.child_list_version; children = a.children; data_stands = t }) (Bool-set (is_some a.datum) (is_data a.payload) a.data_stands s)))

-- What a view and a node have in common.
pub record Shows {S : Type 0} (v : NodeView) (last : Option Name) (count : ℕ) (n : Node S) : Type 0 where
  pub name : v.name ≡ last
  pub kind : v.payload ≡ kind_of n.payload
  pub datum : v.datum ≡ data_of n.payload
  pub payload_version : v.payload_version ≡ n.payload_version
  pub child_list_version : v.child_list_version ≡ n.child_list_version
  pub children : v.children ≡ count

pub shown_as : {S : Type 0} (v : NodeView) (name : Option Name) (children : ℕ) (n : Node S) → Shows v name children n → v ≡ shown name children n
shown_as v name children n s =
    held_alike v (kind_of n.payload) s.kind (data_of n.payload) s.datum (data_stands n.payload)
    ∙ (λ i. record { name = s.name i; payload = kind_of n.payload; datum = data_of n.payload; payload_version = s.payload_version i; child_list_version = s.child_list_version i; children = s.children i; data_stands = data_stands n.payload })

module _ {S : Type 0} (es : Kept S) (c : Counts es none_to_come) where
  -- there are as many nodes beside the root as entries but one
  pub count_read : length es - 1 ≡ node_count (nodes_of es)
  count_read = ap (λ n. n - 1) (sym (len_nodes es c.rises))

  module _ (p : List Name) where
    pub no_view : None ≡ find path_cmp p es → None ≡ view_of (nodes_of es) p
    no_view missed = sym (ap (option_map (shown (last_name p) (child_count (nodes_of es) p))) (node_missed es none_to_come c p (sym missed)))

    pub no_payload : None ≡ find path_cmp p es → None ≡ option_map (λ n. n.payload) (get (nodes_of es) p)
    no_payload missed = sym (ap (option_map (λ (n : Node S). n.payload)) (node_missed es none_to_come c p (sym missed)))

    pub no_node : None ≡ find path_cmp p es → contains_key (nodes_of es) p ≡ false
    no_node missed = ap is_some (node_missed es none_to_come c p (sym missed))

    module _ (x : Entry S) (found : Some x ≡ find path_cmp p es) where
      pub there : get (nodes_of es) p ≡ Some (node_of x)
      there = node_found es none_to_come c p x (sym found)

      pub is_node : contains_key (nodes_of es) p ≡ true
      is_node = ap is_some there

      pub count_found : x.children ≡ child_count (nodes_of es) p
      count_found = let counted = children_found es none_to_come c p x (sym found) in omega (arith, counted)

      pub view_read : (v : NodeView) → v ≡ shown (last_name p) x.children (node_of x) → Some v ≡ view_of (nodes_of es) p
      view_read v s =
          ap Some s
          ∙ ap (λ n. Some (shown (last_name p) n (node_of x))) count_found
          ∙ sym (ap (option_map (shown (last_name p) (child_count (nodes_of es) p))) there)

      pub payload_read : Some x.payload.value ≡ option_map (λ n. n.payload) (get (nodes_of es) p)
      payload_read = sym (ap (option_map (λ (n : Node S). n.payload)) there)

      -- a payload is set
      module _ (same : S → S → Bool) (pay : Payload S) where
        at_path : written same (nodes_of es) p pay p ≡ Some (with_payload same pay (node_of x))
        at_path =
            ap (λ b. cond b (option_map (with_payload same pay) (get (nodes_of es) p)) (get (nodes_of es) p)) (same_itself p)
            ∙ ap (option_map (with_payload same pay)) there

        pub refused_set : (e : TreeError) → Refused e ((with_payload same pay (node_of x)).payload_version ≤ most_version)
            → Refused e (AreWithin (written same (nodes_of es) p pay) (node_count (nodes_of es)))
        refused_set error.NoMemory r = tt
        refused_set error.StoreFull r = λ within. r (low (subst (λ o. IfSome o AreVersions) at_path (within.versions p))) where
          low : AreVersions (with_payload same pay (node_of x)) → (with_payload same pay (node_of x)).payload_version ≤ most_version
          low v = v.payload_to

        module _ (y : Entry S) (made : node_of y ≡ with_payload same pay (node_of x)) (children : y.children ≡ x.children) (low : x.payload_version ≤ most_version → y.payload_version ≤ most_version) where
          at_least_one : (b : Bool) (n : ℕ) → 1 ≤ n → 1 ≤ cond b n (n + 1)
          at_least_one true n h = h
          at_least_one false n h = omega (arith, h)

          set_versions : AreVersions (node_of y)
          set_versions =
              let old = versions_found es none_to_come c p x (sym found) in
              record {
                payload_from = subst (λ n. 1 ≤ n.payload_version) (sym made) (at_least_one (same_payload same x.payload.value pay) x.payload_version old.payload_from);
                payload_to = low old.payload_to;
                child_list_from = subst (λ n. 1 ≤ n.child_list_version) (sym made) old.child_list_from;
                child_list_to = subst (λ n. n.child_list_version ≤ most_version) (sym made) old.child_list_to;
              }

          pub kept_set : 0 < length p → Counts (put path_cmp p y es) none_to_come
          kept_set some = counts_set es c p x y (sym found) set_versions children some

          pub reads_set : Reads (nodes_of (put path_cmp p y es)) (written same (nodes_of es) p pay)
          reads_set q =
              ap (λ (t : Nodes S). get t q) (put_nodes es c.rises p y)
              ∙ put_read (nodes_of es) p (node_of y) q
              ∙ chosen (same_path q p) refl where
                chosen : (b : Bool) → same_path q p ≡ b → cond b (Some (node_of y)) (get (nodes_of es) q) ≡ cond b (option_map (with_payload same pay) (get (nodes_of es) q)) (get (nodes_of es) q)
                chosen false other = refl
                chosen true here = ap Some made ∙ sym (ap (option_map (with_payload same pay)) (ap (get (nodes_of es)) (same_is q p here) ∙ there))

          pub within_set : 0 < length p → AreWithin (written same (nodes_of es) p pay) (node_count (nodes_of es))
          within_set some = record {
            versions = λ q. subst (λ o. IfSome o AreVersions) (reads_set q) ((kept_set some).tree.within.versions q);
            few = c.tree.within.few;
          }
