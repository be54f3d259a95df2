-- What entries stand for.
use Rattle.std.proofs.Common.{◌≡◌, ◌+◌, ◌&&◌, Bool, true, false, cond, T, List, [], ◌∷◌, map, length, Option, Some, None, refl, ap, sym, ◌∙◌}
use Rattle.std.proofs.lemmas.List.{length-map}
use Rattle.std.specs.FinMap.{find, put, is_sorted, get, insert, len, len-entries, get-from_sorted, get-insert, entries-from_sorted, same_map}
use Rattle.std.specs.FinMap.Entries.{below_all, is_sorted-put, find-put}
use Rattle.std.specs.Option.{option_map}
use Rattle.std.specs.Ordering.{eq_by_cmp}
use Rattle.kh_term.specs.declared.name.Name.{Name}
use Rattle.kh_term.specs.Name.{path_cmp, path_total}
use Rattle.kh_tree.specs.declared.entry.Entry.{Entry}
use Rattle.kh_tree.specs.Entries.{Kept, node_of, nodes_of}
use Rattle.kh_tree.specs.Node.{Node}
use Rattle.kh_tree.specs.Nodes.{same_path}
use Rattle.kh_tree.proofs.Paths.{exact}

both : (a b : Bool) → T a → T b → T (a && b)
both true b p q = q
both false b p q = p

first : (a b : Bool) → T (a && b) → T a
first true b p = tt
first false b p = p

second : (a b : Bool) → T (a && b) → T b
second true b p = p
second false b p = absurd p

mapped_choice : {A B : Type 0} (f : A → B) (b : Bool) (x : A) (o : Option A) → option_map f (cond b (Some x) o) ≡ cond b (Some (f x)) (option_map f o)
mapped_choice f true x o = refl
mapped_choice f false x o = refl

module _ {S : Type 0} where
  abbrev pub as_node : List Name × Entry S → List Name × Node S
  as_node e = (e.0, node_of e.1)

  below_mapped : (p : List Name) (es : Kept S) → T (below_all path_cmp p es) → T (below_all path_cmp p (map as_node es))
  below_mapped p [] h = tt
  below_mapped p (e ∷ es) h = both _ _ (first _ _ h) (below_mapped p es (second _ _ h))

  pub sorted_mapped : (es : Kept S) → T (is_sorted path_cmp es) → T (is_sorted path_cmp (map as_node es))
  sorted_mapped [] h = tt
  sorted_mapped (e ∷ es) h = both _ _ (below_mapped e.0 es (first _ _ h)) (sorted_mapped es (second _ _ h))

  find_mapped : (q : List Name) (es : Kept S) → find path_cmp q (map as_node es) ≡ option_map node_of (find path_cmp q es)
  find_mapped q [] = refl
  find_mapped q (e ∷ es) =
      ap (cond (same_path q e.0) (Some (node_of e.1))) (find_mapped q es) ∙ sym (mapped_choice node_of (same_path q e.0) e.1 (find path_cmp q es))

  module _ (es : Kept S) (s : T (is_sorted path_cmp es)) where
    -- a tree has at a path the node of the entry there
    pub get_nodes : (q : List Name) → get (nodes_of es) q ≡ option_map node_of (find path_cmp q es)
    get_nodes q = get-from_sorted path_cmp (map as_node es) q (sorted_mapped es s) ∙ find_mapped q es

    -- and as many nodes as entries
    pub len_nodes : len (nodes_of es) ≡ length es
    len_nodes = len-entries (nodes_of es) ∙ ap length (entries-from_sorted path_cmp (map as_node es) (sorted_mapped es s)) ∙ length-map es as_node

    -- to put an entry is to insert its node
    pub put_nodes : (k : List Name) (e : Entry S) → nodes_of (put path_cmp k e es) ≡ insert (nodes_of es) k (node_of e)
    put_nodes k e = same_map path_total exact _ _ there where
      put_sorted : T (is_sorted path_cmp (put path_cmp k e es))
      put_sorted = is_sorted-put path_cmp path_total k e es s

      put_read : (q : List Name) → get (nodes_of (put path_cmp k e es)) q ≡ option_map node_of (find path_cmp q (put path_cmp k e es))
      put_read q = get-from_sorted path_cmp (map as_node (put path_cmp k e es)) q (sorted_mapped (put path_cmp k e es) put_sorted) ∙ find_mapped q (put path_cmp k e es)

      there : (q : List Name) → get (nodes_of (put path_cmp k e es)) q ≡ get (insert (nodes_of es) k (node_of e)) q
      there q =
          put_read q
          ∙ ap (option_map node_of) (find-put path_cmp path_total q k e es)
          ∙ mapped_choice node_of (same_path q k) e (find path_cmp q es)
          ∙ sym (get-insert path_total (nodes_of es) k (node_of e) q ∙ ap (cond (same_path q k) (Some (node_of e))) (get_nodes q))
