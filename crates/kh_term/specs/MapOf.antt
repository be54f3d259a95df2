-- The keys and values of a map that are given in any order.
use Rattle.std.specs.Prelude.{List, [], ◌∷◌, map, Option, Some, None, if◌then◌else◌}
use Rattle.std.specs.Ordering.{is_eq}
use Rattle.std.specs.BTreeMap.{insert_entry}
use Rattle.kh_term.specs.declared.term.Term.{Term}
use Rattle.kh_term.specs.declared.tree.TermTree.{TermTree}
use Rattle.kh_term.specs.Order.{term_cmp}

-- pairs by rising keys, and then more of them: each takes its place in the order, or gives its value to an equal key
abbrev pub map_with : List (TermTree × TermTree) → List (TermTree × TermTree) → List (TermTree × TermTree)
map_with kept [] = kept
map_with kept (p ∷ ps) = map_with (insert_entry term_cmp kept p.0 p.1) ps

-- the pairs of a map by rising keys; of equal keys the last counts
abbrev pub map_of : List (TermTree × TermTree) → List (TermTree × TermTree)
map_of ps = map_with [] ps

-- the trees of pairs of terms
abbrev pub trees_of : List (Term × Term) → List (TermTree × TermTree)
trees_of ps = map (λ p. (p.0.node, p.1.node)) ps

-- the first of two, where it is there, else the second
abbrev pub later : Option TermTree → Option TermTree → Option TermTree
later (Some value) other = Some value
later None other = other

-- the value beside the last one of the pairs with this key
abbrev pub last_at : TermTree → List (TermTree × TermTree) → Option TermTree
last_at key [] = None
last_at key (p ∷ ps) = later (last_at key ps) (if is_eq (term_cmp p.0 key) then Some p.1 else None)
