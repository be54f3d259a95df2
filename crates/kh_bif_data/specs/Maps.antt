-- Maps: pairs by rising keys. Keys are the same where the terms are.
use Rattle.std.specs.Prelude.{List, [], ◌∷◌, map, codes, IsTrue, Option, Some, None, is_some}
use Rattle.std.specs.BTreeMap.{insert_entry}
use Rattle.std.specs.List.{filter}
use Rattle.std.specs.Ordering.{is_ne}
use Rattle.kh_term.specs.declared.kinds.Class.TheVariants as class
use Rattle.kh_term.specs.declared.tree.TermTree.{TermTree}
use Rattle.kh_term.specs.declared.tree.TermTree.TheVariants as tree
use Rattle.kh_term.specs.Lookup.{value_at}
use Rattle.kh_term.specs.Make.{list_of}
use Rattle.kh_term.specs.MapOf.{map_of, map_with}
use Rattle.kh_term.specs.Order.{term_cmp}
use Rattle.kh_term.specs.WellFormed.{AreTerms, keys_rise}
use Rattle.kh_bif_base.specs.Answer.{Answer, Value, Raise, badarg, boolean}
use Rattle.kh_bif_data.specs.Asked.{of_some, of_map, tuple_of}
use Rattle.kh_bif_data.specs.Lists.{of_list}

-- the pairs of a map: by keys that are terms and rise strictly
pub record ByKeys (ps : List (TermTree × TermTree)) : Type 0 where
  pub rising : IsTrue (keys_rise (map (λ p. p.0) ps))
  pub fit : AreTerms (map (λ p. p.0) ps)

-- `{badkey,K}`
abbrev pub badkey : TermTree → Answer
badkey key = Raise class.Error (tree.Tuple (tree.Atom (codes "badkey") ∷ key ∷ []))

-- the value at a key
abbrev pub get : TermTree → TermTree → Answer
get key m = of_map m (λ ps. of_some (value_at key ps) (badkey key) Value)

-- whether a key is there
abbrev pub is_key : TermTree → TermTree → Answer
is_key key m = of_map m (λ ps. boolean (is_some (value_at key ps)))

-- `{ok,V}`, or `error` where the key isn't there
abbrev pub ok_with : TermTree → TermTree
ok_with value = tree.Tuple (tree.Atom (codes "ok") ∷ value ∷ [])

abbrev pub find_key : TermTree → TermTree → Answer
find_key key m =
    of_map m (λ ps. of_some (value_at key ps) (Value (tree.Atom (codes "error"))) (λ v. Value (ok_with v)))

-- the pairs with a value at a key, which replaces the one that was there
abbrev pub put : TermTree → TermTree → TermTree → Answer
put key value m = of_map m (λ ps. Value (tree.Map (insert_entry term_cmp ps key value)))

-- the pairs but that with this key
abbrev pub others : TermTree → List (TermTree × TermTree) → List (TermTree × TermTree)
others key ps = filter (λ p. is_ne (term_cmp p.0 key)) ps

abbrev pub remove : TermTree → TermTree → Answer
remove key m = of_map m (λ ps. Value (tree.Map (others key ps)))

-- keys, values, and pairs as tuples, by rising keys
abbrev pub keys : TermTree → Answer
keys m = of_map m (λ ps. Value (list_of (map (λ p. p.0) ps)))

abbrev pub values : TermTree → Answer
values m = of_map m (λ ps. Value (list_of (map (λ p. p.1) ps)))

abbrev pub pair_tree : TermTree × TermTree → TermTree
pair_tree p = tree.Tuple (p.0 ∷ p.1 ∷ [])

abbrev pub to_list : TermTree → Answer
to_list m = of_map m (λ ps. Value (list_of (map pair_tree ps)))

-- the pairs of two maps; of equal keys the second map's counts
abbrev pub merge : TermTree → TermTree → Answer
merge a b = of_map a (λ ps. of_map b (λ qs. Value (tree.Map (map_with ps qs))))

abbrev pub pair_in : List TermTree → Option (TermTree × TermTree)
pair_in (key ∷ value ∷ []) = Some (key, value)
pair_in ts = None

-- the pair that a tuple of two elements is
abbrev pub pair_of : TermTree → Option (TermTree × TermTree)
pair_of t = of_some (tuple_of t) None pair_in

abbrev pub in_front : Option (TermTree × TermTree) → Option (List (TermTree × TermTree)) → Option (List (TermTree × TermTree))
in_front (Some p) (Some ps) = Some (p ∷ ps)
in_front p ps = None

-- the pairs that terms are, where each is one
abbrev pub all_pairs : List TermTree → Option (List (TermTree × TermTree))
all_pairs [] = Some []
all_pairs (t ∷ ts) = in_front (pair_of t) (all_pairs ts)

-- the map of a list of pairs; of equal keys the last counts
abbrev pub from_list : TermTree → Answer
from_list l = of_list l (λ ts. of_some (all_pairs ts) badarg (λ ps. Value (tree.Map (map_of ps))))
