-- When data match a pattern of data.
use Rattle.std.specs.Prelude.{ℕ, Bool, true, false, ◌&&◌, ◌||◌, List, [], ◌∷◌, length, map, codes, nat_eq, ℤ}
use Rattle.std.specs.declared.cmp.Ordering.{Ordering}
use Rattle.std.specs.declared.cmp.Ordering.TheVariants.{Less, Equal, Greater}
use Rattle.std.specs.Ordering.{is_eq, int_cmp, nat_cmp}
use Rattle.std.specs.Str.{bytes_eq}
use Rattle.kh_term.specs.declared.name.Origin.{Origin}
use Rattle.kh_term.specs.declared.tree.TermTree.{TermTree, out-TermTree}
use Rattle.kh_term.specs.declared.tree.TermTree.TheOpen.{TermTree-F}
use Rattle.kh_term.specs.declared.tree.TermTree.TheOpen as layer
use Rattle.kh_term.specs.declared.tree.TermTree.TheVariants as tree
use Rattle.kh_term.specs.declared.tree.TermTree.TheFolds.{para-TermTree}
use Rattle.kh_term.specs.Order.{term_cmp}

-- a part of a pattern, and which terms match it
abbrev pub Part : Type 0
Part = TermTree × (TermTree → Bool)

-- the atom `_`, which stands for any term
abbrev pub is_wildcard : {A : Type 0} → TermTree-F A → Bool
is_wildcard (layer.Atom text) = bytes_eq text (codes "_")
is_wildcard p = false

-- element by element, as far as both lists go
abbrev pub match_shared : List Part → List TermTree → Bool
match_shared [] ys = true
match_shared (p ∷ ps) [] = true
match_shared (p ∷ ps) (y ∷ ys) = p.1 y && match_shared ps ys

-- as many parts, and each matches
abbrev pub match_parts : List Part → List TermTree → Bool
match_parts ps ys = nat_eq (length ps) (length ys) && match_shared ps ys

-- What stands behind the elements of a pattern, which are fewer than those of the list, as many, or more: its tail is no
-- list, so only `_` stands for elements that are left.
abbrev pub match_rest : Ordering → Part → TermTree → Bool
match_rest Less tail rest = is_wildcard (out-TermTree tail.0)
match_rest Equal tail rest = tail.1 rest
match_rest Greater tail rest = false

abbrev pub match_elements : List Part → Part → List TermTree → TermTree → Bool
match_elements ps tail ys rest = match_shared ps ys && match_rest (nat_cmp (length ps) (length ys)) tail rest

-- the keys are equal, and the values match, as far as both maps go
abbrev pub match_entries : List (Part × Part) → List (TermTree × TermTree) → Bool
match_entries [] qs = true
match_entries (p ∷ ps) [] = true
match_entries (p ∷ ps) (q ∷ qs) = is_eq (term_cmp p.0.0 q.0) && p.1.1 q.1 && match_entries ps qs

abbrev pub match_pairs : List (Part × Part) → List (TermTree × TermTree) → Bool
match_pairs ps qs = nat_eq (length ps) (length qs) && match_entries ps qs

-- equal numbers and texts
abbrev pub int_match : {A : Type 0} → ℤ → TermTree-F A → Bool
int_match n (layer.Int m) = is_eq (int_cmp n m)
int_match n y = false

abbrev pub text_match : {A : Type 0} → List ℕ → TermTree-F A → Bool
text_match x (layer.Atom y) = bytes_eq x y
text_match x y = false

abbrev pub bin_match : {A : Type 0} → List ℕ → TermTree-F A → Bool
bin_match x (layer.Bin y) = bytes_eq x y
bin_match x y = false

abbrev pub nil_match : {A : Type 0} → TermTree-F A → Bool
nil_match layer.Nil = true
nil_match y = false

-- lists, tuples and maps of parts that match
abbrev pub list_match : List Part → Part → TermTree-F TermTree → Bool
list_match ps tail (layer.List ys rest) = match_elements ps tail ys rest
list_match ps tail y = false

abbrev pub tuple_match : List Part → TermTree-F TermTree → Bool
tuple_match ps (layer.Tuple ys) = match_parts ps ys
tuple_match ps y = false

abbrev pub map_match : List (Part × Part) → TermTree-F TermTree → Bool
map_match ps (layer.Map qs) = match_pairs ps qs
map_match ps y = false

-- an equal function
abbrev pub closure_match : Origin → List TermTree → TermTree → Bool
closure_match origin env whole = is_eq (term_cmp (tree.Closure origin env) whole)

-- what a pattern of each kind matches
abbrev pub match_step : TermTree-F Part → TermTree → Bool
match_step (layer.Int n) whole = int_match n (out-TermTree whole)
match_step (layer.Atom text) whole = bytes_eq text (codes "_") || text_match text (out-TermTree whole)
match_step (layer.Bin bytes) whole = bin_match bytes (out-TermTree whole)
match_step layer.Nil whole = nil_match (out-TermTree whole)
match_step (layer.List ps tail) whole = list_match ps tail (out-TermTree whole)
match_step (layer.Tuple ps) whole = tuple_match ps (out-TermTree whole)
match_step (layer.Map ps) whole = map_match ps (out-TermTree whole)
match_step (layer.Closure origin env) whole = closure_match origin (map (λ p. p.0) env) whole

-- whether a term matches a pattern of data, which comes first
abbrev pub matches_data : TermTree → TermTree → Bool
matches_data = para-TermTree (TermTree → Bool) match_step

-- a part of a pattern beside what it matches
abbrev pub matched : TermTree → Part
matched p = (p, matches_data p)

-- a key and a value beside what they match
abbrev pub matched_pair : TermTree × TermTree → Part × Part
matched_pair p = (matched p.0, matched p.1)
