-- Why a short spelling is no larger than another.
use Rattle.std.proofs.Common.{◌≡◌, ◌≤◌, ◌+◌, ◌*◌, ◌++◌, ℕ, suc, max, List, [], ◌∷◌, length, map, codes, IsTrue, refl, ap, sym, subst, pos, arith}
use Rattle.std.proofs.Math.Utf8.{encode}
use Rattle.std.proofs.lemmas.Bool.{and_parts, leb-true}
use Rattle.std.proofs.lemmas.List.{length-append}
use Rattle.std.proofs.lemmas.Str.{length-encode, len_utf8_bounds}
use Rattle.std.specs.Str.{encode_utf8_all}
use Rattle.kh_term.proofs.Layers.{size-Int, size-Atom, size-Bin, size-Nil, size-List, size-Tuple, depth-Atom, depth-Bin, depth-List, depth-Tuple, width-Atom, width-Bin, width-List, width-Tuple}
use Rattle.kh_term.proofs.Lengths.{length-Int, length-Atom, length-Bin, length-Nil, length-List, length-Tuple}
use Rattle.kh_term.specs.Lemmas.Fits.{sum-cons}
use Rattle.kh_term.specs.Lemmas.Layers.{length_beside}
use Rattle.kh_term.specs.declared.limits.TheConstants.{MOST_TEXT_BYTES}
use Rattle.kh_term.specs.declared.tree.TermTree.{TermTree}
use Rattle.kh_term.specs.declared.tree.TermTree.TheVariants as tree
use Rattle.kh_term.specs.Make.{list_of}
use Rattle.kh_term.specs.Packed.{packed_of, all_packed_of}
use Rattle.kh_term.specs.Size.{size_of, sizes_of, depth_of, greatest, width_of}
use Rattle.kh_term.specs.Text.{is_text}
use Rattle.kh_cond.specs.declared.cond.Regex.{Regex}
use Rattle.kh_cond.specs.declared.cond.Comparison.{Comparison}
use Rattle.kh_cond.specs.declared.cond.Cond.{Cond}
use Rattle.kh_cond.specs.declared.component.Component.{Component}
use Rattle.kh_cond.specs.Forms.{form, record_form, data_record_form, points_tree}
use Rattle.kh_cond.specs.Laws.{ShortIsNoLarger, ShortPatternIsNoLarger}
use Rattle.kh_cond.specs.NoLarger.{IsNoLarger}
use Rattle.kh_cond.specs.Short.{cond_tree, component_tree, pattern_tree, regex_tree, comparison_tree}
use Rattle.kh_cond.specs.Spells.{SpellsRegex, SpellsComparison, SpellsCond, SpellConds, SpellsPathRegex, SpellsComponent, SpellComponents}
use Rattle.kh_cond.specs.Spells as spells
use Rattle.kh_cond.proofs.CondLayers.{tree-Name, tree-NodeExists, tree-NameMatches, tree-HasPayload, tree-HasData, tree-HasSproc, tree-DataMatches, tree-PayloadVersion, tree-ChildListVersion, tree-ChildListLength, tree-Not, tree-All, tree-Any}

itself : (t : TermTree) → IsNoLarger t t
itself t = record { size = omega arith; depth = omega arith; width = omega arith; packed = omega arith }

pub shrunk : (t u v : TermTree) → u ≡ v → IsNoLarger v t → IsNoLarger u t
shrunk t u v e h = subst (λ w. IsNoLarger w t) (sym e) h

-- ---- forms

form_size : (w : List ℕ) (t : TermTree) → size_of (form w t) ≡ 2 + size_of t
form_size w t =
    omega (arith, size-Tuple (tree.Atom w ∷ t ∷ []), size-Atom w, sum-cons (size_of (tree.Atom w)) (map size_of (t ∷ [])), sum-cons (size_of t) [])

form_depth : (w : List ℕ) (t : TermTree) → depth_of (form w t) ≡ 1 + depth_of t
form_depth w t = omega (arith, depth-Tuple (tree.Atom w ∷ t ∷ []), depth-Atom w)

form_width : (w : List ℕ) (t : TermTree) → width_of (form w t) ≡ max 2 (max (length w) (width_of t))
form_width w t = omega (arith, width-Tuple (tree.Atom w ∷ t ∷ []), width-Atom w)

form_packed : (w : List ℕ) (t : TermTree) → length (packed_of (form w t)) ≡ 7 + length w + length (packed_of t)
form_packed w t =
    omega (arith, length-Tuple (tree.Atom w ∷ t ∷ []), length-Atom w, length-append (packed_of (tree.Atom w)) (all_packed_of (t ∷ [])), length-append (packed_of t) [])

abbrev undefined : TermTree
undefined = tree.Atom (codes "undefined")

record_size : (w : List ℕ) (t : TermTree) → 2 + size_of t ≤ size_of (record_form w t)
record_size w t =
    omega (arith, size-Tuple (tree.Atom w ∷ t ∷ undefined ∷ []), size-Atom w, sum-cons (size_of (tree.Atom w)) (map size_of (t ∷ undefined ∷ [])), sum-cons (size_of t) (map size_of (undefined ∷ [])))

record_depth : (w : List ℕ) (t : TermTree) → 1 + depth_of t ≤ depth_of (record_form w t)
record_depth w t = omega (arith, depth-Tuple (tree.Atom w ∷ t ∷ undefined ∷ []))

record_width : (w : List ℕ) (t : TermTree) → max 2 (max (length w) (width_of t)) ≤ width_of (record_form w t)
record_width w t = omega (arith, width-Tuple (tree.Atom w ∷ t ∷ undefined ∷ []), width-Atom w)

record_packed : (w : List ℕ) (t : TermTree) → 7 + length w + length (packed_of t) ≤ length (packed_of (record_form w t))
record_packed w t =
    omega (arith, length-Tuple (tree.Atom w ∷ t ∷ undefined ∷ []), length-Atom w, length-append (packed_of (tree.Atom w)) (all_packed_of (t ∷ undefined ∷ [])), length-append (packed_of t) (all_packed_of (undefined ∷ [])))

-- An operand may be three bytes longer beside twice as many, since the word in front of it has more.
record Operand (s t : TermTree) : Type 0 where
  size : size_of s ≤ size_of t
  depth : depth_of s ≤ depth_of t
  width : width_of s ≤ max MOST_TEXT_BYTES (width_of t)
  packed : length (packed_of s) ≤ 3 + 2 * length (packed_of t)

operand : (s t : TermTree) → IsNoLarger s t → Operand s t
operand s t h = record { size = h.size; depth = h.depth; width = h.width; packed = omega (arith, h.packed) }

form_smaller : (w : List ℕ) (s t : TermTree) → Operand s t → IsNoLarger (form w s) (form w t)
form_smaller w s t h = record {
  size = omega (arith, form_size w s, form_size w t, h.size);
  depth = omega (arith, form_depth w s, form_depth w t, h.depth);
  width = omega (arith, form_width w s, form_width w t, h.width);
  packed = omega (arith, form_packed w s, form_packed w t, h.packed);
}

record_smaller : (w : List ℕ) (s t : TermTree) → Operand s t → IsNoLarger (form w s) (record_form w t)
record_smaller w s t h = record {
  size = omega (arith, form_size w s, record_size w t, h.size);
  depth = omega (arith, form_depth w s, record_depth w t, h.depth);
  width = omega (arith, form_width w s, record_width w t, h.width);
  packed = omega (arith, form_packed w s, record_packed w t, h.packed);
}

data_record_smaller : (t : TermTree) → IsNoLarger (form (codes "if_data_matches") t) (data_record_form t)
data_record_smaller t =
    let w : List ℕ = codes "if_data_matches" in
    let rest : List TermTree = tree.Nil ∷ undefined ∷ [] in record {
      size = omega (arith, form_size w t, size-Tuple (tree.Atom w ∷ t ∷ rest), size-Atom w, sum-cons (size_of (tree.Atom w)) (map size_of (t ∷ rest)), sum-cons (size_of t) (map size_of rest));
      depth = omega (arith, form_depth w t, depth-Tuple (tree.Atom w ∷ t ∷ rest));
      width = omega (arith, form_width w t, width-Tuple (tree.Atom w ∷ t ∷ rest), width-Atom w);
      packed = omega (arith, form_packed w t, length-Tuple (tree.Atom w ∷ t ∷ rest), length-Atom w, length-append (packed_of (tree.Atom w)) (all_packed_of (t ∷ rest)), length-append (packed_of t) (all_packed_of rest));
    }

-- ---- regular expressions

encoded_len : (points : List ℕ) → length (encode_utf8_all points) ≤ 4 * length points
encoded_len [] = omega arith
encoded_len (c ∷ points) =
    omega (arith, length-append (encode c) (encode_utf8_all points), length-encode c, (len_utf8_bounds c).1, encoded_len points)

abbrev point_trees : List ℕ → List TermTree
point_trees points = map (λ c. tree.Int (pos c)) points

points_size : (points : List ℕ) → sizes_of (point_trees points) ≡ length points
points_size [] = refl
points_size (c ∷ points) =
    omega (arith, sum-cons (size_of (tree.Int (pos c))) (map size_of (point_trees points)), size-Int (pos c), points_size points)

points_packed : (points : List ℕ) → 2 * length points ≤ length (all_packed_of (point_trees points))
points_packed [] = omega arith
points_packed (c ∷ points) =
    omega (arith, length-append (packed_of (tree.Int (pos c))) (all_packed_of (point_trees points)), length-Int (pos c), points_packed points)

points_smaller : (points : List ℕ) → length (encode_utf8_all points) ≤ MOST_TEXT_BYTES → Operand (tree.Bin (encode_utf8_all points)) (points_tree points)
points_smaller [] h = record {
  size = omega (arith, size-Bin [], size-Nil);
  depth = omega (arith, depth-Bin []);
  width = omega (arith, width-Bin []);
  packed = omega (arith, length-Bin [], length-Nil);
}
points_smaller (c ∷ points) h =
    let ts : List TermTree = point_trees (c ∷ points) in
    let bytes : List ℕ = encode_utf8_all (c ∷ points) in
    let many : length ts ≡ length (c ∷ points) = length_beside (λ p. tree.Int (pos p)) (c ∷ points) in record {
      size = omega (arith, size-Bin bytes, size-List ts tree.Nil, size-Nil, points_size (c ∷ points), many, encoded_len (c ∷ points));
      depth = omega (arith, depth-Bin bytes);
      width = omega (arith, width-Bin bytes, h);
      packed = omega (arith, length-Bin bytes, length-List ts tree.Nil, length-Nil, points_packed (c ∷ points), encoded_len (c ∷ points));
    }

text_is_short : (text : List ℕ) → IsTrue (is_text text) → length text ≤ MOST_TEXT_BYTES
text_is_short text h = leb-true (length text) MOST_TEXT_BYTES (and_parts _ _ h).0

regex_smaller : (t : TermTree) (r : Regex) → SpellsRegex t r → Operand (regex_tree r) t
regex_smaller t r spells.anything = operand _ _ (itself _)
regex_smaller t r (spells.bytes text h) = operand _ _ (itself _)
regex_smaller t r (spells.points points h k) = points_smaller points (text_is_short (encode_utf8_all points) k)

comparison_smaller : (t : TermTree) (c : Comparison) → SpellsComparison t c → Operand (comparison_tree c) t
comparison_smaller t c (spells.is n) = operand _ _ (itself _)
comparison_smaller t c (spells.by op n) = operand _ _ (itself _)

-- ---- lists

pub record NoneLarger (ss ts : List TermTree) : Type 0 where
  pub many : length ss ≡ length ts
  pub size : sizes_of ss ≤ sizes_of ts
  pub depth : greatest (map depth_of ss) ≤ greatest (map depth_of ts)
  pub width : greatest (map width_of ss) ≤ max MOST_TEXT_BYTES (greatest (map width_of ts))
  pub packed : length (all_packed_of ss) ≤ 2 * length (all_packed_of ts)

none_larger : NoneLarger [] []
none_larger = record { many = refl; size = omega arith; depth = omega arith; width = omega arith; packed = omega arith }

one_more : (s t : TermTree) (ss ts : List TermTree) → IsNoLarger s t → NoneLarger ss ts → NoneLarger (s ∷ ss) (t ∷ ts)
one_more s t ss ts h r = record {
  many = ap suc r.many;
  size = omega (arith, sum-cons (size_of s) (map size_of ss), sum-cons (size_of t) (map size_of ts), h.size, r.size);
  depth = omega (arith, h.depth, r.depth);
  width = omega (arith, h.width, r.width);
  packed = omega (arith, length-append (packed_of s) (all_packed_of ss), length-append (packed_of t) (all_packed_of ts), h.packed, r.packed);
}

list_smaller : (ss ts : List TermTree) → NoneLarger ss ts → IsNoLarger (list_of ss) (list_of ts)
list_smaller [] [] h = itself tree.Nil
list_smaller [] (t ∷ ts) h = absurd (omega (arith, h.many))
list_smaller (s ∷ ss) [] h = absurd (omega (arith, h.many))
list_smaller (s ∷ ss) (t ∷ ts) h = record {
  size = omega (arith, size-List (s ∷ ss) tree.Nil, size-List (t ∷ ts) tree.Nil, h.many, h.size);
  depth = omega (arith, depth-List (s ∷ ss) tree.Nil, depth-List (t ∷ ts) tree.Nil, h.depth);
  width = omega (arith, width-List (s ∷ ss) tree.Nil, width-List (t ∷ ts) tree.Nil, h.many, h.width);
  packed = omega (arith, length-List (s ∷ ss) tree.Nil, length-List (t ∷ ts) tree.Nil, h.packed);
}

-- ---- conditions

mutual
  pub cond_smaller : (t : TermTree) (c : Cond) → SpellsCond t c → IsNoLarger (cond_tree c) t
  cond_smaller t c (spells.name n h) = shrunk _ _ _ (tree-Name n) (itself _)
  cond_smaller t c (spells.node_exists b) = shrunk _ _ _ (tree-NodeExists b) (itself _)
  cond_smaller t c (spells.name_matches u r s) = shrunk _ _ _ (tree-NameMatches r) (form_smaller (codes "if_name_matches") (regex_tree r) u (regex_smaller u r s))
  cond_smaller t c (spells.name_matches_record u r s) = shrunk _ _ _ (tree-NameMatches r) (record_smaller (codes "if_name_matches") (regex_tree r) u (regex_smaller u r s))
  cond_smaller t c (spells.has_payload b) = shrunk _ _ _ (tree-HasPayload b) (itself _)
  cond_smaller t c (spells.has_data b) = shrunk _ _ _ (tree-HasData b) (itself _)
  cond_smaller t c (spells.has_sproc b) = shrunk _ _ _ (tree-HasSproc b) (itself _)
  cond_smaller t c (spells.data_matches x) = shrunk _ _ _ (tree-DataMatches x) (itself _)
  cond_smaller t c (spells.data_matches_record x) = shrunk _ _ _ (tree-DataMatches x) (data_record_smaller x.node)
  cond_smaller t c (spells.payload_version u n s) = shrunk _ _ _ (tree-PayloadVersion n) (form_smaller (codes "if_payload_version") (comparison_tree n) u (comparison_smaller u n s))
  cond_smaller t c (spells.child_list_version u n s) = shrunk _ _ _ (tree-ChildListVersion n) (form_smaller (codes "if_child_list_version") (comparison_tree n) u (comparison_smaller u n s))
  cond_smaller t c (spells.child_list_length u n s) = shrunk _ _ _ (tree-ChildListLength n) (form_smaller (codes "if_child_list_length") (comparison_tree n) u (comparison_smaller u n s))
  cond_smaller t c (spells.not u x s) = shrunk _ _ _ (tree-Not x) (form_smaller (codes "if_not") (cond_tree x) u (operand _ _ (cond_smaller u x s)))
  cond_smaller t c (spells.all us xs s) = shrunk _ _ _ (tree-All xs) (form_smaller (codes "if_all") (list_of (map cond_tree xs)) (list_of us) (operand _ _ (list_smaller _ _ (conds_smaller us xs s))))
  cond_smaller t c (spells.any us xs s) = shrunk _ _ _ (tree-Any xs) (form_smaller (codes "if_any") (list_of (map cond_tree xs)) (list_of us) (operand _ _ (list_smaller _ _ (conds_smaller us xs s))))

  pub conds_smaller : (ts : List TermTree) (cs : List Cond) → SpellConds ts cs → NoneLarger (map cond_tree cs) ts
  conds_smaller ts cs spells.none = none_larger
  conds_smaller ts cs (spells.more u x us xs s ss) = one_more _ _ _ _ (cond_smaller u x s) (conds_smaller us xs ss)

pub smaller : ShortIsNoLarger
smaller t c s = cond_smaller t c s

-- ---- patterns

path_smaller : (t : TermTree) (r : Regex) → SpellsPathRegex t r → IsNoLarger (form (codes "if_path_matches") (regex_tree r)) t
path_smaller t r (spells.short u q s) = form_smaller (codes "if_path_matches") (regex_tree q) u (regex_smaller u q s)
path_smaller t r (spells.record_spelling u q s) = record_smaller (codes "if_path_matches") (regex_tree q) u (regex_smaller u q s)

component_smaller : (t : TermTree) (c : Component) → SpellsComponent t c → IsNoLarger (component_tree c) t
component_smaller t c (spells.one u x s) = cond_smaller u x s
component_smaller t c (spells.many u r s) = path_smaller u r s
component_smaller t c (spells.many_all u r us cs s ss) =
    form_smaller (codes "if_all") (list_of (form (codes "if_path_matches") (regex_tree r) ∷ map cond_tree cs)) (list_of (u ∷ us))
    (operand _ _ (list_smaller _ _ (one_more _ _ _ _ (path_smaller u r s) (conds_smaller us cs ss))))

components_smaller : (ts : List TermTree) (cs : List Component) → SpellComponents ts cs → NoneLarger (map component_tree cs) ts
components_smaller ts cs spells.end = none_larger
components_smaller ts cs (spells.next t c us ds s rest) = one_more _ _ _ _ (component_smaller t c s) (components_smaller us ds rest)

pub pattern_smaller : ShortPatternIsNoLarger
pattern_smaller t q s = subst (IsNoLarger (pattern_tree q)) (sym s.1) (list_smaller _ _ (components_smaller s.0 q s.2))
