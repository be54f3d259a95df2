-- A term that bytes spell is no deeper than the levels that may be open.
use Rattle.std.proofs.Common.{◌≡◌, ◌≤◌, ◌<◌, ℕ, zero, suc, ◌+◌, Bool, true, false, ◌&&◌, cond, ltb, List, [], ◌∷◌, ◌++◌, map, take, drop, get_or, Option, Some, None, inl, inr, refl, sym, ap, subst, ◌∙◌, arith, ℤ, pos, negsuc}
use Rattle.std.specs.Prelude.{◌⊎◌, max, codes}
use Rattle.std.specs.List.{list_all}
use Rattle.std.specs.declared.cmp.Ordering.{Ordering}
use Rattle.std.specs.declared.cmp.Ordering.TheVariants.{Less, Equal, Greater}
use Rattle.std.specs.Ordering.{match_ordering}
use Rattle.std.specs.BTreeMap.{insert_entry}
use Rattle.std.proofs.lemmas.Bool.{and_parts, and_from, lt-ltb}
use Rattle.std.proofs.lemmas.List.{take-append-drop}
use Rattle.kh_term.specs.declared.name.Origin.{Origin}
use Rattle.kh_term.specs.declared.tree.TermTree.{TermTree, out-TermTree}
use Rattle.kh_term.specs.declared.tree.TermTree.TheOpen.{TermTree-F}
use Rattle.kh_term.specs.declared.tree.TermTree.TheOpen as layer
use Rattle.kh_term.specs.declared.tree.TermTree.TheVariants as tree
use Rattle.kh_term.specs.declared.tree.TermTree.TheVariants.{outs-Int, outs-Atom, outs-Bin, outs-Nil, outs-List, outs-Tuple, outs-Map, outs-Closure}
use Rattle.kh_term.specs.Lemmas.Induction.{by_parts}
use Rattle.kh_term.specs.Make.{list_of, list_with_tail, in_front_of}
use Rattle.kh_term.specs.MapOf.{map_with, map_of}
use Rattle.kh_term.specs.Order.{term_cmp}
use Rattle.kh_term.specs.Size.{depth_of, greatest, is_nil}
use Rattle.kh_term.proofs.Layers.{depth-Int, depth-Atom, depth-Bin, depth-Nil, depth-List, depth-Tuple, depth-Map, depth-Closure}
use Rattle.kh_text_defs.specs.Blanks.{Wide, Commas, last, then_more, Elements}
use Rattle.kh_text_defs.specs.Spelled.{Rules, unsupported, all_bytes, binary_of, binary_or_unsupported, SpellsFlat, integer, atom, binary, float, reference, begun_sharp, list_of_points, SpellsPair, KeyValues, SpellsPairs, SpellsCaptured, closure_end, closure_of, SpellsDeep, list, list_and_tail, points, tuple, map_text, closure, Spells, IsForm}

abbrev pub are_bytes : List ℕ → Bool
are_bytes text = list_all (λ b. ltb b 256) text

abbrev deepest : List TermTree → ℕ
deepest ts = greatest (map depth_of ts)

abbrev pair_depth : TermTree × TermTree → ℕ
pair_depth p = max (depth_of p.0) (depth_of p.1)

abbrev deepest_pair : KeyValues → ℕ
deepest_pair ps = greatest (map (λ p. max (depth_of p.0) (depth_of p.1)) ps)

-- ---- parts of bytes

in_front : (a b : List ℕ) → are_bytes (a ++ b) ≡ true → are_bytes a ≡ true
in_front [] b h = refl
in_front (x ∷ a) b h = let parts = and_parts (ltb x 256) (are_bytes (a ++ b)) h in and_from _ _ parts.0 (in_front a b parts.1)

behind : (a b : List ℕ) → are_bytes (a ++ b) ≡ true → are_bytes b ≡ true
behind [] b h = h
behind (x ∷ a) b h = behind a b (and_parts (ltb x 256) (are_bytes (a ++ b)) h).1

of_parts : (text whole : List ℕ) → text ≡ whole → are_bytes text ≡ true → are_bytes whole ≡ true
of_parts text whole parts h = ap are_bytes (sym parts) ∙ h

-- ---- terms of parts

joined : (xs ys : List TermTree) (n : ℕ) → deepest xs ≤ n → deepest ys ≤ n → deepest (xs ++ ys) ≤ n
joined [] ys n h k = k
joined (x ∷ xs) ys n h k = let more = joined xs ys n (omega arith) k in omega arith

tail_part : (b : Bool) (d n : ℕ) → d ≤ n → cond b 0 d ≤ n
tail_part true d n h = omega arith
tail_part false d n h = h

list_depth : (parts : List TermTree) (tail : TermTree) (n : ℕ) → deepest parts ≤ n → cond (is_nil (out-TermTree tail)) 0 (depth_of tail) ≤ n → depth_of (tree.List parts tail) ≤ suc n
list_depth parts tail n h k = omega (arith, depth-List parts tail, h, k)

list_of_depth : (parts : List TermTree) (n : ℕ) → deepest parts ≤ n → depth_of (list_of parts) ≤ suc n
list_of_depth [] n h = omega (arith, depth-Nil)
list_of_depth (p ∷ ps) n h = list_depth (p ∷ ps) tree.Nil n h (subst (λ (b : Bool). cond b 0 (depth_of tree.Nil) ≤ n) (sym (ap is_nil outs-Nil)) (omega arith))

with_tail_depth : (p : TermTree) (ps : List TermTree) (n : ℕ) → deepest (p ∷ ps) ≤ n → (t : TermTree) → depth_of t ≤ n → depth_of (list_with_tail (p ∷ ps) t) ≤ suc n
with_tail_depth p ps n h = by_parts (λ t. depth_of t ≤ n → depth_of (list_with_tail (p ∷ ps) t) ≤ suc n) record {
  at_int = λ z. other (tree.Int z) (ap (λ (l : TermTree-F TermTree). in_front_of (p ∷ ps) l (tree.Int z)) (outs-Int z));
  at_atom = λ text. other (tree.Atom text) (ap (λ (l : TermTree-F TermTree). in_front_of (p ∷ ps) l (tree.Atom text)) (outs-Atom text));
  at_bin = λ bytes. other (tree.Bin bytes) (ap (λ (l : TermTree-F TermTree). in_front_of (p ∷ ps) l (tree.Bin bytes)) (outs-Bin bytes));
  at_nil = other tree.Nil (ap (λ (l : TermTree-F TermTree). in_front_of (p ∷ ps) l tree.Nil) outs-Nil);
  at_list = λ xs t each tail. listed xs t;
  at_tuple = λ xs each. other (tree.Tuple xs) (ap (λ (l : TermTree-F TermTree). in_front_of (p ∷ ps) l (tree.Tuple xs)) (outs-Tuple xs));
  at_map = λ qs each. other (tree.Map qs) (ap (λ (l : TermTree-F TermTree). in_front_of (p ∷ ps) l (tree.Map qs)) (outs-Map qs));
  at_closure = λ o xs each. other (tree.Closure o xs) (ap (λ (l : TermTree-F TermTree). in_front_of (p ∷ ps) l (tree.Closure o xs)) (outs-Closure o xs));
}
  where
    other : (t : TermTree) → list_with_tail (p ∷ ps) t ≡ tree.List (p ∷ ps) t → depth_of t ≤ n → depth_of (list_with_tail (p ∷ ps) t) ≤ suc n
    other t is k = subst (λ (u : TermTree). depth_of u ≤ suc n) (sym is) (list_depth (p ∷ ps) t n h (tail_part (is_nil (out-TermTree t)) (depth_of t) n k))

    listed : (xs : List TermTree) (t : TermTree) → depth_of (tree.List xs t) ≤ n → depth_of (list_with_tail (p ∷ ps) (tree.List xs t)) ≤ suc n
    listed xs t k =
        let d = depth-List xs t in
        subst (λ (u : TermTree). depth_of u ≤ suc n) (sym (ap (λ (l : TermTree-F TermTree). in_front_of (p ∷ ps) l (tree.List xs t)) (outs-List xs t)))
        (list_depth ((p ∷ ps) ++ xs) t n (joined (p ∷ ps) xs n h (omega (arith, d, k))) (omega (arith, d, k)))

entry_depth : (ps : KeyValues) (k v : TermTree) (n : ℕ) → deepest_pair ps ≤ n → depth_of k ≤ n → depth_of v ≤ n → deepest_pair (insert_entry term_cmp ps k v) ≤ n
entry_depth [] k v n h a b = omega arith
entry_depth (e ∷ ps) k v n h a b = go (term_cmp k e.0) (entry_depth ps k v n (omega arith) a b)
  where
    go : (o : Ordering) → deepest_pair (insert_entry term_cmp ps k v) ≤ n → deepest_pair (match_ordering o ((k, v) ∷ e ∷ ps) ((e.0, v) ∷ ps) (e ∷ insert_entry term_cmp ps k v)) ≤ n
    go Less more = omega arith
    go Equal more = omega arith
    go Greater more = omega arith

map_depth : (kept ps : KeyValues) (n : ℕ) → deepest_pair kept ≤ n → deepest_pair ps ≤ n → deepest_pair (map_with kept ps) ≤ n
map_depth kept [] n h k = h
map_depth kept (p ∷ ps) n h k = map_depth (insert_entry term_cmp kept p.0 p.1) ps n (entry_depth kept p.0 p.1 n h (omega arith) (omega arith)) (omega arith)

-- ---- what is spelled

unsupported_depth : depth_of unsupported ≤ 0
unsupported_depth = omega (arith, depth-Atom (codes "$unsupported"))

binary_depth : (o : Option (List ℕ)) → depth_of (binary_or_unsupported o) ≤ 0
binary_depth (Some bytes) = omega (arith, depth-Bin bytes)
binary_depth None = unsupported_depth

flat_depth : (rules : Rules) (text : List ℕ) (t : TermTree) → SpellsFlat rules text t → are_bytes text ≡ true → depth_of t ≤ 0
flat_depth rules text t (integer u z h) bytes = omega (arith, depth-Int z)
flat_depth rules text t (atom u name h) bytes = omega (arith, depth-Atom name)
flat_depth rules text t (binary u inside segments h parts) bytes = binary_depth (all_bytes segments)
flat_depth rules text t (float u w f e z listing h a b parts) bytes = unsupported_depth
flat_depth rules text t (reference u home name gap digits m f listing h k a b c parts) bytes = unsupported_depth
flat_depth rules text t (begun_sharp u front is parts) bytes =
    absurd (let last_byte : false ≡ true = (and_parts (ltb 256 256) true (behind front (256 ∷ []) (of_parts text (front ++ 256 ∷ []) parts bytes))).0 in cc)

module _ (l : ℕ) (one : List ℕ → TermTree → Type 0) (one_depth : (u : List ℕ) (t : TermTree) → one u t → are_bytes u ≡ true → depth_of t ≤ l) where
  wide_depth : (text : List ℕ) (t : TermTree) → Wide one text t → are_bytes text ≡ true → depth_of t ≤ l
  wide_depth text t w bytes = one_depth w.inside t w.stands (in_front w.inside w.behind (behind w.before (w.inside ++ w.behind) (of_parts text (w.before ++ (w.inside ++ w.behind)) w.parts bytes)))

  commas_depth : (text : List ℕ) (ts : List TermTree) → Commas (Wide one) text ts → are_bytes text ≡ true → deepest ts ≤ l
  commas_depth text ts (last u t w) bytes = let d = wide_depth text t w bytes in omega arith
  commas_depth text ts (then_more u first rest t others w more parts) bytes =
      let whole = of_parts text (first ++ 44 ∷ rest) parts bytes in
      let d = wide_depth first t w (in_front first (44 ∷ rest) whole) in
      let e = commas_depth rest others more (and_parts (ltb 44 256) (are_bytes rest) (behind first (44 ∷ rest) whole)).1 in
      omega arith

  elements_depth : (text : List ℕ) (ts : List TermTree) → Elements one text ts → are_bytes text ≡ true → deepest ts ≤ l
  elements_depth text ts (inl h) bytes = subst (λ (us : List TermTree). deepest us ≤ l) (sym h.1) (omega arith)
  elements_depth text ts (inr h) bytes = commas_depth text ts h bytes

  -- between an opening and a closing byte
  between : (text inside : List ℕ) (o c : ℕ) → text ≡ o ∷ (inside ++ c ∷ []) → are_bytes text ≡ true → are_bytes inside ≡ true
  between text inside o c parts bytes = in_front inside (c ∷ []) (and_parts (ltb o 256) (are_bytes (inside ++ c ∷ [])) (of_parts text (o ∷ (inside ++ c ∷ [])) parts bytes)).1

  pair_of : (text : List ℕ) (kv : TermTree × TermTree) → SpellsPair one text kv → are_bytes text ≡ true → pair_depth kv ≤ l
  pair_of text kv h bytes =
      let whole = of_parts text (h.key ++ 61 ∷ 62 ∷ h.value) h.parts bytes in
      let k = wide_depth h.key kv.0 h.is_key (in_front h.key (61 ∷ 62 ∷ h.value) whole) in
      let v = wide_depth h.value kv.1 h.is_value (behind (61 ∷ 62 ∷ []) h.value (behind h.key (61 ∷ 62 ∷ h.value) whole)) in
      omega arith

  pair_commas : (text : List ℕ) (ps : KeyValues) → Commas (SpellsPair one) text ps → are_bytes text ≡ true → deepest_pair ps ≤ l
  pair_commas text ps (last u p h) bytes = let d = pair_of text p h bytes in omega arith
  pair_commas text ps (then_more u first rest p others h more parts) bytes =
      let whole = of_parts text (first ++ 44 ∷ rest) parts bytes in
      let d = pair_of first p h (in_front first (44 ∷ rest) whole) in
      let e = pair_commas rest others more (and_parts (ltb 44 256) (are_bytes rest) (behind first (44 ∷ rest) whole)).1 in
      omega arith

  pairs_depth : (text : List ℕ) (ps : KeyValues) → SpellsPairs one text ps → are_bytes text ≡ true → deepest_pair ps ≤ l
  pairs_depth text ps (inl h) bytes = subst (λ (qs : KeyValues). deepest_pair qs ≤ l) (sym h.1) (omega arith)
  pairs_depth text ps (inr h) bytes = pair_commas text ps h bytes

  captured_depth : (text : List ℕ) (env : List TermTree) → SpellsCaptured one text env → are_bytes text ≡ true → deepest env ≤ l
  captured_depth text env h bytes = elements_depth h.0 env h.1 (between text h.0 91 93 h.2 bytes)

  closure_depth : (m f : List ℕ) (z : ℤ) (env : List TermTree) → deepest env ≤ l → depth_of (closure_of m f z env) ≤ suc l
  closure_depth m f (pos n) env h = omega (arith, depth-Closure (record { «module» = m; name = f; arity = n }) env, h)
  closure_depth m f (negsuc n) env h = omega (arith, depth-Nil)

  flat_points : (cs : List ℕ) → deepest (map (λ c. tree.Int (pos c)) cs) ≤ 0
  flat_points [] = omega arith
  flat_points (c ∷ cs) = let more = flat_points cs in omega (arith, depth-Int (pos c))

  tail_depth : (text : List ℕ) (ts : List TermTree) (t : TermTree) → Commas (Wide one) text ts → deepest ts ≤ l → depth_of t ≤ l → depth_of (list_with_tail ts t) ≤ suc l
  tail_depth text ts t (last u x w) h k = with_tail_depth x [] l h t k
  tail_depth text ts t (then_more u first rest x others w more parts) h k = with_tail_depth x others l h t k

  deep_depth : (rules : Rules) (text : List ℕ) (t : TermTree) → SpellsDeep rules one text t → are_bytes text ≡ true → depth_of t ≤ suc l
  deep_depth rules text t (list u inside ts h parts) bytes = list_of_depth ts l (elements_depth inside ts h (between text inside 91 93 parts bytes))
  deep_depth rules text t (list_and_tail u inside end ts v h w parts) bytes =
      let whole = (and_parts (ltb 91 256) (are_bytes (inside ++ 124 ∷ (end ++ 93 ∷ []))) (of_parts text (91 ∷ (inside ++ 124 ∷ (end ++ 93 ∷ []))) parts bytes)).1 in
      let rest = (and_parts (ltb 124 256) (are_bytes (end ++ 93 ∷ [])) (behind inside (124 ∷ (end ++ 93 ∷ [])) whole)).1 in
      tail_depth inside ts v h (commas_depth inside ts h (in_front inside (124 ∷ (end ++ 93 ∷ [])) whole)) (wide_depth end v w (in_front end (93 ∷ []) rest))
  deep_depth rules text t (points u cs h) bytes = let flat = flat_points cs in list_of_depth (map (λ c. tree.Int (pos c)) cs) l (omega arith)
  deep_depth rules text t (tuple u inside ts h parts) bytes = let d = elements_depth inside ts h (between text inside 123 125 parts bytes) in omega (arith, depth-Tuple ts, d)
  deep_depth rules text t (map_text u inside ps h parts) bytes =
      let whole = (and_parts (ltb 35 256) (are_bytes (123 ∷ (inside ++ 125 ∷ []))) (of_parts text (35 ∷ 123 ∷ (inside ++ 125 ∷ [])) parts bytes)).1 in
      let d = pairs_depth inside ps h (between (123 ∷ (inside ++ 125 ∷ [])) inside 123 125 refl whole) in
      let e = map_depth [] ps l (omega arith) d in
      omega (arith, depth-Map (map_of ps), e)
  deep_depth rules text t (closure u home name number captured m f z env wm wf wz we parts) bytes =
      let t4 = captured ++ closure_end z env ∷ [] in
      let t3 = number ++ 44 ∷ t4 in
      let t2 = name ++ 44 ∷ t3 in
      let t1 = home ++ 44 ∷ t2 in
      let b1 = behind (codes "#fun{") t1 (of_parts text (codes "#fun{" ++ t1) parts bytes) in
      let b2 = (and_parts (ltb 44 256) (are_bytes t2) (behind home (44 ∷ t2) b1)).1 in
      let b3 = (and_parts (ltb 44 256) (are_bytes t3) (behind name (44 ∷ t3) b2)).1 in
      let b4 = (and_parts (ltb 44 256) (are_bytes t4) (behind number (44 ∷ t4) b3)).1 in
      let inside = of_parts captured (we.before ++ (we.inside ++ we.behind)) we.parts (in_front captured (closure_end z env ∷ []) b4) in
      closure_depth m f z env (captured_depth we.inside env we.stands (in_front we.inside we.behind (behind we.before (we.inside ++ we.behind) inside)))

spelled_depth : (rules : Rules) (levels : ℕ) (text : List ℕ) (t : TermTree) → Spells rules levels text t → are_bytes text ≡ true → depth_of t ≤ levels
unfolding Spells
spelled_depth rules zero text t h bytes = flat_depth rules text t h bytes
spelled_depth rules (suc levels) text t (inl h) bytes = let d = flat_depth rules text t h bytes in omega (arith, d)
spelled_depth rules (suc levels) text t (inr h) bytes = deep_depth levels (Spells rules levels) (λ u v k more. spelled_depth rules levels u v k more) rules text t h bytes

-- a form of bytes
pub form_depth : (rules : Rules) (levels : ℕ) (text rest : List ℕ) (t : TermTree) → IsForm rules levels text t → are_bytes (text ++ rest) ≡ true → depth_of t ≤ levels
form_depth rules levels text rest t h bytes =
    let whole = of_parts text (h.0 ++ 46 ∷ []) h.2 (in_front text rest bytes) in
    let wide = of_parts h.0 (h.1.before ++ (h.1.inside ++ h.1.behind)) h.1.parts (in_front h.0 (46 ∷ []) whole) in
    spelled_depth rules levels h.1.inside t h.1.stands (in_front h.1.inside h.1.behind (behind h.1.before (h.1.inside ++ h.1.behind) wide))

-- the items of a slice of bytes
pub bytes_are : (bytes : List ℕ) → ((k : ℕ) → get_or bytes k 0 < 256) → are_bytes bytes ≡ true
bytes_are [] each = refl
bytes_are (b ∷ bytes) each = and_from _ _ (lt-ltb b 256 (each 0)) (bytes_are bytes (λ k. each (suc k)))

pub bytes_from : (bytes : List ℕ) (at : ℕ) → are_bytes bytes ≡ true → are_bytes (drop at bytes) ≡ true
bytes_from bytes at all = behind (take at bytes) (drop at bytes) (ap are_bytes (take-append-drop at bytes) ∙ all)
