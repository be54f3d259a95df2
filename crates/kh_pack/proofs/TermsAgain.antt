-- A term of at most the depth that is allowed is read where its packed bytes stand.
use Rattle.std.proofs.Common.{◌≡◌, ◌<◌, ◌≤◌, ◌^◌, ◌+◌, max, ℕ, zero, suc, true, false, cond, ltb, leb, eqb, IsTrue, List, [], ◌∷◌, ◌++◌, length, map, sum, Some, None, refl, ap, sym, subst, ◌∙◌, append_assoc, arith, ℤ}
use Rattle.std.specs.Int.{w32, to_be_bytes}
use Rattle.std.proofs.lemmas.Bool.{le-ltb, leb-true, ne_eqb, and_parts, not-true}
use Rattle.std.proofs.lemmas.List.{append-nil}
use Rattle.kh_term.specs.declared.name.Origin.{Origin}
use Rattle.kh_term.specs.declared.tree.TermTree.{TermTree, out-TermTree}
use Rattle.kh_term.specs.declared.tree.TermTree.TheOpen.{TermTree-F}
use Rattle.kh_term.specs.declared.tree.TermTree.TheOpen as layer
use Rattle.kh_term.specs.declared.tree.TermTree.TheVariants as tree
use Rattle.kh_term.specs.declared.tree.TermTree.TheVariants.{rolls-Nil}
use Rattle.kh_term.specs.Lookup.{rises_after}
use Rattle.kh_term.specs.Make.{list_with_tail}
use Rattle.kh_term.specs.Packed.{packed_of, all_packed_of, pairs_packed_of, integer_len, integer_bytes, short_text, count_bytes}
use Rattle.kh_term.specs.Size.{depth_of, width_of, greatest, is_nil}
use Rattle.kh_term.specs.Text.{is_atom_text}
use Rattle.kh_term.specs.WellFormed.{IsTerm, AreTerms, ArePairs, faults_of, fits_128, is_list, is_list_of, is_origin, keys_rise}
use Rattle.kh_term.specs.Lemmas.Fits.{holds, sum-cons, fits_front, fits_behind, parts_of_tuple, parts_of_list, tail_of_list, ends_list, parts_of_closure, origin_of_closure, pairs_of_map, keys_rise_in}
use Rattle.kh_term.specs.Lemmas.Induction.{by_parts, Each, OfBoth}
use Rattle.kh_term.proofs.Layers.{faults-Int, faults-Atom, depth-Nil, depth-List, depth-Tuple, depth-Map, depth-Closure, width-Bin, width-List, width-Tuple, width-Map, width-Closure, packed-Int, packed-Atom, packed-Bin, packed-Nil, packed-List, packed-Tuple, packed-Map, packed-Closure}
use Rattle.kh_term.proofs.Tags.{tag_of, tagged}
use Rattle.kh_term.specs.Lemmas.Total.{layered}
use Rattle.kh_pack.specs.Reading.{Read, ◌>>=◌, first_at, count_at, integer_at, text_at, binary_at, origin_at, many_at, pairs_at, tail_at, list_at, tuple_at, map_at, closure_at, flat_at, deep_at, term_at}
use Rattle.kh_pack.proofs.FieldsRead.{count_again, text_again, binary_again, origin_again, integer_again}
use Rattle.kh_pack.proofs.TermsRead.{list_made}

-- a term is read again, whatever is behind it
abbrev Again : TermTree → Type 0
Again t = (depth : ℕ) (rest : List ℕ) → IsTerm t → width_of t < 2 ^ 32 → depth_of t ≤ depth → term_at depth (packed_of t ++ rest) ≡ Some (t, rest)

-- ---- terms, one after another

many_again : (depth : ℕ) (ts : List TermTree) → Each Again ts → AreTerms ts → greatest (map width_of ts) < 2 ^ 32 → greatest (map depth_of ts) ≤ depth
    → (before : List TermTree) (rest : List ℕ) → many_at (term_at depth) (length ts) before (all_packed_of ts ++ rest) ≡ Some (before ++ ts, rest)
unfolding many_at
many_again depth [] each fit narrow shallow before rest = ap (λ (b : List TermTree). Some (b, rest)) (sym (append-nil before))
many_again depth (t ∷ ts) each fit narrow shallow before rest =
    let behind : List ℕ = all_packed_of ts ++ rest in
    let start : all_packed_of (t ∷ ts) ++ rest ≡ packed_of t ++ behind = append_assoc (packed_of t) (all_packed_of ts) rest in
    let first : term_at depth (packed_of t ++ behind) ≡ Some (t, behind) = each.0 depth behind (fits_front t ts fit) (omega (arith, narrow)) (omega (arith, shallow)) in
    ap (λ r. r >>= λ part. many_at (term_at depth) (length ts) (before ++ part.0 ∷ []) part.1) (ap (term_at depth) start ∙ first)
    ∙ (many_again depth ts each.1 (fits_behind t ts fit) (omega (arith, narrow)) (omega (arith, shallow)) (before ++ t ∷ []) rest
    ∙ ap (λ (b : List TermTree). Some (b, rest)) (append_assoc before (t ∷ []) ts))

abbrev TermPairs : Type 0
TermPairs = List (TermTree × TermTree)

abbrev pair_faults : TermTree × TermTree → ℕ
pair_faults p = faults_of p.0 + faults_of p.1

abbrev pair_depth : TermTree × TermTree → ℕ
pair_depth p = max (depth_of p.0) (depth_of p.1)

abbrev pair_width : TermTree × TermTree → ℕ
pair_width p = max (width_of p.0) (width_of p.1)

-- a key among rising keys is above those before it
rises_in : (before : TermPairs) (p : TermTree × TermTree) (ps : TermPairs) → keys_rise (map (λ q. q.0) (before ++ p ∷ ps)) ≡ true → rises_after before p.0 ≡ true
rises_in [] p ps h = refl
rises_in (q ∷ []) p ps h = (and_parts _ _ h).0
rises_in (q ∷ r ∷ before) p ps h = rises_in (r ∷ before) p ps (and_parts _ _ h).1

pairs_again : (depth : ℕ) (ps : TermPairs) → Each (OfBoth Again) ps → sum (map pair_faults ps) ≡ 0 → greatest (map pair_width ps) < 2 ^ 32 → greatest (map pair_depth ps) ≤ depth
    → (before : TermPairs) (rest : List ℕ) → keys_rise (map (λ q. q.0) (before ++ ps)) ≡ true
    → pairs_at (term_at depth) (length ps) before (pairs_packed_of ps ++ rest) ≡ Some (before ++ ps, rest)
unfolding pairs_at
pairs_again depth [] each fit narrow shallow before rest rise = ap (λ (b : TermPairs). Some (b, rest)) (sym (append-nil before))
pairs_again depth (p ∷ ps) each fit narrow shallow before rest rise =
    let split = sum-cons (pair_faults p) (map pair_faults ps) in
    let behind : List ℕ = pairs_packed_of ps ++ rest in
    let middle : List ℕ = packed_of p.1 ++ behind in
    let one : List ℕ → Read TermTree = term_at depth in
    let start : pairs_packed_of (p ∷ ps) ++ rest ≡ packed_of p.0 ++ middle = append_assoc (packed_of p.0 ++ packed_of p.1) (pairs_packed_of ps) rest ∙ append_assoc (packed_of p.0) (packed_of p.1) behind in
    let key : one (packed_of p.0 ++ middle) ≡ Some (p.0, middle) = each.0.0 depth middle (omega (arith, fit, split)) (omega (arith, narrow)) (omega (arith, shallow)) in
    let value : one middle ≡ Some (p.1, behind) = each.0.1 depth behind (omega (arith, fit, split)) (omega (arith, narrow)) (omega (arith, shallow)) in
    let rises : rises_after before p.0 ≡ true = rises_in before p ps rise in
    let joined : (before ++ p ∷ []) ++ ps ≡ before ++ p ∷ ps = append_assoc before (p ∷ []) ps in
    let next : TermTree × List ℕ → TermTree × List ℕ → Read TermPairs = λ k v. cond (rises_after before k.0) (pairs_at one (length ps) (before ++ (k.0, v.0) ∷ []) v.1) None in
    ap (λ r. r >>= λ k. one k.1 >>= next k) (ap one start ∙ key)
    ∙ (ap (λ r. r >>= next (p.0, middle)) value
    ∙ (ap (λ b. cond b (pairs_at one (length ps) (before ++ p ∷ []) behind) None) rises
    ∙ (pairs_again depth ps each.1 (omega (arith, fit, split)) (omega (arith, narrow)) (omega (arith, shallow)) (before ++ p ∷ []) rest
    (ap (λ (b : TermPairs). keys_rise (map (λ q. q.0) b)) joined ∙ rise)
    ∙ ap (λ (b : TermPairs). Some (b, rest)) joined)))

-- ---- lists

-- what is no nil and no list is read as any term
other_tail : (one : List ℕ → Read TermTree) (tag : ℕ) (bytes : List ℕ) → eqb tag 4 ≡ false → eqb tag 5 ≡ false → tail_at one (tag ∷ bytes) ≡ one (tag ∷ bytes)
unfolding tail_at
other_tail one tag bytes no_nil no_list = (λ i. cond (no_nil i) (Some (tree.Nil, bytes)) (cond (no_list i) None (one (tag ∷ bytes))))

nil_tail : (one : List ℕ → Read TermTree) (bytes : List ℕ) → tail_at one (4 ∷ bytes) ≡ Some (tree.Nil, bytes)
unfolding tail_at
nil_tail one bytes = refl

tail_again : (depth : ℕ) (t : TermTree) → Again t → IsTerm t → width_of t < 2 ^ 32 → cond (is_nil (out-TermTree t)) 0 (depth_of t) ≤ depth → is_list (out-TermTree t) ≡ false
    → (rest : List ℕ) → tail_at (term_at depth) (packed_of t ++ rest) ≡ Some (t, rest)
tail_again depth t again fits narrow shallow no_list rest = go (out-TermTree t) refl
  where
    one : List ℕ → Read TermTree
    one = term_at depth

    begins : (tag : ℕ) → tag_of (out-TermTree t) ≡ tag → packed_of t ++ rest ≡ tag ∷ ((tagged t).0 ++ rest)
    begins tag is = ap (λ b. b ++ rest) (tagged t).1 ∙ ap (λ n. n ∷ ((tagged t).0 ++ rest)) is

    other : (l : TermTree-F TermTree) → out-TermTree t ≡ l → is_nil l ≡ false → eqb (tag_of l) 4 ≡ false → eqb (tag_of l) 5 ≡ false → tail_at one (packed_of t ++ rest) ≡ Some (t, rest)
    other l e no_nil four five =
        let start = begins (tag_of l) (ap tag_of e) in
        let deep : depth_of t ≤ depth = subst (λ b. cond b 0 (depth_of t) ≤ depth) (ap is_nil e ∙ no_nil) shallow in
        ap (tail_at one) start ∙ (other_tail one (tag_of l) ((tagged t).0 ++ rest) four five ∙ (ap one (sym start) ∙ again depth rest fits narrow deep))

    go : (l : TermTree-F TermTree) → out-TermTree t ≡ l → tail_at one (packed_of t ++ rest) ≡ Some (t, rest)
    go layer.Nil e =
        let is : t ≡ tree.Nil = layered t _ e ∙ rolls-Nil in
        ap (tail_at one) (ap (λ u. packed_of u ++ rest) is ∙ ap (λ b. b ++ rest) packed-Nil) ∙ (nil_tail one rest ∙ ap (λ (u : TermTree). Some (u, rest)) (sym is))
    go (layer.List parts tail) e = absurd (let clash : true ≡ false = sym (ap is_list e) ∙ no_list in cc)
    go l e = other l e refl refl refl

list_some : (parts : List TermTree) (tail : TermTree) → IsTrue (is_list_of parts tail) → (1 ≤ length parts) × (is_list (out-TermTree tail) ≡ false)
list_some [] tail is = absurd cc
list_some (part ∷ parts) tail is = (omega arith, not-true _ is)

list_again : (one : List ℕ → Read TermTree) (parts : List TermTree) (tail : TermTree) (rest : List ℕ) → length parts < 2 ^ 32 → IsTrue (is_list_of parts tail)
    → many_at one (length parts) [] (all_packed_of parts ++ (packed_of tail ++ rest)) ≡ Some (parts, packed_of tail ++ rest)
    → tail_at one (packed_of tail ++ rest) ≡ Some (tail, rest)
    → list_at one ((count_bytes parts ++ (all_packed_of parts ++ packed_of tail)) ++ rest) ≡ Some (tree.List parts tail, rest)
unfolding list_at
list_again one parts tail rest few is many end =
    let known = list_some parts tail is in
    let some : eqb (length parts) 0 ≡ false = ne_eqb _ _ (λ e. absurd (omega (arith, known.0, e))) in
    let behind : List ℕ = all_packed_of parts ++ (packed_of tail ++ rest) in
    let start : (count_bytes parts ++ (all_packed_of parts ++ packed_of tail)) ++ rest ≡ to_be_bytes w32 (length parts) ++ behind =
    append_assoc (count_bytes parts) (all_packed_of parts ++ packed_of tail) rest ∙ ap (λ b. count_bytes parts ++ b) (append_assoc (all_packed_of parts) (packed_of tail) rest) in
    let ended : List TermTree × List ℕ → Read TermTree = λ ts. tail_at one ts.1 >>= λ t. Some (list_with_tail ts.0 t.0, t.1) in
    ap (λ r. r >>= λ n. cond (eqb n.0 0) None (many_at one n.0 [] n.1 >>= ended)) (ap count_at start ∙ count_again (length parts) behind few)
    ∙ (ap (λ b. cond b None (many_at one (length parts) [] behind >>= ended)) some
    ∙ (ap (λ r. r >>= ended) many
    ∙ (ap (λ r. r >>= λ t. Some (list_with_tail parts t.0, t.1)) end
    ∙ ap (λ (t : TermTree). Some (t, rest)) (list_made parts tail known.0 known.1))))

-- ---- tuples, maps and closures

tuple_again : (one : List ℕ → Read TermTree) (parts : List TermTree) (rest : List ℕ) → length parts < 2 ^ 32
    → many_at one (length parts) [] (all_packed_of parts ++ rest) ≡ Some (parts, rest)
    → tuple_at one ((count_bytes parts ++ all_packed_of parts) ++ rest) ≡ Some (tree.Tuple parts, rest)
unfolding tuple_at
tuple_again one parts rest few many =
    let made : List TermTree × List ℕ → Read TermTree = λ ts. Some (tree.Tuple ts.0, ts.1) in
    ap (λ r. r >>= λ n. many_at one n.0 [] n.1 >>= made) (ap count_at (append_assoc (count_bytes parts) (all_packed_of parts) rest) ∙ count_again (length parts) (all_packed_of parts ++ rest) few)
    ∙ ap (λ r. r >>= made) many

map_again : (one : List ℕ → Read TermTree) (pairs : TermPairs) (rest : List ℕ) → length pairs < 2 ^ 32
    → pairs_at one (length pairs) [] (pairs_packed_of pairs ++ rest) ≡ Some (pairs, rest)
    → map_at one ((count_bytes pairs ++ pairs_packed_of pairs) ++ rest) ≡ Some (tree.Map pairs, rest)
unfolding map_at
map_again one pairs rest few many =
    let made : TermPairs × List ℕ → Read TermTree = λ ps. Some (tree.Map ps.0, ps.1) in
    ap (λ r. r >>= λ n. pairs_at one n.0 [] n.1 >>= made) (ap count_at (append_assoc (count_bytes pairs) (pairs_packed_of pairs) rest) ∙ count_again (length pairs) (pairs_packed_of pairs ++ rest) few)
    ∙ ap (λ r. r >>= made) many

closure_again : (one : List ℕ → Read TermTree) (origin : Origin) (env : List TermTree) (rest : List ℕ) → is_origin origin ≡ true → length env ≤ origin.arity
    → many_at one (length env) [] (all_packed_of env ++ rest) ≡ Some (env, rest)
    → closure_at one ((short_text origin.module ++ (short_text origin.name ++ (origin.arity ∷ length env ∷ all_packed_of env))) ++ rest) ≡ Some (tree.Closure origin env, rest)
unfolding closure_at
closure_again one origin env rest is few many =
    let behind : List ℕ = length env ∷ (all_packed_of env ++ rest) in
    let start = append_assoc (short_text origin.module) (short_text origin.name ++ (origin.arity ∷ length env ∷ all_packed_of env)) rest
    ∙ ap (λ b. short_text origin.module ++ b) (append_assoc (short_text origin.name) (origin.arity ∷ length env ∷ all_packed_of env) rest) in
    let made : Origin → List TermTree × List ℕ → Read TermTree = λ o ts. Some (tree.Closure o ts.0, ts.1) in
    let room : ltb origin.arity (length env) ≡ false = le-ltb _ _ few in
    ap (λ r. r >>= λ o. first_at o.1 >>= λ n. cond (ltb o.0.arity n.0) None (many_at one n.0 [] n.1 >>= made o.0)) (ap origin_at start ∙ origin_again origin behind is)
    ∙ (ap (λ b. cond b None (many_at one (length env) [] (all_packed_of env ++ rest) >>= made origin)) room ∙ ap (λ r. r >>= made origin) many)

-- ---- behind the tag

flat_by_1 : (depth : ℕ) (bytes : List ℕ) → term_at depth (1 ∷ bytes) ≡ (integer_at bytes >>= λ n. Some (tree.Int n.0, n.1))
unfolding term_at deep_at flat_at
flat_by_1 zero bytes = refl
flat_by_1 (suc depth) bytes = refl

flat_by_2 : (depth : ℕ) (bytes : List ℕ) → term_at depth (2 ∷ bytes) ≡ (text_at bytes >>= λ text. Some (tree.Atom text.0, text.1))
unfolding term_at deep_at flat_at
flat_by_2 zero bytes = refl
flat_by_2 (suc depth) bytes = refl

flat_by_3 : (depth : ℕ) (bytes : List ℕ) → term_at depth (3 ∷ bytes) ≡ (binary_at bytes >>= λ text. Some (tree.Bin text.0, text.1))
unfolding term_at deep_at flat_at
flat_by_3 zero bytes = refl
flat_by_3 (suc depth) bytes = refl

deep_by_4 : (depth : ℕ) (bytes : List ℕ) → term_at (suc depth) (4 ∷ bytes) ≡ Some (tree.Nil, bytes)
unfolding term_at deep_at
deep_by_4 depth bytes = refl

deep_by_5 : (depth : ℕ) (bytes : List ℕ) → term_at (suc depth) (5 ∷ bytes) ≡ list_at (term_at depth) bytes
unfolding term_at deep_at
deep_by_5 depth bytes = refl

deep_by_6 : (depth : ℕ) (bytes : List ℕ) → term_at (suc depth) (6 ∷ bytes) ≡ tuple_at (term_at depth) bytes
unfolding term_at deep_at
deep_by_6 depth bytes = refl

deep_by_7 : (depth : ℕ) (bytes : List ℕ) → term_at (suc depth) (7 ∷ bytes) ≡ map_at (term_at depth) bytes
unfolding term_at deep_at
deep_by_7 depth bytes = refl

deep_by_8 : (depth : ℕ) (bytes : List ℕ) → term_at (suc depth) (8 ∷ bytes) ≡ closure_at (term_at depth) bytes
unfolding term_at deep_at
deep_by_8 depth bytes = refl

-- the bytes of a term, with what is behind them
spelled : (depth : ℕ) (t : TermTree) (text rest : List ℕ) → packed_of t ≡ text → term_at depth (packed_of t ++ rest) ≡ term_at depth (text ++ rest)
spelled depth t text rest is = ap (λ b. term_at depth (b ++ rest)) is

-- ---- any term

again_Int : (n : ℤ) → Again (tree.Int n)
again_Int n depth rest fits narrow shallow =
    spelled depth (tree.Int n) (1 ∷ integer_len n ∷ integer_bytes n) rest (packed-Int n)
    ∙ (flat_by_1 depth (integer_len n ∷ (integer_bytes n ++ rest))
    ∙ ap (λ r. r >>= λ x. Some (tree.Int x.0, x.1)) (integer_again n rest (holds (fits_128 n) (sym (faults-Int n) ∙ fits))))

again_Atom : (text : List ℕ) → Again (tree.Atom text)
again_Atom text depth rest fits narrow shallow =
    spelled depth (tree.Atom text) (2 ∷ short_text text) rest (packed-Atom text)
    ∙ (flat_by_2 depth (short_text text ++ rest)
    ∙ ap (λ r. r >>= λ x. Some (tree.Atom x.0, x.1)) (text_again text rest (holds (is_atom_text text) (sym (faults-Atom text) ∙ fits))))

again_Bin : (bytes : List ℕ) → Again (tree.Bin bytes)
again_Bin bytes depth rest fits narrow shallow =
    spelled depth (tree.Bin bytes) (3 ∷ (count_bytes bytes ++ bytes)) rest (packed-Bin bytes)
    ∙ (flat_by_3 depth ((count_bytes bytes ++ bytes) ++ rest)
    ∙ ap (λ r. r >>= λ x. Some (tree.Bin x.0, x.1)) (ap binary_at (append_assoc (count_bytes bytes) bytes rest) ∙ binary_again bytes rest (omega (arith, narrow, width-Bin bytes))))

again_Nil : Again tree.Nil
again_Nil zero rest fits narrow shallow = absurd (omega (arith, shallow, depth-Nil))
again_Nil (suc depth) rest fits narrow shallow = spelled (suc depth) tree.Nil (4 ∷ []) rest packed-Nil ∙ deep_by_4 depth rest

again_List : (xs : List TermTree) (t : TermTree) → Each Again xs → Again t → Again (tree.List xs t)
again_List xs t each again zero rest fits narrow shallow = absurd (omega (arith, shallow, depth-List xs t))
again_List xs t each again (suc depth) rest fits narrow shallow =
    let wide = width-List xs t in
    let deep = depth-List xs t in
    let is = ends_list xs t fits in
    let many = many_again depth xs each (parts_of_list xs t fits) (omega (arith, narrow, wide)) (omega (arith, shallow, deep)) [] (packed_of t ++ rest) in
    let end = tail_again depth t again (tail_of_list xs t fits) (omega (arith, narrow, wide)) (omega (arith, shallow, deep)) (list_some xs t is).1 rest in
    spelled (suc depth) (tree.List xs t) (5 ∷ (count_bytes xs ++ (all_packed_of xs ++ packed_of t))) rest (packed-List xs t)
    ∙ (deep_by_5 depth ((count_bytes xs ++ (all_packed_of xs ++ packed_of t)) ++ rest)
    ∙ list_again (term_at depth) xs t rest (omega (arith, narrow, wide)) is many end)

again_Tuple : (xs : List TermTree) → Each Again xs → Again (tree.Tuple xs)
again_Tuple xs each zero rest fits narrow shallow = absurd (omega (arith, shallow, depth-Tuple xs))
again_Tuple xs each (suc depth) rest fits narrow shallow =
    let wide = width-Tuple xs in
    let deep = depth-Tuple xs in
    let many = many_again depth xs each (parts_of_tuple xs fits) (omega (arith, narrow, wide)) (omega (arith, shallow, deep)) [] rest in
    spelled (suc depth) (tree.Tuple xs) (6 ∷ (count_bytes xs ++ all_packed_of xs)) rest (packed-Tuple xs)
    ∙ (deep_by_6 depth ((count_bytes xs ++ all_packed_of xs) ++ rest) ∙ tuple_again (term_at depth) xs rest (omega (arith, narrow, wide)) many)

again_Map : (ps : TermPairs) → Each (OfBoth Again) ps → Again (tree.Map ps)
again_Map ps each zero rest fits narrow shallow = absurd (omega (arith, shallow, depth-Map ps))
again_Map ps each (suc depth) rest fits narrow shallow =
    let wide = width-Map ps in
    let deep = depth-Map ps in
    let are : ArePairs ps = pairs_of_map ps fits in
    let none : sum (map pair_faults ps) ≡ 0 = omega (arith, are) in
    let many = pairs_again depth ps each none (omega (arith, narrow, wide)) (omega (arith, shallow, deep)) [] rest (keys_rise_in ps are) in
    spelled (suc depth) (tree.Map ps) (7 ∷ (count_bytes ps ++ pairs_packed_of ps)) rest (packed-Map ps)
    ∙ (deep_by_7 depth ((count_bytes ps ++ pairs_packed_of ps) ++ rest) ∙ map_again (term_at depth) ps rest (omega (arith, narrow, wide)) many)

again_Closure : (origin : Origin) (xs : List TermTree) → Each Again xs → Again (tree.Closure origin xs)
again_Closure origin xs each zero rest fits narrow shallow = absurd (omega (arith, shallow, depth-Closure origin xs))
again_Closure origin xs each (suc depth) rest fits narrow shallow =
    let wide = width-Closure origin xs in
    let deep = depth-Closure origin xs in
    let both = and_parts (is_origin origin) (leb (length xs) origin.arity) (origin_of_closure origin xs fits) in
    let many = many_again depth xs each (parts_of_closure origin xs fits) (omega (arith, narrow, wide)) (omega (arith, shallow, deep)) [] rest in
    let text : List ℕ = short_text origin.module ++ (short_text origin.name ++ (origin.arity ∷ length xs ∷ all_packed_of xs)) in
    spelled (suc depth) (tree.Closure origin xs) (8 ∷ text) rest (packed-Closure origin xs)
    ∙ (deep_by_8 depth (text ++ rest) ∙ closure_again (term_at depth) origin xs rest both.0 (leb-true _ _ both.1) many)

pub term_again : (t : TermTree) → Again t
term_again = by_parts Again record {
  at_int = again_Int;
  at_atom = again_Atom;
  at_bin = again_Bin;
  at_nil = again_Nil;
  at_list = again_List;
  at_tuple = again_Tuple;
  at_map = again_Map;
  at_closure = again_Closure;
}
