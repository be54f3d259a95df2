-- What each definition over terms says of each variant.
pub use Rattle.kh_term.specs.Lemmas.Layers.{joined, faults-Int, faults-Atom, faults-Bin, faults-Nil, faults-List, faults-Tuple, faults-Map, faults-Closure}
use Rattle.kh_term.specs.Lemmas.Layers.{results, length_beside}
use Rattle.std.proofs.lemmas.List.Sums.{sum-map, sum_by-drop_more}
use Rattle.std.proofs.Common.{true, false, arith, add-one, drop-cons, ◌<◌, drop, get_or, ◌≡◌, ℕ, suc, ◌+◌, ◌/◌, max, ◌&&◌, ◌||◌, Bool, nat_le, if◌then◌else◌, List, [], ◌∷◌, ◌++◌, length, map, sum, refl, ap, sym, ◌∙◌, ℤ}
use Rattle.std.specs.List.{flat_map, list_any}
use Rattle.std.specs.Int.{to_be_bytes, w32}
use Rattle.kh_term.specs.declared.name.Origin.{Origin}
use Rattle.kh_term.specs.declared.tree.TermTree.{TermTree, out-TermTree}
use Rattle.kh_term.specs.declared.tree.TermTree.TheVariants as tree
use Rattle.kh_term.specs.declared.tree.TermTree.TheVariants.{outs-Int, outs-Atom, outs-Bin, outs-Nil, outs-List, outs-Tuple, outs-Map, outs-Closure, rolls-Int, rolls-Atom, rolls-Bin, rolls-Nil, rolls-List, rolls-Tuple, rolls-Map, rolls-Closure}
use Rattle.kh_term.specs.declared.tree.TermTree.TheOpen.{TermTree-F}
use Rattle.kh_term.specs.declared.tree.TermTree.TheOpen as layer
use Rattle.kh_term.specs.declared.tree.TermTree.TheFolds.{fold-roll-TermTree, para-roll-TermTree}
use Rattle.kh_term.specs.Text.{is_atom_text, are_bytes}
use Rattle.kh_term.specs.WellFormed.{faults_of, fault_step, fault_unless, fits_128, keys_rise, is_list_of, is_origin}
use Rattle.kh_term.specs.Size.{size_of, size_step, sizes_of, pair_sizes_of, depth_of, depth_step, greatest, is_nil, width_of, width_step}
use Rattle.kh_term.specs.Limits.{holds_closure, closure_step}
use Rattle.kh_term.specs.Packed.{packed_of, packed_step, all_packed_of, pairs_packed_of, integer_len, integer_bytes, short_text, count_bytes}

-- the pieces of the mapped parts are the pieces of the parts
pieces : {A B : Type 0} (f : A → B) (g : B → List ℕ) (xs : List A) → flat_map g (map f xs) ≡ flat_map (λ x. g (f x)) xs
pieces f g [] = refl
pieces f g (x ∷ xs) = ap (λ ys. g (f x) ++ ys) (pieces f g xs)

-- whether a mapped part passes is whether a part does
any_joined : {A B : Type 0} (f : A → B) (g : B → Bool) (xs : List A) → list_any g (map f xs) ≡ list_any (λ x. g (f x)) xs
any_joined f g [] = refl
any_joined f g (x ∷ xs) = ap (λ b. g (f x) || b) (any_joined f g xs)

-- ---- size

pub size-Int : (n : ℤ) → size_of (tree.Int n) ≡ 1
size-Int n = ap size_of (sym (rolls-Int n)) ∙ fold-roll-TermTree ℕ size_step (layer.Int n)

pub size-Atom : (text : List ℕ) → size_of (tree.Atom text) ≡ 1
size-Atom text = ap size_of (sym (rolls-Atom text)) ∙ fold-roll-TermTree ℕ size_step (layer.Atom text)

pub size-Bin : (bytes : List ℕ) → size_of (tree.Bin bytes) ≡ 1 + (length bytes + 7) / 8
size-Bin bytes = ap size_of (sym (rolls-Bin bytes)) ∙ fold-roll-TermTree ℕ size_step (layer.Bin bytes)

pub size-Nil : size_of tree.Nil ≡ 1
size-Nil = ap size_of (sym rolls-Nil) ∙ fold-roll-TermTree ℕ size_step layer.Nil

pub size-List : (parts : List TermTree) (tail : TermTree) → size_of (tree.List parts tail) ≡ length parts + sizes_of parts + size_of tail
size-List parts tail =
    ap size_of (sym (rolls-List parts tail)) ∙ (fold-roll-TermTree ℕ size_step (layer.List parts tail)
    ∙ (λ i. length_beside size_of parts i + sizes_of parts + size_of tail))

pub size-Tuple : (parts : List TermTree) → size_of (tree.Tuple parts) ≡ 1 + sizes_of parts
size-Tuple parts = ap size_of (sym (rolls-Tuple parts)) ∙ fold-roll-TermTree ℕ size_step (layer.Tuple parts)

pub size-Map : (pairs : List (TermTree × TermTree)) → size_of (tree.Map pairs) ≡ 1 + pair_sizes_of pairs
size-Map pairs =
    ap size_of (sym (rolls-Map pairs)) ∙ (fold-roll-TermTree ℕ size_step (layer.Map pairs)
    ∙ (λ i. 1 + sum (joined {A = TermTree × TermTree} {B = ℕ × ℕ} (λ p. (size_of p.0, size_of p.1)) (λ p. p.0 + p.1) pairs i)))

pub size-Closure : (origin : Origin) (env : List TermTree) → size_of (tree.Closure origin env) ≡ 1 + sizes_of env
size-Closure origin env = ap size_of (sym (rolls-Closure origin env)) ∙ fold-roll-TermTree ℕ size_step (layer.Closure origin env)

-- ---- depth

pub depth-Int : (n : ℤ) → depth_of (tree.Int n) ≡ 0
depth-Int n = ap depth_of (sym (rolls-Int n)) ∙ para-roll-TermTree ℕ depth_step (layer.Int n)

pub depth-Atom : (text : List ℕ) → depth_of (tree.Atom text) ≡ 0
depth-Atom text = ap depth_of (sym (rolls-Atom text)) ∙ para-roll-TermTree ℕ depth_step (layer.Atom text)

pub depth-Bin : (bytes : List ℕ) → depth_of (tree.Bin bytes) ≡ 0
depth-Bin bytes = ap depth_of (sym (rolls-Bin bytes)) ∙ para-roll-TermTree ℕ depth_step (layer.Bin bytes)

pub depth-Nil : depth_of tree.Nil ≡ 1
depth-Nil = ap depth_of (sym rolls-Nil) ∙ para-roll-TermTree ℕ depth_step layer.Nil

pub depth-List : (parts : List TermTree) (tail : TermTree) → depth_of (tree.List parts tail) ≡ 1 + max (greatest (map depth_of parts)) (if is_nil (out-TermTree tail) then 0 else depth_of tail)
depth-List parts tail =
    ap depth_of (sym (rolls-List parts tail)) ∙ (para-roll-TermTree ℕ depth_step (layer.List parts tail)
    ∙ (λ i. 1 + max (greatest (results depth_of parts i)) (if is_nil (out-TermTree tail) then 0 else depth_of tail)))

pub depth-Tuple : (parts : List TermTree) → depth_of (tree.Tuple parts) ≡ 1 + greatest (map depth_of parts)
depth-Tuple parts =
    ap depth_of (sym (rolls-Tuple parts)) ∙ (para-roll-TermTree ℕ depth_step (layer.Tuple parts) ∙ ap (λ ns. 1 + greatest ns) (results depth_of parts))

pub depth-Map : (pairs : List (TermTree × TermTree)) → depth_of (tree.Map pairs) ≡ 1 + greatest (map (λ p. max (depth_of p.0) (depth_of p.1)) pairs)
depth-Map pairs =
    ap depth_of (sym (rolls-Map pairs)) ∙ (para-roll-TermTree ℕ depth_step (layer.Map pairs)
    ∙ (λ i. 1 + greatest (joined {A = TermTree × TermTree} {B = (TermTree × ℕ) × (TermTree × ℕ)} (λ p. ((p.0, depth_of p.0), (p.1, depth_of p.1))) (λ p. max p.0.1 p.1.1) pairs i)))

pub depth-Closure : (origin : Origin) (env : List TermTree) → depth_of (tree.Closure origin env) ≡ 1 + greatest (map depth_of env)
depth-Closure origin env =
    ap depth_of (sym (rolls-Closure origin env)) ∙ (para-roll-TermTree ℕ depth_step (layer.Closure origin env) ∙ ap (λ ns. 1 + greatest ns) (results depth_of env))

-- ---- width

pub width-Int : (n : ℤ) → width_of (tree.Int n) ≡ 0
width-Int n = ap width_of (sym (rolls-Int n)) ∙ fold-roll-TermTree ℕ width_step (layer.Int n)

pub width-Atom : (text : List ℕ) → width_of (tree.Atom text) ≡ length text
width-Atom text = ap width_of (sym (rolls-Atom text)) ∙ fold-roll-TermTree ℕ width_step (layer.Atom text)

pub width-Bin : (bytes : List ℕ) → width_of (tree.Bin bytes) ≡ length bytes
width-Bin bytes = ap width_of (sym (rolls-Bin bytes)) ∙ fold-roll-TermTree ℕ width_step (layer.Bin bytes)

pub width-Nil : width_of tree.Nil ≡ 0
width-Nil = ap width_of (sym rolls-Nil) ∙ fold-roll-TermTree ℕ width_step layer.Nil

pub width-List : (parts : List TermTree) (tail : TermTree) → width_of (tree.List parts tail) ≡ max (length parts) (max (greatest (map width_of parts)) (width_of tail))
width-List parts tail =
    ap width_of (sym (rolls-List parts tail)) ∙ (fold-roll-TermTree ℕ width_step (layer.List parts tail)
    ∙ (λ i. max (length_beside width_of parts i) (max (greatest (map width_of parts)) (width_of tail))))

pub width-Tuple : (parts : List TermTree) → width_of (tree.Tuple parts) ≡ max (length parts) (greatest (map width_of parts))
width-Tuple parts =
    ap width_of (sym (rolls-Tuple parts)) ∙ (fold-roll-TermTree ℕ width_step (layer.Tuple parts) ∙ (λ i. max (length_beside width_of parts i) (greatest (map width_of parts))))

pub width-Map : (pairs : List (TermTree × TermTree)) → width_of (tree.Map pairs) ≡ max (length pairs) (greatest (map (λ p. max (width_of p.0) (width_of p.1)) pairs))
width-Map pairs =
    ap width_of (sym (rolls-Map pairs)) ∙ (fold-roll-TermTree ℕ width_step (layer.Map pairs)
    ∙ (λ i. max (length_beside {A = TermTree × TermTree} {B = ℕ × ℕ} (λ p. (width_of p.0, width_of p.1)) pairs i)
    (greatest (joined {A = TermTree × TermTree} {B = ℕ × ℕ} (λ p. (width_of p.0, width_of p.1)) (λ p. max p.0 p.1) pairs i))))

pub width-Closure : (origin : Origin) (env : List TermTree) → width_of (tree.Closure origin env) ≡ max (max (length origin.module) (length origin.name)) (max (length env) (greatest (map width_of env)))
width-Closure origin env =
    ap width_of (sym (rolls-Closure origin env)) ∙ (fold-roll-TermTree ℕ width_step (layer.Closure origin env) ∙ (λ i. max (max (length origin.module) (length origin.name)) (max (length_beside width_of env i) (greatest (map width_of env)))))

-- ---- packed bytes

pub packed-Int : (n : ℤ) → packed_of (tree.Int n) ≡ 1 ∷ integer_len n ∷ integer_bytes n
packed-Int n = ap packed_of (sym (rolls-Int n)) ∙ fold-roll-TermTree (List ℕ) packed_step (layer.Int n)

pub packed-Atom : (text : List ℕ) → packed_of (tree.Atom text) ≡ 2 ∷ short_text text
packed-Atom text = ap packed_of (sym (rolls-Atom text)) ∙ fold-roll-TermTree (List ℕ) packed_step (layer.Atom text)

pub packed-Bin : (bytes : List ℕ) → packed_of (tree.Bin bytes) ≡ 3 ∷ (count_bytes bytes ++ bytes)
packed-Bin bytes = ap packed_of (sym (rolls-Bin bytes)) ∙ fold-roll-TermTree (List ℕ) packed_step (layer.Bin bytes)

pub packed-Nil : packed_of tree.Nil ≡ 4 ∷ []
packed-Nil = ap packed_of (sym rolls-Nil) ∙ fold-roll-TermTree (List ℕ) packed_step layer.Nil

pub packed-List : (parts : List TermTree) (tail : TermTree) → packed_of (tree.List parts tail) ≡ 5 ∷ (count_bytes parts ++ (all_packed_of parts ++ packed_of tail))
packed-List parts tail =
    ap packed_of (sym (rolls-List parts tail)) ∙ (fold-roll-TermTree (List ℕ) packed_step (layer.List parts tail)
    ∙ (λ i. 5 ∷ (to_be_bytes w32 (length_beside packed_of parts i) ++ (pieces packed_of (λ p. p) parts i ++ packed_of tail))))

pub packed-Tuple : (parts : List TermTree) → packed_of (tree.Tuple parts) ≡ 6 ∷ (count_bytes parts ++ all_packed_of parts)
packed-Tuple parts =
    ap packed_of (sym (rolls-Tuple parts)) ∙ (fold-roll-TermTree (List ℕ) packed_step (layer.Tuple parts)
    ∙ (λ i. 6 ∷ (to_be_bytes w32 (length_beside packed_of parts i) ++ pieces packed_of (λ p. p) parts i)))

pub packed-Map : (pairs : List (TermTree × TermTree)) → packed_of (tree.Map pairs) ≡ 7 ∷ (count_bytes pairs ++ pairs_packed_of pairs)
packed-Map pairs =
    ap packed_of (sym (rolls-Map pairs)) ∙ (fold-roll-TermTree (List ℕ) packed_step (layer.Map pairs)
    ∙ (λ i. 7 ∷ (to_be_bytes w32 (length_beside {A = TermTree × TermTree} {B = List ℕ × List ℕ} (λ p. (packed_of p.0, packed_of p.1)) pairs i)
    ++ pieces {A = TermTree × TermTree} {B = List ℕ × List ℕ} (λ p. (packed_of p.0, packed_of p.1)) (λ p. p.0 ++ p.1) pairs i)))

pub packed-Closure : (origin : Origin) (env : List TermTree) → packed_of (tree.Closure origin env) ≡ 8 ∷ (short_text origin.module ++ (short_text origin.name ++ (origin.arity ∷ length env ∷ all_packed_of env)))
packed-Closure origin env =
    ap packed_of (sym (rolls-Closure origin env)) ∙ (fold-roll-TermTree (List ℕ) packed_step (layer.Closure origin env)
    ∙ (λ i. 8 ∷ (short_text origin.module ++ (short_text origin.name ++ (origin.arity ∷ length_beside packed_of env i ∷ pieces packed_of (λ p. p) env i)))))

-- ---- functions

pub holds-Int : (n : ℤ) → holds_closure (tree.Int n) ≡ false
holds-Int n = ap holds_closure (sym (rolls-Int n)) ∙ fold-roll-TermTree Bool closure_step (layer.Int n)

pub holds-Atom : (text : List ℕ) → holds_closure (tree.Atom text) ≡ false
holds-Atom text = ap holds_closure (sym (rolls-Atom text)) ∙ fold-roll-TermTree Bool closure_step (layer.Atom text)

pub holds-Bin : (bytes : List ℕ) → holds_closure (tree.Bin bytes) ≡ false
holds-Bin bytes = ap holds_closure (sym (rolls-Bin bytes)) ∙ fold-roll-TermTree Bool closure_step (layer.Bin bytes)

pub holds-Nil : holds_closure tree.Nil ≡ false
holds-Nil = ap holds_closure (sym rolls-Nil) ∙ fold-roll-TermTree Bool closure_step layer.Nil

pub holds-List : (parts : List TermTree) (tail : TermTree) → holds_closure (tree.List parts tail) ≡ (list_any holds_closure parts || holds_closure tail)
holds-List parts tail =
    ap holds_closure (sym (rolls-List parts tail)) ∙ (fold-roll-TermTree Bool closure_step (layer.List parts tail)
    ∙ ap (λ b. b || holds_closure tail) (any_joined holds_closure (λ b. b) parts))

pub holds-Tuple : (parts : List TermTree) → holds_closure (tree.Tuple parts) ≡ list_any holds_closure parts
holds-Tuple parts =
    ap holds_closure (sym (rolls-Tuple parts)) ∙ (fold-roll-TermTree Bool closure_step (layer.Tuple parts) ∙ any_joined holds_closure (λ b. b) parts)

pub holds-Map : (pairs : List (TermTree × TermTree)) → holds_closure (tree.Map pairs) ≡ list_any (λ p. holds_closure p.0 || holds_closure p.1) pairs
holds-Map pairs =
    ap holds_closure (sym (rolls-Map pairs)) ∙ (fold-roll-TermTree Bool closure_step (layer.Map pairs)
    ∙ any_joined {A = TermTree × TermTree} {B = Bool × Bool} (λ p. (holds_closure p.0, holds_closure p.1)) (λ p. p.0 || p.1) pairs)

pub holds-Closure : (origin : Origin) (env : List TermTree) → holds_closure (tree.Closure origin env) ≡ true
holds-Closure origin env = ap holds_closure (sym (rolls-Closure origin env)) ∙ fold-roll-TermTree Bool closure_step (layer.Closure origin env)

pub ruleset holds = (holds-Int, holds-Atom, holds-Bin, holds-Nil, holds-List, holds-Tuple, holds-Map, holds-Closure)

pub sizes-drop : (ts : List TermTree) (i : ℕ) (d : TermTree) → i < length ts → sizes_of (drop i ts) ≡ size_of (get_or ts i d) + sizes_of (drop (i + 1) ts)
sizes-drop ts i d h = sum-map size_of (drop i ts) ∙ (sum_by-drop_more size_of ts i d h ∙ ap (λ n. size_of (get_or ts i d) + n) (sym (sum-map size_of (drop (i + 1) ts))))

pub pair_sizes-drop : (ps : List (TermTree × TermTree)) (i : ℕ) (d : TermTree × TermTree) → i < length ps → pair_sizes_of (drop i ps) ≡ size_of (get_or ps i d).0 + size_of (get_or ps i d).1 + pair_sizes_of (drop (i + 1) ps)
pair_sizes-drop ps i d h =
    let f : (TermTree × TermTree) → ℕ = λ p. size_of p.0 + size_of p.1 in
    sum-map f (drop i ps) ∙ (sum_by-drop_more f ps i d h ∙ ap (λ n. f (get_or ps i d) + n) (sym (sum-map f (drop (i + 1) ps))))

pub ruleset sizes = (size-Int, size-Atom, size-Bin, size-Nil, size-List, size-Tuple, size-Map, size-Closure, sizes-drop, pair_sizes-drop)

pub greatest-drop : {A : Type 0} (f : A → ℕ) (xs : List A) (i : ℕ) (d : A) → i < length xs → greatest (map f (drop i xs)) ≡ max (f (get_or xs i d)) (greatest (map f (drop (i + 1) xs)))
greatest-drop f xs i d h = rw (add-one, drop-cons xs i d h)

pub depths-drop : (ts : List TermTree) (i : ℕ) (d : TermTree) → i < length ts → greatest (map depth_of (drop i ts)) ≡ max (depth_of (get_or ts i d)) (greatest (map depth_of (drop (i + 1) ts)))
depths-drop = greatest-drop depth_of

pub pair_depths-drop : (ps : List (TermTree × TermTree)) (i : ℕ) (d : TermTree × TermTree) → i < length ps → greatest (map (λ p. max (depth_of p.0) (depth_of p.1)) (drop i ps)) ≡ max (max (depth_of (get_or ps i d).0) (depth_of (get_or ps i d).1)) (greatest (map (λ p. max (depth_of p.0) (depth_of p.1)) (drop (i + 1) ps)))
pair_depths-drop = greatest-drop (λ p. max (depth_of p.0) (depth_of p.1))

pub widths-drop : (ts : List TermTree) (i : ℕ) (d : TermTree) → i < length ts → greatest (map width_of (drop i ts)) ≡ max (width_of (get_or ts i d)) (greatest (map width_of (drop (i + 1) ts)))
widths-drop = greatest-drop width_of

pub pair_widths-drop : (ps : List (TermTree × TermTree)) (i : ℕ) (d : TermTree × TermTree) → i < length ps → greatest (map (λ p. max (width_of p.0) (width_of p.1)) (drop i ps)) ≡ max (max (width_of (get_or ps i d).0) (width_of (get_or ps i d).1)) (greatest (map (λ p. max (width_of p.0) (width_of p.1)) (drop (i + 1) ps)))
pair_widths-drop = greatest-drop (λ p. max (width_of p.0) (width_of p.1))

-- the parts of a term are less deep
pub deep-Tuple : (t : TermTree) (parts qs : List TermTree) (m : ℕ) → t ≡ tree.Tuple parts → qs ≡ parts → depth_of t < m → greatest (map depth_of qs) < m
deep-Tuple t parts qs m e k h = omega (arith, depth-Tuple parts, ap depth_of e, ap (λ ts. greatest (map depth_of ts)) k)

pub deep-Closure : (t : TermTree) (origin : Origin) (parts qs : List TermTree) (m : ℕ) → t ≡ tree.Closure origin parts → qs ≡ parts → depth_of t < m → greatest (map depth_of qs) < m
deep-Closure t origin parts qs m e k h = omega (arith, depth-Closure origin parts, ap depth_of e, ap (λ ts. greatest (map depth_of ts)) k)

pub deep-List : (t : TermTree) (parts qs : List TermTree) (tail : TermTree) (m : ℕ) → t ≡ tree.List parts tail → qs ≡ parts → depth_of t < m → greatest (map depth_of qs) < m
deep-List t parts qs tail m e k h = omega (arith, depth-List parts tail, ap depth_of e, ap (λ ts. greatest (map depth_of ts)) k)

pub deep-tail : (t : TermTree) (parts : List TermTree) (tail u v : TermTree) (m : ℕ) → t ≡ tree.List parts tail → u ≡ tail → v ≡ tail → false ≡ is_nil (out-TermTree u) → depth_of t < m → depth_of v < m
deep-tail t parts tail u v m e k l n h =
    omega (arith, ap depth_of e, ap depth_of l, depth-List parts tail ∙ ap (λ b. 1 + max (greatest (map depth_of parts)) (if b then 0 else depth_of tail)) (ap (λ x. is_nil (out-TermTree x)) (sym k) ∙ sym n))

pub deep-Map : (t : TermTree) (pairs qs : List (TermTree × TermTree)) (m : ℕ) → t ≡ tree.Map pairs → qs ≡ pairs → depth_of t < m → greatest (map (λ p. max (depth_of p.0) (depth_of p.1)) qs) < m
deep-Map t pairs qs m e k h = omega (arith, depth-Map pairs, ap depth_of e, ap (λ ps. greatest (map (λ p. max (depth_of p.0) (depth_of p.1)) ps)) k)

pub ruleset nils = (outs-Int, outs-Atom, outs-Bin, outs-Nil, outs-List, outs-Tuple, outs-Map, outs-Closure)

pub ruleset depths = (nils, depth-Int, depth-Atom, depth-Bin, depth-Nil, depth-List, depth-Tuple, depth-Map, depth-Closure, depths-drop, pair_depths-drop)

pub ruleset widths = (width-Int, width-Atom, width-Bin, width-Nil, width-List, width-Tuple, width-Map, width-Closure, widths-drop, pair_widths-drop)
