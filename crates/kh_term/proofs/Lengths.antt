-- How long packed bytes are.
use Rattle.std.proofs.Common.{◌≡◌, ◌<◌, ℕ, zero, suc, ◌+◌, List, ◌∷◌, ◌++◌, length, drop, get_or, refl, ap, ℤ, arith, add-one, drop-cons}
use Rattle.std.specs.List.{flat_map}
use Rattle.std.specs.Int.{bytes_high_first}
use Rattle.std.proofs.lemmas.List.{length-append}
use Rattle.kh_term.specs.declared.name.Origin.{Origin}
use Rattle.kh_term.specs.declared.tree.TermTree.{TermTree}
use Rattle.kh_term.specs.declared.tree.TermTree.TheVariants as tree
use Rattle.kh_term.specs.Packed.{packed_of, all_packed_of, pairs_packed_of, integer_len, integer_bytes, short_text, count_bytes}
use Rattle.kh_term.proofs.Layers.{packed-Int, packed-Atom, packed-Bin, packed-Nil, packed-List, packed-Tuple, packed-Map, packed-Closure}

pub length-high_first : (k n : ℕ) → length (bytes_high_first k n) ≡ k
length-high_first zero n = refl
length-high_first (suc k) n = ap suc (length-high_first k n)

pub length-count : {A : Type 0} (xs : List A) → length (count_bytes xs) ≡ 4
length-count xs = refl

pub length-integer : (z : ℤ) → length (integer_bytes z) ≡ integer_len z
length-integer z = length-high_first (integer_len z) _

pub length-Int : (z : ℤ) → length (packed_of (tree.Int z)) ≡ 2 + integer_len z
length-Int z = omega (arith, ap length (packed-Int z), length-integer z)

pub length-Atom : (text : List ℕ) → length (packed_of (tree.Atom text)) ≡ 2 + length text
length-Atom text = omega (arith, ap length (packed-Atom text))

pub length-Bin : (bytes : List ℕ) → length (packed_of (tree.Bin bytes)) ≡ 5 + length bytes
length-Bin bytes = omega (arith, ap length (packed-Bin bytes), length-append (count_bytes bytes) bytes)

pub length-Nil : length (packed_of tree.Nil) ≡ 1
length-Nil = ap length packed-Nil

pub length-List : (parts : List TermTree) (tail : TermTree) → length (packed_of (tree.List parts tail)) ≡ 5 + length (all_packed_of parts) + length (packed_of tail)
length-List parts tail = omega (arith, ap length (packed-List parts tail), length-append (count_bytes parts) (all_packed_of parts ++ packed_of tail), length-append (all_packed_of parts) (packed_of tail))

pub length-Tuple : (parts : List TermTree) → length (packed_of (tree.Tuple parts)) ≡ 5 + length (all_packed_of parts)
length-Tuple parts = omega (arith, ap length (packed-Tuple parts), length-append (count_bytes parts) (all_packed_of parts))

pub length-Map : (pairs : List (TermTree × TermTree)) → length (packed_of (tree.Map pairs)) ≡ 5 + length (pairs_packed_of pairs)
length-Map pairs = omega (arith, ap length (packed-Map pairs), length-append (count_bytes pairs) (pairs_packed_of pairs))

pub length-Closure : (origin : Origin) (env : List TermTree) → length (packed_of (tree.Closure origin env)) ≡ 5 + (length origin.module + length origin.name) + length (all_packed_of env)
length-Closure origin env =
    let behind : List ℕ = origin.arity ∷ length env ∷ all_packed_of env in
    omega (arith, ap length (packed-Closure origin env), length-append (short_text origin.module) (short_text origin.name ++ behind), length-append (short_text origin.name) behind)

pieces-drop : {A : Type 0} (f : A → List ℕ) (xs : List A) (i : ℕ) (d : A) → i < length xs → length (flat_map f (drop i xs)) ≡ length (f (get_or xs i d)) + length (flat_map f (drop (i + 1) xs))
pieces-drop f xs i d h = rw (add-one, drop-cons xs i d h) (length-append (f (get_or xs i d)) (flat_map f (drop (suc i) xs)))

pub lengths-drop : (ts : List TermTree) (i : ℕ) (d : TermTree) → i < length ts → length (all_packed_of (drop i ts)) ≡ length (packed_of (get_or ts i d)) + length (all_packed_of (drop (i + 1) ts))
lengths-drop = pieces-drop packed_of

pub pair_lengths-drop : (ps : List (TermTree × TermTree)) (i : ℕ) (d : TermTree × TermTree) → i < length ps → length (pairs_packed_of (drop i ps)) ≡ length (packed_of (get_or ps i d).0) + length (packed_of (get_or ps i d).1) + length (pairs_packed_of (drop (i + 1) ps))
pair_lengths-drop ps i d h = omega (arith, pieces-drop (λ p. packed_of p.0 ++ packed_of p.1) ps i d h, length-append (packed_of (get_or ps i d).0) (packed_of (get_or ps i d).1))

pub ruleset lengths = (length-Int, length-Atom, length-Bin, length-Nil, length-List, length-Tuple, length-Map, length-Closure, lengths-drop, pair_lengths-drop)

-- a value is no longer than what is left
pub value_len_fits : (ps : List (TermTree × TermTree)) (i all most : ℕ) (p : TermTree × TermTree) → i < length ps → p ≡ get_or ps i p → all + length (pairs_packed_of (drop i ps)) ≡ length (pairs_packed_of ps) → length (pairs_packed_of ps) < most → length (packed_of p.1) < most
value_len_fits ps i all most p h e k small = omega (arith, pair_lengths-drop ps i p h, ap (λ q. length (packed_of q.1)) e)

-- the parts of a term are no longer
pub short-Tuple : (t : TermTree) (parts qs : List TermTree) (m : ℕ) → t ≡ tree.Tuple parts → qs ≡ parts → length (packed_of t) < m → length (all_packed_of qs) < m
short-Tuple t parts qs m e k h = omega (arith, length-Tuple parts, ap (λ x. length (packed_of x)) e, ap (λ ts. length (all_packed_of ts)) k)

pub short-Closure : (t : TermTree) (origin : Origin) (parts qs : List TermTree) (m : ℕ) → t ≡ tree.Closure origin parts → qs ≡ parts → length (packed_of t) < m → length (all_packed_of qs) < m
short-Closure t origin parts qs m e k h = omega (arith, length-Closure origin parts, ap (λ x. length (packed_of x)) e, ap (λ ts. length (all_packed_of ts)) k)

pub short-List : (t : TermTree) (parts qs : List TermTree) (tail : TermTree) (m : ℕ) → t ≡ tree.List parts tail → qs ≡ parts → length (packed_of t) < m → length (all_packed_of qs) < m
short-List t parts qs tail m e k h = omega (arith, length-List parts tail, ap (λ x. length (packed_of x)) e, ap (λ ts. length (all_packed_of ts)) k)

pub short-tail : (t : TermTree) (parts : List TermTree) (tail u : TermTree) (m : ℕ) → t ≡ tree.List parts tail → u ≡ tail → length (packed_of t) < m → length (packed_of u) < m
short-tail t parts tail u m e k h = omega (arith, length-List parts tail, ap (λ x. length (packed_of x)) e, ap (λ x. length (packed_of x)) k)

pub short-Map : (t : TermTree) (pairs qs : List (TermTree × TermTree)) (m : ℕ) → t ≡ tree.Map pairs → qs ≡ pairs → length (packed_of t) < m → length (pairs_packed_of qs) < m
short-Map t pairs qs m e k h = omega (arith, length-Map pairs, ap (λ x. length (packed_of x)) e, ap (λ ps. length (pairs_packed_of ps)) k)

-- nor is a key
pub key_len_fits : (ps : List (TermTree × TermTree)) (i all most : ℕ) (p : TermTree × TermTree) → i < length ps → p ≡ get_or ps i p → all + length (pairs_packed_of (drop i ps)) ≡ length (pairs_packed_of ps) → length (pairs_packed_of ps) < most → length (packed_of p.0) < most
key_len_fits ps i all most p h e k small = omega (arith, pair_lengths-drop ps i p h, ap (λ q. length (packed_of q.0)) e)
