-- The parts of a term, and its packed bytes from those of its parts.
use Rattle.std.proofs.Common.{◌≡◌, ◌<◌, ℕ, zero, suc, ◌+◌, ◌^◌, max, List, [], ◌∷◌, ◌++◌, length, map, sum, get_or, nat_le, nat_lt, ◌&&◌, ap, sym, subst, ◌∙◌, append_assoc, arith, ℤ, SFits, to_z, of_z}
use Rattle.std.specs.Int.{to_be_bytes, w32, w128}
use Rattle.std.proofs.lemmas.Bool.{leb-true, and_parts}
use Rattle.std.proofs.lemmas.Int.{to_z-of_z}
use borrow.Author.Tests.{ltb-true}
use Rattle.kh_term.specs.declared.name.Origin.{Origin}
use Rattle.kh_term.specs.declared.tree.TermTree.{TermTree}
use Rattle.kh_term.specs.declared.tree.TermTree.TheVariants as tree
use Rattle.kh_term.specs.Packed.{packed_of, all_packed_of, pairs_packed_of, integer_len, integer_bytes, short_text}
use Rattle.kh_term.specs.Size.{width_of, greatest}
use Rattle.kh_term.specs.WellFormed.{IsTerm, AreTerms, ArePairs, faults_of, is_origin}
use Rattle.kh_term.specs.Text.{is_atom_text}
use Rattle.kh_term.specs.Lemmas.Fits.{parts_of_tuple, parts_of_list, tail_of_list, parts_of_closure, pairs_of_map, origin_of_closure, sum-cons}
use Rattle.kh_term.proofs.Layers.{width-Bin, width-List, width-Tuple, width-Map, width-Closure, packed-Int, packed-Atom, packed-Bin, packed-List, packed-Tuple, packed-Map, packed-Closure}

-- the terms can be written: each is one, and no count passes four bytes
abbrev pub CanWrite : TermTree → Type 0
CanWrite t = IsTerm t × (width_of t < 2 ^ 32)

abbrev pub CanWriteAll : List TermTree → Type 0
CanWriteAll ts = AreTerms ts × (greatest (map width_of ts) < 2 ^ 32)

abbrev pub CanWritePairs : List (TermTree × TermTree) → Type 0
CanWritePairs ps = ArePairs ps × (greatest (map (λ p. max (width_of p.0) (width_of p.1)) ps) < 2 ^ 32)

-- ---- counts

pub count-Bin : (t : TermTree) (bytes shown : List ℕ) → t ≡ tree.Bin bytes → shown ≡ bytes → width_of t < 2 ^ 32 → length shown < 2 ^ 32
count-Bin t bytes shown e k h = omega (arith, ap width_of e, width-Bin bytes, ap (λ (b : List ℕ). length b) k)

pub count-List : (t : TermTree) (parts : List TermTree) (tail : TermTree) (n : ℕ) → t ≡ tree.List parts tail → n ≡ length parts → width_of t < 2 ^ 32 → n < 2 ^ 32
count-List t parts tail n e k h = omega (arith, ap width_of e, width-List parts tail)

pub count-Tuple : (t : TermTree) (parts : List TermTree) (n : ℕ) → t ≡ tree.Tuple parts → n ≡ length parts → width_of t < 2 ^ 32 → n < 2 ^ 32
count-Tuple t parts n e k h = omega (arith, ap width_of e, width-Tuple parts)

pub count-Map : (t : TermTree) (pairs : List (TermTree × TermTree)) (n : ℕ) → t ≡ tree.Map pairs → n ≡ length pairs → width_of t < 2 ^ 32 → n < 2 ^ 32
count-Map t pairs n e k h = omega (arith, ap width_of e, width-Map pairs)

pub count-Closure : (t : TermTree) (origin : Origin) (env : List TermTree) (n : ℕ) → t ≡ tree.Closure origin env → n ≡ length env → IsTerm t → n < 256
count-Closure t origin env n e k h =
    let both = and_parts (is_origin origin) (nat_le (length env) origin.arity) (origin_of_closure origin env (subst IsTerm e h)) in
    let home = and_parts (is_atom_text origin.module && is_atom_text origin.name) (nat_lt origin.arity 256) both.0 in
    let room = leb-true (length env) origin.arity both.1 in
    let arity = ltb-true origin.arity 256 home.1 in
    omega (arith, room, arity)

-- ---- parts

pub parts-Tuple : (t : TermTree) (parts shown : List TermTree) → t ≡ tree.Tuple parts → shown ≡ parts → IsTerm t → width_of t < 2 ^ 32 → CanWriteAll shown
parts-Tuple t parts shown e k h w =
    subst CanWriteAll (sym k) (parts_of_tuple parts (subst IsTerm e h), omega (arith, ap width_of e, width-Tuple parts))

pub parts-List : (t : TermTree) (parts shown : List TermTree) (tail : TermTree) → t ≡ tree.List parts tail → shown ≡ parts → IsTerm t → width_of t < 2 ^ 32 → CanWriteAll shown
parts-List t parts shown tail e k h w =
    subst CanWriteAll (sym k) (parts_of_list parts tail (subst IsTerm e h), omega (arith, ap width_of e, width-List parts tail))

pub tail-List : (t : TermTree) (parts : List TermTree) (tail shown : TermTree) → t ≡ tree.List parts tail → shown ≡ tail → IsTerm t → width_of t < 2 ^ 32 → CanWrite shown
tail-List t parts tail shown e k h w =
    subst CanWrite (sym k) (tail_of_list parts tail (subst IsTerm e h), omega (arith, ap width_of e, width-List parts tail))

pub parts-Closure : (t : TermTree) (origin : Origin) (env shown : List TermTree) → t ≡ tree.Closure origin env → shown ≡ env → IsTerm t → width_of t < 2 ^ 32 → CanWriteAll shown
parts-Closure t origin env shown e k h w =
    subst CanWriteAll (sym k) (parts_of_closure origin env (subst IsTerm e h), omega (arith, ap width_of e, width-Closure origin env))

pub pairs-Map : (t : TermTree) (pairs shown : List (TermTree × TermTree)) → t ≡ tree.Map pairs → shown ≡ pairs → IsTerm t → width_of t < 2 ^ 32 → CanWritePairs shown
pairs-Map t pairs shown e k h w =
    subst CanWritePairs (sym k) (pairs_of_map pairs (subst IsTerm e h), omega (arith, ap width_of e, width-Map pairs))

-- each of several can be written
one_of : (ts : List TermTree) (i : ℕ) (d : TermTree) → i < length ts → CanWriteAll ts → CanWrite (get_or ts i d)
one_of [] i d within all = absurd (omega arith)
one_of (t ∷ ts) zero d within all =
    let split = sum-cons (faults_of t) (map faults_of ts) in (omega (arith, all.0, split), omega (arith, all.1))
one_of (t ∷ ts) (suc i) d within all =
    let split = sum-cons (faults_of t) (map faults_of ts) in
    one_of ts i d (omega arith) (omega (arith, all.0, split), omega (arith, all.1))

pub one_part : (ts : List TermTree) (i : ℕ) (t : TermTree) → i < length ts → t ≡ get_or ts i t → AreTerms ts → greatest (map width_of ts) < 2 ^ 32 → CanWrite t
one_part ts i t within is fit narrow = subst CanWrite (sym is) (one_of ts i t within (fit, narrow))

abbrev pair_faults : TermTree × TermTree → ℕ
pair_faults p = faults_of p.0 + faults_of p.1

abbrev pair_width : TermTree × TermTree → ℕ
pair_width p = max (width_of p.0) (width_of p.1)

abbrev CanWriteBoth : TermTree × TermTree → Type 0
CanWriteBoth p = CanWrite p.0 × CanWrite p.1

both_of : (ps : List (TermTree × TermTree)) (i : ℕ) (d : TermTree × TermTree) → i < length ps → sum (map pair_faults ps) ≡ 0 → greatest (map pair_width ps) < 2 ^ 32 → CanWriteBoth (get_or ps i d)
both_of [] i d within fit narrow = absurd (omega arith)
both_of (p ∷ ps) zero d within fit narrow =
    let split = sum-cons (pair_faults p) (map pair_faults ps) in
    ((omega (arith, fit, split), omega (arith, narrow)), (omega (arith, fit, split), omega (arith, narrow)))
both_of (p ∷ ps) (suc i) d within fit narrow =
    let split = sum-cons (pair_faults p) (map pair_faults ps) in
    both_of ps i d (omega arith) (omega (arith, fit, split)) (omega (arith, narrow))

pub one_pair : (ps : List (TermTree × TermTree)) (i : ℕ) (p : TermTree × TermTree) → i < length ps → p ≡ get_or ps i p → ArePairs ps → greatest (map (λ q. max (width_of q.0) (width_of q.1)) ps) < 2 ^ 32 → CanWrite p.0 × CanWrite p.1
one_pair ps i p within is fit narrow = subst CanWriteBoth (sym is) (both_of ps i p within (omega (arith, fit)) narrow)

-- ---- packed bytes

pub spelled-Int : (t : TermTree) (n : ℤ) → t ≡ tree.Int n → SFits w128 n → (1 ∷ []) ++ (integer_len (to_z w128 (of_z w128 n)) ∷ integer_bytes (to_z w128 (of_z w128 n))) ≡ packed_of t
spelled-Int t n e fits =
    (λ i. 1 ∷ integer_len (to_z-of_z w128 n fits i) ∷ integer_bytes (to_z-of_z w128 n fits i)) ∙ (sym (packed-Int n) ∙ ap packed_of (sym e))

pub spelled-Atom : (t : TermTree) (text shown : List ℕ) → t ≡ tree.Atom text → shown ≡ text → (2 ∷ []) ++ short_text shown ≡ packed_of t
spelled-Atom t text shown e k = (λ i. 2 ∷ short_text (k i)) ∙ (sym (packed-Atom text) ∙ ap packed_of (sym e))

pub spelled-Bin : (t : TermTree) (bytes shown : List ℕ) (again : List ℕ) → t ≡ tree.Bin bytes → shown ≡ bytes → again ≡ bytes → (3 ∷ to_be_bytes w32 (length shown)) ++ again ≡ packed_of t
spelled-Bin t bytes shown again e k l =
    (λ i. (3 ∷ to_be_bytes w32 (length (k i))) ++ l i) ∙ (sym (packed-Bin bytes) ∙ ap packed_of (sym e))

pub spelled-Tuple : (t : TermTree) (parts shown : List TermTree) (n : ℕ) → t ≡ tree.Tuple parts → n ≡ length parts → shown ≡ parts → (6 ∷ to_be_bytes w32 n) ++ all_packed_of shown ≡ packed_of t
spelled-Tuple t parts shown n e k l =
    (λ i. (6 ∷ to_be_bytes w32 (k i)) ++ all_packed_of (l i)) ∙ (sym (packed-Tuple parts) ∙ ap packed_of (sym e))

pub spelled-Map : (t : TermTree) (pairs shown : List (TermTree × TermTree)) (n : ℕ) → t ≡ tree.Map pairs → n ≡ length pairs → shown ≡ pairs → (7 ∷ to_be_bytes w32 n) ++ pairs_packed_of shown ≡ packed_of t
spelled-Map t pairs shown n e k l =
    (λ i. (7 ∷ to_be_bytes w32 (k i)) ++ pairs_packed_of (l i)) ∙ (sym (packed-Map pairs) ∙ ap packed_of (sym e))

pub spelled-List : (t : TermTree) (parts shown : List TermTree) (tail behind : TermTree) (n : ℕ) → t ≡ tree.List parts tail → n ≡ length parts → shown ≡ parts → behind ≡ tail
    → ((5 ∷ to_be_bytes w32 n) ++ all_packed_of shown) ++ packed_of behind ≡ packed_of t
spelled-List t parts shown tail behind n e k l m =
    (λ i. ((5 ∷ to_be_bytes w32 (k i)) ++ all_packed_of (l i)) ++ packed_of (m i))
    ∙ (append_assoc (5 ∷ to_be_bytes w32 (length parts)) (all_packed_of parts) (packed_of tail)
    ∙ (sym (packed-List parts tail) ∙ ap packed_of (sym e)))

pub spelled-Closure : (t : TermTree) (origin : Origin) (env shown : List TermTree) (n : ℕ) → t ≡ tree.Closure origin env → n ≡ length env → shown ≡ env
    → (8 ∷ (short_text origin.module ++ (short_text origin.name ++ (origin.arity ∷ n ∷ [])))) ++ all_packed_of shown ≡ packed_of t
spelled-Closure t origin env shown n e k l =
    (λ i. (8 ∷ (short_text origin.module ++ (short_text origin.name ++ (origin.arity ∷ k i ∷ [])))) ++ all_packed_of (l i))
    ∙ (ap (λ w. 8 ∷ w) (append_assoc (short_text origin.module) (short_text origin.name ++ (origin.arity ∷ length env ∷ [])) (all_packed_of env)
    ∙ ap (λ w. short_text origin.module ++ w) (append_assoc (short_text origin.name) (origin.arity ∷ length env ∷ []) (all_packed_of env)))
    ∙ (sym (packed-Closure origin env) ∙ ap packed_of (sym e)))
