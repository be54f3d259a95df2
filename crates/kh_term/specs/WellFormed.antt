-- Which trees are terms.
use Rattle.std.specs.Prelude.{◌≡◌, ℕ, ◌+◌, Bool, true, false, ◌&&◌, not, nat_le, nat_lt, List, [], ◌∷◌, length, map, sum, if◌then◌else◌, ℤ, pos, negsuc, ◌^◌}
use Rattle.kh_term.specs.Text.{is_atom_text, are_bytes}
use Rattle.std.specs.Ordering.{is_lt}
use Rattle.kh_term.specs.declared.tree.TermTree.{TermTree, out-TermTree}
use Rattle.kh_term.specs.declared.tree.TermTree.TheOpen.{TermTree-F}
use Rattle.kh_term.specs.declared.tree.TermTree.TheOpen as layer
use Rattle.kh_term.specs.declared.tree.TermTree.TheFolds.{para-TermTree}
use Rattle.kh_term.specs.declared.name.Origin.{Origin}
use Rattle.kh_term.specs.Order.{term_cmp}

-- 0 where the test holds, else 1
abbrev pub fault_unless : Bool → ℕ
fault_unless holds = if holds then 0 else 1

-- an integer of 128 bits
abbrev pub fits_128 : ℤ → Bool
fits_128 (pos n) = nat_lt n (2 ^ 127)
fits_128 (negsuc n) = nat_lt n (2 ^ 127)

abbrev pub is_origin : Origin → Bool
is_origin origin = is_atom_text origin.module && is_atom_text origin.name && nat_lt origin.arity 256

-- the keys rise strictly
abbrev pub keys_rise : List TermTree → Bool
keys_rise [] = true
keys_rise (k ∷ []) = true
keys_rise (k ∷ l ∷ keys) = is_lt (term_cmp k l) && keys_rise (l ∷ keys)

abbrev pub is_list : {A : Type 0} → TermTree-F A → Bool
is_list (layer.List parts tail) = true
is_list x = false

-- a list has an element, and its tail is no list
abbrev pub is_list_of : {A : Type 0} → List A → TermTree → Bool
is_list_of [] tail = false
is_list_of (part ∷ parts) tail = not (is_list (out-TermTree tail))

abbrev pub Faulty : Type 0
Faulty = TermTree × ℕ

-- the faults of all parts
abbrev pub part_faults : List Faulty → ℕ
part_faults parts = sum (map (λ p. p.1) parts)

-- How many rules a tree breaks: an integer has 128 bits, a text is that of an atom, bytes are bytes, a list has an
-- element and a tail that is no list, a map has strictly rising keys, and a closure has no more captured values than
-- its arity.
abbrev pub fault_step : TermTree-F Faulty → ℕ
fault_step (layer.Int number) = fault_unless (fits_128 number)
fault_step (layer.Atom text) = fault_unless (is_atom_text text)
fault_step (layer.Bin bytes) = fault_unless (are_bytes bytes)
fault_step layer.Nil = 0
fault_step (layer.List parts tail) = fault_unless (is_list_of parts tail.0) + part_faults parts + tail.1
fault_step (layer.Tuple parts) = part_faults parts
fault_step (layer.Map pairs) =
    fault_unless (keys_rise (map (λ p. p.0.0) pairs)) + sum (map (λ p. p.0.1 + p.1.1) pairs)
fault_step (layer.Closure origin env) =
    fault_unless (is_origin origin && nat_le (length env) origin.arity) + part_faults env

-- how many rules are broken in a tree
abbrev pub faults_of : TermTree → ℕ
faults_of = para-TermTree ℕ fault_step

-- the tree is a term
abbrev pub IsTerm : TermTree → Type 0
IsTerm t = faults_of t ≡ 0

-- each of them is a term
abbrev pub AreTerms : List TermTree → Type 0
AreTerms ts = sum (map faults_of ts) ≡ 0

-- the keys and values of a map: terms, the keys rising strictly
abbrev pub ArePairs : List (TermTree × TermTree) → Type 0
ArePairs ps = fault_unless (keys_rise (map (λ p. p.0) ps)) + sum (map (λ p. faults_of p.0 + faults_of p.1) ps) ≡ 0
