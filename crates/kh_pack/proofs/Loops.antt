-- Terms that are read one after another, as a loop does.
use Rattle.std.proofs.Common.{◌≡◌, ℕ, suc, ◌-◌, ◌+◌, ◌≤◌, ◌<◌, true, false, List, [], ◌∷◌, ◌++◌, Some, None, refl, sym, ◌∙◌, arith}
use Rattle.kh_term.specs.declared.tree.TermTree.{TermTree}
use Rattle.kh_term.specs.Lookup.{rises_after}
use Rattle.kh_pack.specs.declared.error.Stop.{Stop}
use Rattle.kh_pack.specs.declared.error.Stop.TheVariants as stops
use Rattle.kh_pack.specs.Reading.{Read, Fails, many_at, pairs_at}

-- ---- terms

pub part_read : (one : List ℕ → Read TermTree) (count i : ℕ) (before : List TermTree) (bytes : List ℕ) (part : TermTree) (after : List ℕ) (total : Read (List TermTree))
    → i < count → one bytes ≡ Some (part, after) → many_at one (count - i) before bytes ≡ total → many_at one (count - (i + 1)) (before ++ part ∷ []) after ≡ total
unfolding many_at
part_read one count i before bytes part after total more is so_far =
    let next : count - i ≡ suc (count - (i + 1)) = omega arith in
    let step : many_at one (count - i) before bytes ≡ many_at one (count - (i + 1)) (before ++ part ∷ []) after = rw (next, is) refl in
    sym step ∙ so_far

pub part_fails : (stop : Stop) (one : List ℕ → Read TermTree) (count i : ℕ) (before : List TermTree) (bytes : List ℕ) (total : Read (List TermTree))
    → i < count → Fails stop (one bytes) → many_at one (count - i) before bytes ≡ total → Fails stop total
unfolding many_at
part_fails stops.NoMemory one count i before bytes total more fails so_far = tt
part_fails stops.NoTerm one count i before bytes total more fails so_far =
    let next : count - i ≡ suc (count - (i + 1)) = omega arith in
    let step : many_at one (count - i) before bytes ≡ None = rw (next, fails) refl in
    sym so_far ∙ step

pub parts_read : (one : List ℕ → Read TermTree) (count i : ℕ) (before : List TermTree) (bytes : List ℕ) (total : Read (List TermTree))
    → count ≤ i → many_at one (count - i) before bytes ≡ total → total ≡ Some (before, bytes)
unfolding many_at
parts_read one count i before bytes total done so_far =
    let next : count - i ≡ 0 = omega arith in
    let step : many_at one (count - i) before bytes ≡ Some (before, bytes) = rw next refl in
    sym so_far ∙ step

-- ---- keys with their values

abbrev TermPairs : Type 0
TermPairs = List (TermTree × TermTree)

pub pair_read : (one : List ℕ → Read TermTree) (count i : ℕ) (before : TermPairs) (bytes : List ℕ) (key : TermTree) (behind : List ℕ) (value : TermTree) (after : List ℕ) (total : Read TermPairs)
    → i < count → one bytes ≡ Some (key, behind) → one behind ≡ Some (value, after) → rises_after before key ≡ true
    → pairs_at one (count - i) before bytes ≡ total → pairs_at one (count - (i + 1)) (before ++ (key, value) ∷ []) after ≡ total
unfolding pairs_at
pair_read one count i before bytes key behind value after total more is_key is_value rises so_far =
    let next : count - i ≡ suc (count - (i + 1)) = omega arith in
    let step : pairs_at one (count - i) before bytes ≡ pairs_at one (count - (i + 1)) (before ++ (key, value) ∷ []) after = rw (next, is_key, is_value, rises) refl in
    sym step ∙ so_far

pub key_fails : (stop : Stop) (one : List ℕ → Read TermTree) (count i : ℕ) (before : TermPairs) (bytes : List ℕ) (total : Read TermPairs)
    → i < count → Fails stop (one bytes) → pairs_at one (count - i) before bytes ≡ total → Fails stop total
unfolding pairs_at
key_fails stops.NoMemory one count i before bytes total more fails so_far = tt
key_fails stops.NoTerm one count i before bytes total more fails so_far =
    let next : count - i ≡ suc (count - (i + 1)) = omega arith in
    let step : pairs_at one (count - i) before bytes ≡ None = rw (next, fails) refl in
    sym so_far ∙ step

pub value_fails : (stop : Stop) (one : List ℕ → Read TermTree) (count i : ℕ) (before : TermPairs) (bytes : List ℕ) (key : TermTree) (behind : List ℕ) (total : Read TermPairs)
    → i < count → one bytes ≡ Some (key, behind) → Fails stop (one behind) → pairs_at one (count - i) before bytes ≡ total → Fails stop total
unfolding pairs_at
value_fails stops.NoMemory one count i before bytes key behind total more is_key fails so_far = tt
value_fails stops.NoTerm one count i before bytes key behind total more is_key fails so_far =
    let next : count - i ≡ suc (count - (i + 1)) = omega arith in
    let step : pairs_at one (count - i) before bytes ≡ None = rw (next, is_key, fails) refl in
    sym so_far ∙ step

-- a key that isn't above the last
pub falls : (one : List ℕ → Read TermTree) (count i : ℕ) (before : TermPairs) (bytes : List ℕ) (key : TermTree) (behind : List ℕ) (value : TermTree) (after : List ℕ) (total : Read TermPairs)
    → i < count → one bytes ≡ Some (key, behind) → one behind ≡ Some (value, after) → rises_after before key ≡ false
    → pairs_at one (count - i) before bytes ≡ total → total ≡ None
unfolding pairs_at
falls one count i before bytes key behind value after total more is_key is_value rises so_far =
    let next : count - i ≡ suc (count - (i + 1)) = omega arith in
    let step : pairs_at one (count - i) before bytes ≡ None = rw (next, is_key, is_value, rises) refl in
    sym so_far ∙ step

pub pairs_read : (one : List ℕ → Read TermTree) (count i : ℕ) (before : TermPairs) (bytes : List ℕ) (total : Read TermPairs)
    → count ≤ i → pairs_at one (count - i) before bytes ≡ total → total ≡ Some (before, bytes)
unfolding pairs_at
pairs_read one count i before bytes total done so_far =
    let next : count - i ≡ 0 = omega arith in
    let step : pairs_at one (count - i) before bytes ≡ Some (before, bytes) = rw next refl in
    sym so_far ∙ step
