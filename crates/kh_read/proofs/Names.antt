-- Reading names one after another, as a loop does.
use Rattle.std.proofs.Common.{◌≡◌, ℕ, suc, ◌+◌, ◌-◌, ◌<◌, ◌≤◌, true, false, List, [], ◌∷◌, ◌++◌, Ok, Err, refl, sym, ap, ◌∙◌, append_assoc, arith}
use Rattle.kh_term.specs.declared.name.Name.{Name}
use Rattle.kh_read.specs.declared.error.ReadError.{ReadError}
use Rattle.kh_read.specs.declared.error.ReadError.TheVariants as errors
use Rattle.kh_read.specs.Reading.{◌>>=◌, Read, Cut, Fault, Fails, name_at, comma_at, names_at}

-- what was read before, and what is still read
abbrev pub with_front : List Name → Read (List Name) → Read (List Name)
with_front front read = read >>= λ x. Ok (front ++ x.0, x.1)

regroup : (front : List Name) (first : Name) (read : Read (List Name))
    → with_front front (read >>= λ x. Ok (first ∷ x.0, x.1)) ≡ with_front (front ++ first ∷ []) read
regroup front first (Ok x) = ap (λ (names : List Name). Ok (names, x.1)) (simp append_assoc)
regroup front first (Err stop) = refl

-- a further name behind a comma
pub goes_on : (front : List Name) (room i : ℕ) (bytes : List ℕ) (first : Name) (after rest : List ℕ) (total : Read (List Name))
    → i < room → name_at bytes ≡ Ok (first, after) → comma_at after ≡ Ok (true, rest)
    → with_front front (names_at (room - i) bytes) ≡ total → with_front (front ++ first ∷ []) (names_at (room - (i + 1)) rest) ≡ total
unfolding names_at
goes_on front room i bytes first after rest total lt named comma so_far =
    let left : room - i ≡ suc (room - (i + 1)) = omega arith in
    let one : with_front front (names_at (room - i) bytes) ≡ with_front (front ++ first ∷ []) (names_at (room - (i + 1)) rest) =
    rw (left, named, comma) (regroup front first (names_at (room - (i + 1)) rest)) in
    sym one ∙ so_far

-- the last name, behind which the bracket stands
pub last : (front : List Name) (room i : ℕ) (bytes : List ℕ) (first : Name) (after rest : List ℕ) (total : Read (List Name))
    → i < room → name_at bytes ≡ Ok (first, after) → comma_at after ≡ Ok (false, rest)
    → with_front front (names_at (room - i) bytes) ≡ total → total ≡ Ok (front ++ first ∷ [], rest)
unfolding names_at
last front room i bytes first after rest total lt named comma so_far =
    let left : room - i ≡ suc (room - (i + 1)) = omega arith in
    let one : with_front front (names_at (room - i) bytes) ≡ Ok (front ++ first ∷ [], rest) = rw (left, named, comma) refl in
    sym so_far ∙ one

-- no name
pub no_name : (e : ReadError) (front : List Name) (room i : ℕ) (bytes : List ℕ) (total : Read (List Name))
    → i < room → Fails e (name_at bytes) → with_front front (names_at (room - i) bytes) ≡ total → Fails e total
unfolding names_at
no_name errors.NoMemory front room i bytes total lt fails so_far = tt
no_name errors.Incomplete front room i bytes total lt fails so_far =
    let left : room - i ≡ suc (room - (i + 1)) = omega arith in
    let one : with_front front (names_at (room - i) bytes) ≡ Err Cut = rw (left, fails) refl in
    sym so_far ∙ one
no_name errors.Syntax front room i bytes total lt fails so_far =
    let left : room - i ≡ suc (room - (i + 1)) = omega arith in
    let one : with_front front (names_at (room - i) bytes) ≡ Err Fault = rw (left, fails) refl in
    sym so_far ∙ one

-- a name, and neither a comma nor a bracket behind it
pub no_comma : (e : ReadError) (front : List Name) (room i : ℕ) (bytes : List ℕ) (first : Name) (after : List ℕ) (total : Read (List Name))
    → i < room → name_at bytes ≡ Ok (first, after) → Fails e (comma_at after)
    → with_front front (names_at (room - i) bytes) ≡ total → Fails e total
unfolding names_at
no_comma errors.NoMemory front room i bytes first after total lt named fails so_far = tt
no_comma errors.Incomplete front room i bytes first after total lt named fails so_far =
    let left : room - i ≡ suc (room - (i + 1)) = omega arith in
    let one : with_front front (names_at (room - i) bytes) ≡ Err Cut = rw (left, named, fails) refl in
    sym so_far ∙ one
no_comma errors.Syntax front room i bytes first after total lt named fails so_far =
    let left : room - i ≡ suc (room - (i + 1)) = omega arith in
    let one : with_front front (names_at (room - i) bytes) ≡ Err Fault = rw (left, named, fails) refl in
    sym so_far ∙ one

-- more names than there is room for
pub too_many : (front : List Name) (room i : ℕ) (bytes : List ℕ) (total : Read (List Name))
    → room ≤ i → with_front front (names_at (room - i) bytes) ≡ total → total ≡ Err Fault
unfolding names_at
too_many front room i bytes total le so_far =
    let none : room - i ≡ 0 = omega arith in
    let one : with_front front (names_at (room - i) bytes) ≡ Err Fault = rw none refl in
    sym so_far ∙ one
