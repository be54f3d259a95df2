-- All of some terms, read one by one.
use Rattle.std.proofs.Common.{◌≡◌, ◌<◌, ◌≤◌, ℕ, ◌+◌, List, [], ◌∷◌, ◌++◌, length, drop, get_or, Option, Some, None, option_map, refl, ap, sym, ◌∙◌, append_assoc, append-nil, add-one, drop-cons, arith}
use Rattle.std.proofs.lemmas.List.{drop_all}
use Rattle.std.specs.Option.{option_and_then}
use Rattle.kh_term.specs.declared.tree.TermTree.{TermTree}
use Rattle.kh_instr.specs.Operands.{each}

from_place : (ts : List TermTree) (i : ℕ) (t : TermTree) → i < length ts → t ≡ get_or ts i t → drop i ts ≡ t ∷ drop (i + 1) ts
from_place ts i t h e =
    let opened : drop i ts ≡ get_or ts i t ∷ drop (i + 1) ts = rw (add-one, drop-cons ts i t h) refl in
    opened ∙ ap (λ u. u ∷ drop (i + 1) ts) (sym e)

-- one behind others
behind : {A : Type 0} (all : List A) (x : A) (o : Option (List A)) → option_map (λ more. all ++ more) (option_map (λ xs. x ∷ xs) o) ≡ option_map (λ more. (all ++ x ∷ []) ++ more) o
behind all x None = refl
behind all x (Some xs) = ap Some (sym (append_assoc all (x ∷ []) xs))

read_as : {A : Type 0} (f : TermTree → Option A) (ts : List TermTree) (i : ℕ) (t : TermTree) (all : List A) (o : Option A) → i < length ts → t ≡ get_or ts i t → f t ≡ o → option_map (λ more. all ++ more) (each f (drop i ts)) ≡ option_map (λ more. all ++ more) (option_and_then (λ y. option_map (λ ys. y ∷ ys) (each f (drop (i + 1) ts))) o)
read_as f ts i t all o h e k =
    ap (λ us. option_map (λ more. all ++ more) (each f us)) (from_place ts i t h e)
    ∙ ap (λ r. option_map (λ more. all ++ more) (option_and_then (λ y. option_map (λ ys. y ∷ ys) (each f (drop (i + 1) ts))) r)) k

pub each_next : {A : Type 0} (f : TermTree → Option A) (ts : List TermTree) (i : ℕ) (t : TermTree) (all : List A) (x : A) → i < length ts → t ≡ get_or ts i t → f t ≡ Some x → each f ts ≡ option_map (λ more. all ++ more) (each f (drop i ts)) → each f ts ≡ option_map (λ more. (all ++ x ∷ []) ++ more) (each f (drop (i + 1) ts))
each_next f ts i t all x h e k kept = kept ∙ (read_as f ts i t all (Some x) h e k ∙ behind all x (each f (drop (i + 1) ts)))

pub each_stops : {A : Type 0} (f : TermTree → Option A) (ts : List TermTree) (i : ℕ) (t : TermTree) (all : List A) → i < length ts → t ≡ get_or ts i t → f t ≡ None → each f ts ≡ option_map (λ more. all ++ more) (each f (drop i ts)) → None ≡ each f ts
each_stops f ts i t all h e k kept = sym (kept ∙ read_as f ts i t all None h e k)

pub each_ends : {A : Type 0} (f : TermTree → Option A) (ts : List TermTree) (i : ℕ) (all : List A) → length ts ≤ i → each f ts ≡ option_map (λ more. all ++ more) (each f (drop i ts)) → Some all ≡ each f ts
each_ends f ts i all h kept =
    sym (kept ∙ (ap (λ us. option_map (λ more. all ++ more) (each f us)) (drop_all i ts h) ∙ ap Some (append-nil all)))

pub ruleset steps = (each_next, each_stops, each_ends)
