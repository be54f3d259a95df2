-- Operands, one by one and two by two.
use Rattle.std.proofs.Common.{◌≡◌, ◌<◌, ◌≤◌, ℕ, ◌+◌, suc, List, [], ◌∷◌, ◌++◌, length, drop, get_or, Option, Some, None, option_map, refl, ap, sym, ◌∙◌, append_assoc, append-nil, add-one, drop-cons, length-drop, arith}
use Rattle.std.proofs.lemmas.List.{drop_all}
use Rattle.std.specs.Option.{option_and_then}
use Rattle.kh_term.specs.declared.tree.TermTree.{TermTree}
use Rattle.kh_instr.specs.Operands.{each, both, each_two}

-- what stands from a place on
from_place : (ts : List TermTree) (i : ℕ) (t : TermTree) → i < length ts → t ≡ get_or ts i t → drop i ts ≡ t ∷ drop (i + 1) ts
from_place ts i t h e =
    let opened : drop i ts ≡ get_or ts i t ∷ drop (i + 1) ts = rw (add-one, drop-cons ts i t h) refl in
    opened ∙ ap (λ u. u ∷ drop (i + 1) ts) (sym e)

-- one behind others
moved : {A : Type 0} (all : List A) (x : A) (o : Option (List A)) → option_map (λ more. all ++ more) (option_map (λ xs. x ∷ xs) o) ≡ option_map (λ more. (all ++ x ∷ []) ++ more) o
moved all x None = refl
moved all x (Some xs) = ap Some (sym (append_assoc all (x ∷ []) xs))

opened : {A : Type 0} (f : TermTree → Option A) (ts : List TermTree) (i : ℕ) (t : TermTree) (all : List A) → i < length ts → t ≡ get_or ts i t → option_map (λ more. all ++ more) (each f (drop i ts)) ≡ option_map (λ more. all ++ more) (option_and_then (λ y. option_map (λ ys. y ∷ ys) (each f (drop (i + 1) ts))) (f t))
opened f ts i t all h e = ap (λ us. option_map (λ more. all ++ more) (each f us)) (from_place ts i t h e)

read_as : {A : Type 0} (f : TermTree → Option A) (all : List A) (us : List TermTree) (o q : Option A) → o ≡ q → option_map (λ more. all ++ more) (option_and_then (λ y. option_map (λ ys. y ∷ ys) (each f us)) o) ≡ option_map (λ more. all ++ more) (option_and_then (λ y. option_map (λ ys. y ∷ ys) (each f us)) q)
read_as f all us o q e = ap (λ r. option_map (λ more. all ++ more) (option_and_then (λ y. option_map (λ ys. y ∷ ys) (each f us)) r)) e

pub each_next : {A : Type 0} (f : TermTree → Option A) (ts : List TermTree) (i : ℕ) (t : TermTree) (all : List A) (x : A) → i < length ts → t ≡ get_or ts i t → f t ≡ Some x → each f ts ≡ option_map (λ more. all ++ more) (each f (drop i ts)) → each f ts ≡ option_map (λ more. (all ++ x ∷ []) ++ more) (each f (drop (i + 1) ts))
each_next f ts i t all x h e k kept =
    kept ∙ (opened f ts i t all h e ∙ (read_as f all (drop (i + 1) ts) (f t) (Some x) k ∙ moved all x (each f (drop (i + 1) ts))))

pub each_stops : {A : Type 0} (f : TermTree → Option A) (ts : List TermTree) (i : ℕ) (t : TermTree) (all : List A) → i < length ts → t ≡ get_or ts i t → f t ≡ None → each f ts ≡ option_map (λ more. all ++ more) (each f (drop i ts)) → None ≡ each f ts
each_stops f ts i t all h e k kept =
    sym (kept ∙ (opened f ts i t all h e ∙ read_as f all (drop (i + 1) ts) (f t) None k))

pub each_ends : {A : Type 0} (f : TermTree → Option A) (ts : List TermTree) (i : ℕ) (all : List A) → length ts ≤ i → each f ts ≡ option_map (λ more. all ++ more) (each f (drop i ts)) → Some all ≡ each f ts
each_ends f ts i all h kept =
    sym (kept ∙ (ap (λ us. option_map (λ more. all ++ more) (each f us)) (drop_all i ts h) ∙ ap Some (append-nil all)))

-- ---- two by two

-- what stands from a place on, where two are left
from_two : (ts : List TermTree) (i : ℕ) (t u : TermTree) → i + 1 < length ts → t ≡ get_or ts i t → u ≡ get_or ts (i + 1) u → drop i ts ≡ t ∷ u ∷ drop (i + 2) ts
from_two ts i t u h e k =
    let first : drop i ts ≡ t ∷ drop (i + 1) ts = from_place ts i t (omega arith) e in
    let second : drop (i + 1) ts ≡ u ∷ drop ((i + 1) + 1) ts = from_place ts (i + 1) u h k in
    let far : (i + 1) + 1 ≡ i + 2 = omega arith in
    first ∙ (ap (λ us. t ∷ us) second ∙ ap (λ n. t ∷ u ∷ drop n ts) far)

opened_two : {A B : Type 0} (f : TermTree → Option A) (g : TermTree → Option B) (ts : List TermTree) (i : ℕ) (t u : TermTree) (all : List (A × B)) → i + 1 < length ts → t ≡ get_or ts i t → u ≡ get_or ts (i + 1) u → option_map (λ more. all ++ more) (each_two f g (drop i ts)) ≡ option_map (λ more. all ++ more) (option_and_then (λ p. option_map (λ ps. p ∷ ps) (each_two f g (drop (i + 2) ts))) (both f g t u))
opened_two f g ts i t u all h e k = ap (λ us. option_map (λ more. all ++ more) (each_two f g us)) (from_two ts i t u h e k)

two_as : {A B : Type 0} (f : TermTree → Option A) (g : TermTree → Option B) (all : List (A × B)) (us : List TermTree) (o q : Option (A × B)) → o ≡ q → option_map (λ more. all ++ more) (option_and_then (λ p. option_map (λ ps. p ∷ ps) (each_two f g us)) o) ≡ option_map (λ more. all ++ more) (option_and_then (λ p. option_map (λ ps. p ∷ ps) (each_two f g us)) q)
two_as f g all us o q e = ap (λ r. option_map (λ more. all ++ more) (option_and_then (λ p. option_map (λ ps. p ∷ ps) (each_two f g us)) r)) e

pub two_next : {A B : Type 0} (f : TermTree → Option A) (g : TermTree → Option B) (ts : List TermTree) (i : ℕ) (t u : TermTree) (all : List (A × B)) (p : A × B) → i + 1 < length ts → t ≡ get_or ts i t → u ≡ get_or ts (i + 1) u → both f g t u ≡ Some p → each_two f g ts ≡ option_map (λ more. all ++ more) (each_two f g (drop i ts)) → each_two f g ts ≡ option_map (λ more. (all ++ p ∷ []) ++ more) (each_two f g (drop (i + 2) ts))
two_next f g ts i t u all p h e k q kept =
    kept ∙ (opened_two f g ts i t u all h e k ∙ (two_as f g all (drop (i + 2) ts) (both f g t u) (Some p) q ∙ moved all p (each_two f g (drop (i + 2) ts))))

pub two_stops : {A B : Type 0} (f : TermTree → Option A) (g : TermTree → Option B) (ts : List TermTree) (i : ℕ) (t u : TermTree) (all : List (A × B)) → i + 1 < length ts → t ≡ get_or ts i t → u ≡ get_or ts (i + 1) u → both f g t u ≡ None → each_two f g ts ≡ option_map (λ more. all ++ more) (each_two f g (drop i ts)) → None ≡ each_two f g ts
two_stops f g ts i t u all h e k q kept =
    sym (kept ∙ (opened_two f g ts i t u all h e k ∙ two_as f g all (drop (i + 2) ts) (both f g t u) None q))

lone : {A B : Type 0} (f : TermTree → Option A) (g : TermTree → Option B) (us : List TermTree) → length us ≡ 1 → each_two f g us ≡ None
lone f g [] h = absurd (omega (arith, h))
lone f g (t ∷ []) h = refl
lone f g (t ∷ u ∷ us) h = absurd (omega (arith, h))

pub two_odd : {A B : Type 0} (f : TermTree → Option A) (g : TermTree → Option B) (ts : List TermTree) (i : ℕ) (all : List (A × B)) → i + 1 ≡ length ts → each_two f g ts ≡ option_map (λ more. all ++ more) (each_two f g (drop i ts)) → None ≡ each_two f g ts
two_odd f g ts i all h kept =
    let left : length (drop i ts) ≡ 1 = length-drop i ts ∙ omega (arith, h) in
    sym (kept ∙ ap (λ o. option_map (λ more. all ++ more) o) (lone f g (drop i ts) left))

pub two_ends : {A B : Type 0} (f : TermTree → Option A) (g : TermTree → Option B) (ts : List TermTree) (i : ℕ) (all : List (A × B)) → length ts ≤ i → each_two f g ts ≡ option_map (λ more. all ++ more) (each_two f g (drop i ts)) → Some all ≡ each_two f g ts
two_ends f g ts i all h kept =
    sym (kept ∙ (ap (λ us. option_map (λ more. all ++ more) (each_two f g us)) (drop_all i ts h) ∙ ap Some (append-nil all)))

pub ruleset steps = (each_next, each_stops, each_ends, two_next, two_stops, two_odd, two_ends)
