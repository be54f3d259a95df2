-- A text that is known has a place, at which it stands.
use Rattle.std.proofs.Common.{◌≡◌, ◌<◌, ◌≤◌, ℕ, zero, suc, ◌+◌, ◌||◌, Bool, true, false, true≢false, cond, if◌then◌else◌, IsTrue, List, [], ◌∷◌, ◌++◌, length, get_or, take, drop, Option, Some, None, nat_eq, refl, sym, ap, subst, ◌∙◌, add-one, drop-cons, append_assoc, length-append, arith}
use Rattle.std.proofs.lemmas.List.{take-append-drop, take-append-le}
use Rattle.std.proofs.lemmas.Option.{none-some, same_Some}
use Rattle.std.proofs.lemmas.Slice.Eq.{bytes_eq-Decides}
use Rattle.std.specs.Cmp.Lexicographic.{pointwise}
use Rattle.std.specs.List.{position_from}
use Rattle.kh_regexes.specs.Engine.{place_of, text_at}
use Rattle.kh_cond.specs.Texts.{is_known, added, with_text, IsNewAmong}

-- the place of a text among texts that stand from a number on
Placed : List ℕ → List (List ℕ) → ℕ → ℕ → Type 0
Placed text ts n id = (k : ℕ) × (id ≡ n + k) × (k < length ts) × (get_or ts k [] ≡ text)

here_or_further : (text t : List ℕ) (ts : List (List ℕ)) (n id : ℕ) →
    (position_from (λ u. pointwise nat_eq u text) (n + 1) ts ≡ Some id → Placed text ts (n + 1) id) →
    (b : Bool) → pointwise nat_eq t text ≡ b → cond b (Some n) (position_from (λ u. pointwise nat_eq u text) (n + 1) ts) ≡ Some id → Placed text (t ∷ ts) n id
unfolding Placed
here_or_further text t ts n id further true same e = (0, sym (same_Some _ _ e) ∙ omega arith, omega arith, (bytes_eq-Decides t text).0 same)
here_or_further text t ts n id further false same e =
    let more : Placed text ts (n + 1) id = further e in
    let behind : get_or (t ∷ ts) (more.0 + 1) [] ≡ get_or ts more.0 [] = rw (add-one more.0) refl in
    (more.0 + 1, omega (arith, more.1), omega (arith, more.2), behind ∙ more.3)

placed : (text : List ℕ) (ts : List (List ℕ)) (n id : ℕ) → position_from (λ t. pointwise nat_eq t text) n ts ≡ Some id → Placed text ts n id
unfolding Placed
placed text [] n id e = absurd (none-some id e)
placed text (t ∷ ts) n id e = here_or_further text t ts n id (placed text ts (n + 1) id) (pointwise nat_eq t text) refl e

pub placed_within : (text : List ℕ) (ts : List (List ℕ)) (id : ℕ) → place_of text ts ≡ Some id → id < length ts
unfolding Placed
placed_within text ts id e = let p : Placed text ts 0 id = placed text ts 0 id e in omega (arith, p.1, p.2)

pub placed_text : (text : List ℕ) (ts : List (List ℕ)) (id : ℕ) → place_of text ts ≡ Some id → text_at ts id ≡ text
unfolding Placed
placed_text text ts id e =
    let p : Placed text ts 0 id = placed text ts 0 id e in
    let same : id ≡ p.0 = omega (arith, p.1) in
    ap (λ k. get_or ts k []) same ∙ p.3

one_is : (text t : List ℕ) (ts : List (List ℕ)) (n id : ℕ) →
    (position_from (λ u. pointwise nat_eq u text) (n + 1) ts ≡ Some id → is_known ts text ≡ true) →
    (b : Bool) → pointwise nat_eq t text ≡ b → cond b (Some n) (position_from (λ u. pointwise nat_eq u text) (n + 1) ts) ≡ Some id → is_known (t ∷ ts) text ≡ true
one_is text t ts n id further true same e = rw same refl
one_is text t ts n id further false same e = rw same (further e)

or_behind : (x y : Bool) → y ≡ true → (x || y) ≡ true
or_behind true y h = refl
or_behind false y h = h

or_parts : (x y : Bool) → (x || y) ≡ false → (x ≡ false) × (y ≡ false)
or_parts true y e = absurd (true≢false e)
or_parts false y e = (refl, e)

-- a text that is known adds nothing, and one that isn't comes next
by_known : (known : List (List ℕ)) (t : List ℕ) (ts : List (List ℕ)) (b : Bool) → is_known known t ≡ b →
    known ++ (if b then added known ts else t ∷ added (known ++ t ∷ []) ts)
    ≡ (if b then known else known ++ t ∷ []) ++ added (if b then known else known ++ t ∷ []) ts
by_known known t ts true e = refl
by_known known t ts false e = sym (append_assoc known (t ∷ []) (added (known ++ t ∷ []) ts))

-- a text without a place isn't known
neither : (text t : List ℕ) (ts : List (List ℕ)) (n : ℕ) →
    (position_from (λ u. pointwise nat_eq u text) (n + 1) ts ≡ None → is_known ts text ≡ false) →
    (b : Bool) → pointwise nat_eq t text ≡ b → cond b (Some n) (position_from (λ u. pointwise nat_eq u text) (n + 1) ts) ≡ None → is_known (t ∷ ts) text ≡ false
neither text t ts n further true same e = absurd (none-some n (sym e))
neither text t ts n further false same e = rw same (further e)

not_placed_from : (text : List ℕ) (ts : List (List ℕ)) (n : ℕ) → position_from (λ t. pointwise nat_eq t text) n ts ≡ None → is_known ts text ≡ false
not_placed_from text [] n e = refl
not_placed_from text (t ∷ ts) n e = neither text t ts n (not_placed_from text ts (n + 1)) (pointwise nat_eq t text) refl e

pub not_placed : (text : List ℕ) (ts : List (List ℕ)) → place_of text ts ≡ None → is_known ts text ≡ false
not_placed text ts e = not_placed_from text ts 0 e

-- a text that has a place is known
placed_known_from : (text : List ℕ) (ts : List (List ℕ)) (n id : ℕ) → position_from (λ t. pointwise nat_eq t text) n ts ≡ Some id → is_known ts text ≡ true
placed_known_from text [] n id e = absurd (none-some id e)
placed_known_from text (t ∷ ts) n id e = one_is text t ts n id (placed_known_from text ts (n + 1) id) (pointwise nat_eq t text) refl e

pub placed_known : (text : List ℕ) (ts : List (List ℕ)) (id : ℕ) → place_of text ts ≡ Some id → is_known ts text ≡ true
placed_known text ts id e = placed_known_from text ts 0 id e

-- ---- preparing texts one after another

known_among : (t : List ℕ) (texts : List (List ℕ)) (i : ℕ) → i < length texts → t ≡ get_or texts i t → IsTrue (is_known texts t)
known_among t [] i h e = absurd (omega (arith, h))
known_among t (u ∷ texts) zero h e = rw ((bytes_eq-Decides u t).1 (sym e)) refl
known_among t (u ∷ texts) (suc i) h e = or_behind (pointwise nat_eq u t) (is_known texts t) (known_among t texts i (omega (arith, h)) e)

known_in_front : (t : List ℕ) (xs ys : List (List ℕ)) → is_known (xs ++ ys) t ≡ false → is_known xs t ≡ false
known_in_front t [] ys e = refl
known_in_front t (x ∷ xs) ys e =
    let both = or_parts (pointwise nat_eq x t) (is_known (xs ++ ys) t) e in
    rw both.0 (known_in_front t xs ys both.1)

-- what isn't known behind a front isn't known there
pub unknown_before : (t : List ℕ) (old now : List (List ℕ)) → take (length old) now ≡ old → is_known now t ≡ false → is_known old t ≡ false
unknown_before t old now front e =
    let split : old ++ drop (length old) now ≡ now = ap (λ xs. xs ++ drop (length old) now) (sym front) ∙ take-append-drop (length old) now in
    known_in_front t old (drop (length old) now) (ap (λ xs. is_known xs t) split ∙ e)

pub new_among : (t : List ℕ) (old now texts : List (List ℕ)) (i : ℕ) (refused : Option (List ℕ)) → take (length old) now ≡ old → is_known now t ≡ false →
    i < length texts → t ≡ get_or texts i t → refused ≡ Some t → IsNewAmong old texts refused
new_among t old now texts i refused front e h is last =
    subst (IsNewAmong old texts) (sym last) (known_among t texts i h is, unknown_before t old now front e)

-- one more text
pub added_next : (known texts : List (List ℕ)) (i : ℕ) (t : List ℕ) → i < length texts → t ≡ get_or texts i t →
    known ++ added known (drop i texts) ≡ with_text known t ++ added (with_text known t) (drop (i + 1) texts)
added_next known texts i t h e =
    rw (add-one i, drop-cons texts i t h, ← e) (by_known known t (drop (suc i) texts) (is_known known t) refl)

pub front_stays : (old known : List (List ℕ)) (t : List ℕ) → take (length old) known ≡ old → length old ≤ length known → take (length old) (with_text known t) ≡ old
front_stays old known t front le = go (is_known known t)
  where
    go : (b : Bool) → take (length old) (if b then known else known ++ t ∷ []) ≡ old
    go true = front
    go false = take-append-le (length old) known (t ∷ []) le ∙ front

pub longer_with : (known : List (List ℕ)) (t : List ℕ) → length known ≤ length (with_text known t)
longer_with known t = go (is_known known t)
  where
    go : (b : Bool) → length known ≤ length (if b then known else known ++ t ∷ [])
    go true = omega arith
    go false = omega (arith, length-append known (t ∷ []))

pub room_with : (known : List (List ℕ)) (t : List ℕ) → length (with_text known t) ≤ length known + 1
room_with known t = go (is_known known t)
  where
    go : (b : Bool) → length (if b then known else known ++ t ∷ []) ≤ length known + 1
    go true = omega arith
    go false = omega (arith, length-append known (t ∷ []))

pub ruleset known = (placed_within, placed_text, not_placed, placed_known)

pub ruleset preparing = (new_among, added_next, front_stays, longer_with, room_with)
