-- Each term as a list of integers that compares as the term does.
use Rattle.std.proofs.Common.{◌≡◌, ◌<◌, ℕ, false, cond, nat_lt, List, [], ◌∷◌, ◌++◌, length, map, append_assoc, refl, ap, sym, ◌∙◌, ℤ, pos, negsuc, arith}
use Rattle.std.specs.declared.cmp.Ordering.{Ordering}
use Rattle.std.specs.declared.cmp.Ordering.TheVariants.{Less, Equal, Greater}
use Rattle.std.specs.Ordering.{nat_cmp, int_cmp, ordering_then, is_eq, MatchOrdering}
use Rattle.std.specs.Cmp.{ranks}
use Rattle.std.specs.Cmp.Lexicographic.{slice_cmp}
use borrow.Author.Tests.{lt-ltb, le-ltb}
use Rattle.kh_term.specs.declared.name.Origin.{Origin}
use Rattle.kh_term.specs.declared.tree.TermTree.{TermTree, out-TermTree}
use Rattle.kh_term.specs.declared.tree.TermTree.TheVariants as tree
use Rattle.kh_term.specs.declared.tree.TermTree.TheVariants.{outs-Int, outs-Atom, outs-Bin, outs-Nil, outs-List, outs-Tuple, outs-Map, outs-Closure, rolls-Int, rolls-Atom, rolls-Bin, rolls-Nil, rolls-List, rolls-Tuple, rolls-Map, rolls-Closure}
use Rattle.kh_term.specs.declared.tree.TermTree.TheOpen.{TermTree-F}
use Rattle.kh_term.specs.declared.tree.TermTree.TheOpen as layer
use Rattle.kh_term.specs.declared.tree.TermTree.TheFolds.{fold-TermTree, fold-roll-TermTree}
use Rattle.kh_term.specs.WellFormed.{IsTerm, AreTerms, is_list}
use Rattle.kh_term.specs.Order.{term_cmp, rank_of, compare_parts, compare_lists, compared}
use Rattle.std.proofs.lemmas.List.{length-map}
use Rattle.kh_term.specs.Lemmas.Fits.{fits_front, fits_behind, ends_list}
use Rattle.kh_term.specs.Lemmas.Induction.{by_parts, Each}
use Rattle.kh_term.specs.Lemmas.Layers.{joined}
use mathlib.Core.Bool.{true≢false}

-- ---- the integers of a term

-- a text, and what is less than each byte
abbrev pub ended : List ℕ → List ℤ
ended [] = negsuc 0 ∷ []
ended (b ∷ bytes) = pos b ∷ ended bytes

abbrev pub all : List (List ℤ) → List ℤ
all [] = []
all (x ∷ xs) = x ++ all xs

-- the elements of a list, each after the rank of lists, and what its tail gives
abbrev pub chained : List (List ℤ) → List ℤ → List ℤ
chained [] t = t
chained (x ∷ xs) t = pos 6 ∷ (x ++ chained xs t)

abbrev key_step : TermTree-F (List ℤ) → List ℤ
key_step (layer.Int n) = pos 0 ∷ n ∷ []
key_step (layer.Atom text) = pos 1 ∷ ended text
key_step (layer.Closure origin env) = pos 2 ∷ (ended origin.module ++ (ended origin.name ++ (pos origin.arity ∷ (all env ++ (negsuc 0 ∷ [])))))
key_step (layer.Tuple parts) = pos 3 ∷ pos (length parts) ∷ all parts
key_step (layer.Map pairs) = pos 4 ∷ pos (length pairs) ∷ (all (map (λ p. p.0) pairs) ++ all (map (λ p. p.1) pairs))
key_step layer.Nil = pos 5 ∷ []
key_step (layer.List parts tail) = chained parts tail
key_step (layer.Bin bytes) = pos 7 ∷ ended bytes

abbrev pub key : TermTree → List ℤ
key = fold-TermTree (List ℤ) key_step

pub key-Int : (n : ℤ) → key (tree.Int n) ≡ pos 0 ∷ n ∷ []
key-Int n = ap key (sym (rolls-Int n)) ∙ fold-roll-TermTree (List ℤ) key_step (layer.Int n)

pub key-Atom : (text : List ℕ) → key (tree.Atom text) ≡ pos 1 ∷ ended text
key-Atom text = ap key (sym (rolls-Atom text)) ∙ fold-roll-TermTree (List ℤ) key_step (layer.Atom text)

pub key-Bin : (bytes : List ℕ) → key (tree.Bin bytes) ≡ pos 7 ∷ ended bytes
key-Bin bytes = ap key (sym (rolls-Bin bytes)) ∙ fold-roll-TermTree (List ℤ) key_step (layer.Bin bytes)

pub key-Nil : key tree.Nil ≡ pos 5 ∷ []
key-Nil = ap key (sym rolls-Nil) ∙ fold-roll-TermTree (List ℤ) key_step layer.Nil

pub key-List : (parts : List TermTree) (tail : TermTree) → key (tree.List parts tail) ≡ chained (map key parts) (key tail)
key-List parts tail = ap key (sym (rolls-List parts tail)) ∙ fold-roll-TermTree (List ℤ) key_step (layer.List parts tail)

pub key-Tuple : (parts : List TermTree) → key (tree.Tuple parts) ≡ pos 3 ∷ pos (length parts) ∷ all (map key parts)
key-Tuple parts =
    ap key (sym (rolls-Tuple parts)) ∙ (fold-roll-TermTree (List ℤ) key_step (layer.Tuple parts)
    ∙ ap (λ n. pos 3 ∷ pos n ∷ all (map key parts)) (length-map parts key))

pub key-Map : (pairs : List (TermTree × TermTree)) → key (tree.Map pairs) ≡ pos 4 ∷ pos (length pairs) ∷ (all (map (λ p. key p.0) pairs) ++ all (map (λ p. key p.1) pairs))
key-Map pairs =
    let both : (TermTree × TermTree) → List ℤ × List ℤ = λ p. (key p.0, key p.1) in
    ap key (sym (rolls-Map pairs)) ∙ (fold-roll-TermTree (List ℤ) key_step (layer.Map pairs)
    ∙ (λ i. pos 4 ∷ pos (length-map pairs both i) ∷ (all (joined both (λ p. p.0) pairs i) ++ all (joined both (λ p. p.1) pairs i))))

pub key-Closure : (origin : Origin) (env : List TermTree) → key (tree.Closure origin env) ≡ pos 2 ∷ (ended origin.module ++ (ended origin.name ++ (pos origin.arity ∷ (all (map key env) ++ (negsuc 0 ∷ [])))))
key-Closure origin env = ap key (sym (rolls-Closure origin env)) ∙ fold-roll-TermTree (List ℤ) key_step (layer.Closure origin env)

-- ---- how the integers compare

abbrev pub compare_keys : List ℤ → List ℤ → Ordering
compare_keys = slice_cmp int_cmp

-- numbers compare as such
pub int_cmp-pos : (m n : ℕ) → int_cmp (pos m) (pos n) ≡ nat_cmp m n
int_cmp-pos m n = go (nat_cmp m n) (ranks m n)
  where
    go : (o : Ordering) → MatchOrdering o (m < n) (m ≡ n) (n < m) → int_cmp (pos m) (pos n) ≡ o
    go Less h = ap (λ b. cond b Less (cond (nat_lt n m) Greater Equal)) (lt-ltb m n h)
    go Equal h = λ i. cond (le-ltb m n (omega arith) i) Less (cond (le-ltb n m (omega arith) i) Greater Equal)
    go Greater h = λ i. cond (le-ltb m n (omega arith) i) Less (cond (lt-ltb n m h i) Greater Equal)

pub then_assoc : (o p r : Ordering) → ordering_then (ordering_then o p) r ≡ ordering_then o (ordering_then p r)
then_assoc Less p r = refl
then_assoc Equal p r = refl
then_assoc Greater p r = refl

pub texts_keys : (x y : List ℕ) (u v : List ℤ) → compare_keys (ended x ++ u) (ended y ++ v) ≡ ordering_then (slice_cmp nat_cmp x y) (compare_keys u v)
texts_keys [] [] u v = refl
texts_keys [] (b ∷ y) u v = refl
texts_keys (a ∷ x) [] u v = refl
texts_keys (a ∷ x) (b ∷ y) u v =
    (λ i. ordering_then (int_cmp-pos a b i) (texts_keys x y u v i)) ∙ sym (then_assoc (nat_cmp a b) (slice_cmp nat_cmp x y) (compare_keys u v))

-- ---- the first integer is the rank

abbrev Front : TermTree → Type 0
Front t = IsTerm t → (rest : List ℤ) × (key t ≡ pos (rank_of (out-TermTree t)) ∷ rest)

front_of : (t : TermTree) (l : TermTree-F TermTree) (rest : List ℤ) → out-TermTree t ≡ l → key t ≡ pos (rank_of l) ∷ rest → (rest : List ℤ) × (key t ≡ pos (rank_of (out-TermTree t)) ∷ rest)
front_of t l rest e k = (rest, k ∙ ap (λ m. pos (rank_of m) ∷ rest) (sym e))

pub front : (t : TermTree) → IsTerm t → (rest : List ℤ) × (key t ≡ pos (rank_of (out-TermTree t)) ∷ rest)
front = by_parts Front record {
  at_int = λ n h. front_of _ _ _ (outs-Int n) (key-Int n);
  at_atom = λ text h. front_of _ _ _ (outs-Atom text) (key-Atom text);
  at_bin = λ bytes h. front_of _ _ _ (outs-Bin bytes) (key-Bin bytes);
  at_nil = λ h. front_of _ _ _ outs-Nil key-Nil;
  at_list = lists;
  at_tuple = λ xs each h. front_of _ _ _ (outs-Tuple xs) (key-Tuple xs);
  at_map = λ ps each h. front_of _ _ _ (outs-Map ps) (key-Map ps);
  at_closure = λ origin xs each h. front_of _ _ _ (outs-Closure origin xs) (key-Closure origin xs);
}
  where
    lists : (xs : List TermTree) (t : TermTree) → Each Front xs → Front t → Front (tree.List xs t)
    lists [] t each f h = absurd (true≢false (sym (ends_list [] t h)))
    lists (x ∷ xs) t each f h = front_of _ _ _ (outs-List (x ∷ xs) t) (key-List (x ∷ xs) t)

-- ---- terms compare as their integers

abbrev pub Agrees : TermTree → Type 0
Agrees a = (b : TermTree) (u v : List ℤ) → IsTerm a → IsTerm b → compare_keys (key a ++ u) (key b ++ v) ≡ ordering_then (term_cmp a b) (compare_keys u v)

pub decided_by : (o w : Ordering) → is_eq o ≡ false → ordering_then o w ≡ o
decided_by Less w h = refl
decided_by Equal w h = absurd (cc)
decided_by Greater w h = refl

-- two terms of two kinds
pub apart : (a b : TermTree) (u v : List ℤ) (m n : ℕ) → IsTerm a → IsTerm b → rank_of (out-TermTree a) ≡ m → rank_of (out-TermTree b) ≡ n → is_eq (nat_cmp m n) ≡ false → term_cmp a b ≡ nat_cmp m n → compare_keys (key a ++ u) (key b ++ v) ≡ ordering_then (term_cmp a b) (compare_keys u v)
apart a b u v m n ha hb p q differ by_kind =
    let f = front a ha in
    let g = front b hb in
    (λ i. compare_keys (f.1 i ++ u) (g.1 i ++ v))
    ∙ (ap (λ o. ordering_then o (compare_keys (f.0 ++ u) (g.0 ++ v))) (int_cmp-pos (rank_of (out-TermTree a)) (rank_of (out-TermTree b)) ∙ (λ i. nat_cmp (p i) (q i)))
    ∙ (decided_by (nat_cmp m n) _ differ ∙ (sym (decided_by (nat_cmp m n) (compare_keys u v) differ) ∙ ap (λ o. ordering_then o (compare_keys u v)) (sym by_kind))))

-- as many parts
pub same_long : (xs ys : List TermTree) (u v : List ℤ) → Each Agrees xs → AreTerms xs → AreTerms ys → length xs ≡ length ys → compare_keys (all (map key xs) ++ u) (all (map key ys) ++ v) ≡ ordering_then (compare_parts (map compared xs) ys) (compare_keys u v)
same_long [] [] u v each h k e = refl
same_long [] (y ∷ ys) u v each h k e = absurd (omega arith)
same_long (x ∷ xs) [] u v each h k e = absurd (omega arith)
same_long (x ∷ xs) (y ∷ ys) u v each h k e =
    let shorter : length xs ≡ length ys = omega arith in
    (λ i. compare_keys (append_assoc (key x) (all (map key xs)) u i) (append_assoc (key y) (all (map key ys)) v i))
    ∙ (each.0 y (all (map key xs) ++ u) (all (map key ys) ++ v) (fits_front x xs h) (fits_front y ys k)
    ∙ (ap (ordering_then (term_cmp x y)) (same_long xs ys u v each.1 (fits_behind x xs h) (fits_behind y ys k) shorter)
    ∙ sym (then_assoc (term_cmp x y) (compare_parts (map compared xs) ys) (compare_keys u v))))

-- parts, and what is less than each of them
pub ended_parts : (xs ys : List TermTree) (u v : List ℤ) → Each Agrees xs → AreTerms xs → AreTerms ys → compare_keys (all (map key xs) ++ (negsuc 0 ∷ u)) (all (map key ys) ++ (negsuc 0 ∷ v)) ≡ ordering_then (compare_parts (map compared xs) ys) (compare_keys u v)
ended_parts [] [] u v each h k = refl
ended_parts [] (y ∷ ys) u v each h k = ap (λ z. compare_keys (negsuc 0 ∷ u) ((z ++ all (map key ys)) ++ (negsuc 0 ∷ v))) (front y (fits_front y ys k)).1
ended_parts (x ∷ xs) [] u v each h k = ap (λ z. compare_keys ((z ++ all (map key xs)) ++ (negsuc 0 ∷ u)) (negsuc 0 ∷ v)) (front x (fits_front x xs h)).1
ended_parts (x ∷ xs) (y ∷ ys) u v each h k =
    (λ i. compare_keys (append_assoc (key x) (all (map key xs)) (negsuc 0 ∷ u) i) (append_assoc (key y) (all (map key ys)) (negsuc 0 ∷ v) i))
    ∙ (each.0 y (all (map key xs) ++ (negsuc 0 ∷ u)) (all (map key ys) ++ (negsuc 0 ∷ v)) (fits_front x xs h) (fits_front y ys k)
    ∙ (ap (ordering_then (term_cmp x y)) (ended_parts xs ys u v each.1 (fits_behind x xs h) (fits_behind y ys k))
    ∙ sym (then_assoc (term_cmp x y) (compare_parts (map compared xs) ys) (compare_keys u v))))

-- what is no list has another rank
pub not_six : (l : TermTree-F TermTree) → is_list l ≡ false → is_eq (nat_cmp (rank_of l) 6) ≡ false
not_six (layer.List xs t) h = absurd (cc)
not_six l h = refl

pub six_not : (l : TermTree-F TermTree) → is_list l ≡ false → is_eq (nat_cmp 6 (rank_of l)) ≡ false
six_not (layer.List xs t) h = absurd (cc)
six_not l h = refl

pub chains : (xs ys : List TermTree) (s t : TermTree) (u v : List ℤ) → Each Agrees xs → Agrees s → AreTerms xs → AreTerms ys → IsTerm s → IsTerm t → is_list (out-TermTree s) ≡ false → is_list (out-TermTree t) ≡ false → compare_keys (chained (map key xs) (key s) ++ u) (chained (map key ys) (key t) ++ v) ≡ ordering_then (compare_lists (map compared xs) (compared s) ys t) (compare_keys u v)
chains [] [] s t u v each agree h k hs ht ns nt = agree t u v hs ht
chains [] (y ∷ ys) s t u v each agree h k hs ht ns nt =
    let f = front s hs in
    let differ = not_six (out-TermTree s) ns in
    ap (λ z. compare_keys (z ++ u) (chained (map key (y ∷ ys)) (key t) ++ v)) f.1
    ∙ (ap (λ o. ordering_then o (compare_keys (f.0 ++ u) ((key y ++ chained (map key ys) (key t)) ++ v))) (int_cmp-pos (rank_of (out-TermTree s)) 6)
    ∙ (decided_by _ _ differ ∙ sym (decided_by _ (compare_keys u v) differ)))
chains (x ∷ xs) [] s t u v each agree h k hs ht ns nt =
    let f = front t ht in
    let differ = six_not (out-TermTree t) nt in
    ap (λ z. compare_keys (chained (map key (x ∷ xs)) (key s) ++ u) (z ++ v)) f.1
    ∙ (ap (λ o. ordering_then o (compare_keys ((key x ++ chained (map key xs) (key s)) ++ u) (f.0 ++ v))) (int_cmp-pos 6 (rank_of (out-TermTree t)))
    ∙ (decided_by _ _ differ ∙ sym (decided_by _ (compare_keys u v) differ)))
chains (x ∷ xs) (y ∷ ys) s t u v each agree h k hs ht ns nt =
    (λ i. compare_keys (append_assoc (key x) (chained (map key xs) (key s)) u i) (append_assoc (key y) (chained (map key ys) (key t)) v i))
    ∙ (each.0 y (chained (map key xs) (key s) ++ u) (chained (map key ys) (key t) ++ v) (fits_front x xs h) (fits_front y ys k)
    ∙ (ap (ordering_then (term_cmp x y)) (chains xs ys s t u v each.1 agree (fits_behind x xs h) (fits_behind y ys k) hs ht ns nt)
    ∙ sym (then_assoc (term_cmp x y) (compare_lists (map compared xs) (compared s) ys t) (compare_keys u v))))
