-- What reading says of each kind of term.
use Rattle.std.proofs.Common.{◌≡◌, ◌<◌, ℕ, suc, ◌+◌, List, [], ◌∷◌, ◌++◌, map, length, get_or, drop, Option, Some, None, refl, ap, sym, ◌∙◌, add-one, drop-cons, append_assoc, if◌then◌else◌, ℤ}
use Rattle.std.specs.Char.{encode_utf8}
use Rattle.std.specs.Option.{option_map}
use Rattle.kh_term.specs.declared.name.Origin.{Origin}
use Rattle.kh_term.specs.declared.tree.TermTree.{TermTree, out-TermTree}
use Rattle.kh_term.specs.declared.tree.TermTree.TheVariants as tree
use Rattle.kh_term.specs.declared.tree.TermTree.TheVariants.{rolls-Int, rolls-Atom, rolls-Bin, rolls-Nil, rolls-List, rolls-Tuple, rolls-Map, rolls-Closure, outs-Atom, outs-Bin}
use Rattle.kh_term.specs.declared.tree.TermTree.TheOpen.{TermTree-F}
use Rattle.kh_term.specs.declared.tree.TermTree.TheOpen as layer
use Rattle.kh_term.specs.declared.tree.TermTree.TheFolds.{para-roll-TermTree}
use Rattle.kh_term.specs.Parts.{name_of, name_in}
use Rattle.kh_term.specs.Size.{is_nil}
use Rattle.kh_cond.specs.declared.cond.Cond.{Cond}
use Rattle.kh_cond.specs.declared.cond.Cond.TheVariants as cond
use Rattle.kh_cond.specs.Reading.{cond_in, conds_in, each_in, all_in, part_of, tuple_in, records_in, cond_step, conds_step, before, each, in_front, point_in, points_in, point_before}

abbrev Both : Type 0
Both = Option Cond × Option (List Cond)

each_part : (ts : List TermTree) → all_in (map part_of ts) ≡ each_in ts
each_part [] = refl
each_part (t ∷ ts) = ap (before (cond_in t)) (each_part ts)

pub cond-Int : (n : ℤ) → cond_in (tree.Int n) ≡ None
cond-Int n = ap cond_in (sym (rolls-Int n)) ∙ ap (λ (b : Both). b.0) (para-roll-TermTree Both (λ l. (cond_step l, conds_step l)) (layer.Int n))

pub conds-Int : (n : ℤ) → conds_in (tree.Int n) ≡ None
conds-Int n = ap conds_in (sym (rolls-Int n)) ∙ ap (λ (b : Both). b.1) (para-roll-TermTree Both (λ l. (cond_step l, conds_step l)) (layer.Int n))

pub cond-Atom : (text : List ℕ) → cond_in (tree.Atom text) ≡ option_map cond.Name (name_of (tree.Atom text))
cond-Atom text = ap cond_in (sym (rolls-Atom text)) ∙ ap (λ (b : Both). b.0) (para-roll-TermTree Both (λ l. (cond_step l, conds_step l)) (layer.Atom text)) ∙ ap (λ l. option_map cond.Name (name_in {A = TermTree} l)) (sym (outs-Atom text))

pub conds-Atom : (text : List ℕ) → conds_in (tree.Atom text) ≡ None
conds-Atom text = ap conds_in (sym (rolls-Atom text)) ∙ ap (λ (b : Both). b.1) (para-roll-TermTree Both (λ l. (cond_step l, conds_step l)) (layer.Atom text))

pub cond-Bin : (bytes : List ℕ) → cond_in (tree.Bin bytes) ≡ option_map cond.Name (name_of (tree.Bin bytes))
cond-Bin bytes = ap cond_in (sym (rolls-Bin bytes)) ∙ ap (λ (b : Both). b.0) (para-roll-TermTree Both (λ l. (cond_step l, conds_step l)) (layer.Bin bytes)) ∙ ap (λ l. option_map cond.Name (name_in {A = TermTree} l)) (sym (outs-Bin bytes))

pub conds-Bin : (bytes : List ℕ) → conds_in (tree.Bin bytes) ≡ None
conds-Bin bytes = ap conds_in (sym (rolls-Bin bytes)) ∙ ap (λ (b : Both). b.1) (para-roll-TermTree Both (λ l. (cond_step l, conds_step l)) (layer.Bin bytes))

pub cond-Nil : cond_in tree.Nil ≡ None
cond-Nil = ap cond_in (sym rolls-Nil) ∙ ap (λ (b : Both). b.0) (para-roll-TermTree Both (λ l. (cond_step l, conds_step l)) layer.Nil)

pub conds-Nil : conds_in tree.Nil ≡ Some []
conds-Nil = ap conds_in (sym rolls-Nil) ∙ ap (λ (b : Both). b.1) (para-roll-TermTree Both (λ l. (cond_step l, conds_step l)) layer.Nil)

pub cond-List : (ts : List TermTree) (tail : TermTree) → cond_in (tree.List ts tail) ≡ None
cond-List ts tail = ap cond_in (sym (rolls-List ts tail)) ∙ ap (λ (b : Both). b.0) (para-roll-TermTree Both (λ l. (cond_step l, conds_step l)) (layer.List ts tail))

pub conds-List : (ts : List TermTree) (tail : TermTree) → conds_in (tree.List ts tail) ≡ (if is_nil (out-TermTree tail) then each_in ts else None)
conds-List ts tail = ap conds_in (sym (rolls-List ts tail)) ∙ (ap (λ (b : Both). b.1) (para-roll-TermTree Both (λ l. (cond_step l, conds_step l)) (layer.List ts tail)) ∙ ap (λ (o : Option (List Cond)). if is_nil (out-TermTree tail) then o else None) (each_part ts))

pub cond-Tuple : (ts : List TermTree) → cond_in (tree.Tuple ts) ≡ tuple_in (map part_of ts)
cond-Tuple ts = ap cond_in (sym (rolls-Tuple ts)) ∙ ap (λ (b : Both). b.0) (para-roll-TermTree Both (λ l. (cond_step l, conds_step l)) (layer.Tuple ts))

pub conds-Tuple : (ts : List TermTree) → conds_in (tree.Tuple ts) ≡ None
conds-Tuple ts = ap conds_in (sym (rolls-Tuple ts)) ∙ ap (λ (b : Both). b.1) (para-roll-TermTree Both (λ l. (cond_step l, conds_step l)) (layer.Tuple ts))

pub cond-Map : (ps : List (TermTree × TermTree)) → cond_in (tree.Map ps) ≡ None
cond-Map ps = ap cond_in (sym (rolls-Map ps)) ∙ ap (λ (b : Both). b.0) (para-roll-TermTree Both (λ l. (cond_step l, conds_step l)) (layer.Map ps))

pub conds-Map : (ps : List (TermTree × TermTree)) → conds_in (tree.Map ps) ≡ None
conds-Map ps = ap conds_in (sym (rolls-Map ps)) ∙ ap (λ (b : Both). b.1) (para-roll-TermTree Both (λ l. (cond_step l, conds_step l)) (layer.Map ps))

pub cond-Closure : (origin : Origin) (env : List TermTree) → cond_in (tree.Closure origin env) ≡ None
cond-Closure origin env = ap cond_in (sym (rolls-Closure origin env)) ∙ ap (λ (b : Both). b.0) (para-roll-TermTree Both (λ l. (cond_step l, conds_step l)) (layer.Closure origin env))

pub conds-Closure : (origin : Origin) (env : List TermTree) → conds_in (tree.Closure origin env) ≡ None
conds-Closure origin env = ap conds_in (sym (rolls-Closure origin env)) ∙ ap (λ (b : Both). b.1) (para-roll-TermTree Both (λ l. (cond_step l, conds_step l)) (layer.Closure origin env))

-- what is read in front stays in front
front_twice : {A : Type 0} (xs ys : List A) (o : Option (List A)) → in_front xs (in_front ys o) ≡ in_front (xs ++ ys) o
front_twice xs ys None = refl
front_twice xs ys (Some zs) = ap Some (sym (append_assoc xs ys zs))

-- one more value that is read
pub next_read : {A B : Type 0} (f : A → Option B) (all : List B) (xs : List A) (i : ℕ) (x : A) (y : B) → i < length xs → x ≡ get_or xs i x → f x ≡ Some y →
    in_front all (each f (drop i xs)) ≡ in_front (all ++ y ∷ []) (each f (drop (i + 1) xs))
next_read f all xs i x y h e is =
    let first : f (get_or xs i x) ≡ Some y = ap f (sym e) ∙ is in
    rw (add-one i, drop-cons xs i x h) (ap (λ o. in_front all (before o (each f (drop (suc i) xs)))) first ∙ front_twice all (y ∷ []) (each f (drop (suc i) xs)))

-- a value that isn't read
pub none_read : {A B : Type 0} (f : A → Option B) (all : List B) (xs : List A) (i : ℕ) (x : A) → i < length xs → x ≡ get_or xs i x → f x ≡ None →
    in_front all (each f (drop i xs)) ≡ None
none_read f all xs i x h e is =
    let first : f (get_or xs i x) ≡ None = ap f (sym e) ∙ is in
    rw (drop-cons xs i x h) (ap (λ o. in_front all (before o (each f (drop (suc i) xs)))) first)

-- one more code point
pub point_next : (text : List ℕ) (ts : List TermTree) (i : ℕ) (t : TermTree) (c : ℕ) → i < length ts → t ≡ get_or ts i t → point_in (out-TermTree t) ≡ Some c →
    in_front text (points_in (drop i ts)) ≡ in_front (text ++ encode_utf8 c) (points_in (drop (i + 1) ts))
point_next text ts i t c h e is =
    let first : point_in (out-TermTree (get_or ts i t)) ≡ Some c = ap (λ u. point_in (out-TermTree u)) (sym e) ∙ is in
    rw (add-one i, drop-cons ts i t h) (ap (λ o. in_front text (point_before o (points_in (drop (suc i) ts)))) first ∙ front_twice text (encode_utf8 c) (points_in (drop (suc i) ts)))

pub point_none : (text : List ℕ) (ts : List TermTree) (i : ℕ) (t : TermTree) → i < length ts → t ≡ get_or ts i t → point_in (out-TermTree t) ≡ None →
    in_front text (points_in (drop i ts)) ≡ None
point_none text ts i t h e is =
    let first : point_in (out-TermTree (get_or ts i t)) ≡ None = ap (λ u. point_in (out-TermTree u)) (sym e) ∙ is in
    rw (drop-cons ts i t h) (ap (λ o. in_front text (point_before o (points_in (drop (suc i) ts)))) first)

-- nothing in front
pub none_in_front : {A : Type 0} (o : Option (List A)) → in_front [] o ≡ o
none_in_front None = refl
none_in_front (Some xs) = refl

pub ruleset reading = (cond-Int, cond-Atom, cond-Bin, cond-Nil, cond-List, cond-Tuple, cond-Map, cond-Closure, conds-Int, conds-Atom, conds-Bin, conds-Nil, conds-List, conds-Tuple, conds-Map, conds-Closure)

-- the terms beside what they are read as are the terms
terms_beside : (ts : List TermTree) → map (λ p. p.0) (map part_of ts) ≡ ts
terms_beside [] = refl
terms_beside (t ∷ ts) = ap (λ us. t ∷ us) (terms_beside ts)

-- a tuple of another number of parts than two
pub other_tuple : (ts : List TermTree) → (length ts ≡ 2 → ⊥) → tuple_in (map part_of ts) ≡ records_in ts
other_tuple [] h = refl
other_tuple (t ∷ []) h = refl
other_tuple (t ∷ u ∷ []) h = absurd (h refl)
other_tuple (t ∷ u ∷ v ∷ ts) h = ap records_in (terms_beside (t ∷ u ∷ v ∷ ts))

pub ruleset tuples = other_tuple

pub ruleset lists = (next_read, none_read, none_in_front)

pub ruleset points = (point_next, point_none, none_in_front)
