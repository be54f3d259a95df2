-- What operands are spelled as reads back.
use Rattle.std.proofs.Common.{◌≡◌, ◌^◌, ℕ, zero, suc, Bool, true, false, if◌then◌else◌, codes, List, [], ◌∷◌, map, Option, Some, None, option_map, refl, ap, sym, ◌∙◌, subst, nat_eq, nat_lt, ℤ, pos, negsuc}
use Rattle.std.specs.List.{flat_map}
use Rattle.std.specs.Option.{option_and_then}
use Rattle.std.specs.Str.{bytes_eq}
use Rattle.std.proofs.lemmas.Option.{option_and_then_some, same_Some, none-some}
use Rattle.kh_term.specs.declared.name.Origin.{Origin}
use Rattle.kh_term.specs.declared.tree.TermTree.{TermTree, out-TermTree}
use Rattle.kh_term.specs.declared.tree.TermTree.TheOpen.{TermTree-F}
use Rattle.kh_term.specs.declared.tree.TermTree.TheOpen as layer
use Rattle.kh_term.specs.declared.tree.TermTree.TheVariants as tree
use Rattle.kh_term.specs.declared.tree.TermTree.TheVariants.{outs-Int, outs-Atom, outs-Nil, outs-List, outs-Tuple}
use Rattle.kh_term.specs.Make.{list_of}
use Rattle.kh_term.specs.WellFormed.{faults_of}
use Rattle.kh_term.specs.Whole.{whole, whole_where}
use Rattle.kh_instr.specs.declared.operand.Reg.{Reg}
use Rattle.kh_instr.specs.declared.operand.Reg.TheVariants as reg
use Rattle.kh_instr.specs.declared.operand.Source.{Source}
use Rattle.kh_instr.specs.declared.operand.Source.TheVariants as source
use Rattle.kh_instr.specs.Operands.{int_in, int_of, atom_in, atom_of, parts_in, parts_of, ended_by, items_in, items_of, below, number_below, count_of, arity_of, positive, own_number_of, is_word, behind_word, behind, tagged_in, tagged, any_of, label_of, place_of, slot_of, quoted_of, reg_named, reg_from, reg_of, holds_unsupported, literal_of, source_named, integer_or, literal_or, typed_reg, source_of_two, source_of_three, source_from, source_in, source_of, each, both, each_two, list_by, listed_by, list_by_two, listed_by_two, function_from_parts, function_of, one, two, three, four, five}
use Rattle.kh_instr.specs.Spelling.{number, with_word, reg_tree, label_tree, slot_tree, quoted_tree, source_tree, function_tree, list_tree, listed_tree, by_turns, listed_two_tree}
use Rattle.kh_instr.proofs.Literals.{holds-Nil, literal_is}

-- what was read is read again from its own spelling
abbrev pub Faithful : {A : Type 0} → (TermTree → Option A) → (A → TermTree) → Type 0
Faithful {A} f g = (t : TermTree) (x : A) → f t ≡ Some x → f (g x) ≡ Some x

pub map_some : {A B P : Type 0} (f : A → B) (o : Option A) (y : B) → option_map f o ≡ Some y → ((x : A) → o ≡ Some x → f x ≡ y → P) → P
map_some f None y e k = absurd (none-some _ e)
map_some f (Some x) y e k = let same : f x ≡ y = same_Some _ _ e in k x refl same

pub chosen : {A : Type 0} (b : Bool) (x y : A) → (if b then Some x else None) ≡ Some y → (b ≡ true) × (x ≡ y)
chosen true x y e = let same : x ≡ y = same_Some _ _ e in (refl, same)
chosen false x y e = absurd (none-some _ e)

-- ---- plain parts

pub atom_read : (text : List ℕ) → atom_of (tree.Atom text) ≡ Some text
atom_read text = ap atom_in (outs-Atom text)

pub int_read : (z : ℤ) → int_in (out-TermTree (tree.Int z)) ≡ Some z
int_read z = ap int_in (outs-Int z)

pub parts_read : (ts : List TermTree) → parts_of (tree.Tuple ts) ≡ Some ts
parts_read ts = ap parts_in (outs-Tuple ts)

pub items_read : (ts : List TermTree) → items_of (list_of ts) ≡ Some ts
items_read [] = ap items_in outs-Nil
items_read (t ∷ ts) = ap items_in (outs-List (t ∷ ts) tree.Nil) ∙ ap (ended_by (t ∷ ts)) outs-Nil

pub tagged_read : (word : List ℕ) (t : TermTree) → bytes_eq word word ≡ true → tagged word (with_word word t) ≡ Some t
tagged_read word t h =
    ap (tagged_in word) (parts_read (tree.Atom word ∷ t ∷ []))
    ∙ (ap (λ o. behind_word word o t) (atom_read word) ∙ ap (λ b. if b then Some t else None) h)

below_again : (m : ℕ) (z : ℤ) (n : ℕ) → below m z ≡ Some n → below m (pos n) ≡ Some n
below_again m (pos k) n e =
    let both = chosen (nat_lt k m) k n e in
    subst (λ j. (if nat_lt j m then Some j else None) ≡ Some j) both.1 (ap (λ b. if b then Some k else None) both.0)
below_again m (negsuc k) n e = absurd (none-some _ e)

pub number_faithful : (m : ℕ) → Faithful (number_below m) number
number_faithful m t x e =
    option_and_then_some (below m) (int_in (out-TermTree t)) x e
    (λ z k f. ap (option_and_then (below m)) (int_read (pos x)) ∙ below_again m z x f)

pub count_faithful : Faithful count_of number
count_faithful = number_faithful (2 ^ 32)

pub arity_faithful : Faithful arity_of number
arity_faithful = number_faithful 256

pub place_faithful : Faithful place_of number
place_faithful = number_faithful 1024

positive_again : (n x : ℕ) → positive n ≡ Some x → (n ≡ x) × (positive x ≡ Some x)
positive_again zero x e = absurd (none-some _ e)
positive_again (suc n) x e = let same : suc n ≡ x = same_Some _ _ e in (same, subst (λ k. positive k ≡ Some k) same refl)

pub own_number_faithful : Faithful own_number_of number
own_number_faithful t x e =
    option_and_then_some positive (count_of t) x e (λ n k f.
    let again = positive_again n x f in
    ap (option_and_then positive) (count_faithful t x (k ∙ ap Some again.0)) ∙ again.1)

pub label_faithful : Faithful label_of label_tree
label_faithful t x e =
    option_and_then_some count_of (tagged (codes "f") t) x e
    (λ u k f. ap (option_and_then count_of) (tagged_read (codes "f") (number x) refl) ∙ count_faithful u x f)

pub slot_faithful : Faithful slot_of slot_tree
slot_faithful t x e =
    option_and_then_some place_of (tagged (codes "y") t) x e
    (λ u k f. ap (option_and_then place_of) (tagged_read (codes "y") (number x) refl) ∙ place_faithful u x f)

pub name_faithful : Faithful atom_of (λ text. tree.Atom text)
name_faithful t x e = atom_read x

pub quoted_faithful : Faithful quoted_of quoted_tree
quoted_faithful t x e = ap (option_and_then atom_of) (tagged_read (codes "atom") (tree.Atom x) refl) ∙ atom_read x

pub any_faithful : (g : Unit {0} → TermTree) → Faithful any_of g
any_faithful g t x e = e

-- ---- registers

abbrev pub RegFits : Reg → Type 0
RegFits (reg.X n) = place_of (number n) ≡ Some n
RegFits (reg.Y n) = place_of (number n) ≡ Some n

named_fits : (word : List ℕ) (t : TermTree) (r : Reg) → reg_named word t ≡ Some r → RegFits r
named_fits word t r e = go (bytes_eq word (codes "x")) (bytes_eq word (codes "y")) e
  where
    go : (b c : Bool) → (if b then option_map (λ n. reg.X n) (place_of t) else if c then option_map (λ n. reg.Y n) (place_of t) else None) ≡ Some r → RegFits r
    go true c f = map_some (λ n. reg.X n) (place_of t) r f (λ n k same. subst RegFits same (place_faithful t n k))
    go false true f = map_some (λ n. reg.Y n) (place_of t) r f (λ n k same. subst RegFits same (place_faithful t n k))
    go false false f = absurd (none-some _ f)

from_fits : (parts : List TermTree) (r : Reg) → reg_from parts ≡ Some r → RegFits r
from_fits (first ∷ part ∷ []) r e =
    option_and_then_some (λ word. reg_named word part) (atom_of first) r e (λ word k f. named_fits word part r f)
from_fits parts r e = absurd (none-some _ e)

reg_fits : (t : TermTree) (r : Reg) → reg_of t ≡ Some r → RegFits r
reg_fits t r e = option_and_then_some reg_from (parts_of t) r e (λ parts k f. from_fits parts r f)

reg_back : (r : Reg) → RegFits r → reg_of (reg_tree r) ≡ Some r
reg_back (reg.X n) h =
    ap (option_and_then reg_from) (parts_read (tree.Atom (codes "x") ∷ number n ∷ []))
    ∙ (ap (option_and_then (λ word. reg_named word (number n))) (atom_read (codes "x")) ∙ ap (option_map (λ k. reg.X k)) h)
reg_back (reg.Y n) h =
    ap (option_and_then reg_from) (parts_read (tree.Atom (codes "y") ∷ number n ∷ []))
    ∙ (ap (option_and_then (λ word. reg_named word (number n))) (atom_read (codes "y")) ∙ ap (option_map (λ k. reg.Y k)) h)

pub reg_faithful : Faithful reg_of reg_tree
reg_faithful t r e = reg_back r (reg_fits t r e)

-- ---- sources

-- a tuple of a word and what stands behind it, as a source
pair_source : (word : List ℕ) (t : TermTree) → source_of (with_word word t) ≡ source_named word t
pair_source word t =
    ap source_in (outs-Tuple (tree.Atom word ∷ t ∷ [])) ∙ ap (λ o. source_of_two o t) (atom_read word)

reg_source : (r : Reg) → RegFits r → source_of (reg_tree r) ≡ Some (source.Reg r)
reg_source (reg.X n) h = pair_source (codes "x") (number n) ∙ ap (λ o. option_map (λ r. source.Reg r) (option_map (λ k. reg.X k) o)) h
reg_source (reg.Y n) h = pair_source (codes "y") (number n) ∙ ap (λ o. option_map (λ r. source.Reg r) (option_map (λ k. reg.Y k) o)) h

whole_holds : (t : TermTree) (b : Bool) (e : nat_eq (faults_of t) 0 ≡ b) → holds_unsupported t ≡ false → holds_unsupported (whole_where t b e).node ≡ false
whole_holds t true e h = h
whole_holds t false e h = holds-Nil

literal_back : (t : TermTree) (s : Source) → literal_of t ≡ Some s → source_of (source_tree s) ≡ Some s
literal_back t s e = go (holds_unsupported t) refl e
  where
    go : (b : Bool) → holds_unsupported t ≡ b → (if b then None else Some (source.Literal (whole t))) ≡ Some s → source_of (source_tree s) ≡ Some s
    go true k f = absurd (none-some _ f)
    go false k f =
        let same : source.Literal (whole t) ≡ s = same_Some _ _ f in
        subst (λ z. source_of (source_tree z) ≡ Some z) same
        (pair_source (codes "literal") (whole t).node ∙ sym (literal_is (whole t) (whole t).node (whole_holds t (nat_eq (faults_of t) 0) refl k) refl))

reg_kept : (o : Option Reg) (s : Source) → ((r : Reg) → o ≡ Some r → RegFits r) → option_map (λ r. source.Reg r) o ≡ Some s → source_of (source_tree s) ≡ Some s
reg_kept o s fits e =
    map_some (λ r. source.Reg r) o s e (λ r k same. subst (λ z. source_of (source_tree z) ≡ Some z) same (reg_source r (fits r k)))

named_back : (word : List ℕ) (t : TermTree) (s : Source) → source_named word t ≡ Some s → source_of (source_tree s) ≡ Some s
named_back word t s e = go (bytes_eq word (codes "atom")) (bytes_eq word (codes "integer")) (bytes_eq word (codes "literal")) e
  where
    go : (a b c : Bool) → (if a then option_map (λ x. source.Atom x) (atom_of t) else if b then option_map (λ n. source.Integer n) (int_of t) else if c then literal_of t else option_map (λ r. source.Reg r) (reg_named word t)) ≡ Some s → source_of (source_tree s) ≡ Some s
    go true b c f =
        map_some (λ x. source.Atom x) (atom_of t) s f (λ x k same. subst (λ z. source_of (source_tree z) ≡ Some z) same
        (pair_source (codes "atom") (tree.Atom x) ∙ ap (option_map (λ y. source.Atom y)) (atom_read x)))
    go false true c f =
        map_some (λ n. source.Integer n) (int_of t) s f (λ n k same. subst (λ z. source_of (source_tree z) ≡ Some z) same
        (pair_source (codes "integer") (tree.Int n) ∙ ap (option_map (λ y. source.Integer y)) (int_read n)))
    go false false true f = literal_back t s f
    go false false false f = reg_kept (reg_named word t) s (named_fits word t) f

typed_back : (word : List ℕ) (t : TermTree) (s : Source) → typed_reg word t ≡ Some s → source_of (source_tree s) ≡ Some s
typed_back word t s e = go (bytes_eq word (codes "tr")) e
  where
    go : (b : Bool) → (if b then option_map (λ r. source.Reg r) (reg_of t) else None) ≡ Some s → source_of (source_tree s) ≡ Some s
    go true f = reg_kept (reg_of t) s (reg_fits t) f
    go false f = absurd (none-some _ f)

two_parts_back : (o : Option (List ℕ)) (t : TermTree) (s : Source) → source_of_two o t ≡ Some s → source_of (source_tree s) ≡ Some s
two_parts_back None t s e = absurd (none-some _ e)
two_parts_back (Some word) t s e = named_back word t s e

three_parts_back : (o : Option (List ℕ)) (t : TermTree) (s : Source) → source_of_three o t ≡ Some s → source_of (source_tree s) ≡ Some s
three_parts_back None t s e = absurd (none-some _ e)
three_parts_back (Some word) t s e = typed_back word t s e

from_back : (parts : List TermTree) (s : Source) → source_from parts ≡ Some s → source_of (source_tree s) ≡ Some s
from_back (first ∷ part ∷ []) s e = two_parts_back (atom_of first) part s e
from_back (first ∷ part ∷ type ∷ []) s e = three_parts_back (atom_of first) part s e
from_back parts s e = absurd (none-some _ e)

pub source_faithful : Faithful source_of source_tree
source_faithful t s e = go (out-TermTree t) e
  where
    nil_back : (b : Bool) → (if b then Some source.Nil else None) ≡ Some s → source_of (source_tree s) ≡ Some s
    nil_back b f =
        subst (λ z. source_of (source_tree z) ≡ Some z) (chosen b source.Nil s f).1 (ap source_in (outs-Atom (codes "nil")))

    go : (l : TermTree-F TermTree) → source_in l ≡ Some s → source_of (source_tree s) ≡ Some s
    go (layer.Atom text) f = nil_back (bytes_eq text (codes "nil")) f
    go (layer.Tuple parts) f = from_back parts s f
    go l f = absurd (none-some _ f)

-- ---- functions

function_again : (o : Origin) → arity_of (number o.arity) ≡ Some o.arity → function_of (function_tree o) ≡ Some o
function_again o h =
    ap (option_and_then function_from_parts) (parts_read (tree.Atom (codes "extfunc") ∷ tree.Atom o.«module» ∷ tree.Atom o.name ∷ number o.arity ∷ []))
    ∙ (λ i. if is_word (codes "extfunc") (atom_read (codes "extfunc") i) then
    option_and_then (λ m. option_and_then (λ name. option_map (λ arity. record { «module» = m; name = name; arity = arity }) (h i)) (atom_read o.name i)) (atom_read o.«module» i)
    else None)

function_where : (m n a : TermTree) (o : Origin) (b : Bool) → (if b then option_and_then (λ m. option_and_then (λ name. option_map (λ arity. record { «module» = m; name = name; arity = arity }) (arity_of a)) (atom_of n)) (atom_of m) else None) ≡ Some o → function_of (function_tree o) ≡ Some o
function_where m n a o true g =
    option_and_then_some (λ m. option_and_then (λ name. option_map (λ arity. record { «module» = m; name = name; arity = arity }) (arity_of a)) (atom_of n)) (atom_of m) o g (λ mt km g1.
    option_and_then_some (λ name. option_map (λ arity. record { «module» = mt; name = name; arity = arity }) (arity_of a)) (atom_of n) o g1 (λ nt kn g2.
    map_some (λ arity. record { «module» = mt; name = nt; arity = arity }) (arity_of a) o g2 (λ k ka same.
    subst (λ z. function_of (function_tree z) ≡ Some z) same (function_again (record { «module» = mt; name = nt; arity = k }) (arity_faithful a k ka)))))
function_where m n a o false g = absurd (none-some _ g)

function_parts : (parts : List TermTree) (o : Origin) → function_from_parts parts ≡ Some o → function_of (function_tree o) ≡ Some o
function_parts (first ∷ m ∷ n ∷ a ∷ []) o f = function_where m n a o (is_word (codes "extfunc") (atom_of first)) f
function_parts parts o f = absurd (none-some _ f)

pub function_faithful : Faithful function_of function_tree
function_faithful t o e = option_and_then_some function_from_parts (parts_of t) o e (λ parts k f. function_parts parts o f)

-- ---- lists

pub each_faithful : {A : Type 0} (f : TermTree → Option A) (g : A → TermTree) → Faithful f g → (ts : List TermTree) (xs : List A) → each f ts ≡ Some xs → each f (map g xs) ≡ Some xs
each_faithful f g F [] xs e = let same : [] ≡ xs = same_Some _ _ e in subst (λ ys. each f (map g ys) ≡ Some ys) same refl
each_faithful f g F (t ∷ ts) xs e =
    option_and_then_some (λ x. option_map (λ ys. x ∷ ys) (each f ts)) (f t) xs e (λ x k h.
    map_some (λ ys. x ∷ ys) (each f ts) xs h (λ ys j same.
    subst (λ zs. each f (map g zs) ≡ Some zs) same
    (λ i. option_and_then (λ z. option_map (λ zs. z ∷ zs) (each_faithful f g F ts ys j i)) (F t x k i))))

pub list_faithful : {A : Type 0} (f : TermTree → Option A) (g : A → TermTree) → Faithful f g → Faithful (list_by f) (list_tree g)
list_faithful f g F t xs e =
    option_and_then_some (each f) (items_of t) xs e
    (λ us k h. ap (option_and_then (each f)) (items_read (map g xs)) ∙ each_faithful f g F us xs h)

pub listed_faithful : {A : Type 0} (f : TermTree → Option A) (g : A → TermTree) → Faithful f g → Faithful (listed_by f) (listed_tree g)
listed_faithful f g F t xs e =
    option_and_then_some (list_by f) (tagged (codes "list") t) xs e
    (λ u k h. ap (option_and_then (list_by f)) (tagged_read (codes "list") (list_tree g xs) refl) ∙ list_faithful f g F u xs h)

pub both_faithful : {A B : Type 0} (f : TermTree → Option A) (g : A → TermTree) (h : TermTree → Option B) (k : B → TermTree) → Faithful f g → Faithful h k → (t u : TermTree) (p : A × B) → both f h t u ≡ Some p → both f h (g p.0) (k p.1) ≡ Some p
both_faithful f g h k F H t u p e =
    option_and_then_some (λ x. option_map (λ y. (x, y)) (h u)) (f t) p e (λ x a b.
    map_some (λ y. (x, y)) (h u) p b (λ y c same.
    subst (λ q. both f h (g q.0) (k q.1) ≡ Some q) same (λ i. option_and_then (λ z. option_map (λ w. (z, w)) (H u y c i)) (F t x a i))))

pub each_two_faithful : {A B : Type 0} (f : TermTree → Option A) (g : A → TermTree) (h : TermTree → Option B) (k : B → TermTree) → Faithful f g → Faithful h k → (ts : List TermTree) (ps : List (A × B)) → each_two f h ts ≡ Some ps → each_two f h (by_turns g k ps) ≡ Some ps
each_two_faithful f g h k F H [] ps e = let same : [] ≡ ps = same_Some _ _ e in subst (λ qs. each_two f h (by_turns g k qs) ≡ Some qs) same refl
each_two_faithful f g h k F H (t ∷ []) ps e = absurd (none-some _ e)
each_two_faithful f g h k F H (t ∷ u ∷ ts) ps e =
    option_and_then_some (λ p. option_map (λ qs. p ∷ qs) (each_two f h ts)) (both f h t u) ps e (λ p a b.
    map_some (λ qs. p ∷ qs) (each_two f h ts) ps b (λ qs c same.
    subst (λ zs. each_two f h (by_turns g k zs) ≡ Some zs) same
    (λ i. option_and_then (λ z. option_map (λ zs. z ∷ zs) (each_two_faithful f g h k F H ts qs c i)) (both_faithful f g h k F H t u p a i))))

list_two_faithful : {A B : Type 0} (f : TermTree → Option A) (g : A → TermTree) (h : TermTree → Option B) (k : B → TermTree) → Faithful f g → Faithful h k → Faithful (list_by_two f h) (λ ps. list_of (by_turns g k ps))
list_two_faithful f g h k F H t ps e =
    option_and_then_some (each_two f h) (items_of t) ps e
    (λ us a b. ap (option_and_then (each_two f h)) (items_read (by_turns g k ps)) ∙ each_two_faithful f g h k F H us ps b)

pub listed_two_faithful : {A B : Type 0} (f : TermTree → Option A) (g : A → TermTree) (h : TermTree → Option B) (k : B → TermTree) → Faithful f g → Faithful h k → Faithful (listed_by_two f h) (listed_two_tree g k)
listed_two_faithful f g h k F H t ps e =
    option_and_then_some (list_by_two f h) (tagged (codes "list") t) ps e
    (λ u a b. ap (option_and_then (list_by_two f h)) (tagged_read (codes "list") (list_of (by_turns g k ps)) refl) ∙ list_two_faithful f g h k F H u ps b)

-- ---- several operands

pub one_back : {A : Type 0} (f : TermTree → Option A) (g : A → TermTree) → Faithful f g → (ts : List TermTree) (x : A) → one f ts ≡ Some x → one f (g x ∷ []) ≡ Some x
one_back f g F (t ∷ []) x e = F t x e
one_back f g F ts x e = absurd (none-some _ e)

pub two_back : {A B : Type 0} (f : TermTree → Option A) (g : A → TermTree) (h : TermTree → Option B) (k : B → TermTree) → Faithful f g → Faithful h k → (ts : List TermTree) (p : A × B) → two f h ts ≡ Some p → two f h (g p.0 ∷ k p.1 ∷ []) ≡ Some p
two_back f g h k F H (t ∷ u ∷ []) p e = both_faithful f g h k F H t u p e
two_back f g h k F H ts p e = absurd (none-some _ e)

pub three_back : {A B C : Type 0} (f : TermTree → Option A) (g : A → TermTree) (h : TermTree → Option B) (k : B → TermTree) (l : TermTree → Option C) (m : C → TermTree) → Faithful f g → Faithful h k → Faithful l m → (ts : List TermTree) (p : A × B × C) → three f h l ts ≡ Some p → three f h l (g p.0 ∷ k p.1 ∷ m p.2 ∷ []) ≡ Some p
three_back f g h k l m F H L (t ∷ u ∷ v ∷ []) p e =
    option_and_then_some (λ x. option_and_then (λ y. option_map (λ z. (x, y, z)) (l v)) (h u)) (f t) p e (λ x a e1.
    option_and_then_some (λ y. option_map (λ z. (x, y, z)) (l v)) (h u) p e1 (λ y b e2.
    map_some (λ z. (x, y, z)) (l v) p e2 (λ z c same.
    subst (λ q. three f h l (g q.0 ∷ k q.1 ∷ m q.2 ∷ []) ≡ Some q) same
    (λ i. option_and_then (λ x. option_and_then (λ y. option_map (λ z. (x, y, z)) (L v z c i)) (H u y b i)) (F t x a i)))))
three_back f g h k l m F H L ts p e = absurd (none-some _ e)

pub four_back : {A B C D : Type 0} (f : TermTree → Option A) (g : A → TermTree) (h : TermTree → Option B) (k : B → TermTree) (l : TermTree → Option C) (m : C → TermTree) (n : TermTree → Option D) (o : D → TermTree) → Faithful f g → Faithful h k → Faithful l m → Faithful n o → (ts : List TermTree) (p : A × B × C × D) → four f h l n ts ≡ Some p → four f h l n (g p.0 ∷ k p.1 ∷ m p.2 ∷ o p.3 ∷ []) ≡ Some p
four_back f g h k l m n o F H L N (t ∷ u ∷ v ∷ w ∷ []) p e =
    option_and_then_some (λ x. option_and_then (λ y. option_and_then (λ z. option_map (λ s. (x, y, z, s)) (n w)) (l v)) (h u)) (f t) p e (λ x a e1.
    option_and_then_some (λ y. option_and_then (λ z. option_map (λ s. (x, y, z, s)) (n w)) (l v)) (h u) p e1 (λ y b e2.
    option_and_then_some (λ z. option_map (λ s. (x, y, z, s)) (n w)) (l v) p e2 (λ z c e3.
    map_some (λ s. (x, y, z, s)) (n w) p e3 (λ s d same.
    subst (λ q. four f h l n (g q.0 ∷ k q.1 ∷ m q.2 ∷ o q.3 ∷ []) ≡ Some q) same
    (λ i. option_and_then (λ x. option_and_then (λ y. option_and_then (λ z. option_map (λ s. (x, y, z, s)) (N w s d i)) (L v z c i)) (H u y b i)) (F t x a i))))))
four_back f g h k l m n o F H L N ts p e = absurd (none-some _ e)

pub five_back : {A B C D E : Type 0} (f : TermTree → Option A) (g : A → TermTree) (h : TermTree → Option B) (k : B → TermTree) (l : TermTree → Option C) (m : C → TermTree) (n : TermTree → Option D) (o : D → TermTree) (q : TermTree → Option E) (r : E → TermTree) → Faithful f g → Faithful h k → Faithful l m → Faithful n o → Faithful q r → (ts : List TermTree) (p : A × B × C × D × E) → five f h l n q ts ≡ Some p → five f h l n q (g p.0 ∷ k p.1 ∷ m p.2 ∷ o p.3 ∷ r p.4 ∷ []) ≡ Some p
five_back f g h k l m n o q r F H L N Q (t ∷ u ∷ v ∷ w ∷ w2 ∷ []) p e =
    option_and_then_some (λ x. option_and_then (λ y. option_and_then (λ z. option_and_then (λ s. option_map (λ s2. (x, y, z, s, s2)) (q w2)) (n w)) (l v)) (h u)) (f t) p e (λ x a e1.
    option_and_then_some (λ y. option_and_then (λ z. option_and_then (λ s. option_map (λ s2. (x, y, z, s, s2)) (q w2)) (n w)) (l v)) (h u) p e1 (λ y b e2.
    option_and_then_some (λ z. option_and_then (λ s. option_map (λ s2. (x, y, z, s, s2)) (q w2)) (n w)) (l v) p e2 (λ z c e3.
    option_and_then_some (λ s. option_map (λ s2. (x, y, z, s, s2)) (q w2)) (n w) p e3 (λ s d e4.
    map_some (λ s2. (x, y, z, s, s2)) (q w2) p e4 (λ s2 d2 same.
    subst (λ z1. five f h l n q (g z1.0 ∷ k z1.1 ∷ m z1.2 ∷ o z1.3 ∷ r z1.4 ∷ []) ≡ Some z1) same
    (λ i. option_and_then (λ x. option_and_then (λ y. option_and_then (λ z. option_and_then (λ s. option_map (λ s2. (x, y, z, s, s2)) (Q w2 s2 d2 i)) (N w s d i)) (L v z c i)) (H u y b i)) (F t x a i)))))))
five_back f g h k l m n o q r F H L N Q ts p e = absurd (none-some _ e)
