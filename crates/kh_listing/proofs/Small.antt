-- Parts of small terms are small, so the literals of the instruction that a small form spells are.
use Rattle.std.proofs.Common.{◌≡◌, ◌≤◌, ◌<◌, ℕ, ◌+◌, max, Bool, true, false, ◌&&◌, if◌then◌else◌, nat_le, List, [], ◌∷◌, ◌++◌, length, map, sum, Option, Some, None, option_map, refl, ap, sym, ◌∙◌, subst, arith, codes, append-nil}
use Rattle.std.proofs.lemmas.Bool.{and_from, and_parts, le-leb, leb-true}
use Rattle.std.proofs.lemmas.List.Folds.{list_all-append, flat_map-map}
use Rattle.std.specs.List.{list_all, flat_map}
use Rattle.std.specs.Option.{option_and_then}
use Rattle.std.specs.Str.{bytes_eq}
use Rattle.kh_term.specs.declared.term.Term.{Term}
use Rattle.kh_term.specs.declared.tree.TermTree.{TermTree, out-TermTree}
use Rattle.kh_term.specs.declared.tree.TermTree.TheOpen.{TermTree-F}
use Rattle.kh_term.specs.declared.tree.TermTree.TheOpen as layer
use Rattle.kh_term.specs.declared.tree.TermTree.TheVariants as tree
use Rattle.kh_term.specs.declared.tree.TermTree.TheVariants.{rolls-List, rolls-Tuple}
use Rattle.kh_term.specs.Limits.{is_small, most_size, most_depth}
use Rattle.kh_term.specs.Size.{size_of, sizes_of, depth_of, greatest, is_nil}
use Rattle.kh_term.specs.Whole.{whole}
use Rattle.kh_term.specs.WellFormed.{IsTerm, AreTerms}
use Rattle.kh_term.specs.Lemmas.Fits.{sum-cons, fits_front, fits_behind, parts_of_tuple, parts_of_list}
use Rattle.kh_term.specs.Lemmas.Total.{layered}
use Rattle.kh_term.proofs.Layers.{size-List, size-Tuple, depth-List, depth-Tuple}
use Rattle.kh_term.proofs.Same.{whole_is}
use Rattle.kh_instr.specs.declared.instr.Instr.{Instr}
use Rattle.kh_instr.specs.declared.instr.Instr.TheVariants as instr
use Rattle.kh_instr.specs.declared.operand.Reg.{Reg}
use Rattle.kh_instr.specs.declared.operand.Source.{Source}
use Rattle.kh_instr.specs.declared.operand.Source.TheVariants as source
use Rattle.kh_instr.specs.Operands.{atom_of, any_of, arity_of, int_of, count_of, own_number_of, label_of, slot_of, quoted_of, reg_of, reg_named, source_of, source_in, source_from, source_of_two, source_of_three, source_named, integer_or, literal_or, literal_of, typed_reg, holds_unsupported, function_of, parts_of, parts_in, items_of, items_in, ended_by, tagged, tagged_in, behind, behind_word, is_word, each, both, each_two, list_by, listed_by, list_by_two, listed_by_two, one, two, three, four, five}
use Rattle.kh_instr.specs.Syntax.{literal_in, literals_in, literals}

-- ---- small terms and their parts

pub record Fine (t : TermTree) : Type 0 where
  pub fits : IsTerm t
  pub size : size_of t ≤ most_size
  pub depth : depth_of t ≤ most_depth

abbrev pub AllFine : List TermTree → Type 0
AllFine [] = Unit {0}
AllFine (t ∷ ts) = Fine t × AllFine ts

pub fine : (t : TermTree) → IsTerm t → is_small t ≡ true → Fine t
fine t h s =
    let both : (nat_le (size_of t) most_size ≡ true) × (nat_le (depth_of t) most_depth ≡ true) = and_parts _ _ s in
    record { fits = h; size = leb-true (size_of t) most_size both.0; depth = leb-true (depth_of t) most_depth both.1 }

small : (t : TermTree) → Fine t → is_small t ≡ true
small t h = and_from (nat_le (size_of t) most_size) (nat_le (depth_of t) most_depth) (le-leb (size_of t) most_size h.size) (le-leb (depth_of t) most_depth h.depth)

all_fine : (xs : List TermTree) → AreTerms xs → sizes_of xs ≤ most_size → greatest (map depth_of xs) ≤ most_depth → AllFine xs
all_fine [] h s d = tt
all_fine (x ∷ xs) h s d =
    let split : sizes_of (x ∷ xs) ≡ size_of x + sizes_of xs = sum-cons (size_of x) (map size_of xs) in (
      record { fits = fits_front x xs h; size = omega arith; depth = omega arith },
      all_fine xs (fits_behind x xs h) (omega arith) (omega arith),
    )

of_tuple : (xs : List TermTree) → Fine (tree.Tuple xs) → AllFine xs
of_tuple xs h = all_fine xs (parts_of_tuple xs h.fits) (omega (arith, h.size, size-Tuple xs)) (omega (arith, h.depth, depth-Tuple xs))

of_list : (xs : List TermTree) (t : TermTree) → Fine (tree.List xs t) → AllFine xs
of_list xs t h =
    all_fine xs (parts_of_list xs t h.fits) (omega (arith, h.size, size-List xs t)) (omega (arith, h.depth, depth-List xs t))

pub parts_fine : (t : TermTree) (parts : List TermTree) → Fine t → parts_of t ≡ Some parts → AllFine parts
parts_fine t parts h e = go (out-TermTree t) refl e
  where
    go : (l : TermTree-F TermTree) → out-TermTree t ≡ l → parts_in l ≡ Some parts → AllFine parts
    go (layer.Tuple xs) k f =
        let same : xs ≡ parts = cc in subst AllFine same (of_tuple xs (subst Fine (layered t _ k ∙ rolls-Tuple xs) h))
    go l k f = absurd (cc)

ended : (xs : List TermTree) (l : TermTree-F TermTree) (items : List TermTree) → ended_by xs l ≡ Some items → xs ≡ items
ended xs layer.Nil items e = cc
ended xs l items e = absurd (cc)

pub items_fine : (t : TermTree) (items : List TermTree) → Fine t → items_of t ≡ Some items → AllFine items
items_fine t items h e = go (out-TermTree t) refl e
  where
    go : (l : TermTree-F TermTree) → out-TermTree t ≡ l → items_in l ≡ Some items → AllFine items
    go layer.Nil k f = let same : [] ≡ items = cc in subst AllFine same tt
    go (layer.List xs tail) k f =
        subst AllFine (ended xs (out-TermTree tail) items f) (of_list xs tail (subst Fine (layered t _ k ∙ rolls-List xs tail) h))
    go l k f = absurd (cc)

behind_one : (word : List ℕ) (text : Option (List ℕ)) (part u : TermTree) → behind_word word text part ≡ Some u → part ≡ u
behind_one word text part u e = go (is_word word text) e
  where
    go : (b : Bool) → (if b then Some part else None) ≡ Some u → part ≡ u
    go true f = cc
    go false f = absurd (cc)

behind_fine : (word : List ℕ) (parts : List TermTree) (u : TermTree) → AllFine parts → behind word parts ≡ Some u → Fine u
behind_fine word (first ∷ part ∷ []) u h e = subst Fine (behind_one word (atom_of first) part u e) h.1.0
behind_fine word parts u h e = absurd (cc)

tagged_fine : (word : List ℕ) (t u : TermTree) → Fine t → tagged word t ≡ Some u → Fine u
tagged_fine word t u h e = go (parts_of t) refl e
  where
    go : (o : Option (List TermTree)) → parts_of t ≡ o → tagged_in word o ≡ Some u → Fine u
    go None k f = absurd (cc)
    go (Some parts) k f = behind_fine word parts u (parts_fine t parts h k) f

-- ---- what an operand that is read from a small term keeps

abbrev pub Small : List Term → Type 0
Small ts = list_all (λ t. is_small t.node) ts ≡ true

abbrev pub Kept : {A : Type 0} → (A → List Term) → (TermTree → Option A) → Type 0
Kept {A} lits f = (t : TermTree) → Fine t → (x : A) → f t ≡ Some x → Small (lits x)

abbrev pub no_literals : {A : Type 0} → A → List Term
no_literals x = []

pub none_kept : {A : Type 0} (f : TermTree → Option A) → Kept {A = A} no_literals f
none_kept f t h x e = refl

pub appended : (xs ys : List Term) → Small xs → Small ys → Small (xs ++ ys)
appended xs ys h k = list_all-append (λ t. is_small t.node) xs ys ∙ and_from (list_all (λ t. is_small t.node) xs) (list_all (λ t. is_small t.node) ys) h k

-- what was made of what was found
pub mapped : {A B : Type 0} (lits : B → List Term) (make : A → B) (o : Option A) (y : B) → option_map make o ≡ Some y → ((x : A) → o ≡ Some x → Small (lits (make x))) → Small (lits y)
mapped lits make None y e k = absurd (cc)
mapped lits make (Some x) y e k = let same : make x ≡ y = cc in subst (λ z. Small (lits z)) same (k x refl)

pub chosen : {B : Type 0} (lits : B → List Term) (b : Bool) (p q : Option B) (y : B) → (if b then p else q) ≡ Some y → (p ≡ Some y → Small (lits y)) → (q ≡ Some y → Small (lits y)) → Small (lits y)
chosen lits true p q y e k l = k e
chosen lits false p q y e k l = l e

pub bound : {A B : Type 0} (lits : B → List Term) (f : A → Option B) (o : Option A) (y : B) → option_and_then f o ≡ Some y → ((x : A) → o ≡ Some x → f x ≡ Some y → Small (lits y)) → Small (lits y)
bound lits f None y e k = absurd (cc)
bound lits f (Some x) y e k = k x refl e

literal_kept : Kept literal_in literal_of
literal_kept t h x e =
    chosen literal_in (holds_unsupported t) None (Some (source.Literal (whole t))) x e (λ k. absurd (cc)) it
  where
    it : Some (source.Literal (whole t)) ≡ Some x → Small (literal_in x)
    it k =
        let same : source.Literal (whole t) ≡ x = cc in
        let term : Term = record { node = t; fits = h.fits } in
        let node : (whole t).node ≡ t = ap (λ (y : Term). y.node) (whole_is term t refl) in
        subst (λ z. Small (literal_in z)) same (and_from (is_small (whole t).node) true (ap is_small node ∙ small t h) refl)

source_named_kept : (word : List ℕ) → Kept literal_in (source_named word)
source_named_kept word t h x e =
    chosen literal_in (bytes_eq word (codes "atom")) (option_map (λ a. source.Atom a) (atom_of t)) (integer_or word t) x e
    (λ k. mapped literal_in (λ a. source.Atom a) (atom_of t) x k (λ a l. refl))
    (λ k. chosen literal_in (bytes_eq word (codes "integer")) (option_map (λ n. source.Integer n) (int_of t)) (literal_or word t) x k
    (λ l. mapped literal_in (λ n. source.Integer n) (int_of t) x l (λ n m. refl))
    (λ l. chosen literal_in (bytes_eq word (codes "literal")) (literal_of t) (option_map (λ r. source.Reg r) (reg_named word t)) x l
    (λ m. literal_kept t h x m)
    (λ m. mapped literal_in (λ r. source.Reg r) (reg_named word t) x m (λ r n. refl))))

typed_kept : (word : List ℕ) → Kept literal_in (typed_reg word)
typed_kept word t h x e =
    chosen literal_in (bytes_eq word (codes "tr")) (option_map (λ r. source.Reg r) (reg_of t)) None x e
    (λ k. mapped literal_in (λ r. source.Reg r) (reg_of t) x k (λ r l. refl))
    (λ k. absurd (cc))

source_from_kept : (parts : List TermTree) → AllFine parts → (x : Source) → source_from parts ≡ Some x → Small (literal_in x)
source_from_kept (first ∷ part ∷ []) h x e = go (atom_of first) e
  where
    go : (o : Option (List ℕ)) → source_of_two o part ≡ Some x → Small (literal_in x)
    go None k = absurd (cc)
    go (Some word) k = source_named_kept word part h.1.0 x k
source_from_kept (first ∷ part ∷ type ∷ []) h x e = go (atom_of first) e
  where
    go : (o : Option (List ℕ)) → source_of_three o part ≡ Some x → Small (literal_in x)
    go None k = absurd (cc)
    go (Some word) k = typed_kept word part h.1.0 x k
source_from_kept parts h x e = absurd (cc)

pub source_kept : Kept literal_in source_of
source_kept t h x e = go (out-TermTree t) refl e
  where
    go : (l : TermTree-F TermTree) → out-TermTree t ≡ l → source_in l ≡ Some x → Small (literal_in x)
    go (layer.Atom text) k f =
        chosen literal_in (bytes_eq text (codes "nil")) (Some source.Nil) None x f
        (λ m. let same : source.Nil ≡ x = cc in subst (λ z. Small (literal_in z)) same refl) (λ m. absurd (cc))
    go (layer.Tuple parts) k f =
        source_from_kept parts (of_tuple parts (subst Fine (layered t _ k ∙ rolls-Tuple parts) h)) x f
    go l k f = absurd (cc)

-- ---- several operands

pub one_kept : {A : Type 0} (a : A → List Term) (f : TermTree → Option A) → Kept a f → (ts : List TermTree) → AllFine ts → (x : A) → one f ts ≡ Some x → Small (a x)
one_kept a f k (t ∷ []) h x e = k t h.0 x e
one_kept a f k ts h x e = absurd (cc)

pub both_kept : {A B : Type 0} (a : A → List Term) (b : B → List Term) (f : TermTree → Option A) (g : TermTree → Option B) → Kept a f → Kept b g → (t u : TermTree) → Fine t → Fine u → (p : A × B) → both f g t u ≡ Some p → Small (a p.0) × Small (b p.1)
both_kept {A} {B} a b f g k l t u h i p e = go (f t) refl (g u) refl e
  where
    go : (o : Option A) → f t ≡ o → (q : Option B) → g u ≡ q → option_and_then (λ x. option_map (λ y. (x, y)) q) o ≡ Some p → Small (a p.0) × Small (b p.1)
    go (Some x) m (Some y) n r =
        let same : (x, y) ≡ p = cc in subst (λ (z : A × B). Small (a z.0) × Small (b z.1)) same (k t h x m, l u i y n)
    go (Some x) m None n r = absurd (cc)
    go None m q n r = absurd (cc)

pub two_kept : {A B : Type 0} (a : A → List Term) (b : B → List Term) (f : TermTree → Option A) (g : TermTree → Option B) → Kept a f → Kept b g → (ts : List TermTree) → AllFine ts → (p : A × B) → two f g ts ≡ Some p → Small (a p.0) × Small (b p.1)
two_kept a b f g k l (t ∷ u ∷ []) h p e = both_kept a b f g k l t u h.0 h.1.0 p e
two_kept a b f g k l ts h p e = absurd (cc)

pub each_kept : {A : Type 0} (a : A → List Term) (f : TermTree → Option A) → Kept a f → (ts : List TermTree) → AllFine ts → (xs : List A) → each f ts ≡ Some xs → Small (flat_map a xs)
each_kept a f k [] h xs e = let same : [] ≡ xs = cc in subst (λ ys. Small (flat_map a ys)) same refl
each_kept {A} a f k (t ∷ ts) h xs e = go (each_kept a f k ts h.1) (f t) refl (each f ts) refl e
  where
    go : ((ys : List A) → each f ts ≡ Some ys → Small (flat_map a ys)) → (o : Option A) → f t ≡ o → (q : Option (List A)) → each f ts ≡ q → option_and_then (λ x. option_map (λ ys. x ∷ ys) q) o ≡ Some xs → Small (flat_map a xs)
    go rest (Some x) m (Some ys) n r =
        let same : x ∷ ys ≡ xs = cc in
        subst (λ (zs : List A). Small (flat_map a zs)) same (appended (a x) (flat_map a ys) (k t h.0 x m) (rest ys n))
    go rest (Some x) m None n r = absurd (cc)
    go rest None m q n r = absurd (cc)

each_two_kept : {A B : Type 0} (a : A → List Term) (b : B → List Term) (c : A × B → List Term) (f : TermTree → Option A) (g : TermTree → Option B) → Kept a f → Kept b g → ((p : A × B) → Small (a p.0) → Small (b p.1) → Small (c p)) → (ts : List TermTree) → AllFine ts → (ps : List (A × B)) → each_two f g ts ≡ Some ps → Small (flat_map c ps)
each_two_kept a b c f g k l j [] h ps e = let same : [] ≡ ps = cc in subst (λ qs. Small (flat_map c qs)) same refl
each_two_kept a b c f g k l j (t ∷ []) h ps e = absurd (cc)
each_two_kept {A} {B} a b c f g k l j (t ∷ u ∷ ts) h ps e = go (each_two_kept a b c f g k l j ts h.1.1) (both f g t u) refl (each_two f g ts) refl e
  where
    go : ((qs : List (A × B)) → each_two f g ts ≡ Some qs → Small (flat_map c qs)) → (o : Option (A × B)) → both f g t u ≡ o → (q : Option (List (A × B))) → each_two f g ts ≡ q → option_and_then (λ p. option_map (λ qs. p ∷ qs) q) o ≡ Some ps → Small (flat_map c ps)
    go rest (Some p) m (Some qs) n r =
        let same : p ∷ qs ≡ ps = cc in
        let these : Small (a p.0) × Small (b p.1) = both_kept a b f g k l t u h.0 h.1.0 p m in
        subst (λ (zs : List (A × B)). Small (flat_map c zs)) same (appended (c p) (flat_map c qs) (j p these.0 these.1) (rest qs n))
    go rest (Some p) m None n r = absurd (cc)
    go rest None m q n r = absurd (cc)

pub list_kept : {A : Type 0} (a : A → List Term) (f : TermTree → Option A) → Kept a f → Kept (flat_map a) (list_by f)
list_kept a f k t h xs e = bound (flat_map a) (each f) (items_of t) xs e (λ items m n. each_kept a f k items (items_fine t items h m) xs n)

pub listed_kept : {A : Type 0} (a : A → List Term) (f : TermTree → Option A) → Kept a f → Kept (flat_map a) (listed_by f)
listed_kept a f k t h xs e = bound (flat_map a) (list_by f) (tagged (codes "list") t) xs e (λ u m n. list_kept a f k u (tagged_fine (codes "list") t u h m) xs n)

pub listed_two_kept : {A B : Type 0} (a : A → List Term) (b : B → List Term) (c : A × B → List Term) (f : TermTree → Option A) (g : TermTree → Option B) → Kept a f → Kept b g → ((p : A × B) → Small (a p.0) → Small (b p.1) → Small (c p)) → Kept (flat_map c) (listed_by_two f g)
listed_two_kept a b c f g k l j t h ps e =
    bound (flat_map c) (list_by_two f g) (tagged (codes "list") t) ps e
    (λ u m n. bound (flat_map c) (each_two f g) (items_of u) ps n (λ items o q. each_two_kept a b c f g k l j items (items_fine u items (tagged_fine (codes "list") t u h m) o) ps q))

pub three_kept : {A B C : Type 0} (a : A → List Term) (b : B → List Term) (c : C → List Term) (f : TermTree → Option A) (g : TermTree → Option B) (i : TermTree → Option C) → Kept a f → Kept b g → Kept c i → (ts : List TermTree) → AllFine ts → (p : A × B × C) → three f g i ts ≡ Some p → Small (a p.0) × Small (b p.1) × Small (c p.2)
three_kept {A} {B} {C} a b c f g i k l m (t ∷ u ∷ v ∷ []) h p e = go (f t) refl (g u) refl (i v) refl e
  where
    go : (o : Option A) → f t ≡ o → (q : Option B) → g u ≡ q → (r : Option C) → i v ≡ r → option_and_then (λ x. option_and_then (λ y. option_map (λ z. (x, y, z)) r) q) o ≡ Some p → Small (a p.0) × Small (b p.1) × Small (c p.2)
    go (Some x) d (Some y) j (Some z) n w =
        let same : (x, y, z) ≡ p = cc in
        subst (λ (s : A × B × C). Small (a s.0) × Small (b s.1) × Small (c s.2)) same (k t h.0 x d, l u h.1.0 y j, m v h.1.1.0 z n)
    go (Some x) d (Some y) j None n w = absurd (cc)
    go (Some x) d None j r n w = absurd (cc)
    go None d q j r n w = absurd (cc)
three_kept a b c f g i k l m ts h p e = absurd (cc)

pub four_kept : {A B C D : Type 0} (c : C → List Term) (f : TermTree → Option A) (g : TermTree → Option B) (i : TermTree → Option C) (j : TermTree → Option D) → Kept c i → (ts : List TermTree) → AllFine ts → (p : A × B × C × D) → four f g i j ts ≡ Some p → Small (c p.2)
four_kept {A} {B} {C} {D} c f g i j m (t ∷ u ∷ v ∷ w ∷ []) h p e = go (f t) (g u) (i v) refl (j w) e
  where
    go : (o : Option A) (q : Option B) (r : Option C) → i v ≡ r → (s : Option D) → option_and_then (λ x. option_and_then (λ y. option_and_then (λ z. option_map (λ n. (x, y, z, n)) s) r) q) o ≡ Some p → Small (c p.2)
    go (Some x) (Some y) (Some z) n (Some d) k =
        let same : (x, y, z, d) ≡ p = cc in subst (λ (s : A × B × C × D). Small (c s.2)) same (m v h.1.1.0 z n)
    go (Some x) (Some y) (Some z) n None k = absurd (cc)
    go (Some x) (Some y) None n s k = absurd (cc)
    go (Some x) None r n s k = absurd (cc)
    go None q r n s k = absurd (cc)
four_kept c f g i j m ts h p e = absurd (cc)

pub five_kept : {A B C D E : Type 0} (b : B → List Term) (d : D → List Term) (e : E → List Term) (f : TermTree → Option A) (g : TermTree → Option B) (i : TermTree → Option C) (j : TermTree → Option D) (k : TermTree → Option E) → Kept b g → Kept d j → Kept e k → (ts : List TermTree) → AllFine ts → (p : A × B × C × D × E) → five f g i j k ts ≡ Some p → Small (b p.1) × Small (d p.3) × Small (e p.4)
five_kept {A} {B} {C} {D} {E} b d e f g i j k l m n (t ∷ u ∷ v ∷ w ∷ x ∷ []) h p r = go (f t) (g u) refl (i v) (j w) refl (k x) refl r
  where
    go : (o : Option A) (q : Option B) → g u ≡ q → (s : Option C) (y : Option D) → j w ≡ y → (z : Option E) → k x ≡ z → option_and_then (λ xa. option_and_then (λ xb. option_and_then (λ xc. option_and_then (λ xd. option_map (λ xe. (xa, xb, xc, xd, xe)) z) y) s) q) o ≡ Some p → Small (b p.1) × Small (d p.3) × Small (e p.4)
    go (Some xa) (Some xb) qb (Some xc) (Some xd) qd (Some xe) qe w' =
        let same : (xa, xb, xc, xd, xe) ≡ p = cc in
        subst (λ (s : A × B × C × D × E). Small (b s.1) × Small (d s.3) × Small (e s.4)) same (l u h.1.0 xb qb, m w h.1.1.1.0 xd qd, n x h.1.1.1.1.0 xe qe)
    go (Some xa) (Some xb) qb (Some xc) (Some xd) qd None qe w' = absurd (cc)
    go (Some xa) (Some xb) qb (Some xc) None qd z qe w' = absurd (cc)
    go (Some xa) (Some xb) qb None y qd z qe w' = absurd (cc)
    go (Some xa) None qb s y qd z qe w' = absurd (cc)
    go None q qb s y qd z qe w' = absurd (cc)
five_kept b d e f g i j k l m n ts h p r = absurd (cc)
