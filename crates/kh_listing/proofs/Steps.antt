-- The steps of the walks over the forms: what is kept of the forms in front gives the test of the next one.
use Rattle.std.proofs.Common.{◌≡◌, ◌<◌, ◌≤◌, ◌+◌, ℕ, Bool, true, false, ◌&&◌, ◌||◌, not, cond, nat_eq, nat_le, List, [], ◌∷◌, ◌++◌, length, take, get_or, count_by, refl, ap, sym, ◌∙◌, subst, arith, below_more}
use Rattle.std.proofs.lemmas.List.{take_more, get_or_default, take_all}
use Rattle.std.proofs.lemmas.List.Folds.{list_any_more}
use Rattle.std.specs.List.{list_any, list_all}
use Rattle.kh_instr.specs.declared.instr.Instr.{Instr}
use Rattle.kh_instr.specs.declared.instr.Instr.TheVariants as instr
use Rattle.kh_instr.specs.declared.module.Function.{Function}
use Rattle.kh_instr.specs.Syntax.{labels}
use Rattle.kh_instr.specs.Written as written
use Rattle.kh_instr.specs.Written.{leads_to}
use Rattle.kh_listing.specs.declared.form.Form.{Form}
use Rattle.kh_listing.specs.declared.form.Form.TheVariants as form
use Rattle.kh_listing.specs.declared.placing.Seen.{Seen}
use Rattle.kh_listing.specs.Faults.{seen_before, may_stand, is_misplaced, defines, is_named, is_defined_again, enters, lacks_entry, has_number, is_labelled_again, jumps, jumps_out, leads, leads_astray}
use Rattle.kh_listing.specs.Made.{code_of, functions_of, name_of}
use Rattle.kh_listing.specs.Outcome.{NonePasses}
use Rattle.kh_listing.specs.Places.{form_at, before, is_exports, is_attributes, is_labels, is_function, label_at, labels_in, number, stands_by}
use Rattle.kh_listing.specs.Sets.{has_pair, begins_at, takes, leads_by, AreHomes, AreEntries, AreWidest}
use Rattle.std.specs.BTreeMap.{BTreeMap}
use Rattle.std.specs.BTreeMap as tree
use Rattle.std.specs.BTreeSet.{BTreeSet}
use Rattle.std.specs.Ordering.{nat_cmp}
use Rattle.kh_listing.proofs.Pieces.{counted, labels_push}

-- ---- one form more

pub front_more : (fs : List Form) (i : ℕ) (f : Form) → i < length fs → f ≡ form_at fs i → take (i + 1) fs ≡ take i fs ++ f ∷ []
front_more fs i f l e = take_more fs i form.NoForm l ∙ ap (λ (g : Form). take i fs ++ g ∷ []) (sym e)

pub before_more : (p : Form → Bool) (fs : List Form) (i : ℕ) (f : Form) → i < length fs → f ≡ form_at fs i → before p fs (i + 1) ≡ (before p fs i || p f)
before_more p fs i f l e = list_any_more p fs i form.NoForm l ∙ ap (λ (g : Form). before p fs i || p g) (sym e)

-- what a set holds of the forms in front, with one form more
pub known_more : (p : Form → Bool) (fs : List Form) (i : ℕ) (f : Form) (old new : Bool) → i < length fs → f ≡ form_at fs i → old ≡ before p fs i → new ≡ (old || p f) → new ≡ before p fs (i + 1)
known_more p fs i f old new l e h k = k ∙ (ap (λ (b : Bool). b || p f) h ∙ sym (before_more p fs i f l e))

-- all of them, once the walk has ended
pub known_all : (p : Form → Bool) (fs : List Form) (i : ℕ) (b : Bool) → length fs ≤ i → b ≡ before p fs i → b ≡ list_any p fs
known_all p fs i b l h = h ∙ ap (λ (xs : List Form). list_any p xs) (take_all i fs l)

pub none_more : (test : ℕ → Bool) (i : ℕ) → NonePasses test i → test i ≡ false → NonePasses test (i + 1)
none_more test i none here = below_more (λ k. test k ≡ false) i none here

-- ---- where forms stand

stand_same : (s t : Seen) (i : ℕ) (f : Form) → s.exports ≡ t.exports → s.attributes ≡ t.attributes → s.labels ≡ t.labels → s.function ≡ t.function → may_stand s i f ≡ may_stand t i f
stand_same s t i (form.Exports pairs) a b c d = cc
stand_same s t i form.Attributes a b c d = cc
stand_same s t i form.Labels a b c d = cc
stand_same s t i (form.Instr j) a b c d = d
stand_same s t i f a b c d = refl

pub misplaced_is : (fs : List Form) (i : ℕ) (seen : Seen) (f : Form) → f ≡ form_at fs i → seen.exports ≡ before is_exports fs i → seen.attributes ≡ before is_attributes fs i → seen.labels ≡ before is_labels fs i → seen.function ≡ before is_function fs i → is_misplaced fs i ≡ not (may_stand seen i f)
misplaced_is fs i seen f e a b c d =
    ap not (ap (may_stand (seen_before fs i) i) (sym e) ∙ sym (stand_same seen (seen_before fs i) i f a b c d))

-- ---- names and numbers that stand twice

named_same : (p q : List ℕ → ℕ → Bool) (f : Form) → ((name : List ℕ) (arity : ℕ) → p name arity ≡ q name arity) → is_named p f ≡ is_named q f
named_same p q (form.Function h) k = k h.name h.arity
named_same p q f k = refl

pub defined_again_is : (fs : List Form) (i : ℕ) (f : Form) (has : List ℕ → ℕ → Bool) → f ≡ form_at fs i → ((name : List ℕ) (arity : ℕ) → has name arity ≡ before (defines name arity) fs i) → is_named has f ≡ is_defined_again fs i
defined_again_is fs i f has e k =
    named_same has (λ name arity. before (defines name arity) fs i) f k ∙ ap (is_named (λ name arity. before (defines name arity) fs i)) e

any_same : (p q : ℕ → Bool) (xs : List ℕ) → ((n : ℕ) → p n ≡ q n) → list_any p xs ≡ list_any q xs
any_same p q [] k = refl
any_same p q (x ∷ xs) k = ap (λ (b : Bool). b || list_any p xs) (k x) ∙ ap (λ (b : Bool). q x || b) (any_same p q xs k)

all_same : (p q : ℕ → Bool) (xs : List ℕ) → ((n : ℕ) → p n ≡ q n) → list_all p xs ≡ list_all q xs
all_same p q [] k = refl
all_same p q (x ∷ xs) k = ap (λ (b : Bool). b && list_all p xs) (k x) ∙ ap (λ (b : Bool). q x && b) (all_same p q xs k)

pub labelled_again_is : (fs : List Form) (i : ℕ) (f : Form) (has : ℕ → Bool) → f ≡ form_at fs i → ((n : ℕ) → has n ≡ before (has_number n) fs i) → list_any has (label_at f) ≡ is_labelled_again fs i
labelled_again_is fs i f has e k =
    any_same has (λ n. before (has_number n) fs i) (label_at f) k ∙ ap (λ (g : Form). list_any (λ n. before (has_number n) fs i) (label_at g)) e

-- ---- labels of functions

pub number_more : (fs : List Form) (i : ℕ) (f : Form) (n m : ℕ) → i < length fs → f ≡ form_at fs i → n ≡ count_by is_function (take i fs) → m ≡ n + cond (is_function f) 1 0 → m ≡ count_by is_function (take (i + 1) fs)
number_more fs i f n m l e h k =
    k ∙ (ap (λ (x : ℕ). x + cond (is_function f) 1 0) h
    ∙ (sym (counted (take i fs) f) ∙ ap (count_by is_function) (sym (front_more fs i f l e))))

pub homes_more : (fs : List Form) (i : ℕ) (f : Form) (n m : ℕ) (old new : ℕ → ℕ → Bool) → i < length fs → f ≡ form_at fs i → n ≡ count_by is_function (take i fs) → m ≡ n + cond (is_function f) 1 0 → ((k x : ℕ) → old k x ≡ list_any (nat_eq x) (labels_in k (take i fs))) → ((k x : ℕ) → new k x ≡ (old k x || (nat_eq m k && has_number x f))) → (k x : ℕ) → new k x ≡ list_any (nat_eq x) (labels_in k (take (i + 1) fs))
homes_more fs i f n m old new l e h j kept made k x =
    made k x
    ∙ (ap (λ (b : Bool). b || (nat_eq m k && has_number x f)) (kept k x)
    ∙ (ap (λ (y : ℕ). list_any (nat_eq x) (labels_in k (take i fs)) || (nat_eq y k && has_number x f)) (j ∙ ap (λ (y : ℕ). y + cond (is_function f) 1 0) h)
    ∙ (sym (labels_push x k (take i fs) f) ∙ ap (λ (xs : List Form). list_any (nat_eq x) (labels_in k xs)) (sym (front_more fs i f l e)))))

-- all of them, once the walk has ended
pub homes_all : (fs : List Form) (i : ℕ) (has : ℕ → ℕ → Bool) → length fs ≤ i → ((k x : ℕ) → has k x ≡ list_any (nat_eq x) (labels_in k (take i fs))) → (k x : ℕ) → has k x ≡ list_any (nat_eq x) (labels_in k fs)
homes_all fs i has l kept k x = kept k x ∙ ap (λ (xs : List Form). list_any (nat_eq x) (labels_in k xs)) (take_all i fs l)

enters_same : (p q : ℕ → Bool) (f : Form) → ((n : ℕ) → p n ≡ q n) → enters p f ≡ enters q f
enters_same p q (form.Function h) k = k h.entry
enters_same p q f k = refl

jumps_same : (p q : ℕ → Bool) (f : Form) → ((n : ℕ) → p n ≡ q n) → jumps p f ≡ jumps q f
jumps_same p q (form.Instr j) k = all_same p q (labels j) k
jumps_same p q f k = refl

-- the labels in a set are those of the function of a form
stands_same : (fs : List Form) (i m : ℕ) (has : ℕ → ℕ → Bool) → m ≡ number fs i → ((k x : ℕ) → has k x ≡ list_any (nat_eq x) (labels_in k fs)) → (x : ℕ) → has m x ≡ stands_by fs i x
stands_same fs i m has e kept x = kept m x ∙ ap (λ (k : ℕ). list_any (nat_eq x) (labels_in k fs)) e

pub lacks_is : (fs : List Form) (i m : ℕ) (f : Form) (has : ℕ → ℕ → Bool) → f ≡ form_at fs i → m ≡ number fs i → ((k x : ℕ) → has k x ≡ list_any (nat_eq x) (labels_in k fs)) → not (enters (has m) f) ≡ lacks_entry fs i
lacks_is fs i m f has e n kept =
    ap not (enters_same (has m) (stands_by fs i) f (stands_same fs i m has n kept) ∙ ap (enters (stands_by fs i)) e)

pub jumps_is : (fs : List Form) (i m : ℕ) (f : Form) (has : ℕ → ℕ → Bool) → f ≡ form_at fs i → m ≡ number fs i → ((k x : ℕ) → has k x ≡ list_any (nat_eq x) (labels_in k fs)) → not (jumps (has m) f) ≡ jumps_out fs i
jumps_is fs i m f has e n kept =
    ap not (jumps_same (has m) (stands_by fs i) f (stands_same fs i m has n kept) ∙ ap (jumps (stands_by fs i)) e)

-- ---- entries of functions

pub entered_is : (m : List ℕ) (fits : ℕ → Bool) (label : ℕ) (fs : List Form) → written.enters (functions_of m fs) fits label ≡ list_any (begins_at label fits) fs
entered_is m fits label [] = refl
entered_is m fits label (form.Function h ∷ fs) = ap (λ (b : Bool). (nat_eq h.entry label && fits h.arity) || b) (entered_is m fits label fs)
entered_is m fits label (f ∷ fs) = entered_is m fits label fs

leads_to_is : (m : List ℕ) (fs : List Form) (exact : BTreeSet (ℕ × ℕ)) (widest : BTreeMap ℕ ℕ) (j : Instr) → AreEntries exact fs → AreWidest widest fs → leads_by exact widest j ≡ leads_to (functions_of m fs) j
leads_to_is m fs exact widest (instr.Call n l) a b = a l n ∙ sym (entered_is m (nat_eq n) l fs)
leads_to_is m fs exact widest (instr.CallLast n l d) a b = a l n ∙ sym (entered_is m (nat_eq n) l fs)
leads_to_is m fs exact widest (instr.CallOnly n l) a b = a l n ∙ sym (entered_is m (nat_eq n) l fs)
leads_to_is m fs exact widest (instr.MakeFun3 l r captured) a b = b l (length captured) ∙ sym (entered_is m (nat_le (length captured)) l fs)
leads_to_is m fs exact widest j a b = refl

leads_same : (p q : Instr → Bool) (f : Form) → ((j : Instr) → p j ≡ q j) → leads p f ≡ leads q f
leads_same p q (form.Instr j) k = k j
leads_same p q f k = refl

pub astray_is : (fs : List Form) (i : ℕ) (f : Form) (exact : BTreeSet (ℕ × ℕ)) (widest : BTreeMap ℕ ℕ) → f ≡ form_at fs i → AreEntries exact fs → AreWidest widest fs → not (leads (leads_by exact widest) f) ≡ leads_astray fs i
astray_is fs i f exact widest e a b =
    ap not (leads_same (leads_by exact widest) (leads_to (functions_of (name_of fs) fs)) f (λ j. leads_to_is (name_of fs) fs exact widest j a b)
    ∙ ap (leads (leads_to (functions_of (name_of fs) fs))) e)
