-- Keys of sets, the tests that tell them apart, and what a set holds with one more.
use Rattle.std.proofs.Common.{◌≡◌, ℕ, Bool, true, false, ◌&&◌, ◌||◌, cond, not, nat_eq, nat_le, max, List, [], ◌∷◌, Option, Some, None, refl, ap, sym, ◌∙◌, subst, inl, inr, ◌⊎◌, arith}
use Rattle.std.specs.declared.cmp.Ordering.{Ordering}
use Rattle.std.specs.declared.cmp.Ordering.TheVariants.{Less, Equal, Greater}
use Rattle.std.specs.BTreeMap.{BTreeMap}
use Rattle.std.specs.BTreeMap as tree
use Rattle.std.specs.BTreeSet.{BTreeSet, contains, Updates}
use Rattle.std.specs.Cmp.Lexicographic.{slice_cmp}
use Rattle.std.specs.List.{list_any}
use Rattle.std.specs.Ordering.{is_eq, nat_cmp, ordering_then}
use Rattle.std.specs.Str.{bytes_eq}
use Rattle.std.proofs.Math.Bool.{and_comm, or-false}
use Rattle.std.proofs.lemmas.Bool.{cases_eq, eq-eqb, ne_eqb, eqb-true}
use Rattle.std.proofs.lemmas.Bool.Decides.{nat_tests}
use Rattle.std.proofs.lemmas.Map.Text.{is_eq-slice_cmp}
use Rattle.kh_listing.specs.declared.form.Form.{Form}
use Rattle.kh_listing.specs.declared.form.Form.TheVariants as form
use Rattle.kh_listing.specs.declared.form.Header.{Header}
use Rattle.kh_listing.specs.Faults.{defines, is_named, has_number}
use Rattle.kh_listing.specs.Places.{label_at}
use Rattle.kh_listing.specs.Sets.{name_cmp, has_name, pair_cmp, has_pair, begins_at, takes}

eq_then : (o p : Ordering) → is_eq (ordering_then o p) ≡ (is_eq o && is_eq p)
eq_then Less p = refl
eq_then Equal p = refl
eq_then Greater p = refl

eq_nat : (a b : ℕ) → is_eq (nat_cmp a b) ≡ nat_eq a b
eq_nat a b = grind (arith, nat_tests)

eq_turned : (a b : ℕ) → nat_eq a b ≡ nat_eq b a
eq_turned a b = go (cases_eq a b)
  where
    go : (a ≡ b) ⊎ (a ≡ b → ⊥) → nat_eq a b ≡ nat_eq b a
    go (inl e) = eq-eqb a b e ∙ sym (eq-eqb b a (sym e))
    go (inr ne) = ne_eqb a b ne ∙ sym (ne_eqb b a (λ h. ne (sym h)))

or_cond : (a b : Bool) → cond a true b ≡ (b || a)
or_cond true true = refl
or_cond true false = refl
or_cond false true = refl
or_cond false false = refl

pub or_none : (a : Bool) → a ≡ (a || false)
or_none a = sym (or-false a)

pub twice : (b : Bool) → not (not b) ≡ b
twice true = refl
twice false = refl

pair_key : (a b c d : ℕ) → is_eq (pair_cmp (a, b) (c, d)) ≡ (nat_eq a c && nat_eq b d)
pair_key a b c d =
    eq_then (nat_cmp a c) (nat_cmp b d)
    ∙ (ap (λ (x : Bool). x && is_eq (nat_cmp b d)) (eq_nat a c) ∙ ap (λ (x : Bool). nat_eq a c && x) (eq_nat b d))

name_key : (text name : List ℕ) (a arity : ℕ) → is_eq (name_cmp (text, a) (name, arity)) ≡ (nat_eq a arity && bytes_eq text name)
name_key text name a arity =
    eq_then (slice_cmp nat_cmp text name) (nat_cmp a arity)
    ∙ (ap (λ (x : Bool). x && is_eq (nat_cmp a arity)) (is_eq-slice_cmp text name)
    ∙ (ap (λ (x : Bool). bytes_eq text name && x) (eq_nat a arity) ∙ and_comm (bytes_eq text name) (nat_eq a arity)))

pub name_known : (old : BTreeSet (List ℕ × ℕ)) (text : List ℕ) (h : Header) (f : Form) (added : Bool) → f ≡ form.Function h → text ≡ h.name → added ≡ not (has_name old text h.arity) → not added ≡ is_named (has_name old) f
name_known old text h f added e t k =
    ap not k
    ∙ (twice (has_name old text h.arity)
    ∙ (ap (λ (x : List ℕ). has_name old x h.arity) t ∙ ap (λ (g : Form). is_named (has_name old) g) (sym e)))

pub name_added : (old new : BTreeSet (List ℕ × ℕ)) (text : List ℕ) (h : Header) (f : Form) → f ≡ form.Function h → text ≡ h.name → Updates name_cmp old new (text, h.arity) true → (name : List ℕ) (arity : ℕ) → has_name new name arity ≡ (has_name old name arity || defines name arity f)
name_added old new text h f e t u name arity =
    u.0 (name, arity)
    ∙ (or_cond (is_eq (name_cmp (text, h.arity) (name, arity))) (has_name old name arity)
    ∙ (ap (λ (b : Bool). has_name old name arity || b) (name_key text name h.arity arity)
    ∙ (ap (λ (x : List ℕ). has_name old name arity || (nat_eq h.arity arity && bytes_eq x name)) t
    ∙ ap (λ (g : Form). has_name old name arity || defines name arity g) (sym e))))

-- a form that is no function's defines nothing
pub unnamed : (has : List ℕ → ℕ → Bool) (f : Form) → ((h : Header) → f ≡ form.Function h → ⊥) → false ≡ is_named has f
unnamed has (form.Function h) ne = absurd (ne h refl)
unnamed has f ne = refl

pub no_name : (b : Bool) (name : List ℕ) (arity : ℕ) (f : Form) → ((h : Header) → f ≡ form.Function h → ⊥) → b ≡ (b || defines name arity f)
no_name b name arity (form.Function h) ne = absurd (ne h refl)
no_name b name arity f ne = or_none b

one_number : (n label : ℕ) (f : Form) → label ∷ [] ≡ label_at f → nat_eq label n ≡ has_number n f
one_number n label f e =
    eq_turned label n ∙ (or_none (nat_eq n label) ∙ ap (λ (ls : List ℕ). list_any (nat_eq n) ls) e)

pub no_number : (n : ℕ) (f : Form) (b : Bool) → [] ≡ label_at f → b ≡ (b || has_number n f)
no_number n f b e = or_none b ∙ ap (λ (ls : List ℕ). b || list_any (nat_eq n) ls) e

pub label_known : (old : BTreeSet ℕ) (label : ℕ) (f : Form) (added : Bool) → label ∷ [] ≡ label_at f → added ≡ not (contains nat_cmp old label) → not added ≡ list_any (contains nat_cmp old) (label_at f)
label_known old label f added e k =
    ap not k
    ∙ (twice (contains nat_cmp old label)
    ∙ (or_none (contains nat_cmp old label) ∙ ap (λ (ls : List ℕ). list_any (contains nat_cmp old) ls) e))

pub label_added : (old new : BTreeSet ℕ) (label : ℕ) (f : Form) → label ∷ [] ≡ label_at f → Updates nat_cmp old new label true → (n : ℕ) → contains nat_cmp new n ≡ (contains nat_cmp old n || has_number n f)
label_added old new label f e u n =
    u.0 n
    ∙ (or_cond (is_eq (nat_cmp label n)) (contains nat_cmp old n)
    ∙ ap (λ (b : Bool). contains nat_cmp old n || b) (eq_nat label n ∙ one_number n label f e))

pub home_added : (old new : BTreeSet (ℕ × ℕ)) (m label : ℕ) (f : Form) → label ∷ [] ≡ label_at f → Updates pair_cmp old new (m, label) true → (k n : ℕ) → has_pair new k n ≡ (has_pair old k n || (nat_eq m k && has_number n f))
home_added old new m label f e u k n =
    u.0 (k, n)
    ∙ (or_cond (is_eq (pair_cmp (m, label) (k, n))) (has_pair old k n)
    ∙ (ap (λ (b : Bool). has_pair old k n || b) (pair_key m label k n)
    ∙ ap (λ (b : Bool). has_pair old k n || (nat_eq m k && b)) (one_number n label f e)))

pub no_home : (b c : Bool) (n : ℕ) (f : Form) → [] ≡ label_at f → b ≡ (b || (c && has_number n f))
no_home b true n f e = no_number n f b e
no_home b false n f e = or_none b

-- a form that is no function's begins nothing
pub no_entry : (b : Bool) (l : ℕ) (fits : ℕ → Bool) (f : Form) → ((h : Header) → f ≡ form.Function h → ⊥) → b ≡ (b || begins_at l fits f)
no_entry b l fits (form.Function h) ne = absurd (ne h refl)
no_entry b l fits f ne = or_none b

pub exact_added : (old new : BTreeSet (ℕ × ℕ)) (h : Header) (f : Form) → f ≡ form.Function h → Updates pair_cmp old new (h.entry, h.arity) true → (l n : ℕ) → has_pair new l n ≡ (has_pair old l n || begins_at l (nat_eq n) f)
exact_added old new h f e u l n =
    u.0 (l, n)
    ∙ (or_cond (is_eq (pair_cmp (h.entry, h.arity) (l, n))) (has_pair old l n)
    ∙ (ap (λ (b : Bool). has_pair old l n || b) (pair_key h.entry h.arity l n)
    ∙ (ap (λ (b : Bool). has_pair old l n || (nat_eq h.entry l && b)) (eq_turned h.arity n)
    ∙ ap (λ (g : Form). has_pair old l n || begins_at l (nat_eq n) g) (sym e))))

pub widest_added : (old new : BTreeMap ℕ ℕ) (h : Header) (f : Form) (v : ℕ) → f ≡ form.Function h → ((c : ℕ) → nat_le c v ≡ (takes (tree.get nat_cmp old h.entry) c || nat_le c h.arity)) → tree.Updates nat_cmp old new h.entry (Some v) → (l c : ℕ) → takes (tree.get nat_cmp new l) c ≡ (takes (tree.get nat_cmp old l) c || begins_at l (nat_le c) f)
widest_added old new h f v e most u l c =
    ap (λ (o : Option ℕ). takes o c) (u.0 l)
    ∙ (ap (λ (b : Bool). takes (cond b (Some v) (tree.get nat_cmp old l)) c) (eq_nat h.entry l)
    ∙ (go (nat_eq h.entry l) refl ∙ ap (λ (g : Form). takes (tree.get nat_cmp old l) c || begins_at l (nat_le c) g) (sym e)))
  where
    go : (b : Bool) → nat_eq h.entry l ≡ b → takes (cond b (Some v) (tree.get nat_cmp old l)) c ≡ (takes (tree.get nat_cmp old l) c || (nat_eq h.entry l && nat_le c h.arity))
    go true e =
        most c
        ∙ (ap (λ (x : ℕ). takes (tree.get nat_cmp old x) c || nat_le c h.arity) (eqb-true h.entry l e)
        ∙ ap (λ (b : Bool). takes (tree.get nat_cmp old l) c || (b && nat_le c h.arity)) (sym e))
    go false e =
        or_none (takes (tree.get nat_cmp old l) c)
        ∙ ap (λ (b : Bool). takes (tree.get nat_cmp old l) c || (b && nat_le c h.arity)) (sym e)

-- the greater of two arities takes what either takes
pub wider_takes : (a b c : ℕ) → nat_le c (max a b) ≡ (nat_le c a || nat_le c b)
wider_takes a b c = grind (arith, nat_tests)
