-- A listing, form by form.
use Rattle.std.proofs.Common.{◌≡◌, ◌<◌, ◌≤◌, ◌+◌, ℕ, zero, suc, Bool, true, false, ◌&&◌, ◌||◌, cond, if◌then◌else◌, nat_eq, List, [], ◌∷◌, ◌++◌, length, take, get_or, count_by, refl, ap, sym, ◌∙◌, subst, arith, zero-add, inl, inr, ◌⊎◌, append_assoc, append-nil, length-append}
use Rattle.std.proofs.Math.Seq.{take-append_seam, get_or-append_seam}
use Rattle.std.proofs.lemmas.Bool.{and_left, and_right, cases_eq, eq-eqb, ne_eqb}
use Rattle.std.proofs.lemmas.List.Folds.{list_any-append}
use Rattle.std.proofs.lemmas.List.Sums.{sum_by-append, sum_by-cons}
use Rattle.std.specs.List.{list_any}
use Rattle.kh_instr.specs.Written.{own_label, label_numbers}
use Rattle.kh_listing.specs.declared.form.Form.{Form}
use Rattle.kh_listing.specs.declared.form.Form.TheVariants as form
use Rattle.kh_listing.specs.Faults.{has_number}
use Rattle.kh_listing.specs.Made.{code_of}
use Rattle.kh_listing.specs.Places.{form_at, is_function, label_at, labels_in, number}

-- ---- where a form stands

pub within : (fs qs gs : List Form) (g : Form) → fs ≡ qs ++ g ∷ gs → length qs < length fs
within fs qs gs g e = omega (arith, ap length e, length-append qs (g ∷ gs))

pub form_here : (fs qs gs : List Form) (g : Form) → fs ≡ qs ++ g ∷ gs → form_at fs (length qs) ≡ g
form_here fs qs gs g e = ap (λ (xs : List Form). form_at xs (length qs)) e ∙ get_or-append_seam qs g gs form.NoForm

pub front_here : (fs qs gs : List Form) (g : Form) → fs ≡ qs ++ g ∷ gs → take (length qs) fs ≡ qs
front_here fs qs gs g e = ap (λ (xs : List Form). take (length qs) xs) e ∙ take-append_seam qs (g ∷ gs)

-- with the form itself in front
pub moved : (fs qs gs : List Form) (g : Form) → fs ≡ qs ++ g ∷ gs → fs ≡ (qs ++ g ∷ []) ++ gs
moved fs qs gs g e = e ∙ sym (append_assoc qs (g ∷ []) gs)

pub pushed_len : (qs : List Form) (g : Form) → length (qs ++ g ∷ []) ≡ length qs + 1
pushed_len qs g = length-append qs (g ∷ [])

pub upto_here : (fs qs gs : List Form) (g : Form) → fs ≡ qs ++ g ∷ gs → take (length qs + 1) fs ≡ qs ++ g ∷ []
upto_here fs qs gs g e = ap (λ (n : ℕ). take n fs) (sym (pushed_len qs g)) ∙ (ap (λ (xs : List Form). take (length (qs ++ g ∷ [])) xs) (moved fs qs gs g e) ∙ take-append_seam (qs ++ g ∷ []) gs)

-- ---- the number of a function

pub counted : (qs : List Form) (g : Form) → count_by is_function (qs ++ g ∷ []) ≡ count_by is_function qs + cond (is_function g) 1 0
counted qs g = sum_by-append (λ f. cond (is_function f) 1 0) qs (g ∷ []) ∙ omega arith

counted_front : (g : Form) (gs : List Form) → count_by is_function (g ∷ gs) ≡ cond (is_function g) 1 0 + count_by is_function gs
counted_front g gs = sum_by-cons (λ f. cond (is_function f) 1 0) g gs

pub number_here : (fs qs gs : List Form) (g : Form) → fs ≡ qs ++ g ∷ gs → number fs (length qs) ≡ count_by is_function qs + cond (is_function g) 1 0
number_here fs qs gs g e = ap (λ (xs : List Form). count_by is_function xs) (upto_here fs qs gs g e) ∙ counted qs g

-- ---- labels

-- a function form is no label
pub no_label : (f : Form) → is_function f ≡ true → label_at f ≡ []
no_label (form.Instr i) e = absurd (cc)
no_label f e = refl

pub no_number : (n : ℕ) (f : Form) → is_function f ≡ true → has_number n f ≡ false
no_number n f e = ap (λ (ls : List ℕ). list_any (nat_eq n) ls) (no_label f e)

pub no_labels : (k : ℕ) → labels_in k [] ≡ []
no_labels zero = refl
no_labels (suc k) = refl

-- the labels of the 0-th function are those of the code in front of the first
pub zeroth : (gs : List Form) → labels_in 0 gs ≡ label_numbers (code_of gs)
zeroth [] = refl
zeroth (form.Function h ∷ gs) = refl
zeroth (form.NoFunction ∷ gs) = refl
zeroth (form.Instr i ∷ gs) = ap (λ (ls : List ℕ). own_label i ++ ls) (zeroth gs)
zeroth (f ∷ gs) = zeroth gs

next_function : (k : ℕ) (p : Form) (xs : List Form) → is_function p ≡ true → labels_in (1 + k) (p ∷ xs) ≡ labels_in k xs
next_function k p xs e =
    let n : 1 + k ≡ suc k = omega arith in
    ap (λ (m : ℕ). labels_in m (p ∷ xs)) n ∙ ap (λ (b : Bool). if b then labels_in k xs else labels_in (suc k) xs) e

same_function : (k : ℕ) (p : Form) (xs : List Form) → is_function p ≡ false → 1 ≤ k → labels_in k (p ∷ xs) ≡ labels_in k xs
same_function zero p xs e l = absurd (omega arith)
same_function (suc k) p xs e l = ap (λ (b : Bool). if b then labels_in k xs else labels_in (suc k) xs) e

-- the labels of the function that a form begins are those of the code behind it
pub own_labels : (ps gs : List Form) (f : Form) → is_function f ≡ true → labels_in (count_by is_function (ps ++ f ∷ [])) (ps ++ f ∷ gs) ≡ label_numbers (code_of gs)
own_labels [] gs f e =
    ap (λ (b : Bool). labels_in (0 + cond b 1 0) (f ∷ gs)) e ∙ (next_function 0 f gs e ∙ zeroth gs)
own_labels (p ∷ ps) gs f e =
    ap (λ (k : ℕ). labels_in k (p ∷ (ps ++ f ∷ gs))) (counted_front p (ps ++ f ∷ [])) ∙ go (own_labels ps gs f e) (is_function p) refl
  where
    some : 1 ≤ count_by is_function (ps ++ f ∷ [])
    some =
        let n : count_by is_function (ps ++ f ∷ []) ≡ count_by is_function ps + 1 = counted ps f ∙ ap (λ (b : Bool). count_by is_function ps + cond b 1 0) e in
        omega arith

    go : labels_in (count_by is_function (ps ++ f ∷ [])) (ps ++ f ∷ gs) ≡ label_numbers (code_of gs) → (b : Bool) → is_function p ≡ b → labels_in (cond (is_function p) 1 0 + count_by is_function (ps ++ f ∷ [])) (p ∷ (ps ++ f ∷ gs)) ≡ label_numbers (code_of gs)
    go rest true h =
        ap (λ (b : Bool). labels_in (cond b 1 0 + count_by is_function (ps ++ f ∷ [])) (p ∷ (ps ++ f ∷ gs))) h
        ∙ (next_function (count_by is_function (ps ++ f ∷ [])) p (ps ++ f ∷ gs) h ∙ rest)
    go rest false h =
        let n : cond (is_function p) 1 0 + count_by is_function (ps ++ f ∷ []) ≡ count_by is_function (ps ++ f ∷ []) = ap (λ (b : Bool). cond b 1 0 + count_by is_function (ps ++ f ∷ [])) h ∙ zero-add (count_by is_function (ps ++ f ∷ [])) in
        ap (λ (k : ℕ). labels_in k (p ∷ (ps ++ f ∷ gs))) n
        ∙ (same_function (count_by is_function (ps ++ f ∷ [])) p (ps ++ f ∷ gs) h some ∙ rest)

-- ---- one form more at the end

succeeds : (a b k : ℕ) → b ≡ suc a → nat_eq a k ≡ nat_eq b (suc k)
succeeds a b k e = go (cases_eq a k)
  where
    go : (a ≡ k) ⊎ (a ≡ k → ⊥) → nat_eq a k ≡ nat_eq b (suc k)
    go (inl h) = eq-eqb a k h ∙ sym (eq-eqb b (suc k) (omega arith))
    go (inr ne) = ne_eqb a k ne ∙ sym (ne_eqb b (suc k) (λ h. ne (omega arith)))

or_moved : (a x y : Bool) → (a || (x || y)) ≡ ((a || x) || y)
or_moved true x y = refl
or_moved false x y = refl

-- whether a label stands in a function of some forms, with one more at the end
abbrev Pushed : ℕ → ℕ → List Form → Form → Type 0
Pushed n k gs f = list_any (nat_eq n) (labels_in k (gs ++ f ∷ [])) ≡ (list_any (nat_eq n) (labels_in k gs) || (nat_eq (count_by is_function gs + cond (is_function f) 1 0) k && has_number n f))

pub labels_push : (n k : ℕ) (gs : List Form) (f : Form) → Pushed n k gs f
labels_push n zero [] f = go (is_function f) refl
  where
    go : (b : Bool) → is_function f ≡ b → list_any (nat_eq n) (if b then [] else label_at f ++ []) ≡ (false || (nat_eq (0 + cond b 1 0) 0 && has_number n f))
    go true e = refl
    go false e = ap (λ (ls : List ℕ). list_any (nat_eq n) ls) (append-nil (label_at f))
labels_push n (suc k) [] f = go (is_function f) refl
  where
    go : (b : Bool) → is_function f ≡ b → list_any (nat_eq n) (if b then labels_in k [] else labels_in (suc k) []) ≡ (false || (nat_eq (0 + cond b 1 0) (suc k) && has_number n f))
    go true e =
        ap (λ (ls : List ℕ). list_any (nat_eq n) ls) (no_labels k) ∙ sym (and_right (nat_eq (0 + 1) (suc k)) (has_number n f) (no_number n f e))
    go false e = sym (and_left (nat_eq (0 + 0) (suc k)) (has_number n f) (ne_eqb (0 + 0) (suc k) (λ h. omega arith)))
labels_push n zero (g ∷ gs) f =
    go (labels_push n 0 gs f) (is_function g)
    ∙ ap (λ (m : ℕ). list_any (nat_eq n) (labels_in 0 (g ∷ gs)) || (nat_eq (m + cond (is_function f) 1 0) 0 && has_number n f)) (sym (counted_front g gs))
  where
    go : Pushed n 0 gs f → (b : Bool) → list_any (nat_eq n) (if b then [] else label_at g ++ labels_in 0 (gs ++ f ∷ [])) ≡ (list_any (nat_eq n) (if b then [] else label_at g ++ labels_in 0 gs) || (nat_eq ((cond b 1 0 + count_by is_function gs) + cond (is_function f) 1 0) 0 && has_number n f))
    go rest true =
        sym (and_left (nat_eq ((1 + count_by is_function gs) + cond (is_function f) 1 0) 0) (has_number n f) (ne_eqb ((1 + count_by is_function gs) + cond (is_function f) 1 0) 0 (λ h. omega arith)))
    go rest false =
        list_any-append (nat_eq n) (label_at g) (labels_in 0 (gs ++ f ∷ []))
        ∙ (ap (λ (b : Bool). list_any (nat_eq n) (label_at g) || b) rest
        ∙ (or_moved (list_any (nat_eq n) (label_at g)) (list_any (nat_eq n) (labels_in 0 gs)) (nat_eq (count_by is_function gs + cond (is_function f) 1 0) 0 && has_number n f)
        ∙ (ap (λ (b : Bool). b || (nat_eq (count_by is_function gs + cond (is_function f) 1 0) 0 && has_number n f)) (sym (list_any-append (nat_eq n) (label_at g) (labels_in 0 gs)))
        ∙ ap (λ (m : ℕ). list_any (nat_eq n) (label_at g ++ labels_in 0 gs) || (nat_eq (m + cond (is_function f) 1 0) 0 && has_number n f)) (sym (zero-add (count_by is_function gs))))))
labels_push n (suc k) (g ∷ gs) f =
    go (labels_push n k gs f) (labels_push n (suc k) gs f) (is_function g)
    ∙ ap (λ (m : ℕ). list_any (nat_eq n) (labels_in (suc k) (g ∷ gs)) || (nat_eq (m + cond (is_function f) 1 0) (suc k) && has_number n f)) (sym (counted_front g gs))
  where
    go : Pushed n k gs f → Pushed n (suc k) gs f → (b : Bool) → list_any (nat_eq n) (if b then labels_in k (gs ++ f ∷ []) else labels_in (suc k) (gs ++ f ∷ [])) ≡ (list_any (nat_eq n) (if b then labels_in k gs else labels_in (suc k) gs) || (nat_eq ((cond b 1 0 + count_by is_function gs) + cond (is_function f) 1 0) (suc k) && has_number n f))
    go one more true =
        one
        ∙ ap (λ (b : Bool). list_any (nat_eq n) (labels_in k gs) || (b && has_number n f))
        (succeeds (count_by is_function gs + cond (is_function f) 1 0) ((1 + count_by is_function gs) + cond (is_function f) 1 0) k (omega arith))
    go one more false =
        more
        ∙ ap (λ (m : ℕ). list_any (nat_eq n) (labels_in (suc k) gs) || (nat_eq (m + cond (is_function f) 1 0) (suc k) && has_number n f)) (sym (zero-add (count_by is_function gs)))
