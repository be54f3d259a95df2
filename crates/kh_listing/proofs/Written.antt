-- The module of forms of which none is at fault is one that a listing can give.
use Rattle.std.proofs.Common.{◌≡◌, ◌<◌, ◌≤◌, ◌+◌, ℕ, zero, suc, Bool, true, false, ◌&&◌, ◌||◌, not, cond, nat_eq, List, [], ◌∷◌, ◌++◌, length, count_by, refl, ap, sym, ◌∙◌, subst, arith, zero-add, add-zero, append_assoc, append-nil, length-append, inl, inr, ◌⊎◌}
use Rattle.std.proofs.lemmas.Bool.{or_parts, or_from, and_from, and_parts, not_from_false, not-true, eq-eqb, cases_eq, ne_eqb}
use Rattle.std.proofs.lemmas.List.Folds.{list_any-append, list_all-append}
use Rattle.std.proofs.lemmas.List.Sums.{sum_by-cons}
use Rattle.std.proofs.lemmas.Slice.Eq.{bytes_eq-Decides}
use Rattle.std.specs.List.{list_any, list_all, flat_map, sum_by}
use Rattle.std.specs.Str.{bytes_eq}
use Rattle.kh_instr.specs.declared.instr.Instr.{Instr}
use Rattle.kh_instr.specs.declared.instr.Instr.TheVariants as instr
use Rattle.kh_instr.specs.declared.module.Function.{Function}
use Rattle.kh_instr.specs.declared.module.Module.{Module}
use Rattle.kh_instr.specs.Syntax.{labels}
use Rattle.kh_instr.specs.Tables.{function_of, is_same_function}
use Rattle.kh_instr.specs.Written.{are_distinct, own_label, label_numbers, all_label_numbers, has_label, jumps_within, leads_to, leads_right, is_same_name, is_its_own, IsWritten}
use Rattle.kh_listing.specs.declared.form.Form.{Form}
use Rattle.kh_listing.specs.declared.form.Form.TheVariants as form
use Rattle.kh_listing.specs.declared.form.Header.{Header}
use Rattle.kh_listing.specs.Faults.{defines, has_number}
use Rattle.kh_listing.specs.Made.{code_of, function_with, functions_of, name_of, module_of, code_len}
use Rattle.kh_listing.specs.Outcome.{IsFaultless}
use Rattle.kh_listing.specs.Places.{form_at, is_function, label_at, labels_in, number, stands_by}
use Rattle.kh_listing.proofs.Pieces.{moved, number_here, counted, own_labels}
use Rattle.kh_listing.proofs.Clear.{Clear, clear, new_here, label_here, well_formed}

-- ---- no function stands twice

-- a function of this name and arity is among some forms
abbrev Named : Header → List Form → Type 0
Named h qs = (name : List ℕ) (arity : ℕ) → list_any (defines name arity) qs ≡ false → defines name arity (form.Function h) ≡ false

named_more : (h : Header) (qs : List Form) (g : Form) → Named h qs → Named h (qs ++ g ∷ [])
named_more h qs g k name arity none =
    k name arity (or_parts (list_any (defines name arity) qs) (list_any (defines name arity) (g ∷ [])) (sym (list_any-append (defines name arity) qs (g ∷ [])) ∙ none)).0

named_here : (h : Header) (qs : List Form) → Named h (qs ++ form.Function h ∷ [])
named_here h qs name arity none =
    (or_parts (defines name arity (form.Function h)) false
    (or_parts (list_any (defines name arity) qs) (list_any (defines name arity) (form.Function h ∷ [])) (sym (list_any-append (defines name arity) qs (form.Function h ∷ [])) ∙ none)).1).0

no_other : (m : List ℕ) (fs : List Form) → IsFaultless fs → (h : Header) (c : List Instr) (qs gs : List Form) → fs ≡ qs ++ gs → Named h qs → list_any (is_same_name (function_with m h c)) (functions_of m gs) ≡ false
no_other m fs none h c qs [] e k = refl
no_other m fs none h c qs (form.Function j ∷ gs) e k =
    or_from (is_same_name (function_with m h c) (function_with m j (code_of gs))) (list_any (is_same_name (function_with m h c)) (functions_of m gs))
    (k j.name j.arity (new_here fs qs gs j none e))
    (no_other m fs none h c (qs ++ form.Function j ∷ []) gs (moved fs qs gs (form.Function j) e) (named_more h qs (form.Function j) k))
no_other m fs none h c qs (g ∷ gs) e k =
    no_other m fs none h c (qs ++ g ∷ []) gs (moved fs qs gs g e) (named_more h qs g k)

functions_once : (m : List ℕ) (fs : List Form) → IsFaultless fs → (qs gs : List Form) → fs ≡ qs ++ gs → are_distinct is_same_name (functions_of m gs) ≡ true
functions_once m fs none qs [] e = refl
functions_once m fs none qs (form.Function h ∷ gs) e =
    and_from (not (list_any (is_same_name (function_with m h (code_of gs))) (functions_of m gs))) (are_distinct is_same_name (functions_of m gs))
    (not_from_false (list_any (is_same_name (function_with m h (code_of gs))) (functions_of m gs))
    (no_other m fs none h (code_of gs) (qs ++ form.Function h ∷ []) gs (moved fs qs gs (form.Function h) e) (named_here h qs)))
    (functions_once m fs none (qs ++ form.Function h ∷ []) gs (moved fs qs gs (form.Function h) e))
functions_once m fs none qs (g ∷ gs) e = functions_once m fs none (qs ++ g ∷ []) gs (moved fs qs gs g e)

-- ---- no label stands twice

-- a label of this number is among some forms
abbrev Numbered : ℕ → List Form → Type 0
Numbered n qs = (k : ℕ) → list_any (has_number k) qs ≡ false → nat_eq n k ≡ false

numbered_more : (n : ℕ) (qs : List Form) (g : Form) → Numbered n qs → Numbered n (qs ++ g ∷ [])
numbered_more n qs g h k none =
    h k (or_parts (list_any (has_number k) qs) (list_any (has_number k) (g ∷ [])) (sym (list_any-append (has_number k) qs (g ∷ [])) ∙ none)).0

turned : (a b : ℕ) → nat_eq a b ≡ false → nat_eq b a ≡ false
turned a b h = go (cases_eq b a)
  where
    go : (b ≡ a) ⊎ (b ≡ a → ⊥) → nat_eq b a ≡ false
    go (inl e) = eq-eqb b a e ∙ (sym (eq-eqb a b (sym e)) ∙ h)
    go (inr ne) = ne_eqb b a ne

-- a form is no label, or one
lone : (g : Form) → (label_at g ≡ []) ⊎ ((n : ℕ) × (label_at g ≡ n ∷ []))
lone (form.Instr (instr.Label n)) = inr (n, refl)
lone (form.Instr i) = inl refl
lone g = inl refl

numbered_here : (n : ℕ) (qs : List Form) (g : Form) → label_at g ≡ n ∷ [] → Numbered n (qs ++ g ∷ [])
numbered_here n qs g e k none =
    let own : (has_number k g || false) ≡ false = (or_parts (list_any (has_number k) qs) (list_any (has_number k) (g ∷ [])) (sym (list_any-append (has_number k) qs (g ∷ [])) ∙ none)).1 in
    let it : has_number k g ≡ false = (or_parts (has_number k g) false own).0 in
    let same : (nat_eq k n || false) ≡ false = sym (ap (λ (ls : List ℕ). list_any (nat_eq k) ls) e) ∙ it in
    turned k n (or_parts (nat_eq k n) false same).0

no_other_label : (fs : List Form) → IsFaultless fs → (n : ℕ) (qs gs : List Form) → fs ≡ qs ++ gs → Numbered n qs → list_any (nat_eq n) (flat_map label_at gs) ≡ false
no_other_label fs none n qs [] e h = refl
no_other_label fs none n qs (g ∷ gs) e h =
    list_any-append (nat_eq n) (label_at g) (flat_map label_at gs)
    ∙ or_from (list_any (nat_eq n) (label_at g)) (list_any (nat_eq n) (flat_map label_at gs)) (own (lone g))
    (no_other_label fs none n (qs ++ g ∷ []) gs (moved fs qs gs g e) (numbered_more n qs g h))
  where
    own : (label_at g ≡ []) ⊎ ((k : ℕ) × (label_at g ≡ k ∷ [])) → list_any (nat_eq n) (label_at g) ≡ false
    own (inl l) = ap (λ (ls : List ℕ). list_any (nat_eq n) ls) l
    own (inr (k, l)) =
        let new : (list_any (has_number k) qs || false) ≡ false = sym (ap (λ (ls : List ℕ). list_any (λ x. list_any (has_number x) qs) ls) l) ∙ label_here fs qs gs g none e in
        ap (λ (ls : List ℕ). list_any (nat_eq n) ls) l ∙ or_from (nat_eq n k) false (h k (or_parts (list_any (has_number k) qs) false new).0) refl

all_once : (fs : List Form) → IsFaultless fs → (qs gs : List Form) → fs ≡ qs ++ gs → are_distinct nat_eq (flat_map label_at gs) ≡ true
all_once fs none qs [] e = refl
all_once fs none qs (g ∷ gs) e = go (all_once fs none (qs ++ g ∷ []) gs (moved fs qs gs g e)) (lone g)
  where
    go : are_distinct nat_eq (flat_map label_at gs) ≡ true → (label_at g ≡ []) ⊎ ((n : ℕ) × (label_at g ≡ n ∷ [])) → are_distinct nat_eq (label_at g ++ flat_map label_at gs) ≡ true
    go rest (inl l) = ap (λ (ls : List ℕ). are_distinct nat_eq (ls ++ flat_map label_at gs)) l ∙ rest
    go rest (inr (n, l)) =
        ap (λ (ls : List ℕ). are_distinct nat_eq (ls ++ flat_map label_at gs)) l
        ∙ and_from (not (list_any (nat_eq n) (flat_map label_at gs))) (are_distinct nat_eq (flat_map label_at gs))
        (not_from_false (list_any (nat_eq n) (flat_map label_at gs))
        (no_other_label fs none n (qs ++ g ∷ []) gs (moved fs qs gs g e) (numbered_here n qs g l))) rest

distinct_behind : (xs ys : List ℕ) → are_distinct nat_eq (xs ++ ys) ≡ true → are_distinct nat_eq ys ≡ true
distinct_behind [] ys h = h
distinct_behind (x ∷ xs) ys h =
    distinct_behind xs ys (and_parts (not (list_any (nat_eq x) (xs ++ ys))) (are_distinct nat_eq (xs ++ ys)) h).1

-- the labels of the code in front of the first function, and those of the functions, are those of all forms
all_labels : (m : List ℕ) (fs : List Form) → IsFaultless fs → (qs gs : List Form) → fs ≡ qs ++ gs → label_numbers (code_of gs) ++ all_label_numbers (functions_of m gs) ≡ flat_map label_at gs
all_labels m fs none qs [] e = refl
all_labels m fs none qs (form.Function h ∷ gs) e =
    all_labels m fs none (qs ++ form.Function h ∷ []) gs (moved fs qs gs (form.Function h) e)
all_labels m fs none qs (form.NoFunction ∷ gs) e = absurd (well_formed fs qs gs none e)
all_labels m fs none qs (form.Instr i ∷ gs) e =
    append_assoc (own_label i) (label_numbers (code_of gs)) (all_label_numbers (functions_of m gs))
    ∙ ap (λ (ls : List ℕ). own_label i ++ ls) (all_labels m fs none (qs ++ form.Instr i ∷ []) gs (moved fs qs gs (form.Instr i) e))
all_labels m fs none qs (g ∷ gs) e = all_labels m fs none (qs ++ g ∷ []) gs (moved fs qs gs g e)

labels_once : (m : List ℕ) (fs : List Form) → IsFaultless fs → are_distinct nat_eq (all_label_numbers (functions_of m fs)) ≡ true
labels_once m fs none =
    distinct_behind (label_numbers (code_of fs)) (all_label_numbers (functions_of m fs))
    (ap (are_distinct nat_eq) (all_labels m fs none [] fs refl) ∙ all_once fs none [] fs refl)

-- ---- each entry is a label of its function

-- the labels of the function that a form begins
labels_here : (fs qs gs : List Form) (g : Form) → is_function g ≡ true → fs ≡ qs ++ g ∷ gs → labels_in (number fs (length qs)) fs ≡ label_numbers (code_of gs)
labels_here fs qs gs g f e =
    ap (λ (k : ℕ). labels_in k fs) (number_here fs qs gs g e ∙ sym (counted qs g))
    ∙ (ap (λ (xs : List Form). labels_in (count_by is_function (qs ++ g ∷ [])) xs) e ∙ own_labels qs gs g f)

entries : (m : List ℕ) (fs : List Form) → IsFaultless fs → (qs gs : List Form) → fs ≡ qs ++ gs → list_all (λ f. has_label f f.entry) (functions_of m gs) ≡ true
entries m fs none qs [] e = refl
entries m fs none qs (form.Function h ∷ gs) e =
    and_from (has_label (function_with m h (code_of gs)) h.entry) (list_all (λ f. has_label f f.entry) (functions_of m gs))
    (sym (ap (λ (ls : List ℕ). list_any (nat_eq h.entry) ls) (labels_here fs qs gs (form.Function h) refl e))
    ∙ (clear fs qs gs (form.Function h) none e).entered)
    (entries m fs none (qs ++ form.Function h ∷ []) gs (moved fs qs gs (form.Function h) e))
entries m fs none qs (g ∷ gs) e = entries m fs none (qs ++ g ∷ []) gs (moved fs qs gs g e)

-- ---- jumps stay in their function, and calls and closures lead to one that fits

within_code : (fs : List Form) → IsFaultless fs → (f : Function) (k : ℕ) → labels_in k fs ≡ label_numbers f.code → (qs xs : List Form) → fs ≡ qs ++ xs → count_by is_function qs ≡ k → list_all (λ i. jumps_within f i && leads_to (functions_of (name_of fs) fs) i) (code_of xs) ≡ true
within_code fs none f k own qs [] e n = refl
within_code fs none f k own qs (form.Function h ∷ xs) e n = refl
within_code fs none f k own qs (form.NoFunction ∷ xs) e n = refl
within_code fs none f k own qs (form.Instr i ∷ xs) e n =
    and_from (jumps_within f i && leads_to (functions_of (name_of fs) fs) i) (list_all (λ j. jumps_within f j && leads_to (functions_of (name_of fs) fs) j) (code_of xs))
    (and_from (jumps_within f i) (leads_to (functions_of (name_of fs) fs) i) jumps (clear fs qs xs (form.Instr i) none e).led)
    (within_code fs none f k own (qs ++ form.Instr i ∷ []) xs (moved fs qs xs (form.Instr i) e) (counted qs (form.Instr i) ∙ (add-zero (count_by is_function qs) ∙ n)))
  where
    here : labels_in (number fs (length qs)) fs ≡ label_numbers f.code
    here = ap (λ (c : ℕ). labels_in c fs) (number_here fs qs xs (form.Instr i) e ∙ (add-zero (count_by is_function qs) ∙ n)) ∙ own

    jumps : jumps_within f i ≡ true
    jumps = sym (ap (λ (ls : List ℕ). list_all (λ l. list_any (nat_eq l) ls) (labels i)) here) ∙ (clear fs qs xs (form.Instr i) none e).stays
within_code fs none f k own qs (g ∷ xs) e n =
    within_code fs none f k own (qs ++ g ∷ []) xs (moved fs qs xs g e) (counted qs g ∙ (add-zero (count_by is_function qs) ∙ n))

leads : (fs : List Form) → IsFaultless fs → (qs gs : List Form) → fs ≡ qs ++ gs → list_all (leads_right (functions_of (name_of fs) fs)) (functions_of (name_of fs) gs) ≡ true
leads fs none qs [] e = refl
leads fs none qs (form.Function h ∷ gs) e =
    and_from (leads_right (functions_of (name_of fs) fs) (function_with (name_of fs) h (code_of gs))) (list_all (leads_right (functions_of (name_of fs) fs)) (functions_of (name_of fs) gs))
    (within_code fs none (function_with (name_of fs) h (code_of gs)) (number fs (length qs)) (labels_here fs qs gs (form.Function h) refl e) (qs ++ form.Function h ∷ []) gs (moved fs qs gs (form.Function h) e)
    (counted qs (form.Function h) ∙ sym (number_here fs qs gs (form.Function h) e)))
    (leads fs none (qs ++ form.Function h ∷ []) gs (moved fs qs gs (form.Function h) e))
leads fs none qs (g ∷ gs) e = leads fs none (qs ++ g ∷ []) gs (moved fs qs gs g e)

-- ---- each origin is its own triple

same_text : (text : List ℕ) → bytes_eq text text ≡ true
same_text text = (bytes_eq-Decides text text).1 refl

origins : (m : List ℕ) (gs : List Form) → list_all (is_its_own m) (functions_of m gs) ≡ true
origins m [] = refl
origins m (form.Function h ∷ gs) =
    and_from (is_its_own m (function_with m h (code_of gs))) (list_all (is_its_own m) (functions_of m gs))
    (and_from (nat_eq h.arity h.arity) (bytes_eq m m && bytes_eq h.name h.name) (eq-eqb h.arity h.arity refl) (and_from (bytes_eq m m) (bytes_eq h.name h.name) (same_text m) (same_text h.name)))
    (origins m gs)
origins m (g ∷ gs) = origins m gs

pub written : (fs : List Form) → IsFaultless fs → IsWritten (module_of fs)
written fs none = record {
  functions_once = functions_once (name_of fs) fs none [] fs refl;
  labels_once = labels_once (name_of fs) fs none;
  entries = entries (name_of fs) fs none [] fs refl;
  leads = leads fs none [] fs refl;
  origins = origins (name_of fs) fs;
}

-- ---- no more instructions than forms

kept : (m : List ℕ) (gs : List Form) → length (code_of gs) + code_len (functions_of m gs) ≤ length gs
kept m [] = omega arith
kept m (form.Function h ∷ gs) =
    let l = kept m gs in
    let e : code_len (functions_of m (form.Function h ∷ gs)) ≡ length (code_of gs) + code_len (functions_of m gs) = sum_by-cons (λ (f : Function). length f.code) (function_with m h (code_of gs)) (functions_of m gs) in omega arith
kept m (form.NoFunction ∷ gs) =
    let l = kept m gs in
    let e : code_len (functions_of m (form.NoFunction ∷ gs)) ≡ code_len (functions_of m gs) = refl in omega arith
kept m (form.Instr i ∷ gs) =
    let l = kept m gs in
    let e : code_len (functions_of m (form.Instr i ∷ gs)) ≡ code_len (functions_of m gs) = refl in omega arith
kept m (g ∷ gs) =
    let l = kept m gs in
    let e : code_len (functions_of m (g ∷ gs)) ≡ code_len (functions_of m gs) = refl in
    let d : length (code_of (g ∷ gs)) ≡ length (code_of gs) = refl in omega arith

pub few : (m : List ℕ) (gs : List Form) → code_len (functions_of m gs) ≤ length gs
few m gs = let l = kept m gs in omega arith
