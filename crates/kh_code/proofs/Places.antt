-- What the indexes of a module tell.
use Rattle.std.proofs.Common.{◌≡◌, ◌<◌, ◌≤◌, ◌+◌, ◌-◌, ℕ, suc, Bool, true, false, cond, ◌&&◌, ◌||◌, nat_eq, List, [], ◌∷◌, ◌++◌, length, drop, take, get_or, slice_get, Option, Some, None, refl, ap, sym, subst, ◌∙◌, arith, add-one, drop-cons}
use Rattle.std.proofs.lemmas.Bool.{and_parts}
use Rattle.std.proofs.lemmas.List.{take_more}
use Rattle.std.proofs.lemmas.List.Folds.{list_any-append}
use Rattle.std.proofs.lemmas.Option.{slice_get-get_or}
use Rattle.std.specs.BTreeMap.{BTreeMap, is_at}
use Rattle.std.specs.BTreeMap as tree
use Rattle.std.specs.BTreeSet.{BTreeSet}
use Rattle.std.specs.BTreeSet as set
use Rattle.std.specs.Cmp.{unsigned_ties}
use Rattle.std.specs.Cmp.Lexicographic.{slice_cmp, texts_ties}
use Rattle.std.specs.List.{find, list_any}
use Rattle.std.specs.Option.{option_and_then}
use Rattle.std.specs.Ordering.{nat_cmp, is_eq, ordering_then}
use Rattle.std.specs.Str.{bytes_eq}
use Rattle.std.specs.declared.cmp.Ordering.{Ordering}
use Rattle.std.specs.declared.cmp.Ordering.TheVariants.{Less, Equal, Greater}
use Rattle.kh_term.specs.declared.name.Origin.{Origin}
use Rattle.kh_term.specs.Name.{origin_cmp}
use Rattle.kh_instr.specs.Code.{function_from, function_entered, is_among}
use Rattle.kh_instr.specs.Tables.{is_same_function, function_of}
use Rattle.kh_instr.specs.declared.module.Export.{Export}
use Rattle.kh_instr.specs.declared.module.Function.{Function}
use Rattle.kh_instr.specs.declared.module.Module.{Module}
use Rattle.kh_code.specs.Indexes.{LeadsByOrigin, LeadsByEntry}

then_equal : (o r : Ordering) → is_eq (ordering_then o r) ≡ (is_eq o && is_eq r)
then_equal Less r = refl
then_equal Equal r = refl
then_equal Greater r = refl

last_first : (a b c : Bool) → (a && (b && c)) ≡ (b && (c && a))
last_first true true true = refl
last_first true true false = refl
last_first true false c = refl
last_first false true true = refl
last_first false true false = refl
last_first false false c = refl

-- two triples are the same where the order doesn't tell them apart
pub same_by_order : (a b : Origin) → is_same_function a b ≡ is_eq (origin_cmp a b)
same_by_order a b =
    last_first (nat_eq a.arity b.arity) (bytes_eq a.module b.module) (bytes_eq a.name b.name)
    ∙ ((λ i. texts_ties a.module b.module i && (texts_ties a.name b.name i && unsigned_ties a.arity b.arity i))
    ∙ ((λ i. is_eq (slice_cmp nat_cmp a.module b.module) && sym (then_equal (slice_cmp nat_cmp a.name b.name) (nat_cmp a.arity b.arity)) i)
    ∙ sym (then_equal (slice_cmp nat_cmp a.module b.module) (ordering_then (slice_cmp nat_cmp a.name b.name) (nat_cmp a.arity b.arity)))))

module _ {K : Type 0} (cmp : K → K → Ordering) (same : Function → K → Bool) (key : Function → K)
    (tells : (f : Function) (k : K) → same f k ≡ is_eq (cmp (key f) k)) where
  -- a function in front of those to which the places lead
  pub leads_on : (fs : List Function) (i : ℕ) (d : Function) (m n : BTreeMap K ℕ) → i < length fs
      → tree.Updates cmp m n (key (get_or fs i d)) (Some i)
      → ((k : K) → option_and_then (slice_get fs) (tree.get cmp m k) ≡ find (λ f. same f k) (drop (i + 1) fs))
      → (k : K) → option_and_then (slice_get fs) (tree.get cmp n k) ≡ find (λ f. same f k) (drop i fs)
  leads_on fs i d m n h new before k =
      let f : Function = get_or fs i d in
      let rest : Option Function = find (λ g. same g k) (drop (i + 1) fs) in
      let ends : drop i fs ≡ f ∷ drop (i + 1) fs = rw (add-one, drop-cons fs i d) refl in
      ap (option_and_then (slice_get fs)) (new.0 k)
      ∙ (by f rest (slice_get-get_or fs i d h) (before k) (is_eq (cmp (key f) k))
      ∙ (ap (λ b. cond b (Some f) rest) (sym (tells f k)) ∙ sym (ap (find (λ g. same g k)) ends)))
    where
      by : (f : Function) (rest : Option Function) → slice_get fs i ≡ Some f → option_and_then (slice_get fs) (tree.get cmp m k) ≡ rest
          → (b : Bool) → option_and_then (slice_get fs) (cond b (Some i) (tree.get cmp m k)) ≡ cond b (Some f) rest
      by f rest here there true = here
      by f rest here there false = there

pub leads_by_origin : (fs : List Function) (i : ℕ) (d : Function) (m n : BTreeMap Origin ℕ) → i < length fs
    → tree.Updates origin_cmp m n (get_or fs i d).origin (Some i)
    → ((o : Origin) → option_and_then (slice_get fs) (tree.get origin_cmp m o) ≡ function_from (drop (i + 1) fs) o)
    → (o : Origin) → option_and_then (slice_get fs) (tree.get origin_cmp n o) ≡ function_from (drop i fs) o
leads_by_origin = leads_on origin_cmp (λ f o. is_same_function f.origin o) (λ f. f.origin) (λ f o. same_by_order f.origin o)

pub leads_by_entry : (fs : List Function) (i : ℕ) (d : Function) (m n : BTreeMap ℕ ℕ) → i < length fs
    → tree.Updates nat_cmp m n (get_or fs i d).entry (Some i)
    → ((l : ℕ) → option_and_then (slice_get fs) (tree.get nat_cmp m l) ≡ function_entered (drop (i + 1) fs) l)
    → (l : ℕ) → option_and_then (slice_get fs) (tree.get nat_cmp n l) ≡ function_entered (drop i fs) l
leads_by_entry = leads_on nat_cmp (λ f l. nat_eq f.entry l) (λ f. f.entry) (λ f l. unsigned_ties f.entry l)

-- an export behind those that the triples tell
pub tells_on : (name : List ℕ) (es : List Export) (i : ℕ) (d : Export) (s t : BTreeSet Origin) → i < length es
    → set.Updates origin_cmp s t (function_of name (get_or es i d).name (get_or es i d).arity) true
    → ((o : Origin) → bytes_eq name o.«module» ≡ true → set.contains origin_cmp s o ≡ is_among (take i es) o.name o.arity)
    → (o : Origin) → bytes_eq name o.«module» ≡ true → set.contains origin_cmp t o ≡ is_among (take (i + 1) es) o.name o.arity
tells_on name es i d s t h new before o own =
    let e : Export = get_or es i d in
    let one : is_eq (origin_cmp (function_of name e.name e.arity) o) ≡ (nat_eq e.arity o.arity && bytes_eq e.name o.name) =
    sym (same_by_order (function_of name e.name e.arity) o) ∙ ap (λ b. nat_eq e.arity o.arity && (b && bytes_eq e.name o.name)) own in
    new.0 o
    ∙ (by (is_eq (origin_cmp (function_of name e.name e.arity) o)) (set.contains origin_cmp s o)
    ∙ ((λ j. before o own j || (one j || false))
    ∙ (sym (list_any-append (λ e. nat_eq e.arity o.arity && bytes_eq e.name o.name) (take i es) (e ∷ []))
    ∙ ap (λ es. is_among es o.name o.arity) (sym (take_more es i d h)))))
  where
    by : (b c : Bool) → cond b true c ≡ (c || (b || false))
    by true true = refl
    by true false = refl
    by false true = refl
    by false false = refl

-- the same, where the last of so many functions was put
pub origin_placed : (fs : List Function) (at : ℕ) (f : Function) (key : Origin) (m n : BTreeMap Origin ℕ) → 0 < at → at ≤ length fs
    → key ≡ (get_or fs (at - 1) f).origin → tree.Updates origin_cmp m n key (Some (at - 1))
    → ((o : Origin) → option_and_then (slice_get fs) (tree.get origin_cmp m o) ≡ function_from (drop at fs) o)
    → (o : Origin) → option_and_then (slice_get fs) (tree.get origin_cmp n o) ≡ function_from (drop (at - 1) fs) o
origin_placed fs at f key m n some within same new before =
    let here : at ≡ at - 1 + 1 = omega arith in
    leads_by_origin fs (at - 1) f m n (omega arith)
    (subst (λ (k : Origin). tree.Updates origin_cmp m n k (Some (at - 1))) same new)
    (λ o. before o ∙ ap (λ (i : ℕ). function_from (drop i fs) o) here)

pub entry_placed : (fs : List Function) (at : ℕ) (f : Function) (m n : BTreeMap ℕ ℕ) → 0 < at → at ≤ length fs
    → tree.Updates nat_cmp m n (get_or fs (at - 1) f).entry (Some (at - 1))
    → ((l : ℕ) → option_and_then (slice_get fs) (tree.get nat_cmp m l) ≡ function_entered (drop at fs) l)
    → (l : ℕ) → option_and_then (slice_get fs) (tree.get nat_cmp n l) ≡ function_entered (drop (at - 1) fs) l
entry_placed fs at f m n some within new before =
    let here : at ≡ at - 1 + 1 = omega arith in
    leads_by_entry fs (at - 1) f m n (omega arith) new (λ l. before l ∙ ap (λ (i : ℕ). function_entered (drop i fs) l) here)

pub export_told : (name : List ℕ) (es items : List Export) (i : ℕ) (e : Export) (key : Origin) (s t : BTreeSet Origin) → items ≡ es → i < length items
    → e ≡ get_or items i e → key ≡ function_of name e.name e.arity → set.Updates origin_cmp s t key true
    → ((o : Origin) → bytes_eq name o.«module» ≡ true → set.contains origin_cmp s o ≡ is_among (take i es) o.name o.arity)
    → (o : Origin) → bytes_eq name o.«module» ≡ true → set.contains origin_cmp t o ≡ is_among (take (i + 1) es) o.name o.arity
export_told name es items i e key s t same h is made new before =
    let inside : i < length es = subst (λ (xs : List Export). i < length xs) same h in
    let own : e ≡ get_or es i e = is ∙ ap (λ (xs : List Export). get_or xs i e) same in
    tells_on name es i e s t inside
    (subst (λ (k : Origin). set.Updates origin_cmp s t k true) (made ∙ ap (λ (e : Export). function_of name e.name e.arity) own) new) before
