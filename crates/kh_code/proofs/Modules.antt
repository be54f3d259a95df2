-- Modules by their names, and what a loaded module changes.
use Rattle.std.proofs.Common.{◌≡◌, ◌≤◌, ◌<◌, ◌+◌, ◌-◌, ◌^◌, ℕ, suc, min, Bool, true, false, not, cond, ◌&&◌, ◌||◌, nat_eq, nat_le, List, [], ◌∷◌, length, map, Option, Some, None, is_some, refl, ap, sym, subst, ◌∙◌, arith}
use Rattle.std.proofs.lemmas.Bool.{and_parts, eqb-true, leb-true}
use Rattle.std.proofs.lemmas.List.Elements.{All-nil, All-cons, All-head, All-tail}
use Rattle.std.proofs.lemmas.List.Sums.{sum_by-cons}
use Rattle.std.proofs.lemmas.Map.Keys.{IsDistinct-head, IsDistinct-tail}
use Rattle.std.proofs.lemmas.Map.Views.{IfSome-lookup_from_All}
use Rattle.std.proofs.lemmas.Slice.Eq.{bytes_eq-Decides}
use Rattle.std.specs.Cmp.Lexicographic.{nat_list_eq_equiv}
use Rattle.std.specs.List.{All, AllByRecursion, IsDistinct, find, list_all, list_any, sum_by}
use Rattle.std.specs.Map.{keys_of, values_of, lookup}
use Rattle.std.specs.Option.{option_map_or, IfSome}
use Rattle.std.specs.Str.{bytes_eq}
use Rattle.indexmap.specs.IndexMap.{insert_entry}
use Rattle.kh_term.specs.declared.name.Origin.{Origin}
use Rattle.kh_instr.specs.Code.{Code, module_named, function_named, function_from, function_entered, found_function, is_among, is_exported}
use Rattle.kh_instr.specs.Tables.{is_same_function, function_of}
use Rattle.kh_instr.specs.Written.{IsWritten, HasSmallLiterals, are_distinct, is_its_own}
use Rattle.kh_instr.specs.declared.module.Function.{Function}
use Rattle.kh_instr.specs.declared.module.Module.{Module}
use Rattle.kh_code.specs.Limits.{fits, instructions_of, literals_of}
use Rattle.kh_code.specs.Loading.{IsCode, with_module, is_same_module, entered_function, loaded_over}

-- each entry has the name of its module as its key
abbrev pub AreNamed : List (List ℕ × Module) → Type 0
AreNamed es = keys_of es ≡ map (λ m. m.name) (values_of es)

module _ (e : List ℕ × Module) (es : List (List ℕ × Module)) (named : AreNamed (e ∷ es)) where
  first_named : e.0 ≡ e.1.name
  first_named = cc

  rest_named : AreNamed es
  rest_named = cc

-- ---- look-ups

pub module_by : (es : List (List ℕ × Module)) (n : List ℕ) → AreNamed es → lookup (bytes_eq n) es ≡ module_named (values_of es) n
module_by [] n named = refl
module_by (e ∷ es) n named =
    let same : bytes_eq n e.0 ≡ bytes_eq e.1.name n = ap (bytes_eq n) (first_named e es named) ∙ nat_list_eq_equiv.symm n e.1.name in
    λ i. cond (same i) (Some e.1) (module_by es n (rest_named e es named) i)

-- the module that is found has the name
pub has_name : (code : Code) (n : List ℕ) (m : Module) → module_named code n ≡ Some m → bytes_eq m.name n ≡ true
has_name [] n m e = absurd (cc)
has_name (k ∷ code) n m e = by (bytes_eq k.name n) refl (has_name code n m) e
  where
    by : (b : Bool) → bytes_eq k.name n ≡ b → (module_named code n ≡ Some m → bytes_eq m.name n ≡ true)
        → cond b (Some k) (module_named code n) ≡ Some m → bytes_eq m.name n ≡ true
    by true same rest found = let here : k ≡ m = cc in subst (λ (x : Module). bytes_eq x.name n ≡ true) here same
    by false apart rest found = rest found

-- in a module whose functions' origins are their own, the triple finds what the name and the arity find
pub by_triple : (name : List ℕ) (fs : List Function) (o : Origin) → bytes_eq name o.«module» ≡ true → list_all (is_its_own name) fs ≡ true
    → function_from fs o ≡ function_named fs o.name o.arity
by_triple name [] o own all = refl
by_triple name (f ∷ fs) o own all =
    let parts = and_parts (is_its_own name f) (list_all (is_its_own name) fs) all in
    let first = and_parts (nat_eq f.origin.arity f.arity) (bytes_eq f.origin.module name && bytes_eq f.origin.name f.name) parts.0 in
    let others = and_parts (bytes_eq f.origin.module name) (bytes_eq f.origin.name f.name) first.1 in
    let arity : f.origin.arity ≡ f.arity = eqb-true f.origin.arity f.arity first.0 in
    let home : bytes_eq f.origin.module o.«module» ≡ true = ap (λ t. bytes_eq t o.«module») ((bytes_eq-Decides f.origin.module name).0 others.0) ∙ own in
    let called : f.origin.name ≡ f.name = (bytes_eq-Decides f.origin.name f.name).0 others.1 in
    λ i. cond (nat_eq (arity i) o.arity && (home i && bytes_eq (called i) o.name)) (Some f) (by_triple name fs o own parts.1 i)

-- ---- a module that is loaded

pub loaded_entries : (es : List (List ℕ × Module)) (m : Module) → AreNamed es → values_of (insert_entry bytes_eq es m.name m) ≡ with_module (values_of es) m
loaded_entries [] m named = refl
loaded_entries (e ∷ es) m named =
    by (bytes_eq m.name e.0) (loaded_entries es m (rest_named e es named))
    ∙ ap (λ n. cond (bytes_eq m.name n) (m ∷ values_of es) (e.1 ∷ with_module (values_of es) m)) (first_named e es named)
  where
    by : (b : Bool) → values_of (insert_entry bytes_eq es m.name m) ≡ with_module (values_of es) m
        → values_of (cond b ((e.0, m) ∷ es) (e ∷ insert_entry bytes_eq es m.name m)) ≡ cond b (m ∷ values_of es) (e.1 ∷ with_module (values_of es) m)
    by true rest = refl
    by false rest = ap (λ ms. e.1 ∷ ms) rest

pub loaded_named : (es : List (List ℕ × Module)) (m : Module) → AreNamed es → AreNamed (insert_entry bytes_eq es m.name m)
loaded_named [] m named = refl
loaded_named (e ∷ es) m named = by (bytes_eq m.name e.0) refl (loaded_named es m (rest_named e es named))
  where
    by : (b : Bool) → bytes_eq m.name e.0 ≡ b → AreNamed (insert_entry bytes_eq es m.name m)
        → AreNamed (cond b ((e.0, m) ∷ es) (e ∷ insert_entry bytes_eq es m.name m))
    by true same rest = λ i. sym ((bytes_eq-Decides m.name e.0).0 same) i ∷ rest_named e es named i
    by false apart rest = λ i. first_named e es named i ∷ rest i

pub all_loaded : (P : Module → Type 0) (code : Code) (m : Module) → All P code → P m → All P (with_module code m)
all_loaded P [] m all p = All-cons P m [] p (All-nil P)
all_loaded P (n ∷ code) m all p = by (bytes_eq m.name n.name) (all_loaded P code m (All-tail P n code all) p)
  where
    by : (b : Bool) → All P (with_module code m) → All P (cond b (m ∷ code) (n ∷ with_module code m))
    by true rest = All-cons P m code p (All-tail P n code all)
    by false rest = All-cons P n (with_module code m) (All-head P n code all) rest

-- names that are distinct keys
pub names_distinct : (es : List (List ℕ × Module)) → AreNamed es → IsDistinct bytes_eq (keys_of es) → are_distinct is_same_module (values_of es) ≡ true
names_distinct [] named apart = refl
names_distinct (e ∷ es) named apart =
    let head = IsDistinct-head bytes_eq e.0 (keys_of es) apart in
    λ i. not (none e.0 es (rest_named e es named) head (first_named e es named) i) && names_distinct es (rest_named e es named) (IsDistinct-tail bytes_eq e.0 (keys_of es) apart) i
  where
    none : (k : List ℕ) (es : List (List ℕ × Module)) → AreNamed es → AllByRecursion (λ y. bytes_eq k y ≡ false) (keys_of es)
        → k ≡ e.1.name → list_any (is_same_module e.1) (values_of es) ≡ false
    none k [] named all same = refl
    none k (x ∷ es) named all same =
        let here : bytes_eq e.1.name x.1.name ≡ false = (λ i. bytes_eq (sym same i) (sym (first_named x es named) i)) ∙ all.0 in
        λ i. here i || none k es (rest_named x es named) all.1 same i
