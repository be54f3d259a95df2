-- What loading a module changes.
use Rattle.std.proofs.Common.{◌≡◌, ◌≢◌, ℕ, Bool, true, false, cond, List, [], ◌∷◌, ◌++◌, Option, Some, None, is_some, refl, ap, sym, ◌∙◌}
use Rattle.std.proofs.lemmas.Slice.Eq.{bytes_eq-Decides}
use Rattle.std.specs.Cmp.Lexicographic.{nat_list_eq_equiv}
use Rattle.std.specs.Str.{bytes_eq}
use Rattle.kh_instr.specs.Code.{Code, module_named}
use Rattle.kh_instr.specs.declared.module.Module.{Module}
use Rattle.kh_code.specs.Laws.{names_of}
use Rattle.kh_code.specs.Loading.{with_module}

itself : (name : List ℕ) → bytes_eq name name ≡ true
itself name = (bytes_eq-Decides name name).1 refl

apart : (a b : List ℕ) → b ≢ a → bytes_eq a b ≡ false
apart a b differ = by (bytes_eq a b) refl
  where
    by : (c : Bool) → bytes_eq a b ≡ c → bytes_eq a b ≡ false
    by true e = absurd (differ (sym ((bytes_eq-Decides a b).0 e)))
    by false e = e

pub loaded : (code : Code) (m : Module) → module_named (with_module code m) m.name ≡ Some m
loaded [] m = ap (λ b. cond b (Some m) None) (itself m.name)
loaded (n ∷ code) m = by (bytes_eq m.name n.name) refl (loaded code m)
  where
    by : (b : Bool) → bytes_eq m.name n.name ≡ b → module_named (with_module code m) m.name ≡ Some m
        → module_named (cond b (m ∷ code) (n ∷ with_module code m)) m.name ≡ Some m
    by true same rest = ap (λ b. cond b (Some m) (module_named code m.name)) (itself m.name)
    by false differ rest =
        ap (λ b. cond b (Some n) (module_named (with_module code m) m.name)) (nat_list_eq_equiv.symm n.name m.name ∙ differ) ∙ rest

pub others : (code : Code) (m : Module) (name : List ℕ) → name ≢ m.name → module_named (with_module code m) name ≡ module_named code name
others [] m name differ = ap (λ b. cond b (Some m) None) (apart m.name name differ)
others (n ∷ code) m name differ = by (bytes_eq m.name n.name) refl (others code m name differ) (apart m.name name differ)
  where
    by : (b : Bool) → bytes_eq m.name n.name ≡ b → module_named (with_module code m) name ≡ module_named code name → bytes_eq m.name name ≡ false
        → module_named (cond b (m ∷ code) (n ∷ with_module code m)) name ≡ cond (bytes_eq n.name name) (Some n) (module_named code name)
    by true same rest other =
        let gone : bytes_eq n.name name ≡ false = ap (λ t. bytes_eq t name) (sym ((bytes_eq-Decides m.name n.name).0 same)) ∙ other in
        ap (λ b. cond b (Some m) (module_named code name)) other ∙ sym (ap (λ b. cond b (Some n) (module_named code name)) gone)
    by false differs rest other = ap (λ r. cond (bytes_eq n.name name) (Some n) r) rest

-- a name in front of one of two lists
in_front : (n : List ℕ) (b : Bool) (xs ys : List (List ℕ)) → n ∷ cond b xs ys ≡ cond b (n ∷ xs) (n ∷ ys)
in_front n true xs ys = refl
in_front n false xs ys = refl

pub order : (code : Code) (m : Module) → names_of (with_module code m) ≡ cond (is_some (module_named code m.name)) (names_of code) (names_of code ++ m.name ∷ [])
order [] m = refl
order (n ∷ code) m = by (bytes_eq m.name n.name) (bytes_eq n.name m.name) (nat_list_eq_equiv.symm m.name n.name) refl (order code m)
  where
    by : (b c : Bool) → b ≡ c → bytes_eq m.name n.name ≡ b
        → names_of (with_module code m) ≡ cond (is_some (module_named code m.name)) (names_of code) (names_of code ++ m.name ∷ [])
        → names_of (cond b (m ∷ code) (n ∷ with_module code m))
        ≡ cond (is_some (cond c (Some n) (module_named code m.name))) (n.name ∷ names_of code) (n.name ∷ (names_of code ++ m.name ∷ []))
    by true true e same rest = λ i. (bytes_eq-Decides m.name n.name).0 same i ∷ names_of code
    by true false e same rest = absurd (cc)
    by false true e same rest = absurd (cc)
    by false false e same rest =
        ap (λ ns. n.name ∷ ns) rest ∙ in_front n.name (is_some (module_named code m.name)) (names_of code) (names_of code ++ m.name ∷ [])
