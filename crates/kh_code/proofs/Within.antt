-- How much code there is with a module that is loaded.
use Rattle.std.proofs.Common.{◌≡◌, ◌≤◌, ◌<◌, ◌+◌, ◌-◌, ◌^◌, ℕ, min, Bool, true, false, cond, ◌&&◌, nat_le, List, [], ◌∷◌, length, map, Option, Some, None, refl, ap, sym, subst, ◌∙◌, arith}
use Rattle.std.proofs.lemmas.Bool.{and_parts, leb-true, leb-false, lt-leb, le-leb}
use Rattle.std.proofs.lemmas.List.Sums.{sum_by-cons}
use Rattle.std.specs.Cmp.Lexicographic.{nat_list_eq_equiv}
use Rattle.std.specs.List.{All, IsDistinct, sum_by}
use Rattle.std.specs.Map.{keys_of, values_of}
use Rattle.std.specs.Option.{option_map_or}
use Rattle.std.specs.Str.{bytes_eq}
use Rattle.indexmap.specs.IndexMap.{insert_entry}
use Rattle.kh_instr.specs.Code.{Code, module_named}
use Rattle.kh_instr.specs.Written.{IsWritten, HasSmallLiterals}
use Rattle.kh_instr.specs.declared.module.Module.{Module}
use Rattle.kh_code.specs.declared.totals.Totals.{Totals}
use Rattle.kh_code.specs.Capped.{capped}
use Rattle.kh_code.specs.Limits.{fits, instructions_of, literals_of}
use Rattle.kh_code.specs.Loading.{IsCode, with_module}
use Rattle.kh_code.specs.Totals.{IsKept, IsPart, are_within, code_totals, replaced, replaced_totals, totals_of}
use Rattle.kh_code.proofs.Modules.{AreNamed, all_loaded, loaded_entries, loaded_named, names_distinct}

capped_le : (n m : ℕ) → m < 2 ^ 64 - 1 → nat_le (capped n) m ≡ nat_le n m
capped_le n m low = by (nat_le n m) refl
  where
    by : (b : Bool) → nat_le n m ≡ b → nat_le (capped n) m ≡ b
    by true e = let h : n ≤ m = leb-true n m e in le-leb (capped n) m (omega arith)
    by false e = let h : m < n = leb-false n m e in lt-leb (capped n) m (omega arith)

-- what is counted is within exactly where the code fits
pub within_fits : (code : Code) → are_within (code_totals code) ≡ fits code
within_fits code = λ i.
    capped_le (length code) 1024 (omega arith) i
    && (capped_le (sum_by instructions_of code) 1000000 (omega arith) i && capped_le (sum_by literals_of code) 134217728 (omega arith) i)

-- a code that fits is counted exactly
pub record IsExact (code : Code) : Type 0 where
  pub modules : length code ≤ 1024
  pub instructions : sum_by instructions_of code ≤ 1000000
  pub literals : sum_by literals_of code ≤ 134217728

pub exact : (code : Code) → fits code ≡ true → IsExact code
exact code fit =
    let first = and_parts (nat_le (length code) 1024) (nat_le (sum_by instructions_of code) 1000000 && nat_le (sum_by literals_of code) 134217728) fit in
    let others = and_parts (nat_le (sum_by instructions_of code) 1000000) (nat_le (sum_by literals_of code) 134217728) first.1 in
    record { modules = leb-true _ _ first.0; instructions = leb-true _ _ others.0; literals = leb-true _ _ others.1 }

-- one module is part of the sum
part_le : (f : Module → ℕ) (code : Code) (n : List ℕ) → option_map_or f (module_named code n) 0 ≤ sum_by f code
part_le f [] n = omega arith
part_le f (m ∷ code) n = by (bytes_eq m.name n) (part_le f code n)
  where
    by : (b : Bool) → option_map_or f (module_named code n) 0 ≤ sum_by f code → option_map_or f (cond b (Some m) (module_named code n)) 0 ≤ sum_by f (m ∷ code)
    by true rest = omega (arith, sum_by-cons f m code)
    by false rest = omega (arith, sum_by-cons f m code, rest)

-- a sum with the loaded module in place of the one that goes
one_sum : (f : Module → ℕ) (code : Code) (m : Module) → sum_by f (with_module code m) + option_map_or f (module_named code m.name) 0 ≡ sum_by f code + f m
one_sum f [] m = omega (arith, sum_by-cons f m [])
one_sum f (n ∷ code) m = by (bytes_eq m.name n.name) (bytes_eq n.name m.name) (nat_list_eq_equiv.symm m.name n.name) (one_sum f code m)
  where
    by : (b c : Bool) → b ≡ c
        → sum_by f (with_module code m) + option_map_or f (module_named code m.name) 0 ≡ sum_by f code + f m
        → sum_by f (cond b (m ∷ code) (n ∷ with_module code m)) + option_map_or f (cond c (Some n) (module_named code m.name)) 0 ≡ sum_by f (n ∷ code) + f m
    by true true e rest = omega (arith, sum_by-cons f m code, sum_by-cons f n code)
    by true false e rest = absurd (cc)
    by false true e rest = absurd (cc)
    by false false e rest = omega (arith, sum_by-cons f n (with_module code m), sum_by-cons f n code, rest)

length_sum : (code : Code) → length code ≡ sum_by (λ (m : Module). 1) code
length_sum [] = refl
length_sum (m ∷ code) = omega (arith, sum_by-cons (λ (m : Module). 1) m code, length_sum code)

-- what the module that goes counts for
counts_for : (o : Option Module) → replaced_totals o
    ≡ record { modules = capped (option_map_or (λ (m : Module). 1) o 0); instructions = capped (option_map_or instructions_of o 0); literals = capped (option_map_or literals_of o 0) }
counts_for None = refl
counts_for (Some m) = refl

-- it is part of the totals
pub old_within : (code : Code) (n : List ℕ) → IsPart (replaced_totals (module_named code n)) (code_totals code)
old_within code n = subst (λ (old : Totals). IsPart old (code_totals code)) (sym (counts_for (module_named code n))) (record {
  modules = omega (arith, part_le (λ (m : Module). 1) code n, length_sum code);
  instructions = omega (arith, part_le instructions_of code n);
  literals = omega (arith, part_le literals_of code n);
})

capped_sum : (s o n new : ℕ) → s < 2 ^ 63 → o ≤ s → new + o ≡ s + n → capped (capped s - capped o + capped n) ≡ capped new
capped_sum s o n new low part e = omega arith

-- the three sums, as they are counted
three : (code : Code) (m : Module) (old : Totals) (o i l : ℕ) → IsExact code
    → old ≡ record { modules = capped o; instructions = capped i; literals = capped l }
    → o ≤ length code → i ≤ sum_by instructions_of code → l ≤ sum_by literals_of code
    → length (with_module code m) + o ≡ length code + 1
    → sum_by instructions_of (with_module code m) + i ≡ sum_by instructions_of code + instructions_of m
    → sum_by literals_of (with_module code m) + l ≡ sum_by literals_of code + literals_of m
    → replaced (code_totals code) old (totals_of m) ≡ code_totals (with_module code m)
three code m old o i l all same a b c one two last =
    ap (λ old. replaced (code_totals code) old (totals_of m)) same
    ∙ (λ j. record {
      modules = capped_sum (length code) o 1 (length (with_module code m)) (omega (arith, all.modules)) a one j;
      instructions = capped_sum (sum_by instructions_of code) i (instructions_of m) (sum_by instructions_of (with_module code m)) (omega (arith, all.instructions)) b two j;
      literals = capped_sum (sum_by literals_of code) l (literals_of m) (sum_by literals_of (with_module code m)) (omega (arith, all.literals)) c last j;
    })

pub totals_loaded : (code : Code) (m : Module) → IsCode code
    → replaced (code_totals code) (replaced_totals (module_named code m.name)) (totals_of m) ≡ code_totals (with_module code m)
totals_loaded code m is =
    let old : Option Module = module_named code m.name in
    three code m (replaced_totals old) (option_map_or (λ (m : Module). 1) old 0) (option_map_or instructions_of old 0) (option_map_or literals_of old 0)
    (exact code is.within) (counts_for old)
    (omega (arith, part_le (λ (m : Module). 1) code m.name, length_sum code))
    (part_le instructions_of code m.name) (part_le literals_of code m.name)
    (omega (arith, one_sum (λ (m : Module). 1) code m, length_sum code, length_sum (with_module code m)))
    (one_sum instructions_of code m) (one_sum literals_of code m)

-- how much is counted with the module
pub counted_loaded : (code : Code) (m : Module) (t own : Totals) → IsCode code → own ≡ totals_of m
    → t ≡ replaced (code_totals code) (replaced_totals (module_named code m.name)) own → t ≡ code_totals (with_module code m)
counted_loaded code m t own is same counted =
    counted ∙ (ap (replaced (code_totals code) (replaced_totals (module_named code m.name))) same ∙ totals_loaded code m is)

pub loaded_fits : (code : Code) (m : Module) (t : Totals) (b : Bool) → t ≡ code_totals (with_module code m) → are_within t ≡ b → fits (with_module code m) ≡ b
loaded_fits code m t b counted within = sym (within_fits (with_module code m)) ∙ (ap are_within (sym counted) ∙ within)

-- what a code keeps with a module that is loaded
pub kept_loaded : (es new : List (List ℕ × Module)) (t sums : Totals) (m : Module) (code : Code) → values_of es ≡ code → IsKept es t → IsWritten m
    → HasSmallLiterals m → new ≡ insert_entry bytes_eq es m.name m → IsDistinct bytes_eq (keys_of new)
    → sums ≡ code_totals (with_module code m) → fits (with_module code m) ≡ true → IsKept new sums
kept_loaded es new t sums m code same kept written small made apart counted fit =
    let named : AreNamed new = subst AreNamed (sym made) (loaded_named es m kept.named) in
    let loaded : values_of new ≡ with_module (values_of es) m = ap values_of made ∙ loaded_entries es m kept.named in
    let whole : values_of new ≡ with_module code m = loaded ∙ ap (λ (code : Code). with_module code m) same in
    record {
      code = record {
        names_once = names_distinct new named apart;
        written = subst (All IsWritten) (sym loaded) (all_loaded IsWritten (values_of es) m kept.code.written written);
        small_literals = subst (All HasSmallLiterals) (sym loaded) (all_loaded HasSmallLiterals (values_of es) m kept.code.small_literals small);
        within = ap fits whole ∙ fit;
      };
      named = named;
      totals = counted ∙ ap code_totals (sym whole);
    }

-- what stands behind a module that is loaded
pub whole_loaded : (es new : List (List ℕ × Module)) (t : Totals) (m : Module) (code : Code) → values_of es ≡ code → IsKept es t
    → new ≡ insert_entry bytes_eq es m.name m → values_of new ≡ with_module code m
whole_loaded es new t m code same kept made =
    ap values_of made ∙ (loaded_entries es m kept.named ∙ ap (λ (code : Code). with_module code m) same)
