-- How much code there is, as it is counted: sums that stop at 2^64 - 1.
use Rattle.std.specs.Prelude.{◌≡◌, ◌≤◌, ℕ, ◌+◌, ◌-◌, Bool, ◌&&◌, nat_le, List, length, map, Option, Some, None}
use Rattle.std.specs.List.{sum_by}
use Rattle.std.specs.Map.{keys_of, values_of}
use Rattle.kh_instr.specs.Code.{Code, module_named}
use Rattle.kh_instr.specs.declared.module.Module.{Module}
use Rattle.kh_code.specs.declared.totals.TheConstants.{MOST_MODULES, MOST_INSTRUCTIONS, MOST_LITERALS}
use Rattle.kh_code.specs.declared.totals.Totals.{Totals}
use Rattle.kh_code.specs.Capped.{capped}
use Rattle.kh_code.specs.Limits.{instructions_of, literals_of}
use Rattle.kh_code.specs.Loading.{IsCode}

abbrev pub no_totals : Totals
no_totals = record { modules = 0; instructions = 0; literals = 0 }

-- those of a module
abbrev pub totals_of : Module → Totals
totals_of m = record { modules = 1; instructions = capped (instructions_of m); literals = capped (literals_of m) }

-- those of a code
abbrev pub code_totals : Code → Totals
code_totals code = record {
  modules = capped (length code);
  instructions = capped (sum_by instructions_of code);
  literals = capped (sum_by literals_of code);
}

-- each is no more than the other's
pub record IsPart (old t : Totals) : Type 0 where
  pub modules : old.modules ≤ t.modules
  pub instructions : old.instructions ≤ t.instructions
  pub literals : old.literals ≤ t.literals

-- with one part replaced by another
abbrev pub replaced : Totals → Totals → Totals → Totals
replaced t old new = record {
  modules = capped (t.modules - old.modules + new.modules);
  instructions = capped (t.instructions - old.instructions + new.instructions);
  literals = capped (t.literals - old.literals + new.literals);
}

-- no more than a code may have
abbrev pub are_within : Totals → Bool
are_within t =
    nat_le t.modules MOST_MODULES
    && (nat_le t.instructions MOST_INSTRUCTIONS && nat_le t.literals MOST_LITERALS)

-- those of the module that goes, where there is one
abbrev pub replaced_totals : Option Module → Totals
replaced_totals None = no_totals
replaced_totals (Some m) = totals_of m

-- those of a code with a module of this name that counts for so much
abbrev pub totals_with : Code → List ℕ → Totals → Totals
totals_with code name own = replaced (code_totals code) (replaced_totals (module_named code name)) own

-- modules by their names, and how much they are
pub record IsKept (es : List (List ℕ × Module)) (t : Totals) : Type 0 where
  pub code : IsCode (values_of es)
  pub named : keys_of es ≡ map (λ m. m.name) (values_of es)
  pub totals : t ≡ code_totals (values_of es)
