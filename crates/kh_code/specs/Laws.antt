-- The law of loading.
use Rattle.std.specs.Prelude.{◌≡◌, ◌≢◌, ℕ, if◌then◌else◌, List, [], ◌∷◌, ◌++◌, map, Some, is_some}
use Rattle.kh_instr.specs.Code.{Code, module_named}
use Rattle.kh_instr.specs.declared.module.Module.{Module}
use Rattle.kh_code.specs.Loading.{with_module}

-- the names of the modules, as they stand
abbrev pub names_of : Code → List (List ℕ)
names_of = map (λ m. m.name)

-- Its name finds the module that was loaded, every other name finds what it found, and the names stand as they stood, a
-- new one behind them.
pub record LoadingChangesOneName : Type 0 where
  pub loaded : (code : Code) (m : Module) → module_named (with_module code m) m.name ≡ Some m
  pub others : (code : Code) (m : Module) (name : List ℕ) → name ≢ m.name
      → module_named (with_module code m) name ≡ module_named code name
  pub order : (code : Code) (m : Module) → names_of (with_module code m)
      ≡ (if is_some (module_named code m.name) then names_of code else names_of code ++ m.name ∷ [])
