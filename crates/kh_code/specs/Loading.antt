-- What loading a module gives, and what stands in every code.
use Rattle.std.specs.Prelude.{◌≡◌, ℕ, Bool, true, false, IsTrue, if◌then◌else◌, List, [], ◌∷◌, Option, Some, None, Result, Ok, Err}
use Rattle.std.specs.List.{All}
use Rattle.std.specs.Option.{option_and_then}
use Rattle.std.specs.Str.{bytes_eq}
use Rattle.kh_instr.specs.Code.{Code, module_named, function_entered}
use Rattle.kh_instr.specs.Written.{IsWritten, HasSmallLiterals, are_distinct}
use Rattle.kh_instr.specs.declared.module.Function.{Function}
use Rattle.kh_instr.specs.declared.module.Module.{Module}
use Rattle.kh_code.specs.declared.loaded.CodeError.{CodeError}
use Rattle.kh_code.specs.declared.loaded.CodeError.TheVariants as error
use Rattle.kh_code.specs.declared.loaded.Loaded.{Loaded}
use Rattle.kh_code.specs.declared.loaded.Loaded.TheVariants as loaded
use Rattle.kh_code.specs.Limits.{fits}

-- the code with a module: in the place of the one of its name, or at the end
abbrev pub with_module : Code → Module → Code
with_module [] m = m ∷ []
with_module (n ∷ ns) m = if bytes_eq m.name n.name then m ∷ ns else n ∷ with_module ns m

-- how a module is loaded that takes the place of this one
abbrev pub loaded_over : Option Module → Loaded
loaded_over None = loaded.New
loaded_over (Some m) = loaded.Replaced

-- what holds where there is too much code
abbrev pub IfTooMuch : {A : Type 0} → Result A CodeError → Type 0 → Type 0
IfTooMuch (Ok x) P = Unit {0}
IfTooMuch (Err error.TooMuchCode) P = P
IfTooMuch (Err error.NoMemory) P = Unit {0}

-- the function of a module whose entry has this label
abbrev pub entered_function : Code → List ℕ → ℕ → Option Function
entered_function code name label = option_and_then (λ m. function_entered m.functions label) (module_named code name)

abbrev pub is_same_module : Module → Module → Bool
is_same_module m n = bytes_eq m.name n.name

-- What stands in every code: no two modules of one name, each one that a listing can give, with small literals, and no
-- more than may be loaded.
pub record IsCode (code : Code) : Type 0 where
  pub names_once : IsTrue (are_distinct is_same_module code)
  pub written : All IsWritten code
  pub small_literals : All HasSmallLiterals code
  pub within : IsTrue (fits code)
