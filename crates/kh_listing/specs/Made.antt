-- The module of the forms of a listing.
use Rattle.std.specs.Prelude.{ℕ, List, [], ◌∷◌, length, Option, Some, None, unwrap_or}
use Rattle.std.specs.List.{sum_by}
use Rattle.kh_instr.specs.declared.instr.Instr.{Instr}
use Rattle.kh_instr.specs.declared.module.Export.{Export}
use Rattle.kh_instr.specs.declared.module.Function.{Function}
use Rattle.kh_instr.specs.declared.module.Module.{Module}
use Rattle.kh_instr.specs.Tables.{function_of}
use Rattle.kh_listing.specs.declared.form.Form.{Form}
use Rattle.kh_listing.specs.declared.form.Form.TheVariants as form
use Rattle.kh_listing.specs.declared.form.Header.{Header}
use Rattle.kh_listing.specs.Places.{form_at}

-- the instructions up to the next function form, labels and all
abbrev pub code_of : List Form → List Instr
code_of [] = []
code_of (form.Function h ∷ fs) = []
code_of (form.NoFunction ∷ fs) = []
code_of (form.Instr i ∷ fs) = i ∷ code_of fs
code_of (f ∷ fs) = code_of fs

-- a function with its own triple as its origin
abbrev pub function_with : List ℕ → Header → List Instr → Function
function_with module_name h code =
    record { name = h.name; arity = h.arity; entry = h.entry; origin = function_of module_name h.name h.arity; code = code }

-- the functions of well formed function forms, each with the instructions behind it
abbrev pub functions_of : List ℕ → List Form → List Function
functions_of module_name [] = []
functions_of module_name (form.Function h ∷ fs) = function_with module_name h (code_of fs) ∷ functions_of module_name fs
functions_of module_name (f ∷ fs) = functions_of module_name fs

-- the pairs of the first `exports` form, none without one
abbrev pub exports_of : List Form → List Export
exports_of [] = []
exports_of (form.Exports pairs ∷ fs) = pairs
exports_of (f ∷ fs) = exports_of fs

-- the name that a form gives the module
abbrev pub module_name : Form → Option (List ℕ)
module_name (form.Module name) = Some name
module_name f = None

-- the name in the first form
abbrev pub name_of : List Form → List ℕ
name_of fs = unwrap_or (module_name (form_at fs 0)) []

-- the module of the forms
abbrev pub module_of : List Form → Module
module_of fs = record { name = name_of fs; exports = exports_of fs; functions = functions_of (name_of fs) fs }

-- how many instructions some functions have
abbrev pub code_len : List Function → ℕ
code_len functions = sum_by (λ f. length f.code) functions
