-- Code: modules as they were written, how a function is found in them, and what an external call means.
use Rattle.std.specs.Prelude.{ℕ, Bool, true, false, ◌&&◌, ◌||◌, not, nat_eq, if◌then◌else◌, codes, List, [], ◌∷◌, find, Option, Some, None, is_some}
use Rattle.std.specs.List.{list_any}
use Rattle.std.specs.Str.{bytes_eq}
use Rattle.kh_term.specs.declared.name.Origin.{Origin}
use Rattle.kh_instr.specs.declared.builtin.Builtin.{Builtin}
use Rattle.kh_instr.specs.declared.builtin.Service.{Service}
use Rattle.kh_instr.specs.declared.meaning.Meaning.{Meaning}
use Rattle.kh_instr.specs.declared.meaning.Meaning.TheVariants as meaning
use Rattle.kh_instr.specs.declared.module.Export.{Export}
use Rattle.kh_instr.specs.declared.module.Function.{Function}
use Rattle.kh_instr.specs.declared.module.Module.{Module}
use Rattle.kh_instr.specs.Tables.{builtin_named, service_named, is_same_function}

-- a code: a list of modules as they were written
abbrev pub Code : Type 0
Code = List Module

-- the module of a name
abbrev pub module_named : Code → List ℕ → Option Module
module_named code name = find (λ m. bytes_eq m.name name) code

-- the function of a name and an arity among some
abbrev pub function_named : List Function → List ℕ → ℕ → Option Function
function_named functions name arity = find (λ f. nat_eq f.arity arity && bytes_eq f.name name) functions

-- the function with this triple as its origin among some: so functions are found in a module that is a code by itself
abbrev pub function_from : List Function → Origin → Option Function
function_from functions o = find (λ f. is_same_function f.origin o) functions

-- the function whose entry has this label among some
abbrev pub function_entered : List Function → ℕ → Option Function
function_entered functions label = find (λ f. nat_eq f.entry label) functions

abbrev pub function_in : Option Module → Origin → Option Function
function_in None o = None
function_in (Some m) o = function_named m.functions o.name o.arity

-- the function of a triple: that of this name and arity in the module of this name
abbrev pub found_function : Code → Origin → Option Function
found_function code o = function_in (module_named code o.«module») o

-- whether a name and an arity are among the exports
abbrev pub is_among : List Export → List ℕ → ℕ → Bool
is_among exports name arity = list_any (λ e. nat_eq e.arity arity && bytes_eq e.name name) exports

abbrev pub offers : Option Module → Origin → Bool
offers None o = false
offers (Some m) o = is_among m.exports o.name o.arity

-- a function is exported where its module names it and has it
abbrev pub is_exported : Code → Origin → Bool
is_exported code o = offers (module_named code o.«module») o && is_some (found_function code o)

-- a loaded module of these names is never called
abbrev pub is_hidden : List ℕ → Bool
is_hidden name = bytes_eq name (codes "erlang") || bytes_eq name (codes "khepri_tx")

abbrev pub function_meaning : Code → Origin → Meaning
function_meaning code o = if not (is_hidden o.«module») && is_exported code o then meaning.Function else meaning.Nothing

abbrev pub meaning_or : Option Builtin → Option Service → Meaning → Meaning
meaning_or (Some b) s m = meaning.Builtin b
meaning_or None (Some s) m = meaning.Service s
meaning_or None None m = m

-- What an external call means: a built-in, else a service, else an exported function of a loaded module other than
-- `erlang` and `khepri_tx`, else nothing.
abbrev pub meaning_of : Code → Origin → Meaning
meaning_of code o = meaning_or (builtin_named o) (service_named o) (function_meaning code o)
