-- What a look-up of a module leads to.
use Rattle.std.proofs.Common.{◌≡◌, ℕ, Bool, true, false, cond, ◌&&◌, List, [], ◌∷◌, Option, Some, None, is_some, refl, ap, sym, subst, ◌∙◌}
use Rattle.std.proofs.lemmas.List.Elements.{All-head, All-tail}
use Rattle.std.specs.List.{All}
use Rattle.std.specs.Map.{values_of, lookup}
use Rattle.std.specs.Option.{IfSome, option_and_then}
use Rattle.std.specs.Str.{bytes_eq}
use Rattle.kh_term.specs.declared.name.Origin.{Origin}
use Rattle.kh_instr.specs.Code.{Code, module_named, function_from, function_in, function_entered, found_function, is_among, is_exported, offers}
use Rattle.kh_instr.specs.Written.{IsWritten}
use Rattle.kh_instr.specs.declared.module.Function.{Function}
use Rattle.kh_instr.specs.declared.module.Module.{Module}
use Rattle.kh_code.specs.declared.totals.Totals.{Totals}
use Rattle.kh_code.specs.Loading.{IsCode, entered_function}
use Rattle.kh_code.specs.Totals.{IsKept}
use Rattle.kh_code.proofs.Modules.{has_name, by_triple, module_by}

-- what holds of each module holds of the one that is found
named_all : (P : Module → Type 0) (code : Code) (n : List ℕ) → All P code → IfSome (module_named code n) P
named_all P [] n all = tt
named_all P (m ∷ code) n all = by (bytes_eq m.name n) (named_all P code n (All-tail P m code all))
  where
    by : (b : Bool) → IfSome (module_named code n) P → IfSome (cond b (Some m) (module_named code n)) P
    by true rest = All-head P m code all
    by false rest = rest

-- the function that a triple finds in the module of its name
found_in : (code : Code) (o : Origin) (m : Module) → IsCode code → module_named code o.«module» ≡ Some m → function_from m.functions o ≡ found_function code o
found_in code o m is e =
    let own : IsWritten m = subst (λ (r : Option Module). IfSome r IsWritten) e (named_all IsWritten code o.«module» is.written) in
    by_triple m.name m.functions o (has_name code o.«module» m e) own.origins ∙ ap (λ (r : Option Module). function_in r o) (sym e)

module _ (es : List (List ℕ × Module)) (t : Totals) (kept : IsKept es t) (code : Code) (same : values_of es ≡ code) where
  -- the module that the map finds
  pub named : (n : List ℕ) (r : Option Module) → lookup (bytes_eq n) es ≡ r → module_named code n ≡ r
  named n r e = ap (λ code. module_named code n) (sym same) ∙ (sym (module_by es n kept.named) ∙ e)

  pub is_code : IsCode code
  is_code = subst IsCode same kept.code

  pub finds : (o : Origin) (m : Module) → lookup (bytes_eq o.«module») es ≡ Some m → function_from m.functions o ≡ found_function code o
  finds o m e = found_in code o m is_code (named o.«module» (Some m) e)

  pub finds_none : (o : Origin) → lookup (bytes_eq o.«module») es ≡ None → found_function code o ≡ None
  finds_none o e = ap (λ (r : Option Module). function_in r o) (named o.«module» None e)

  -- the name of the module that the map finds
  pub own_name : (o : Origin) (m : Module) → lookup (bytes_eq o.«module») es ≡ Some m → bytes_eq m.name o.«module» ≡ true
  own_name o m e = has_name code o.«module» m (named o.«module» (Some m) e)

  pub exports : (o : Origin) (m : Module) → lookup (bytes_eq o.«module») es ≡ Some m
      → (is_among m.exports o.name o.arity && is_some (function_from m.functions o)) ≡ is_exported code o
  exports o m e = λ i. offers (sym (named o.«module» (Some m) e) i) o && is_some (finds o m e i)

  pub exports_none : (o : Origin) → lookup (bytes_eq o.«module») es ≡ None → is_exported code o ≡ false
  exports_none o e = λ i. offers (named o.«module» None e i) o && is_some (finds_none o e i)

  pub enters : (n : List ℕ) (label : ℕ) (m : Module) → lookup (bytes_eq n) es ≡ Some m → function_entered m.functions label ≡ entered_function code n label
  enters n label m e = ap (λ (r : Option Module). option_and_then (λ (m : Module). function_entered m.functions label) r) (sym (named n (Some m) e))

  pub enters_none : (n : List ℕ) (label : ℕ) → lookup (bytes_eq n) es ≡ None → entered_function code n label ≡ None
  enters_none n label e = ap (λ (r : Option Module). option_and_then (λ (m : Module). function_entered m.functions label) r) (named n None e)
