-- What the indexes of a module tell.
use Rattle.std.specs.Prelude.{◌≡◌, ℕ, Bool, true, List, Option, slice_get}
use Rattle.std.specs.Option.{option_and_then}
use Rattle.std.specs.Ordering.{nat_cmp}
use Rattle.std.specs.Str.{bytes_eq}
use Rattle.std.specs.BTreeMap.{BTreeMap}
use Rattle.std.specs.BTreeMap as tree
use Rattle.std.specs.BTreeSet.{BTreeSet}
use Rattle.std.specs.BTreeSet as set
use Rattle.kh_term.specs.declared.name.Origin.{Origin}
use Rattle.kh_term.specs.Name.{origin_cmp}
use Rattle.kh_instr.specs.Code.{function_from, function_entered, is_among}
use Rattle.kh_instr.specs.declared.module.Function.{Function}
use Rattle.kh_instr.specs.declared.module.Module.{Module}

-- the place of a triple leads to its function
abbrev pub LeadsByOrigin : List Function → BTreeMap Origin ℕ → Type 0
LeadsByOrigin functions places =
    (o : Origin) → option_and_then (slice_get functions) (tree.get origin_cmp places o) ≡ function_from functions o

-- the place of a label leads to the function that it enters
abbrev pub LeadsByEntry : List Function → BTreeMap ℕ ℕ → Type 0
LeadsByEntry functions places =
    (label : ℕ) → option_and_then (slice_get functions) (tree.get nat_cmp places label) ≡ function_entered functions label

-- the triples are those that a module exports
abbrev pub TellsExports : Module → BTreeSet Origin → Type 0
TellsExports m triples =
    (o : Origin) → bytes_eq m.name o.«module» ≡ true → set.contains origin_cmp triples o ≡ is_among m.exports o.name o.arity
