use Rattle.std.proofs.Common.{◌≡◌, ◌≤◌, drop, length, slice_get}
use Rattle.std.specs.BTreeMap as tree
use Rattle.std.specs.Option.{option_and_then}
use Rattle.kh_term.specs.Name.{origin_cmp}
use Rattle.kh_term.specs.declared.name.Origin.{Origin}
use Rattle.kh_instr.specs.Code.{function_from}
use Rattle.kh_code.proofs.indexes.by_origin.Given as goal

abbrev pub invariant-loop-at : goal.invariant-loop-at
invariant-loop-at l = (o : Origin) → option_and_then (slice_get l.functions) (tree.get origin_cmp l.places o) ≡ function_from (drop l.at l.functions) o
