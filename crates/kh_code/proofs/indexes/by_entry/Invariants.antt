use Rattle.std.proofs.Common.{◌≡◌, ◌≤◌, ℕ, drop, length, slice_get}
use Rattle.std.specs.BTreeMap as tree
use Rattle.std.specs.Option.{option_and_then}
use Rattle.std.specs.Ordering.{nat_cmp}
use Rattle.kh_instr.specs.Code.{function_entered}
use Rattle.kh_code.proofs.indexes.by_entry.Given as goal

abbrev pub invariant-loop-at : goal.invariant-loop-at
invariant-loop-at l = (label : ℕ) → option_and_then (slice_get l.functions) (tree.get nat_cmp l.places label) ≡ function_entered (drop l.at l.functions) label
