use Rattle.std.proofs.Common.{◌≡◌, map, drop}
use Rattle.kh_instr.specs.Tables.{item_named, seen_row}
use Rattle.kh_instr.proofs.builtin.item_of.Given as goal

abbrev pub invariant-loop-row : goal.invariant-loop-row
invariant-loop-row g l = item_named (map seen_row (drop l.row-index l.rows)) l.function ≡ item_named (map seen_row l.rows) l.function
