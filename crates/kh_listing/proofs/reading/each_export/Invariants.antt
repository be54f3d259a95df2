use Rattle.std.proofs.Common.{◌≡◌, ◌++◌, drop, option_map}
use Rattle.kh_instr.specs.Operands.{each}
use Rattle.kh_listing.specs.Forms.{export_of}
use Rattle.kh_listing.proofs.reading.each_export.Given as goal

abbrev pub invariant-loop-item : goal.invariant-loop-item
invariant-loop-item l = each export_of l.items ≡ option_map (λ more. l.all ++ more) (each export_of (drop l.item-index l.items))
