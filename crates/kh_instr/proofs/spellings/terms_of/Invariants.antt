use Rattle.std.proofs.Common.{◌≡◌, map, take}
use Rattle.kh_instr.proofs.spellings.terms_of.Given as goal

abbrev pub invariant-loop-part : goal.invariant-loop-part
invariant-loop-part g l = l.terms.nodes ≡ map g.A.Spells.spells (take l.part-index l.parts)
