use Rattle.std.proofs.Common.{◌≡◌, take}
use Rattle.kh_instr.specs.Spelling.{by_turns}
use Rattle.kh_instr.proofs.spellings.terms_of_two.Given as goal

abbrev pub invariant-loop-pair : goal.invariant-loop-pair
invariant-loop-pair g l = l.terms.nodes ≡ by_turns g.A.Spells.spells g.B.Spells.spells (take l.pair-index l.pairs)
