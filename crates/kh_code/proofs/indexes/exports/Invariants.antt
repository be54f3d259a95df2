use Rattle.std.proofs.Common.{◌≡◌, true, take}
use Rattle.std.specs.BTreeSet as set
use Rattle.std.specs.Str.{bytes_eq}
use Rattle.kh_term.specs.Name.{origin_cmp}
use Rattle.kh_term.specs.declared.name.Origin.{Origin}
use Rattle.kh_instr.specs.Code.{is_among}
use Rattle.kh_code.proofs.indexes.exports.Given as goal

abbrev pub invariant-loop-export : goal.invariant-loop-export
invariant-loop-export l = (o : Origin) → bytes_eq l.module.name o.«module» ≡ true → set.contains origin_cmp l.triples o ≡ is_among (take l.export-index l.module.exports) o.name o.arity
