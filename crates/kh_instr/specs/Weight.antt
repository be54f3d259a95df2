-- The weight of a module.
use Rattle.std.specs.Prelude.{ℕ, List, length}
use Rattle.kh_term.specs.declared.tree.TermTree.{TermTree}
use Rattle.kh_term.specs.Make.{list_of}
use Rattle.kh_term.specs.Packed.{packed_of}

-- the packed length of the captured values as a list
abbrev pub env_weight : List TermTree → ℕ
env_weight env = length (packed_of (list_of env))
