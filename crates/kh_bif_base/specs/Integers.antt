-- Integers as arguments and as answers.
use Rattle.std.specs.Prelude.{ℤ, Option, Some, None, if◌then◌else◌}
use Rattle.kh_term.specs.declared.tree.TermTree.{TermTree, out-TermTree}
use Rattle.kh_term.specs.declared.tree.TermTree.TheOpen.{TermTree-F}
use Rattle.kh_term.specs.declared.tree.TermTree.TheOpen as layer
use Rattle.kh_term.specs.declared.tree.TermTree.TheVariants as tree
use Rattle.kh_term.specs.WellFormed.{fits_128}
use Rattle.kh_bif_base.specs.Answer.{Answer, Value, system_limit}

abbrev pub integer_on : TermTree-F TermTree → Option ℤ
integer_on (layer.Int number) = Some number
integer_on l = None

-- the integer that a term is, if it is one
abbrev pub integer_in : TermTree → Option ℤ
integer_in t = integer_on (out-TermTree t)

-- an integer, if it has 128 bits
abbrev pub fitted : ℤ → Option ℤ
fitted n = if fits_128 n then Some n else None

-- an integer; where there is none, `system_limit`
abbrev pub number : Option ℤ → Answer
number (Some n) = Value (tree.Int n)
number None = system_limit
