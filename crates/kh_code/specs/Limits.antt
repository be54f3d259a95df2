-- How much code may be loaded.
use Rattle.std.specs.Prelude.{ℕ, Bool, ◌&&◌, nat_le, List, length}
use Rattle.std.specs.List.{sum_by}
use Rattle.kh_term.specs.declared.term.Term.{Term}
use Rattle.kh_term.specs.Size.{size_of}
use Rattle.kh_instr.specs.Code.{Code}
use Rattle.kh_instr.specs.Written.{all_literals}
use Rattle.kh_instr.specs.declared.module.Function.{Function}
use Rattle.kh_instr.specs.declared.module.Module.{Module}
use Rattle.kh_code.specs.declared.totals.TheConstants.{MOST_MODULES, MOST_INSTRUCTIONS, MOST_LITERALS}

-- the size of a literal
abbrev pub literal_size : Term → ℕ
literal_size t = size_of t.node

-- the instructions of a module, labels among them
abbrev pub instructions_of : Module → ℕ
instructions_of m = sum_by (λ f. length f.code) m.functions

-- the sizes of its literals together
abbrev pub literals_of : Module → ℕ
literals_of m = sum_by literal_size (all_literals m.functions)

-- at most 1,024 modules, 1,000,000 instructions, and literals of a size of 134,217,728 together
abbrev pub fits : Code → Bool
fits code =
    nat_le (length code) MOST_MODULES
    && (nat_le (sum_by instructions_of code) MOST_INSTRUCTIONS && nat_le (sum_by literals_of code) MOST_LITERALS)
