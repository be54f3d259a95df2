-- The laws of code.
use Rattle.std.specs.Prelude.{◌≡◌, ◌≤◌, ℕ, map}
use Rattle.kh_instr.specs.declared.instr.Instr.{Instr}
use Rattle.kh_term.specs.declared.tree.TermTree.{TermTree}
use Rattle.kh_instr.specs.Rows.{instr_read}
use Rattle.kh_instr.specs.Spelling.{instr_tree, IsListed}
use Rattle.kh_instr.specs.Syntax.{relabel, bare, labels, callee, move_callee, is_any_label}

-- Changed labels change nothing of what an instruction does, where no label becomes 0.
abbrev pub RelabelKeepsBare : Type 0
RelabelKeepsBare = (f : ℕ → ℕ) (i : Instr) → ((n : ℕ) → 1 ≤ f n) → bare (relabel f i) ≡ bare i

-- They change the labels to which it may jump, where no label becomes 0, and that of its callee, and nothing else.
abbrev pub RelabelMapsLabels : Type 0
RelabelMapsLabels = (f : ℕ → ℕ) (i : Instr) → ((n : ℕ) → 1 ≤ f n) → labels (relabel f i) ≡ map f (labels i)

abbrev pub RelabelMovesCallee : Type 0
RelabelMovesCallee = (f : ℕ → ℕ) (i : Instr) → callee (relabel f i) ≡ move_callee f (callee i)

abbrev pub RelabelKeepsLabels : Type 0
RelabelKeepsLabels = (f : ℕ → ℕ) (i : Instr) → is_any_label (relabel f i) ≡ is_any_label i

-- What was read from a form is read again from its own spelling, for each instruction that the table lists.
abbrev pub InstructionsReadBack : Type 0
InstructionsReadBack = (t : TermTree) → IsListed (instr_read t) → instr_read (instr_tree (instr_read t)) ≡ instr_read t
