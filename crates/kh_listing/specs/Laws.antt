-- The law of listings.
use Rattle.std.specs.Prelude.{◌≡◌, ℕ, List, Result}
use Rattle.kh_instr.specs.declared.module.Module.{Module}
use Rattle.kh_listing.specs.declared.form.Form.{Form}
use Rattle.kh_listing.specs.Outcome.{IsOutcome}

-- Forms have an outcome, and no other.
abbrev pub HasOutcome : Type 0
HasOutcome = (fs : List Form) → (o : Result Module ℕ) × IsOutcome fs o

abbrev pub HasOneOutcome : Type 0
HasOneOutcome = (fs : List Form) (a b : Result Module ℕ) → IsOutcome fs a → IsOutcome fs b → a ≡ b
