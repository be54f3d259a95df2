-- What reading a line gives.
use Rattle.std.specs.Prelude.{◌≡◌, ℕ, ◌<◌, ◌≤◌, Bool, List, length, drop, Ok, Err}
use Rattle.kh_read.specs.declared.form.Form.{Form}
use Rattle.kh_read.specs.Reading.{Cut, Fault}
use Rattle.khepri.specs.declared.line.Line.{Line}
use Rattle.khepri.specs.declared.line.Line.TheVariants as line
use Rattle.khepri.specs.Script.{line_at, behind_form}

-- what stands at a place
abbrev pub ReadsLine : Bool → List ℕ → ℕ → Line → Type 0
ReadsLine is_end input at (line.Form form next) = (line_at is_end (drop at input) ≡ Ok (form, drop next input)) × (at < next) × (next ≤ length input)
ReadsLine is_end input at line.End = at ≡ length input
ReadsLine is_end input at line.Fault = line_at is_end (drop at input) ≡ Err Fault
ReadsLine is_end input at line.Unfinished = (at < length input) × (line_at is_end (drop at input) ≡ Err Cut)

-- what stands behind a form
abbrev pub ReadsBehind : Bool → List ℕ → Form → ℕ → Line → Type 0
ReadsBehind is_end input read at (line.Form form next) = (behind_form is_end read (drop at input) ≡ Ok (form, drop next input)) × (at ≤ next) × (next ≤ length input)
ReadsBehind is_end input read at line.End = ⊥
ReadsBehind is_end input read at line.Fault = behind_form is_end read (drop at input) ≡ Err Fault
ReadsBehind is_end input read at line.Unfinished = behind_form is_end read (drop at input) ≡ Err Cut
