-- A script: from its bytes to its forms in order, and how it ends.
use Rattle.std.specs.Prelude.{◌≡◌, ◌≢◌, ℕ, Bool, true, false, ◌==◌, nat_le, List, [], ◌∷◌, ◌++◌, length, take, Ok, Err, if◌then◌else◌}
use Rattle.kh_read.specs.declared.form.Form.{Form}
use Rattle.kh_read.specs.Reading.{◌>>=◌, Read, Cut, Fault, form_at}

-- how a script ends: with all bytes read, at bytes that are no form, or before its bytes have all come
pub data Ending : Type 0 where
  AtEnd : Ending
  AtFault : Ending
  Unfinished : Ending

-- a form is followed by a newline, or by the end of the input
abbrev pub behind_form : Bool → Form → List ℕ → Read Form
behind_form is_end form [] = if is_end then Ok (form, []) else Err Cut
behind_form is_end form (byte ∷ rest) = if byte == 10 then Ok (form, rest) else Err Fault

-- the form of the next line; `is_end` says that the input ends behind these bytes
abbrev pub line_at : Bool → List ℕ → Read Form
line_at is_end bytes = form_at bytes >>= λ x. behind_form is_end x.0 x.1

-- where the bytes end inside a form: a fault, unless more may come
abbrev pub cut_short : Bool → Ending
cut_short is_end = if is_end then AtFault else Unfinished

-- where the bytes end behind a form
abbrev pub all_read : Bool → Ending
all_read is_end = if is_end then AtEnd else Unfinished

-- These bytes have these forms, one a line, and end so: the first bytes that are no form end the script.
pub data Script (is_end : Bool) : List ℕ → List Form → Ending → Type 0 where
  ends : Script is_end [] [] (all_read is_end)
  faulty : (bytes : List ℕ) → line_at is_end bytes ≡ Err Fault → Script is_end bytes [] AtFault
  cut : (bytes : List ℕ) → bytes ≢ [] → line_at is_end bytes ≡ Err Cut → Script is_end bytes [] (cut_short is_end)
  line : (bytes : List ℕ) (form : Form) (rest : List ℕ) (forms : List Form) (ending : Ending)
      → line_at is_end bytes ≡ Ok (form, rest) → Script is_end rest forms ending → Script is_end bytes (form ∷ forms) ending

-- What may come behind bytes that were read: nothing behind the end of the input, and else anything.
abbrev pub Later : Bool → Bool → List ℕ → Type 0
Later true is_end more = (is_end ≡ true) × (more ≡ [])
Later false is_end more = Unit {0}

-- From the first bytes on, a script has these forms and goes on at the second ones, whatever comes behind them.
pub record Reads (is_end : Bool) (bytes left : List ℕ) (forms : List Form) : Type 0 where
  pub goes_on : (end : Bool) (more : List ℕ) (others : List Form) (ending : Ending) → Later is_end end more
      → Script end (left ++ more) others ending → Script end (bytes ++ more) (forms ++ others) ending

-- From these bytes on, a script has these forms and ends so, whatever comes behind them.
pub record EndsReading (is_end : Bool) (bytes : List ℕ) (forms : List Form) (ending : Ending) : Type 0 where
  pub script : (end : Bool) (more : List ℕ) → Later is_end end more → Script end (bytes ++ more) forms ending

-- From these bytes on, a script has these forms and maybe more, whatever comes behind them.
pub record BeginsReading (is_end : Bool) (bytes : List ℕ) (forms : List Form) : Type 0 where
  pub script : (end : Bool) (more : List ℕ) → Later is_end end more
      → (others : List Form) × (ending : Ending) × Script end (bytes ++ more) (forms ++ others) ending

-- how many bytes of a script are read as text
abbrev pub script_limit : ℕ
script_limit = 67108864

-- the script of a whole input: what is past the limit isn't read, and then the input doesn't end behind what is
abbrev pub WholeScript : List ℕ → List Form → Ending → Type 0
WholeScript input forms ending = Script (nat_le (length input) script_limit) (take script_limit input) forms ending

-- the script of an input of which only this front has come
abbrev pub FrontScript : List ℕ → List Form → Ending → Type 0
FrontScript front forms ending = Script false front forms ending
