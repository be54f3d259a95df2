-- What a listing becomes: its module, or the number of its first form at fault.
use Rattle.std.specs.Prelude.{◌≡◌, ℕ, ◌+◌, ◌<◌, min, Bool, true, false, List, length, Option, Some, None, Result, Ok, Err}
use Rattle.kh_instr.specs.declared.module.Module.{Module}
use Rattle.kh_listing.specs.declared.error.ListingError.{ListingError}
use Rattle.kh_listing.specs.declared.error.ListingError.TheVariants as error
use Rattle.kh_listing.specs.declared.form.Form.{Form}
use Rattle.kh_listing.specs.Faults.{is_at_fault}
use Rattle.kh_listing.specs.Made.{module_of}

-- no place in front of an end passes a test
abbrev pub NonePasses : (ℕ → Bool) → ℕ → Type 0
NonePasses test end = (k : ℕ) → k < end → test k ≡ false

-- the first place in front of an end that passes a test, where there is one
abbrev pub IsFirst : (ℕ → Bool) → ℕ → Option ℕ → Type 0
IsFirst test end None = NonePasses test end
IsFirst test end (Some i) = (i < end) × (test i ≡ true) × NonePasses test i

-- the earlier of two places, where there is one
abbrev pub earlier : Option ℕ → Option ℕ → Option ℕ
earlier None b = b
earlier (Some i) None = Some i
earlier (Some i) (Some j) = Some (min i j)

-- no form is at fault
abbrev pub IsFaultless : List Form → Type 0
IsFaultless fs = NonePasses (is_at_fault fs) (length fs)

-- the first form at fault has this number, counted from 1
abbrev pub IsFirstFault : List Form → ℕ → Type 0
IsFirstFault fs n = (i : ℕ) × (n ≡ i + 1) × IsFirst (is_at_fault fs) (length fs) (Some i)

-- what an error says of the forms: want of memory says nothing
abbrev pub IsCause : List Form → ListingError → Type 0
IsCause fs (error.BadListing n) = IsFirstFault fs n
IsCause fs error.NoMemory = Unit {0}

-- what the forms become
abbrev pub IsOutcome : List Form → Result Module ℕ → Type 0
IsOutcome fs (Ok m) = IsFaultless fs × (m ≡ module_of fs)
IsOutcome fs (Err n) = IsFirstFault fs n
