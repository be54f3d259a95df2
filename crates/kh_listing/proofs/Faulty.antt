-- The first form at fault is the first that has one of the causes.
use Rattle.std.proofs.Common.{◌≡◌, ℕ, Bool, ◌||◌, List, length, Option}
use Rattle.kh_listing.specs.declared.form.Form.{Form}
use Rattle.kh_listing.specs.Faults.{is_misplaced, is_defined_again, lacks_entry, is_labelled_again, jumps_out, leads_astray, is_at_fault}
use Rattle.kh_listing.specs.Outcome.{IsFirst, earlier}
use Rattle.kh_listing.proofs.Firsts.{first_either}

module _ (fs : List Form) where
  abbrev calls_at : ℕ → Bool
  calls_at i = jumps_out fs i || leads_astray fs i

  abbrev labels_at : ℕ → Bool
  labels_at i = is_labelled_again fs i || calls_at i

  abbrev entries_at : ℕ → Bool
  entries_at i = lacks_entry fs i || labels_at i

  abbrev functions_at : ℕ → Bool
  functions_at i = is_defined_again fs i || entries_at i

  pub calls_first : (jumping astray r : Option ℕ) → r ≡ earlier jumping astray → IsFirst (jumps_out fs) (length fs) jumping → IsFirst (leads_astray fs) (length fs) astray → IsFirst calls_at (length fs) r
  calls_first jumping astray r e h k = first_either (jumps_out fs) (leads_astray fs) (length fs) jumping astray r e h k

  pub labels_first : (again rest r : Option ℕ) → r ≡ earlier again rest → IsFirst (is_labelled_again fs) (length fs) again → IsFirst calls_at (length fs) rest → IsFirst labels_at (length fs) r
  labels_first again rest r e h k = first_either (is_labelled_again fs) calls_at (length fs) again rest r e h k

  pub entries_first : (lacking rest r : Option ℕ) → r ≡ earlier lacking rest → IsFirst (lacks_entry fs) (length fs) lacking → IsFirst labels_at (length fs) rest → IsFirst entries_at (length fs) r
  entries_first lacking rest r e h k = first_either (lacks_entry fs) labels_at (length fs) lacking rest r e h k

  pub functions_first : (again rest r : Option ℕ) → r ≡ earlier again rest → IsFirst (is_defined_again fs) (length fs) again → IsFirst entries_at (length fs) rest → IsFirst functions_at (length fs) r
  functions_first again rest r e h k = first_either (is_defined_again fs) entries_at (length fs) again rest r e h k

  pub all_first : (misplaced rest r : Option ℕ) → r ≡ earlier misplaced rest → IsFirst (is_misplaced fs) (length fs) misplaced → IsFirst functions_at (length fs) rest → IsFirst (is_at_fault fs) (length fs) r
  all_first misplaced rest r e h k = first_either (is_misplaced fs) functions_at (length fs) misplaced rest r e h k
