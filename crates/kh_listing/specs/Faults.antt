-- When a form of a listing is at fault: six causes, each a test of the form at a place over the whole listing.
use Rattle.std.specs.Prelude.{ℕ, Bool, true, false, ◌&&◌, ◌||◌, not, nat_eq, nat_lt, List, [], ◌∷◌}
use Rattle.std.specs.List.{list_any, list_all}
use Rattle.std.specs.Str.{bytes_eq}
use Rattle.kh_instr.specs.declared.instr.Instr.{Instr}
use Rattle.kh_instr.specs.Syntax.{labels}
use Rattle.kh_instr.specs.Written.{leads_to}
use Rattle.kh_listing.specs.declared.form.Form.{Form}
use Rattle.kh_listing.specs.declared.form.Form.TheVariants as form
use Rattle.kh_listing.specs.declared.placing.Seen.{Seen}
use Rattle.kh_listing.specs.Made.{functions_of, name_of}
use Rattle.kh_listing.specs.Places.{form_at, before, is_exports, is_attributes, is_labels, is_function, label_at, stands_by}

-- which kinds of forms stand in front of a place
abbrev pub seen_before : List Form → ℕ → Seen
seen_before fs i = record {
  exports = before is_exports fs i;
  attributes = before is_attributes fs i;
  labels = before is_labels fs i;
  function = before is_function fs i;
}

-- behind the first form, in front of all functions, and in front of all others of its kind
abbrev pub is_lone : ℕ → Bool → Bool → Bool
is_lone i such function = nat_lt 0 i && not (such || function)

-- whether a form may stand at a place behind such forms
abbrev pub may_stand : Seen → ℕ → Form → Bool
may_stand seen i (form.Module name) = nat_eq i 0
may_stand seen i (form.Exports pairs) = is_lone i seen.exports seen.function
may_stand seen i form.Attributes = is_lone i seen.attributes seen.function
may_stand seen i form.Labels = is_lone i seen.labels seen.function
may_stand seen i (form.Function h) = nat_lt 0 i
may_stand seen i form.NoFunction = false
may_stand seen i form.Skipped = nat_lt 0 i
may_stand seen i (form.Instr j) = seen.function
may_stand seen i form.NoForm = false

-- 1: it isn't formed as its word asks, or stands elsewhere
abbrev pub is_misplaced : List Form → ℕ → Bool
is_misplaced fs i = not (may_stand (seen_before fs i) i (form_at fs i))

-- whether a form is a function's of this name and arity
abbrev pub defines : List ℕ → ℕ → Form → Bool
defines name arity (form.Function h) = nat_eq h.arity arity && bytes_eq h.name name
defines name arity f = false

-- whether a form is a function's whose name and arity pass a test
abbrev pub is_named : (List ℕ → ℕ → Bool) → Form → Bool
is_named test (form.Function h) = test h.name h.arity
is_named test f = false

-- 2: an earlier function has the same name and arity
abbrev pub is_defined_again : List Form → ℕ → Bool
is_defined_again fs i = is_named (λ name arity. before (defines name arity) fs i) (form_at fs i)

-- whether the entry of a form, if it is a function's, passes a test
abbrev pub enters : (ℕ → Bool) → Form → Bool
enters test (form.Function h) = test h.entry
enters test f = true

-- 2: its entry is no label of its function
abbrev pub lacks_entry : List Form → ℕ → Bool
lacks_entry fs i = not (enters (stands_by fs i) (form_at fs i))

-- whether a form is a label of this number
abbrev pub has_number : ℕ → Form → Bool
has_number n f = list_any (nat_eq n) (label_at f)

-- 3: an earlier label has the same number
abbrev pub is_labelled_again : List Form → ℕ → Bool
is_labelled_again fs i = list_any (λ n. before (has_number n) fs i) (label_at (form_at fs i))

-- whether each label to which a form may jump passes a test
abbrev pub jumps : (ℕ → Bool) → Form → Bool
jumps test (form.Instr j) = list_all test (labels j)
jumps test f = true

-- 4: it jumps to a label that isn't in its function
abbrev pub jumps_out : List Form → ℕ → Bool
jumps_out fs i = not (jumps (stands_by fs i) (form_at fs i))

-- whether a form, if it is an instruction, passes a test
abbrev pub leads : (Instr → Bool) → Form → Bool
leads test (form.Instr j) = test j
leads test f = true

-- 5 and 6: it calls what is no entry of a function of that arity, or makes a closure of what is no entry or with more
-- captured values than the arity there; all functions of the listing count, later ones too
abbrev pub leads_astray : List Form → ℕ → Bool
leads_astray fs i = not (leads (leads_to (functions_of (name_of fs) fs)) (form_at fs i))

-- whether the form at a place is at fault
abbrev pub is_at_fault : List Form → ℕ → Bool
is_at_fault fs i =
    is_misplaced fs i || (is_defined_again fs i || (lacks_entry fs i || (is_labelled_again fs i || (jumps_out fs i || leads_astray fs i))))
