-- Where forms stand in a listing. Places are counted from 0.
use Rattle.std.specs.Prelude.{ℕ, zero, suc, ◌+◌, Bool, true, false, if◌then◌else◌, nat_eq, List, [], ◌∷◌, ◌++◌, take, slice_index_or, count_by}
use Rattle.std.specs.List.{list_any}
use Rattle.kh_instr.specs.Written.{own_label}
use Rattle.kh_listing.specs.declared.form.Form.{Form}
use Rattle.kh_listing.specs.declared.form.Form.TheVariants as form

-- the form at a place
abbrev pub form_at : List Form → ℕ → Form
form_at fs i = slice_index_or fs i form.NoForm

-- whether a form in front of a place passes a test
abbrev pub before : (Form → Bool) → List Form → ℕ → Bool
before p fs i = list_any p (take i fs)

abbrev pub is_exports : Form → Bool
is_exports (form.Exports pairs) = true
is_exports f = false

abbrev pub is_attributes : Form → Bool
is_attributes form.Attributes = true
is_attributes f = false

abbrev pub is_labels : Form → Bool
is_labels form.Labels = true
is_labels f = false

-- whether a form begins a function, and so ends the one before it
abbrev pub is_function : Form → Bool
is_function (form.Function h) = true
is_function form.NoFunction = true
is_function f = false

-- the number of the label that a form is
abbrev pub label_at : Form → List ℕ
label_at (form.Instr i) = own_label i
label_at f = []

-- the number of the function to which the form at a place belongs: so many begin up to there
abbrev pub number : List Form → ℕ → ℕ
number fs i = count_by is_function (take (i + 1) fs)

-- the labels of the function of a number: those between its form and the next; the 0-th has those in front of all
abbrev pub labels_in : ℕ → List Form → List ℕ
labels_in k [] = []
labels_in zero (f ∷ fs) = if is_function f then [] else label_at f ++ labels_in zero fs
labels_in (suc k) (f ∷ fs) = if is_function f then labels_in k fs else labels_in (suc k) fs

-- whether a label stands in the function of the form at a place
abbrev pub stands_by : List Form → ℕ → ℕ → Bool
stands_by fs i label = list_any (nat_eq label) (labels_in (number fs i) fs)
