-- The grammar of forms.
use Rattle.std.specs.Prelude.{◌≡◌, ◌≢◌, ℕ, Bool, false, ◌&&◌, nat_le, codes, List, [], ◌∷◌, ◌++◌, length, map, IsTrue, ℤ, pos, neg_ℤ, ◌⊎◌}
use Rattle.std.specs.List.{list_all}
use Rattle.std.specs.Str.{all_ascii_digits}
use Rattle.std.specs.Str.Parse.{digits_value}
use Rattle.kh_term.specs.declared.name.Name.{Name}
use Rattle.kh_term.specs.declared.name.Name.TheVariants as name
use Rattle.kh_term.specs.Name.{name_text}
use Rattle.kh_text_defs.specs.Atoms.{is_plain}
use Rattle.kh_text_defs.specs.Shown.{with_commas}
use Rattle.kh_read.specs.declared.form.Form.{Form}
use Rattle.kh_read.specs.declared.form.Form.TheVariants as form

-- an atom that is written without quotes, of at most 255 bytes
abbrev pub is_plain_name : Name → Bool
is_plain_name (name.Atom text) = is_plain text && nat_le (length text) 255
is_plain_name (name.Bin bytes) = false

-- a path of a form: 1 to 32 such names
abbrev pub is_plain_path : List Name → Bool
is_plain_path path = nat_le 1 (length path) && nat_le (length path) 32 && list_all is_plain_name path

-- the names in brackets, with commas between them
abbrev pub path_text : List Name → List ℕ
path_text path = codes "[" ++ (with_commas (map name_text path) ++ codes "]")

-- 1 to 18 digits
abbrev pub are_digits : List ℕ → Bool
are_digits text = nat_le 1 (length text) && nat_le (length text) 18 && all_ascii_digits text

-- The text is this integer: digits, perhaps behind a minus sign.
abbrev pub IsInteger : List ℕ → ℤ → Type 0
IsInteger text number =
    (digits : List ℕ) × IsTrue (are_digits digits)
    × (((text ≡ digits) × (number ≡ pos (digits_value 10 digits))) ⊎ ((text ≡ 45 ∷ digits) × (number ≡ neg_ℤ (pos (digits_value 10 digits)))))

-- The text, its dot with it, is this form: `{put,Path,Integer}.` or `{get,Path}.`
abbrev pub IsForm : List ℕ → Form → Type 0
IsForm text (form.Put path number) =
    (integer : List ℕ) × IsInteger integer number × IsTrue (is_plain_path path)
    × (text ≡ codes "{put," ++ (path_text path ++ (codes "," ++ (integer ++ codes "}."))))
IsForm text (form.Get path) = IsTrue (is_plain_path path) × (text ≡ codes "{get," ++ (path_text path ++ codes "}."))

-- the bytes begin a form: with more bytes behind them they are one
abbrev pub BeginsForm : List ℕ → Type 0
BeginsForm bytes = (more : List ℕ) × (f : Form) × (more ≢ []) × IsForm (bytes ++ more) f

-- However these bytes go on, no form stands at their front.
abbrev pub NoFormComes : List ℕ → Type 0
NoFormComes bytes = (more text rest : List ℕ) (f : Form) → IsForm text f → bytes ++ more ≢ text ++ rest

-- At most one form stands at the front of bytes: no form is the front of a longer one, and no text is two forms.
abbrev pub AtMostOneForm : Type 0
AtMostOneForm =
    (text other rest later : List ℕ) (f g : Form) → IsForm text f → IsForm other g → text ++ rest ≡ other ++ later → (text ≡ other) × (f ≡ g)
