-- What each form of a listing is.
use Rattle.std.specs.Prelude.{ℕ, codes, Bool, ◌||◌, if◌then◌else◌, List, [], ◌∷◌, map, Option, Some, None, option_map, unwrap_or}
use Rattle.std.specs.Option.{option_and_then}
use Rattle.std.specs.Str.{bytes_eq}
use Rattle.kh_term.specs.declared.tree.TermTree.{TermTree}
use Rattle.kh_instr.specs.declared.module.Export.{Export}
use Rattle.kh_instr.specs.Operands.{any_of, atom_of, arity_of, count_of, parts_of, list_by, one, two, three}
use Rattle.kh_instr.specs.Rows.{first_word, instr_read}
use Rattle.kh_listing.specs.declared.form.Form.{Form}
use Rattle.kh_listing.specs.declared.form.Form.TheVariants as form

-- `{module,M}`, M an atom
abbrev pub module_form : List TermTree → Form
module_form parts = unwrap_or (option_map (λ name. form.Module name) (one atom_of parts)) form.NoForm

abbrev pub export_from : List TermTree → Option Export
export_from parts = option_map (λ p. record { name = p.0; arity = p.1 }) (two atom_of arity_of parts)

-- a pair in `exports`: `{F,A}`, F an atom, A from 0 to 255
abbrev pub export_of : TermTree → Option Export
export_of t = option_and_then export_from (parts_of t)

-- `{exports,[{F,A},..]}`
abbrev pub exports_form : List TermTree → Form
exports_form parts = unwrap_or (option_map (λ pairs. form.Exports pairs) (one (list_by export_of) parts)) form.NoForm

-- `{attributes,_}` and `{labels,_}`
abbrev pub lone_form : Form → List TermTree → Form
lone_form f parts = unwrap_or (option_map (λ u. f) (one any_of parts)) form.NoForm

-- `{function,F,A,Entry}`, F an atom, A from 0 to 255, Entry from 0 to 2^32 - 1
abbrev pub function_form : List TermTree → Form
function_form parts =
    unwrap_or (option_map (λ p. form.Function (record { name = p.0; arity = p.1; entry = p.2 })) (three atom_of arity_of count_of parts)) form.NoFunction

-- what a tuple is that begins with a word that no instruction has
abbrev pub header_of : List ℕ → List TermTree → Option Form
header_of word parts =
    if bytes_eq word (codes "module") then Some (module_form parts)
    else if bytes_eq word (codes "exports") then Some (exports_form parts)
    else if bytes_eq word (codes "attributes") then Some (lone_form form.Attributes parts)
    else if bytes_eq word (codes "labels") then Some (lone_form form.Labels parts)
    else if bytes_eq word (codes "function") then Some (function_form parts) else None

-- the words of the forms that are passed over
abbrev pub is_skipped : List ℕ → Bool
is_skipped word = bytes_eq word (codes "line") || bytes_eq word (codes "%")

abbrev pub headed : List ℕ → List TermTree → Option Form
headed word [] = None
headed word (first ∷ parts) = header_of word parts

abbrev pub tuple_form : List ℕ → TermTree → Option Form
tuple_form word t = option_and_then (headed word) (parts_of t)

abbrev pub worded : TermTree → Option (List ℕ) → Form
worded t None = form.NoForm
worded t (Some word) =
    if is_skipped word then form.Skipped else unwrap_or (tuple_form word t) (form.Instr (instr_read t))

-- What a form is, by its first word: the atom itself, or the atom that a tuple begins with.
abbrev pub form_of : TermTree → Form
form_of t = worded t (first_word t)

-- what the forms of a listing are
abbrev pub forms_of : List TermTree → List Form
forms_of ts = map form_of ts
