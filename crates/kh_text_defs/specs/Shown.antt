-- The canonical text of a term, the one that is printed.
use Rattle.std.specs.Prelude.{ℕ, Bool, false, ◌&&◌, ◌||◌, ◌==◌, nat_lt, nat_le, if◌then◌else◌, codes, decimal, List, [], ◌∷◌, ◌++◌, map}
use Rattle.std.specs.Fmt.{signed_decimal, digits}
use Rattle.std.specs.List.{list_all, flat_map, join_with_byte}
use Rattle.kh_term.specs.declared.tree.TermTree.{TermTree, out-TermTree}
use Rattle.kh_term.specs.declared.tree.TermTree.TheOpen.{TermTree-F}
use Rattle.kh_term.specs.declared.tree.TermTree.TheOpen as layer
use Rattle.kh_term.specs.declared.tree.TermTree.TheFolds.{para-TermTree}
use Rattle.kh_term.specs.Size.{is_nil}
use Rattle.kh_text_defs.specs.Atoms.{is_plain}

-- A byte of a quoted atom: a backslash, a quote and the bytes below 32 and 127 are escaped.
abbrev pub quoted_byte : ℕ → List ℕ
quoted_byte byte =
    if byte == 92 then codes "\\\\"
    else if byte == 39 then codes "\\'"
    else if byte == 10 then codes "\\n"
    else if byte == 13 then codes "\\r"
    else if byte == 9 then codes "\\t"
    else if nat_lt byte 32 || byte == 127 then codes "\\x{" ++ digits 16 false byte ++ codes "}"
    else byte ∷ []

-- an atom: as it is, or in quotes
abbrev pub shown_atom : List ℕ → List ℕ
shown_atom text = if is_plain text then text else 39 ∷ flat_map quoted_byte text ++ 39 ∷ []

abbrev pub is_printable : ℕ → Bool
is_printable byte = nat_le 32 byte && nat_lt byte 127

-- a byte of a binary in double quotes
abbrev pub text_byte : ℕ → List ℕ
text_byte byte = if byte == 92 then codes "\\\\" else if byte == 34 then codes "\\\"" else byte ∷ []

-- texts with commas between them
abbrev pub with_commas : List (List ℕ) → List ℕ
with_commas = join_with_byte 44

-- what stands between `<<` and `>>`: nothing, a text where all bytes are printable, or their numbers
abbrev pub shown_bytes : List ℕ → List ℕ
shown_bytes [] = []
shown_bytes (byte ∷ bytes) =
    if list_all is_printable (byte ∷ bytes) then 34 ∷ flat_map text_byte (byte ∷ bytes) ++ 34 ∷ []
    else with_commas (map decimal (byte ∷ bytes))

-- A term with its text.
abbrev pub Printed : Type 0
Printed = TermTree × List ℕ

abbrev pub texts_of : List Printed → List (List ℕ)
texts_of parts = map (λ p. p.1) parts

-- nothing for nil, else a bar and the tail
abbrev pub shown_tail : Printed → List ℕ
shown_tail tail = if is_nil (out-TermTree tail.0) then [] else 124 ∷ tail.1

-- Lists in square brackets with a bar before a tail that isn't nil, tuples in braces, maps as `#{Key => Value}`, closures
-- as `#fun{Module,Name,Arity,[Captured]}`; commas without space.
abbrev pub shown_step : TermTree-F Printed → List ℕ
shown_step (layer.Int number) = signed_decimal number
shown_step (layer.Atom text) = shown_atom text
shown_step (layer.Bin bytes) = codes "<<" ++ shown_bytes bytes ++ codes ">>"
shown_step layer.Nil = codes "[]"
shown_step (layer.List parts tail) = codes "[" ++ with_commas (texts_of parts) ++ shown_tail tail ++ codes "]"
shown_step (layer.Tuple parts) = codes "{" ++ with_commas (texts_of parts) ++ codes "}"
shown_step (layer.Map pairs) =
    codes "#{" ++ with_commas (map (λ p. p.0.1 ++ codes " => " ++ p.1.1) pairs) ++ codes "}"
shown_step (layer.Closure origin env) =
    codes "#fun{" ++ with_commas (shown_atom origin.module ∷ shown_atom origin.name ∷ decimal origin.arity
    ∷ (codes "[" ++ with_commas (texts_of env) ++ codes "]") ∷ []) ++ codes "}"

-- the canonical text of a term
abbrev pub shown : TermTree → List ℕ
shown = para-TermTree (List ℕ) shown_step

-- a reply as a line: its text, a dot and a newline
abbrev pub shown_line : TermTree → List ℕ
shown_line reply = shown reply ++ (46 ∷ 10 ∷ [])
