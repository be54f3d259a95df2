-- How far blanks go.
use Rattle.std.specs.Prelude.{ℕ, suc, Bool, true, false, ◌==◌, not, Option, Some, None, List, [], ◌∷◌, if◌then◌else◌}
use Rattle.kh_text_defs.specs.Blanks.{is_space}

-- whether a comment stands behind a byte, where the byte is blank
abbrev pub passed : Bool → ℕ → Option Bool
passed comment byte =
    if comment then Some (not (byte == 10)) else if is_space byte then Some false else if byte == 37 then Some true else None

abbrev pub mark_or : ℕ → Option Bool → (Bool → Option ℕ) → Option ℕ
mark_or place (Some comment) on = on comment
mark_or place None on = Some place

-- the place of the first byte that isn't blank
unfoldable pub first_mark : Bool → ℕ → List ℕ → Option ℕ
first_mark comment place [] = None
first_mark comment place (byte ∷ bytes) = mark_or place (passed comment byte) (λ next. first_mark next (suc place) bytes)
