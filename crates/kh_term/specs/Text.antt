-- The bytes of atoms and binaries.
use Rattle.std.specs.Prelude.{ℕ, Bool, ◌&&◌, nat_le, nat_lt, List, length}
use Rattle.std.specs.List.{list_all}
use Rattle.std.specs.Str.{is_utf8}
use Rattle.kh_term.specs.declared.limits.TheConstants.{MOST_NAME_BYTES, MOST_TEXT_BYTES}

-- the text of an atom: UTF-8 of at most 255 bytes
abbrev pub is_atom_text : List ℕ → Bool
is_atom_text text = nat_le (length text) MOST_NAME_BYTES && is_utf8 text

-- a text: UTF-8 of at most 4,096 bytes
abbrev pub is_text : List ℕ → Bool
is_text text = nat_le (length text) MOST_TEXT_BYTES && is_utf8 text

-- each is below 256
abbrev pub are_bytes : List ℕ → Bool
are_bytes = list_all (λ b. nat_lt b 256)
