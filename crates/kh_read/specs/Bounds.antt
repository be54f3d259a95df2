-- What is asked of words and code points in the midst of their bytes.
use Rattle.std.specs.Prelude.{ℕ, Bool, ◌&&◌, ◌==◌, nat_le, if◌then◌else◌, List, length}
use Rattle.std.specs.List.{list_all}
use Rattle.kh_text_defs.specs.Atoms.{is_word_byte}

-- a word so far
abbrev pub is_short_word : List ℕ → Bool
is_short_word text = list_all is_word_byte text && nat_le (length text) 255

-- what the value of a code point's first bytes is below, where so many come behind the next
abbrev pub follow_limit : ℕ → ℕ
follow_limit count = if count == 0 then 0x100000 else if count == 1 then 0x4000 else if count == 2 then 0x100 else 0
