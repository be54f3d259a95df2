-- Which atoms are written without quotes.
use Rattle.std.specs.Prelude.{ℕ, Bool, false, ◌&&◌, ◌||◌, ◌==◌, not, codes, List, [], ◌∷◌}
use Rattle.std.specs.Char.{is_ascii_lowercase, is_ascii_alphanumeric}
use Rattle.std.specs.List.{list_all, list_any}
use Rattle.std.specs.Str.{bytes_eq}

-- a letter, a digit, `_` or `@`
abbrev pub is_word_byte : ℕ → Bool
is_word_byte byte = is_ascii_alphanumeric byte || byte == 95 || byte == 64

-- a small letter, and then letters, digits, `_` and `@`
abbrev pub is_plain_word : List ℕ → Bool
is_plain_word [] = false
is_plain_word (first ∷ rest) = is_ascii_lowercase first && list_all is_word_byte rest

-- the words that stand for no atom where they are not quoted
abbrev pub reserved_words : List (List ℕ)
reserved_words =
    codes "after" ∷ codes "and" ∷ codes "andalso" ∷ codes "band" ∷ codes "begin" ∷ codes "bnot" ∷ codes "bor" ∷
    codes "bsl" ∷ codes "bsr" ∷ codes "bxor" ∷ codes "case" ∷ codes "catch" ∷ codes "div" ∷ codes "end" ∷
    codes "fun" ∷ codes "if" ∷ codes "not" ∷ codes "of" ∷ codes "or" ∷ codes "orelse" ∷ codes "receive" ∷
    codes "rem" ∷ codes "try" ∷ codes "when" ∷ codes "xor" ∷ []

abbrev pub is_reserved : List ℕ → Bool
is_reserved text = list_any (bytes_eq text) reserved_words

-- whether an atom is written without quotes
abbrev pub is_plain : List ℕ → Bool
is_plain text = is_plain_word text && not (is_reserved text)
