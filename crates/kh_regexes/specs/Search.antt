-- What the search of a text means: what the grammar of the toolchain's `regex` reads in it, searched anywhere in a subject of bytes.
use Rattle.std.specs.Prelude.{◌≡◌, ◌<◌, ℕ, Bool, List, is_some, get_or, false}
use Rattle.std.specs.Str.{chars}
use Rattle.regex_hir.specs.Text.{is_some_and}
use Rattle.regex_syntax.specs.Grammar.{read}
use Rattle.regex.specs.Patterns.{Config, default_config, find}
use Rattle.regex.specs.Bytes.{regex_pattern, regex_source}
use Rattle.regex.specs.declared.bytes.regex.Regex.{Regex}

-- the options with which texts are read: those of the toolchain's `regex`, over any bytes
abbrev pub bytes_config : Config
bytes_config = record default_config { utf8 = false }

-- whether the regular expression of a text is found in a subject; what isn't read is found in none
unfoldable pub search : List ℕ → List ℕ → Bool
search text subject = is_some_and (read bytes_config (chars text)) (λ (re, _). is_some (find re.value subject 0))

-- a compiled text searches as its text does, in bytes
abbrev pub SearchesItsText : Regex → Type 0
SearchesItsText r =
    (subject : List ℕ) → ((k : ℕ) → get_or subject k 0 < 256) → is_some (find (regex_pattern r) subject 0) ≡ search (regex_source r) subject
