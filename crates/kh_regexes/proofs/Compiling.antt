-- A compiled text searches as its text does.
use Rattle.std.proofs.Common.{◌≡◌, ◌<◌, ℕ, List, get_or, Option, Some, None, IsSomeAnd, is_some, subst, false}
use Rattle.std.specs.Str.{chars}
use Rattle.regex_hir.specs.Text.{is_some_and}
use Rattle.regex_syntax.specs.Brackets.{Nested}
use Rattle.regex_syntax.specs.Grammar.{read, Names}
use Rattle.regex.specs.Patterns.{Re, Reads, SameCaptures, find}
use Rattle.regex.specs.Names.{names_of}
use Rattle.regex.specs.Bytes.{regex_pattern, regex_source, regex_config, IsReadFromSource}
use Rattle.regex.specs.declared.bytes.regex.Regex.{Regex}
use Rattle.regex.proofs.ForCallers.{is_match_alike}
use Rattle.kh_regexes.specs.Search.{bytes_config, search, SearchesItsText}

module _ (re : Re) (subject : List ℕ) (bytes : (k : ℕ) → get_or subject k 0 < 256) where
  alike : (o : Option (Nested Re × Names)) (P : Nested Re × Names → Type 0) → ((x : Nested Re × Names) → P x → SameCaptures re x.0.value) →
      IsSomeAnd o P → is_some (find re subject 0) ≡ is_some_and o (λ (found, _). is_some (find found.value subject 0))
  alike None P f h = absurd h
  alike (Some x) P f h = is_match_alike (f x h) subject bytes false 0

pub searches : (r : Regex) → regex_config r ≡ bytes_config → IsReadFromSource r → SearchesItsText r
unfolding search Reads
searches r same is_read subject bytes =
    let under : Reads bytes_config (regex_source r) r.pattern.program.hir (names_of r.pattern.names.items) =
    subst (λ config. Reads config (regex_source r) r.pattern.program.hir (names_of r.pattern.names.items)) same is_read in
    alike (regex_pattern r) subject bytes (read bytes_config (chars (regex_source r))) _ (λ x h. h.1) under
