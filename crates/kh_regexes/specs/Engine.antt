-- What an engine holds, and what its calls make of it.
use Rattle.std.specs.Prelude.{◌≡◌, ℕ, List, [], Option, Result, Ok, Err, nat_eq, get_or}
use Rattle.std.specs.Cmp.Lexicographic.{pointwise}
use Rattle.std.specs.List.{position_from}
use Rattle.kh_regexes.specs.declared.error.PrepareError.{PrepareError}
use Rattle.kh_regexes.specs.declared.error.PrepareError.TheVariants as error

-- the texts in order of place, how often an engine has refused one, and the text that it refused last
abbrev pub Held : Type 0
Held = List (List ℕ) × ℕ × Option (List ℕ)

-- the texts, the count of refusals and the text refused last stand
abbrev pub Stand : Held → Held → Type 0
Stand old new = (new.0 ≡ old.0) × (new.1 ≡ old.1) × (new.2 ≡ old.2)

-- what holds where a `prepare` has answered Ok, where it has refused, and where memory ran out
abbrev pub MatchPrepared : Result (Unit {0}) PrepareError → Type 0 → Type 0 → Type 0 → Type 0
MatchPrepared (Ok x) ok refused no_memory = ok
MatchPrepared (Err error.Refused) ok refused no_memory = refused
MatchPrepared (Err error.NoMemory) ok refused no_memory = no_memory

-- the text at a place
abbrev pub text_at : List (List ℕ) → ℕ → List ℕ
text_at texts id = get_or texts id []

-- the least place of a text, where the list has it
abbrev pub place_of : List ℕ → List (List ℕ) → Option ℕ
place_of text texts = position_from (λ t. pointwise nat_eq t text) 0 texts

-- an engine as callers see it
pub record Engine : Type 0 where
  pub texts : List (List ℕ)
  pub refusals : ℕ
  pub refused : Option (List ℕ)
