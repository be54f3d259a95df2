-- What has gone out.
use Rattle.std.specs.Prelude.{◌≡◌, ℕ, List, ◌++◌, Option}
use Rattle.kh_io.specs.Told.{Told}

-- the sink has the whole piece behind what it had
abbrev pub GivesAll : Option (List ℕ) → Option (List ℕ) → List ℕ → Type 0
GivesAll old new piece = Told old new (λ a b. b ≡ a ++ piece)
