-- What a call of a host does to the input and to the sink.
use Rattle.std.specs.Prelude.{◌≡◌, ℕ, ◌<◌, List, [], ◌++◌, length, take, Option}
use Rattle.kh_io.specs.Told.{Told, Extends, IsFrontOf}

-- the input was the first n bytes of the buffer and then what is left
abbrev pub TakesOff : Option (List ℕ) → Option (List ℕ) → ℕ → List ℕ → Type 0
TakesOff old new n buffer = Told old new (λ input rest. input ≡ take n buffer ++ rest)

-- no byte comes for a buffer with room only where no input is left
abbrev pub EndsOnlyAtEnd : Option (List ℕ) → Option (List ℕ) → ℕ → List ℕ → Type 0
EndsOnlyAtEnd old new n buffer = n ≡ 0 → 0 < length buffer → Told old new (λ input _. input ≡ [])

-- the sink has the first n bytes of the piece behind what it had
abbrev pub Adds : Option (List ℕ) → Option (List ℕ) → ℕ → List ℕ → Type 0
Adds old new n piece = Told old new (λ a b. b ≡ a ++ take n piece)

-- the sink may have any front of the piece behind what it had
abbrev pub MayAdd : Option (List ℕ) → Option (List ℕ) → List ℕ → Type 0
MayAdd old new piece = Extends old new (λ more. IsFrontOf more piece)
