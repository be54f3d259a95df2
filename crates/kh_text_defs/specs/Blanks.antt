-- What stands between tokens, and parts with commas between them.
use Rattle.std.specs.Prelude.{◌≡◌, ℕ, Bool, true, ◌||◌, ◌==◌, not, IsTrue, List, [], ◌∷◌, ◌++◌, ◌⊎◌}
use Rattle.std.specs.List.{list_all}

-- tab, newline, carriage return and space
abbrev pub is_space : ℕ → Bool
is_space byte = byte == 9 || byte == 10 || byte == 13 || byte == 32

-- a line ends at byte 10 alone
abbrev pub is_inside_line : ℕ → Bool
is_inside_line byte = not (byte == 10)

-- Spaces and comments. A comment goes from `%` to the end of its line and holds any bytes.
pub data IsBlank : List ℕ → Type 0 where
  no_blank : IsBlank []
  space : (byte : ℕ) (rest : List ℕ) → IsTrue (is_space byte) → IsBlank rest → IsBlank (byte ∷ rest)
  comment : (text line rest : List ℕ) → IsTrue (list_all is_inside_line line) → IsBlank rest
      → text ≡ line ++ 10 ∷ rest → IsBlank (37 ∷ text)

-- Blanks to the end of the input, where the last comment needs no end.
abbrev pub IsBlankToEnd : List ℕ → Type 0
IsBlankToEnd text =
    IsBlank text ⊎ ((blank : List ℕ) × (line : List ℕ) × IsBlank blank × IsTrue (list_all is_inside_line line) × (text ≡ blank ++ 37 ∷ line))

-- a text that stands for a value, with blanks before and behind it
pub record Wide {A : Type 0} (Stands : List ℕ → A → Type 0) (text : List ℕ) (x : A) : Type 0 where
  pub before : List ℕ
  pub inside : List ℕ
  pub behind : List ℕ
  pub blank_before : IsBlank before
  pub stands : Stands inside x
  pub blank_behind : IsBlank behind
  pub parts : text ≡ before ++ (inside ++ behind)

-- values with commas between them, at least one
pub data Commas {A : Type 0} (Stands : List ℕ → A → Type 0) : List ℕ → List A → Type 0 where
  last : (text : List ℕ) (x : A) → Stands text x → Commas Stands text (x ∷ [])
  then_more : (text first rest : List ℕ) (x : A) (xs : List A) → Stands first x → Commas Stands rest xs
      → text ≡ first ++ 44 ∷ rest → Commas Stands text (x ∷ xs)

-- what stands in brackets: nothing but blanks, or values with commas between them and blanks round each
abbrev pub Elements : {A : Type 0} → (List ℕ → A → Type 0) → List ℕ → List A → Type 0
Elements Stands text xs = (IsBlank text × (xs ≡ [])) ⊎ Commas (Wide Stands) text xs

-- what may stand behind the dot of a form: a space, a comment, or nothing
abbrev pub may_follow : List ℕ → Bool
may_follow [] = true
may_follow (byte ∷ rest) = is_space byte || byte == 37

abbrev pub begins_no_blank : List ℕ → Bool
begins_no_blank [] = true
begins_no_blank (byte ∷ rest) = not (is_space byte || byte == 37)
