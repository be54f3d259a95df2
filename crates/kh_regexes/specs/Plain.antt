-- An engine that searches texts as plain bytes and refuses the calls that it was told to.
use Rattle.std.specs.Prelude.{◌+◌, ◌^◌, ◌||◌, ℕ, Bool, false, List, [], ◌∷◌, Option, Some, None, nat_eq, nat_lt, if◌then◌else◌}
use Rattle.std.specs.List.{starts_with, list_any}

-- whether the bytes of a text stand somewhere in a subject; those of the empty text stand in each
abbrev pub stands_in : List ℕ → List ℕ → Bool
stands_in text [] = starts_with nat_eq [] text
stands_in text (b ∷ subject) = starts_with nat_eq (b ∷ subject) text || stands_in text subject

-- the engine as callers see it: `next` is the number of the next call of `prepare`, and `listed` are the calls that it refuses
pub record Plain : Type 0 where
  pub texts : List (List ℕ)
  pub refusals : ℕ
  pub refused : Option (List ℕ)
  pub next : Option ℕ
  pub listed : List ℕ

-- the number behind this one; a call whose number would pass 2^64 - 1 has none
abbrev pub number_behind : Option ℕ → Option ℕ
number_behind None = None
number_behind (Some n) = if nat_lt (n + 1) (2 ^ 64) then Some (n + 1) else None

-- whether the call of this number is listed
abbrev pub is_listed : List ℕ → Option ℕ → Bool
is_listed listed None = false
is_listed listed (Some n) = list_any (λ call. nat_eq call n) listed
