-- What a host tells, and how its counts rise. A host may stop telling inside a call, and never begins to.
use Rattle.std.specs.Prelude.{◌≡◌, ℕ, ◌^◌, ◌-◌, ◌<◌, List, [], ◌∷◌, ◌++◌, Option, Some, None}

-- a fact of what is told at entry and at exit: nothing where it isn't told at exit, and never where it is told at exit alone
abbrev pub Told : {A : Type 0} → Option A → Option A → (A → A → Type 0) → Type 0
Told (Some old) (Some new) P = P old new
Told None (Some new) P = ⊥
Told old None P = Unit {0}

-- where it is told at exit, it is as it was
abbrev pub Kept : {A : Type 0} → Option A → Option A → Type 0
Kept old new = Told old new (λ a b. b ≡ a)

-- what was told at entry has more behind it at exit, of which P holds
abbrev pub Extends : {A : Type 0} → Option (List A) → Option (List A) → (List A → Type 0) → Type 0
Extends {A} old new P = Told old new (λ a b. (more : List A) × (b ≡ a ++ more) × P more)

-- the list has this at its end, and is else as it was
abbrev pub Gains : {A : Type 0} → Option (List A) → Option (List A) → A → Type 0
Gains old new x = Told old new (λ a b. b ≡ a ++ x ∷ [])

-- the count rose; one that stands at 2^64 - 1 has no room to
abbrev pub Rose : ℕ → ℕ → Type 0
Rose old new = old < 2 ^ 64 - 1 → old < new

-- the first list is the front of the second
abbrev pub IsFrontOf : {A : Type 0} → List A → List A → Type 0
IsFrontOf {A} front whole = (rest : List A) × (whole ≡ front ++ rest)

-- how often the disk, a `take` and a `give` of a host have failed
pub record Faults : Type 0 where
  pub disk : ℕ
  pub reads : ℕ
  pub writes : ℕ
