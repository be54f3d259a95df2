-- What is no condition and no pattern, and where the fault lies.
use Rattle.std.specs.Prelude.{◌≡◌, ◌<◌, ◌+◌, ◌⊎◌, ℕ, List, length, take, slice_get, IfSome, Result, Ok, Err}
use Rattle.kh_term.specs.Make.{list_of}
use Rattle.kh_term.specs.declared.tree.TermTree.{TermTree}
use Rattle.kh_cond.specs.declared.error.CondError.{CondError}
use Rattle.kh_cond.specs.declared.error.CondError.TheVariants as error
use Rattle.kh_cond.specs.declared.cond.Cond.{Cond}
use Rattle.kh_cond.specs.declared.component.Component.{Component}
use Rattle.kh_cond.specs.Spells.{SpellsCond, SpellsComponent, SpellComponents}

-- what holds of the number of the component at fault
abbrev pub BadBy : CondError → (ℕ → Type 0) → Type 0
BadBy (error.BadCondition n) P = P n
BadBy error.NoMemory P = Unit {0}

-- the same of an answer, where it is such a fault
abbrev pub IfBad : {A : Type 0} → Result A CondError → (ℕ → Type 0) → Type 0
IfBad (Ok x) P = Unit {0}
IfBad (Err e) P = BadBy e P

-- the term spells no condition
abbrev pub IsNoCond : TermTree → Type 0
IsNoCond t = (c : Cond) → SpellsCond t c → ⊥

-- the term spells no component
abbrev pub IsNoComponent : TermTree → Type 0
IsNoComponent t = (c : Component) → SpellsComponent t c → ⊥

-- the first so many terms spell components
abbrev pub FrontSpells : List TermTree → ℕ → Type 0
FrontSpells ts k = (cs : List Component) × SpellComponents (take k ts) cs

-- The least component that is wrong, counted from 1, among the first 32; 33 where these are right and there are more.
abbrev pub IsFaultOf : List TermTree → ℕ → Type 0
IsFaultOf ts n =
    ((k : ℕ) × (k < 32) × FrontSpells ts k × IfSome (slice_get ts k) IsNoComponent × (k < length ts) × (n ≡ k + 1))
    ⊎ (FrontSpells ts 32 × (32 < length ts) × (n ≡ 33))

-- 0 where the term is no list
abbrev pub PatternFault : TermTree → ℕ → Type 0
PatternFault t n =
    (((ts : List TermTree) → t ≡ list_of ts → ⊥) × (n ≡ 0))
    ⊎ ((ts : List TermTree) × (t ≡ list_of ts) × IsFaultOf ts n)
