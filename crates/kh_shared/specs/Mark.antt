-- Marks: what a shared pointer keeps of its first owner's value, so that one place has one value.
-- What a recursive type owns may not rest on the code of a value that it holds, so a pointer owns its mark whatever it is, and `IsMarked` is a fact of its own.
use Rattle.std.specs.Prelude.{◌≡◌}
use base.Stored.{Gv, Coded}
use denote.RattleType.{RattleType}

abbrev pub coded_mark : Coded Gv
coded_mark = record { code = λ g. g; inj = λ x y e. e }

-- the mark k is the value's
abbrev pub IsMarked : (R : RattleType) → R.Denot → Gv → Type 0
IsMarked R x k = k ≡ R.coded.code x
