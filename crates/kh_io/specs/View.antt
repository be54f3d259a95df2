-- What a host tells at a moment.
use Rattle.std.specs.Prelude.{ℕ, List, Option, None}
use Rattle.kh_io.specs.declared.files.Files.{Files}
use Rattle.kh_io.specs.Call.{Call}
use Rattle.kh_io.specs.Told.{Faults}

pub record View : Type 1 where
  -- what a read gives of each file, where told
  pub seen : ℕ → Option (List ℕ)
  -- what a crash at this moment may leave of each file, where told
  pub image : ℕ → List ℕ → Type 0
  -- the moment, as a number that doesn't fall
  pub moment : ℕ
  -- what a crash at some moment from that one on might have left, with the stamp of its moment
  pub since : ℕ → Files → ℕ → Type 0
  -- how many bytes the sink has taken
  pub stamp : ℕ
  -- the input that is left, where told
  pub left : Option (List ℕ)
  -- the bytes that the sink has taken, where told
  pub given : Option (List ℕ)
  -- the calls so far with their arguments and answers, where told
  pub journal : Option (List Call)
  pub faults : Faults

-- a host that tells nothing but how often its calls have failed
abbrev pub untold : Faults → View
untold count = record {
  seen = λ _. None;
  image = λ _ _. ⊥;
  moment = 0;
  since = λ _ _ _. ⊥;
  stamp = 0;
  left = None;
  given = None;
  journal = None;
  faults = count;
}
