-- A host in memory without faults.
use Rattle.std.specs.Prelude.{ℕ, length, Bool, true, if◌then◌else◌, MatchBool, List, Option, Some, None}
use Rattle.kh_io.specs.declared.files.Files.{Files}
use Rattle.kh_io.specs.Call.{Call}
use Rattle.kh_io.specs.Recording.{Recording, left_after, given_in, seen_after, image_after, left_since, noted}
use Rattle.kh_io.specs.View.{View}

pub record Sound : Type 0 where
  -- the input, the files and the calls so far
  pub tape : Recording
  -- whether a call was past the room; from then on nothing is told
  pub past : Bool

-- with one more call
abbrev pub with_call : Sound → Call → Sound
with_call s call = record s { tape = noted s.tape call }

-- after a call past the room
abbrev pub gone : Sound → Sound
gone s = record s { past = true }

-- this, while it is told
abbrev pub told : {A : Type 0} → Sound → A → Option A
told s x = if s.past then None else Some x

-- what a crash may leave of a file, while it is told
abbrev pub sound_image : Sound → ℕ → List ℕ → Type 0
sound_image s file bytes = MatchBool s.past ⊥ (image_after s.tape.first s.tape.calls file bytes)

-- what a crash since t might have left, while it is told
abbrev pub sound_since : Sound → ℕ → Files → ℕ → Type 0
sound_since s t files stamp = MatchBool s.past ⊥ (left_since s.tape.first s.tape.calls t files stamp)

-- what it tells
abbrev pub sound_view : Sound → View
sound_view s = record {
  seen = λ file. told s (seen_after s.tape.first s.tape.calls file);
  image = sound_image s;
  moment = length s.tape.calls;
  since = sound_since s;
  stamp = length (given_in s.tape.calls);
  left = told s (left_after s.tape.input s.tape.calls);
  given = told s (given_in s.tape.calls);
  journal = told s s.tape.calls;
  faults = record { disk = 0; reads = 0; writes = 0 };
}
