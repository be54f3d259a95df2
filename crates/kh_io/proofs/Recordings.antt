-- One more call of a host in memory.
use Rattle.std.proofs.Common.{ℕ, ◌≡◌, ◌+◌, ◌≤◌, List, [], ◌∷◌, ◌++◌, Some, None, length, sum_by, ap, ◌∙◌, arith, append-nil, length-append}
use Rattle.std.proofs.lemmas.List.Sums.{sum_by-cons, fold-append}
use Rattle.std.proofs.lemmas.List.Concat.{flat_map-append}
use Rattle.std.proofs.lemmas.List.{length-take}
use Rattle.kh_io.specs.declared.files.Files.{Files}
use Rattle.kh_io.specs.Call.{Call, Take, Give, Len, ReadAt, WriteAt, Cut, Sync, moved, cost}
use Rattle.kh_io.specs.Disk.{file_of}
use Rattle.kh_io.specs.FileState.{synced, after, state_after}
use Rattle.kh_io.specs.Recording.{gives, given_in}

-- a call adds its bytes to the sink
pub given_push : (calls : List Call) (call : Call) → given_in (calls ++ call ∷ []) ≡ given_in calls ++ gives call
given_push calls call = flat_map-append gives calls (call ∷ []) ∙ ap (λ xs. given_in calls ++ xs) (append-nil (gives call))

-- a call is done to a file
pub state_push : (file : ℕ) (first : Files) (calls : List Call) (call : Call)
    → state_after file first (calls ++ call ∷ []) ≡ after file (state_after file first calls) call
state_push file first calls call = fold-append (after file) (synced (file_of first file)) calls (call ∷ [])

-- a call gives no more bytes than it moves
gives_le : (call : Call) → length (gives call) ≤ moved call
gives_le (Take asked bytes) = omega arith
gives_le (Give piece (Some n)) = rw length-take (omega arith)
gives_le (Give piece None) = omega arith
gives_le (Len file len) = omega arith
gives_le (ReadAt file at asked bytes) = omega arith
gives_le (WriteAt file at bytes done) = omega arith
gives_le (Cut file len done) = omega arith
gives_le (Sync file done) = omega arith

given_le_moved : (calls : List Call) → length (given_in calls) ≤ sum_by moved calls
given_le_moved [] = omega arith
given_le_moved (call ∷ calls) =
    let len : length (given_in (call ∷ calls)) ≡ length (gives call) + length (given_in calls) = length-append (gives call) (given_in calls) in
    let sum : sum_by moved (call ∷ calls) ≡ moved call + sum_by moved calls = sum_by-cons moved call calls in
    let one : length (gives call) ≤ moved call = gives_le call in
    omega (arith, len, sum, one, given_le_moved calls)

-- the sink has no more bytes than the calls take of the room
pub given_le_cost : (calls : List Call) → length (given_in calls) ≤ cost calls
given_le_cost calls = let le = given_le_moved calls in omega (arith, le)
