-- A file that stays, for the crates above: over no call, and over two.
use Rattle.std.proofs.Common.{ℕ, List, Option, Some, None, refl}
use Rattle.std.specs.Prelude.{IsSome}
use Rattle.kh_io.specs.Told.{Kept}
use Rattle.kh_io.specs.Disk.{Stays}
use Rattle.kh_io.proofs.Telling.{kept_same, kept_both}

pub stays_always : (seen : Option (List ℕ)) (image : List ℕ → Type 0) → Stays seen seen image image
stays_always seen image = record { read = kept_same seen; only = λ bytes left. left; all = λ told bytes left. left }

pub stays_both : {a b c : Option (List ℕ)} {i j k : List ℕ → Type 0} → Stays a b i j → Stays b c j k → Stays a c i k
stays_both {a} {b} {c} first second = record {
  read = kept_both a b c first.read second.read;
  only = λ bytes left. first.only bytes (second.only bytes left);
  all = λ told bytes left. second.all told bytes (first.all (told_too b c second.read told) bytes left);
}
  where
    told_too : (b c : Option (List ℕ)) → Kept b c → IsSome c → IsSome b
    told_too (Some x) c kept told = refl
    told_too None (Some y) kept told = absurd kept
    told_too None None kept told = told
