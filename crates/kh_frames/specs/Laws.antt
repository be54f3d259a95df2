-- The x registers are finite maps.
use Rattle.std.specs.Prelude.{◌≡◌, ◌≢◌, ℕ, List, true, Some}
use Rattle.std.specs.declared.option.Option.{Option}
use Rattle.kh_frames.specs.Frame.{register, written}
use Rattle.kh_frames.specs.Valid.{ends_written}

pub record RegistersAreMaps (V : Type 0) : Type 0 where
  -- what was written is read, and the others stay
  pub read_back : (xs : List (Option V)) (n : ℕ) (v : V) → register (written xs n v) n ≡ Some v
  pub others : (xs : List (Option V)) (n m : ℕ) (v : V) → m ≢ n → register (written xs n v) m ≡ register xs m
  -- the last one stays written, and then equal maps are equal lists
  pub ends : (xs : List (Option V)) (n : ℕ) (v : V) → ends_written xs ≡ true → ends_written (written xs n v) ≡ true
  pub equal : (xs ys : List (Option V)) → ends_written xs ≡ true → ends_written ys ≡ true → ((n : ℕ) → register xs n ≡ register ys n) → xs ≡ ys
