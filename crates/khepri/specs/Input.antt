-- A piece of the input that was taken.
use Rattle.std.specs.Prelude.{◌≡◌, ℕ, ◌<◌, ◌≤◌, List, [], ◌++◌, length}
use Rattle.kh_io.specs.Told.{Told}
use Rattle.kh_io.specs.View.{View}
use Rattle.khepri.specs.declared.session.Stop.{Stop}
use Rattle.khepri.specs.declared.session.Stop.TheVariants as stop
use Rattle.khepri.specs.declared.input.Piece.{Piece}
use Rattle.khepri.specs.declared.input.Piece.TheVariants as piece
use Rattle.khepri.specs.Script.{script_limit}

-- what came is behind what came before, and off the input; none comes only at the end of the input
abbrev pub TakesMore : Piece → (v w : View) → (input input_after : List ℕ) → Type 0
TakesMore piece.Some v w input input_after =
    (more : List ℕ) × (0 < length more) × (input_after ≡ input ++ more) × (length input_after ≤ script_limit)
    × Told v.left w.left (λ a b. a ≡ more ++ b)
TakesMore piece.None v w input input_after = (input_after ≡ input) × Told v.left w.left (λ a b. (a ≡ []) × (b ≡ []))

-- Why no piece came: a read failed, and nothing was taken off; or the script is as long as is read, and goes on; or memory ran out.
abbrev pub TakeStops : Stop → (v w : View) → List ℕ → Type 0
TakeStops stop.ReadFault v w input = Told v.left w.left (λ a b. b ≡ a)
TakeStops stop.TooLong v w input = (length input ≡ script_limit) × Told v.left w.left (λ a b. 0 < length a)
TakeStops stop.NoMemory v w input = Told v.left w.left (λ a b. Unit {0})
TakeStops stop.Syntax v w input = ⊥
TakeStops stop.Damaged v w input = ⊥
TakeStops stop.WriteFault v w input = ⊥
TakeStops stop.DiskFault v w input = ⊥
