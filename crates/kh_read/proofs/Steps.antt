-- Steps of reading, one after another.
use Rattle.std.proofs.Common.{◌≡◌, ℕ, Bool, true, false, cond, List, Ok, Err, refl}
use Rattle.kh_read.specs.Reading.{◌>>=◌, Read, Stop}

-- a test for a stop that didn't come
pub passed : {A : Type 0} (test : Bool) (stop : Stop) (read : Read A) (x : A × List ℕ) → cond test (Err stop) read ≡ Ok x → (test ≡ false) × (read ≡ Ok x)
passed true stop read x e = absurd cc
passed false stop read x e = (refl, e)

-- the value of a step that was read
pub bind_ok : {A B : Type 0} (read : Read A) (next : A × List ℕ → Read B) (y : B × List ℕ) → (read >>= next) ≡ Ok y → (x : A × List ℕ) × (read ≡ Ok x) × (next x ≡ Ok y)
bind_ok (Ok x) next y e = (x, refl, e)
bind_ok (Err stop) next y e = absurd cc

abbrev pub done : {A : Type 0} → A × List ℕ → Read A
done x = Ok x

pub ok_is : {A : Type 0} (x y : A × List ℕ) → done x ≡ done y → x ≡ y
ok_is x y e = cc
