use Rattle.std.proofs.Common.{◌≡◌, true, nat_lt, ℕ, suc, List, [], ◌∷◌, Fits, w8, get_or, refl, arith}
use Rattle.std.proofs.lemmas.Bool.{and_from}
use borrow.Author.Tests.{lt-ltb}
use Rattle.kh_term.specs.Text.{are_bytes}
use Rattle.kh_term.proofs.bytes.are_in_range.Goals as goal

small : (x : ℕ) → Fits w8 x → nat_lt x 256 ≡ true
small x h = lt-ltb x 256 (omega arith)

in_range : (xs : List ℕ) → ((k : ℕ) → Fits w8 (get_or xs k 0)) → are_bytes xs ≡ true
in_range [] each = refl
in_range (x ∷ xs) each = and_from _ _ (small x (each 0)) (in_range xs (λ k. each (suc k)))

pub returns : goal.returns
returns c = in_range c.args.bytes.now c.type_inv.bytes
