-- A piece that is given in several calls.
use Rattle.std.proofs.Common.{◌≡◌, ℕ, ◌≤◌, List, ◌++◌, take, drop, Option, sym, ap, ◌∙◌, append_assoc, arith}
use Rattle.std.proofs.lemmas.List.{take-append-drop}
use Rattle.kh_io.specs.Host.{Adds}
use Rattle.kh_io.specs.View.{View}
use Rattle.kh_io.specs.Frames.{FilesStay, Elapses, During, Untouched}
use Rattle.kh_io.proofs.{goes_on, weakened, images_stay, told_both}
use Rattle.khepri.specs.Output.{GivesAll}

-- a front of the piece is given, and this is left
pub record IsGiving (old now : Option (List ℕ)) (piece rest : List ℕ) : Type 0 where
  pub front : List ℕ
  pub parts : piece ≡ front ++ rest
  pub given : GivesAll old now front

pub giving_goes_on : (old now new : Option (List ℕ)) (piece rest : List ℕ) (n : ℕ) → IsGiving old now piece rest → Adds now new n rest
    → IsGiving old new piece (drop n rest)
giving_goes_on old now new piece rest n giving adds = record {
  front = giving.front ++ take n rest;
  parts = giving.parts ∙ ap (λ (r : List ℕ). giving.front ++ r) (sym (take-append-drop n rest)) ∙ sym (append_assoc giving.front (take n rest) (drop n rest));
  given = told_both old now new giving.given adds (λ x y z p q. q ∙ ap (λ (t : List ℕ). t ++ take n rest) p ∙ append_assoc x giving.front (take n rest));
}

-- one more call, of those that don't touch the files
pub untouched_goes_on : (u v w : View) → FilesStay u w → u.stamp ≤ v.stamp → v.stamp ≤ w.stamp → During (Untouched u v) u v → Elapses v w → During (Untouched u w) u w
untouched_goes_on u v w stay rose rises run call =
    goes_on (weakened run (λ files s was. record { images = was.images; at_least = was.at_least; at_most = omega (arith, was.at_most, rises) }))
    call (λ files s images from to. record { images = images_stay u w stay files images; at_least = omega (arith, rose, from); at_most = to })
