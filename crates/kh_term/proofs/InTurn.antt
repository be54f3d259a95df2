-- Bytes that are written one after another.
use Rattle.std.proofs.Common.{◌≡◌, ℕ, List, ◌++◌, Result, Ok, Err, OnOk, ap, ◌∙◌, append_assoc}

-- one piece and then another
pub joined : (start one two first second : List ℕ) → one ≡ start ++ first → two ≡ one ++ second → two ≡ start ++ (first ++ second)
joined start one two first second begun ended = ended ∙ (ap (λ w. w ++ second) begun ∙ append_assoc start first second)

-- The last call writes the end, which is what was to be written.
pub closed : {T E : Type 0} (result : Result T E) (start before after most last whole : List ℕ)
    → most ++ last ≡ whole → before ≡ start ++ most → OnOk result (after ≡ before ++ last) → OnOk result (after ≡ start ++ whole)
closed (Ok value) start before after most last whole is begun ended =
    joined start before after most last begun ended ∙ ap (λ w. start ++ w) is
closed (Err error) start before after most last whole is begun ended = tt
