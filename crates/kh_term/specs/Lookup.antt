-- Keys among pairs.
use Rattle.std.specs.Prelude.{◌≡◌, ◌<◌, ◌≤◌, ℕ, Bool, true, if◌then◌else◌, List, [], ◌∷◌, length, Option, Some, None, Result, MatchResult}
use Rattle.std.specs.declared.cmp.Ordering.TheVariants.{Less, Greater}
use Rattle.std.specs.List.{HoldsAt}
use Rattle.std.specs.List.Sorted.{IsPartitionPoint}
use Rattle.std.specs.Ordering.{is_eq, is_lt}
use Rattle.kh_term.specs.declared.tree.TermTree.{TermTree}
use Rattle.kh_term.specs.Order.{term_cmp}

-- the value beside a key, where the key is there
abbrev pub value_at : TermTree → List (TermTree × TermTree) → Option TermTree
value_at key [] = None
value_at key (p ∷ ps) = if is_eq (term_cmp p.0 key) then Some p.1 else value_at key ps

-- Where a key stands among pairs: its place, or the place at which it would stand, behind all lesser keys and in front
-- of all greater ones.
abbrev pub IsPlaceOf : TermTree → List (TermTree × TermTree) → Result ℕ ℕ → Type 0
IsPlaceOf key ps place =
    MatchResult place (λ at. (at < length ps) × HoldsAt (λ p. p.0 ≡ key) ps at)
    (λ at. (at ≤ length ps) × IsPartitionPoint (λ p. term_cmp p.0 key ≡ Less) (λ p. term_cmp p.0 key ≡ Greater) ps at)

-- whether a key is above the last one
abbrev pub rises_after : List (TermTree × TermTree) → TermTree → Bool
rises_after [] key = true
rises_after (p ∷ []) key = is_lt (term_cmp p.0 key)
rises_after (p ∷ q ∷ ps) key = rises_after (q ∷ ps) key
