-- Whether the texts of a pattern are prepared.
use Rattle.std.specs.Prelude.{ℕ, ◌+◌, List, map, sum}
use Rattle.kh_cond.specs.declared.component.Component.{Component}
use Rattle.kh_cond.specs.declared.component.Component.TheVariants as component
use Rattle.kh_cond.specs.Texts.{lacking, lacking_regex}

-- how many texts of a component aren't known
abbrev pub lacking_of : List (List ℕ) → Component → ℕ
lacking_of known (component.One c) = lacking known c
lacking_of known (component.Many regex) = lacking_regex known regex
lacking_of known (component.ManyAll regex further) = lacking_regex known regex + sum (map (lacking known) further)

-- how many texts of a pattern aren't known: it is prepared where this is 0
abbrev pub lacking_in : List (List ℕ) → List Component → ℕ
lacking_in known q = sum (map (lacking_of known) q)
