-- The texts of regular expressions in conditions and patterns, and which of them an engine has.
use Rattle.std.specs.Prelude.{◌≡◌, ℕ, Bool, false, IsTrue, Option, Some, None, List, [], ◌∷◌, ◌++◌, sum, nat_eq, if◌then◌else◌}
use Rattle.std.specs.Cmp.Lexicographic.{pointwise}
use Rattle.std.specs.List.{flat_map, list_any}
use Rattle.kh_term.specs.declared.text.Text.{Text}
use Rattle.kh_cond.specs.declared.cond.Regex.{Regex}
use Rattle.kh_cond.specs.declared.cond.Regex.TheVariants as regex
use Rattle.kh_cond.specs.declared.cond.Cond.{Cond}
use Rattle.kh_cond.specs.declared.cond.Cond.TheOpen.{Cond-F}
use Rattle.kh_cond.specs.declared.cond.Cond.TheOpen as layer
use Rattle.kh_cond.specs.declared.cond.Cond.TheFolds.{fold-Cond}
use Rattle.kh_cond.specs.declared.component.Component.{Component}
use Rattle.kh_cond.specs.declared.component.Component.TheVariants as component

-- `any` has no text
abbrev pub regex_texts : Regex → List Text
regex_texts regex.Any = []
regex_texts (regex.Text text) = text ∷ []

-- the texts in a condition in order of place, each as often as it stands
abbrev pub texts_step : Cond-F (List Text) → List Text
texts_step (layer.NameMatches r) = regex_texts r
texts_step (layer.PathMatches r) = regex_texts r
texts_step (layer.Not x) = x
texts_step (layer.All xs) = flat_map (λ x. x) xs
texts_step (layer.Any xs) = flat_map (λ x. x) xs
texts_step c = []

abbrev pub texts_of : Cond → List Text
texts_of = fold-Cond (List Text) texts_step

abbrev pub component_texts : Component → List Text
component_texts (component.One c) = texts_of c
component_texts (component.Many r) = regex_texts r
component_texts (component.ManyAll r cs) = regex_texts r ++ flat_map texts_of cs

abbrev pub pattern_texts : List Component → List Text
pattern_texts cs = flat_map component_texts cs

-- whether a text is among those that are known
abbrev pub is_known : List (List ℕ) → List ℕ → Bool
is_known known text = list_any (λ t. pointwise nat_eq t text) known

-- a text behind those that are known, where it isn't among them
abbrev pub with_text : List (List ℕ) → List ℕ → List (List ℕ)
with_text known t = if is_known known t then known else known ++ t ∷ []

-- the texts that aren't known, each once, where it first stands
abbrev pub added : List (List ℕ) → List (List ℕ) → List (List ℕ)
added known [] = []
added known (t ∷ ts) = if is_known known t then added known ts else t ∷ added (known ++ t ∷ []) ts

-- the text is one of these, and isn't known
abbrev pub IsNewAmong : List (List ℕ) → List (List ℕ) → Option (List ℕ) → Type 0
IsNewAmong known texts None = ⊥
IsNewAmong known texts (Some t) = IsTrue (is_known texts t) × (is_known known t ≡ false)

-- how many texts of a condition aren't known: it is prepared where this is 0
abbrev pub lacking_regex : List (List ℕ) → Regex → ℕ
lacking_regex known regex.Any = 0
lacking_regex known (regex.Text text) = if is_known known text then 0 else 1

abbrev pub lacking_step : List (List ℕ) → Cond-F ℕ → ℕ
lacking_step known (layer.NameMatches r) = lacking_regex known r
lacking_step known (layer.PathMatches r) = lacking_regex known r
lacking_step known (layer.Not x) = x
lacking_step known (layer.All xs) = sum xs
lacking_step known (layer.Any xs) = sum xs
lacking_step known c = 0

abbrev pub lacking : List (List ℕ) → Cond → ℕ
lacking known = fold-Cond ℕ (lacking_step known)
