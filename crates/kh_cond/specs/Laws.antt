-- The laws of conditions.
use Rattle.std.specs.Prelude.{◌≡◌, true, false, not, List, [], Option, None, codes}
use Rattle.kh_term.specs.declared.term.Term.{Term}
use Rattle.kh_term.specs.declared.tree.TermTree.{TermTree}
use Rattle.kh_term.specs.declared.tree.TermTree.TheVariants as tree
use Rattle.kh_term.specs.declared.view.NodeView.{NodeView}
use Rattle.kh_cond.specs.declared.cond.Cond.{Cond}
use Rattle.kh_cond.specs.declared.cond.Cond.TheVariants as cond
use Rattle.kh_cond.specs.declared.component.Component.{Component}
use Rattle.kh_cond.specs.Holds.{Search, holds}
use Rattle.kh_cond.specs.Matching.{matches_data}
use Rattle.kh_cond.specs.NoLarger.{IsNoLarger}
use Rattle.kh_cond.specs.Wildcards.{has_wildcard}
use Rattle.kh_cond.specs.Short.{cond_tree, pattern_tree}
use Rattle.kh_cond.specs.Spells.{SpellsCond, SpellsPattern}
use Rattle.kh_cond.specs.Watched.{Watched, SpellsWatching, watching_tree}

-- `if_not` turns each judgement round.
abbrev pub NotTurns : Type 0
NotTurns = (search : Search) (view : Option NodeView) (c : Cond) → holds search view (cond.Not c) ≡ not (holds search view c)

-- An empty `if_all` holds of every view, of a missing one too.
abbrev pub EmptyAllHolds : Type 0
EmptyAllHolds = (search : Search) (view : Option NodeView) → holds search view (cond.All []) ≡ true

-- An empty `if_any` holds of none.
abbrev pub EmptyAnyFails : Type 0
EmptyAnyFails = (search : Search) (view : Option NodeView) → holds search view (cond.Any []) ≡ false

-- What holds of a missing node doesn't depend on what is found.
abbrev pub MissingNeedsNoSearch : Type 0
MissingNeedsNoSearch = (search other : Search) (c : Cond) → holds search None c ≡ holds other None c

-- The atom `_` matches all data.
abbrev pub UnderscoreMatchesAll : Type 0
UnderscoreMatchesAll = (datum : Term) → matches_data (tree.Atom (codes "_")) datum.node ≡ true

-- A pattern in which `_` stands nowhere but in the keys of maps and in functions matches no other term than itself.
abbrev pub PlainPatternMatchesOne : Type 0
PlainPatternMatchesOne =
    (pattern datum : Term) → has_wildcard pattern.node ≡ false → matches_data pattern.node datum.node ≡ true → pattern ≡ datum

-- Each term matches itself.
abbrev pub EachMatchesItself : Type 0
EachMatchesItself = (t : Term) → matches_data t.node t.node ≡ true

-- A term spells at most one condition.
abbrev pub SpellsAtMostOne : Type 0
SpellsAtMostOne = (t : TermTree) (c d : Cond) → SpellsCond t c → SpellsCond t d → c ≡ d

-- The short spelling of a condition that a term spells is a spelling of it.
abbrev pub ShortIsSpelling : Type 0
ShortIsSpelling = (t : TermTree) (c : Cond) → SpellsCond t c → SpellsCond (cond_tree c) c

-- A term spells at most one pattern.
abbrev pub PatternSpellsAtMostOne : Type 0
PatternSpellsAtMostOne = (t : TermTree) (p q : List Component) → SpellsPattern t p → SpellsPattern t q → p ≡ q

-- The short spelling of a pattern that a term spells is a spelling of it.
abbrev pub ShortPatternIsSpelling : Type 0
ShortPatternIsSpelling = (t : TermTree) (q : List Component) → SpellsPattern t q → SpellsPattern (pattern_tree q) q

-- A term spells at most one list of watched paths.
abbrev pub WatchingSpellsAtMostOne : Type 0
WatchingSpellsAtMostOne = (t : TermTree) (p q : List (Watched × Cond)) → SpellsWatching t p → SpellsWatching t q → p ≡ q

-- The short spelling of watched paths that a term spells is a spelling of them.
abbrev pub ShortWatchingIsSpelling : Type 0
ShortWatchingIsSpelling = (t : TermTree) (ws : List (Watched × Cond)) → SpellsWatching t ws → SpellsWatching (watching_tree ws) ws

-- The short spelling of a condition is no larger than any spelling of it.
abbrev pub ShortIsNoLarger : Type 0
ShortIsNoLarger = (t : TermTree) (c : Cond) → SpellsCond t c → IsNoLarger (cond_tree c) t

-- The short spelling of a pattern is no larger than any spelling of it.
abbrev pub ShortPatternIsNoLarger : Type 0
ShortPatternIsNoLarger = (t : TermTree) (q : List Component) → SpellsPattern t q → IsNoLarger (pattern_tree q) t

-- The short spelling of watched paths is no larger than any spelling of them.
abbrev pub ShortWatchingIsNoLarger : Type 0
ShortWatchingIsNoLarger = (t : TermTree) (ws : List (Watched × Cond)) → SpellsWatching t ws → IsNoLarger (watching_tree ws) t
