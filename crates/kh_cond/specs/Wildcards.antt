-- Where the atom `_` stands in a pattern of data.
use Rattle.std.specs.Prelude.{Bool, false, ◌||◌, codes}
use Rattle.std.specs.List.{list_any}
use Rattle.std.specs.Str.{bytes_eq}
use Rattle.kh_term.specs.declared.tree.TermTree.{TermTree}
use Rattle.kh_term.specs.declared.tree.TermTree.TheOpen.{TermTree-F}
use Rattle.kh_term.specs.declared.tree.TermTree.TheOpen as layer
use Rattle.kh_term.specs.declared.tree.TermTree.TheFolds.{fold-TermTree}

-- in an element, a tail or a value; the keys of maps and functions are compared as they are
abbrev pub wild_step : TermTree-F Bool → Bool
wild_step (layer.Atom text) = bytes_eq text (codes "_")
wild_step (layer.List parts tail) = list_any (λ b. b) parts || tail
wild_step (layer.Tuple parts) = list_any (λ b. b) parts
wild_step (layer.Map pairs) = list_any (λ p. p.1) pairs
wild_step p = false

-- whether the atom `_` stands in a pattern for any term
abbrev pub has_wildcard : TermTree → Bool
has_wildcard = fold-TermTree Bool wild_step
