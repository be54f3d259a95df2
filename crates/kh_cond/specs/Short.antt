-- The short spelling of conditions and patterns, with regular expressions as binaries and each comparison as it was read.
use Rattle.std.specs.Prelude.{List, ◌∷◌, map, codes}
use Rattle.kh_term.specs.declared.tree.TermTree.{TermTree}
use Rattle.kh_term.specs.declared.tree.TermTree.TheVariants as tree
use Rattle.kh_term.specs.Make.{list_of, name_tree}
use Rattle.kh_cond.specs.declared.cond.Regex.{Regex}
use Rattle.kh_cond.specs.declared.cond.Regex.TheVariants as regex
use Rattle.kh_cond.specs.declared.cond.Comparison.{Comparison}
use Rattle.kh_cond.specs.declared.cond.Comparison.TheVariants as comparison
use Rattle.kh_cond.specs.declared.cond.Cond.{Cond}
use Rattle.kh_cond.specs.declared.cond.Cond.TheOpen.{Cond-F}
use Rattle.kh_cond.specs.declared.cond.Cond.TheOpen as layer
use Rattle.kh_cond.specs.declared.cond.Cond.TheFolds.{fold-Cond}
use Rattle.kh_cond.specs.declared.component.Component.{Component}
use Rattle.kh_cond.specs.declared.component.Component.TheVariants as component
use Rattle.kh_cond.specs.Forms.{form, bool_tree, operator_word}

abbrev pub regex_tree : Regex → TermTree
regex_tree regex.Any = tree.Atom (codes "any")
regex_tree (regex.Text text) = tree.Bin text

abbrev pub comparison_tree : Comparison → TermTree
comparison_tree (comparison.Is n) = tree.Int n
comparison_tree (comparison.By op n) = form (operator_word op) (tree.Int n)

abbrev pub short_step : Cond-F TermTree → TermTree
short_step (layer.Name n) = name_tree n
short_step (layer.NodeExists b) = form (codes "if_node_exists") (bool_tree b)
short_step (layer.NameMatches r) = form (codes "if_name_matches") (regex_tree r)
short_step (layer.PathMatches r) = form (codes "if_path_matches") (regex_tree r)
short_step (layer.HasPayload b) = form (codes "if_has_payload") (bool_tree b)
short_step (layer.HasData b) = form (codes "if_has_data") (bool_tree b)
short_step (layer.HasSproc b) = form (codes "if_has_sproc") (bool_tree b)
short_step (layer.DataMatches pattern) = form (codes "if_data_matches") pattern.node
short_step (layer.PayloadVersion c) = form (codes "if_payload_version") (comparison_tree c)
short_step (layer.ChildListVersion c) = form (codes "if_child_list_version") (comparison_tree c)
short_step (layer.ChildListLength c) = form (codes "if_child_list_length") (comparison_tree c)
short_step (layer.Not x) = form (codes "if_not") x
short_step (layer.All xs) = form (codes "if_all") (list_of xs)
short_step (layer.Any xs) = form (codes "if_any") (list_of xs)

-- the short spelling of a condition
abbrev pub cond_tree : Cond → TermTree
cond_tree = fold-Cond TermTree short_step

abbrev pub component_tree : Component → TermTree
component_tree (component.One c) = cond_tree c
component_tree (component.Many r) = form (codes "if_path_matches") (regex_tree r)
component_tree (component.ManyAll r cs) =
    form (codes "if_all") (list_of (form (codes "if_path_matches") (regex_tree r) ∷ map cond_tree cs))

-- the short spelling of a pattern
abbrev pub pattern_tree : List Component → TermTree
pattern_tree cs = list_of (map component_tree cs)
