use Rattle.std.proofs.Common.{◌≡◌, subst, sym, ap, ◌∙◌, [], ◌∷◌, List}
use Rattle.std.specs.FinMap.{put}
use Rattle.kh_term.specs.Name.{path_cmp}
use Rattle.kh_tree.specs.Entries.{Counts, nodes_of, none_to_come}
use Rattle.kh_tree.specs.Nodes.{Reads}
use Rattle.kh_tree.specs.Writes.{root_alone}
use Rattle.kh_tree.proofs.Root.{counts_root, reads_root}
use Rattle.kh_tree.proofs.tree.root_map.Goals as goal

pub returns-in-Ok-with-clause-counts : goal.returns-in-Ok-with-clause-counts
returns-in-Ok-with-clause-counts g c =
    subst (λ es. Counts es none_to_come)
    (sym (c.in-Ok-with.ensures ∙ ap (put path_cmp c.in-Some.path c.in-Ok.entry) c.new-map.ensures))
    (counts_root c.in-Some.path c.in-Ok.entry (c.in-Some.ensures.value ∙ c.new.ensures.items) c.in-Ok.ensures.node c.in-Ok.ensures.children)

pub returns-in-Ok-with-clause-root : goal.returns-in-Ok-with-clause-root
returns-in-Ok-with-clause-root g c =
    subst (λ es. Reads (nodes_of es) root_alone)
    (sym (c.in-Ok-with.ensures ∙ ap (put path_cmp c.in-Some.path c.in-Ok.entry) c.new-map.ensures))
    (reads_root c.in-Some.path c.in-Ok.entry (c.in-Some.ensures.value ∙ c.new.ensures.items) c.in-Ok.ensures.node c.in-Ok.ensures.children)
