-- Names and paths compare as their terms do.
use Rattle.std.proofs.Common.{◌≡◌, List, [], ◌∷◌, map, ap, sym, ◌∙◌}
use Rattle.std.specs.Ordering.{nat_cmp, ordering_then}
use Rattle.kh_term.specs.declared.name.Name.{Name}
use Rattle.kh_term.specs.declared.name.Name.TheVariants as name
use Rattle.kh_term.specs.declared.tree.TermTree.TheVariants as tree
use Rattle.kh_term.specs.declared.tree.TermTree.TheVariants.{outs-Atom, outs-Bin, outs-Nil, outs-List}
use Rattle.kh_term.specs.declared.tree.TermTree.TheOpen as layer
use Rattle.kh_term.specs.Make.{name_tree, path_tree}
use Rattle.kh_term.specs.Name.{name_cmp, path_cmp}
use Rattle.kh_term.specs.Order.{term_cmp, rank_of, compare_lists, compared}
use Rattle.kh_term.specs.Lemmas.Orders.{seen, order-Atom, order-Bin, order-Nil, order-List, alike-Atom, alike-Bin, alike-Nil, alike-List}

pub name_as_term : (m n : Name) → name_cmp m n ≡ term_cmp (name_tree m) (name_tree n)
name_as_term (name.Atom x) (name.Atom y) = sym (alike-Atom x y)
name_as_term (name.Atom x) (name.Bin y) = sym (order-Atom x (tree.Bin y) ∙ seen (layer.Atom x) (tree.Bin y) _ (outs-Bin y))
name_as_term (name.Bin x) (name.Atom y) = sym (order-Bin x (tree.Atom y) ∙ seen (layer.Bin x) (tree.Atom y) _ (outs-Atom y))
name_as_term (name.Bin x) (name.Bin y) = sym (alike-Bin x y)

names_as_lists : (p q : List Name) → path_cmp p q ≡ compare_lists (map compared (map name_tree p)) (compared tree.Nil) (map name_tree q) tree.Nil
names_as_lists [] [] = sym alike-Nil
names_as_lists [] (n ∷ q) = sym (ap (λ l. nat_cmp (rank_of l) 6) outs-Nil)
names_as_lists (m ∷ p) [] = sym (ap (λ l. nat_cmp 6 (rank_of l)) outs-Nil)
names_as_lists (m ∷ p) (n ∷ q) = λ i. ordering_then (name_as_term m n i) (names_as_lists p q i)

pub path_as_term : (p q : List Name) → path_cmp p q ≡ term_cmp (path_tree p) (path_tree q)
path_as_term [] [] = sym alike-Nil
path_as_term [] (n ∷ q) = sym (order-Nil (path_tree (n ∷ q)) ∙ seen layer.Nil (path_tree (n ∷ q)) _ (outs-List (map name_tree (n ∷ q)) tree.Nil))
path_as_term (m ∷ p) [] = sym (order-List (map name_tree (m ∷ p)) tree.Nil tree.Nil ∙ seen (layer.List (map compared (map name_tree (m ∷ p))) (compared tree.Nil)) tree.Nil _ outs-Nil)
path_as_term (m ∷ p) (n ∷ q) = names_as_lists (m ∷ p) (n ∷ q) ∙ sym (alike-List (map name_tree (m ∷ p)) (map name_tree (n ∷ q)) tree.Nil tree.Nil)
