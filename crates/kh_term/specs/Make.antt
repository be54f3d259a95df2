-- Terms made of their parts.
use Rattle.std.specs.Prelude.{List, [], ◌∷◌, ◌++◌, map}
use Rattle.kh_term.specs.declared.name.Name.{Name}
use Rattle.kh_term.specs.declared.name.Name.TheVariants as name
use Rattle.kh_term.specs.declared.tree.TermTree.{TermTree, out-TermTree}
use Rattle.kh_term.specs.declared.tree.TermTree.TheOpen.{TermTree-F}
use Rattle.kh_term.specs.declared.tree.TermTree.TheOpen as layer
use Rattle.kh_term.specs.declared.tree.TermTree.TheVariants as tree

-- the list of these terms: nil where there are none
abbrev pub list_of : List TermTree → TermTree
list_of [] = tree.Nil
list_of (part ∷ parts) = tree.List (part ∷ parts) tree.Nil

-- these terms in front of a tail: a list goes on with the elements of a tail that is a list
abbrev pub in_front_of : List TermTree → TermTree-F TermTree → TermTree → TermTree
in_front_of parts (layer.List more tail) whole = tree.List (parts ++ more) tail
in_front_of parts l whole = tree.List parts whole

-- the list of these terms and a tail: the tail alone where there are none
abbrev pub list_with_tail : List TermTree → TermTree → TermTree
list_with_tail [] tail = tail
list_with_tail (part ∷ parts) tail = in_front_of (part ∷ parts) (out-TermTree tail) tail

-- a name as a term: its atom or its binary
abbrev pub name_tree : Name → TermTree
name_tree (name.Atom text) = tree.Atom text
name_tree (name.Bin bytes) = tree.Bin bytes

-- a path as a term: the list of its names
abbrev pub path_tree : List Name → TermTree
path_tree names = list_of (map name_tree names)
