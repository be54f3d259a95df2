-- What a command does to the tree, and its reply.
use Rattle.std.specs.Prelude.{ℕ, ℤ, Bool, false, codes, List, [], ◌∷◌, Option, Some, None, if◌then◌else◌}
use Rattle.kh_term.specs.declared.name.Name.{Name}
use Rattle.kh_term.specs.declared.tree.TermTree.{TermTree}
use Rattle.kh_term.specs.declared.tree.TermTree.TheVariants as tree
use Rattle.kh_term.specs.Make.{path_tree}
use Rattle.kh_read.specs.declared.form.Form.{Form}
use Rattle.kh_read.specs.declared.form.Form.TheVariants as form
use Rattle.kh_store.specs.Tree.{Node, node_at, put, has_room}

-- an atom with this text
abbrev pub word : List ℕ → TermTree
word text = tree.Atom text

-- `{ok,Value}`
abbrev pub ok_with : TermTree → TermTree
ok_with value = tree.Tuple (word (codes "ok") ∷ value ∷ [])

-- `{error,{khepri,node_not_found,#{node_path => Path}}}`
abbrev pub node_not_found : List Name → TermTree
node_not_found path =
    tree.Tuple (word (codes "error") ∷ tree.Tuple (word (codes "khepri") ∷ word (codes "node_not_found")
    ∷ tree.Map ((word (codes "node_path"), path_tree path) ∷ []) ∷ []) ∷ [])

-- the answer to a `get`: the data, `undefined` for a node without data, an error where there is no node
abbrev pub answer_of : Option (Option ℤ) → List Name → TermTree
answer_of None path = node_not_found path
answer_of (Some None) path = ok_with (word (codes "undefined"))
answer_of (Some (Some number)) path = ok_with (tree.Int number)

-- `{error,store_full}`
abbrev pub store_full : TermTree
store_full = tree.Tuple (word (codes "error") ∷ word (codes "store_full") ∷ [])

-- whether a form changes the tree, and so is logged
abbrev pub is_logged : Form → List Node → Bool
is_logged (form.Put path number) nodes = has_room nodes path number
is_logged (form.Get path) nodes = false

-- the reply to a form
abbrev pub reply_to : Form → List Node → TermTree
reply_to (form.Put path number) nodes = if has_room nodes path number then word (codes "ok") else store_full
reply_to (form.Get path) nodes = answer_of (node_at nodes path) path

-- the tree that it leaves
abbrev pub after : Form → List Node → List Node
after (form.Put path number) nodes = if has_room nodes path number then put nodes path number else nodes
after (form.Get path) nodes = nodes
