-- A whole script in memory, over a tree without a log.
use Rattle.std.specs.Prelude.{◌≡◌, ℕ, true, List, [], ◌∷◌, ◌++◌}
use Rattle.kh_text_defs.specs.Shown.{shown_line}
use Rattle.kh_read.specs.declared.form.Form.{Form}
use Rattle.kh_store.specs.Tree.{Node, root}
use Rattle.kh_store.specs.Machine.{reply_to, after}
use Rattle.khepri.specs.Script.{Ending, Script}
use Rattle.khepri.specs.Run.{ending_status}

-- the tree after these forms
abbrev pub tree_after : List Form → List Node → List Node
tree_after [] nodes = nodes
tree_after (form ∷ forms) nodes = tree_after forms (after form nodes)

-- the replies to them, one line each
abbrev pub tree_text : List Form → List Node → List ℕ
tree_text [] nodes = []
tree_text (form ∷ forms) nodes = shown_line (reply_to form nodes) ++ tree_text forms (after form nodes)

-- The forms of a whole script are answered so from the root alone on, and the status says how the script ends.
pub record TextAndStatus (script text : List ℕ) (status : ℕ) : Type 0 where
  pub forms : List Form
  pub ending : Ending
  pub reads : Script true script forms ending
  pub replies : text ≡ tree_text forms root
  pub how : status ≡ ending_status ending
