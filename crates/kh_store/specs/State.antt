-- A state of the store, and what commands do to it.
use Rattle.std.specs.Prelude.{ℕ, ◌+◌, Bool, true, ◌&&◌, nat_le, List, [], ◌∷◌, ◌++◌, length, if◌then◌else◌}
use Rattle.kh_term.specs.declared.tree.TermTree.{TermTree}
use Rattle.kh_text_defs.specs.Shown.{shown_line}
use Rattle.kh_read.specs.declared.form.Form.{Form}
use Rattle.kh_read.specs.declared.form.Form.TheVariants as form
use Rattle.kh_store.specs.Tree.{Node, root}
use Rattle.kh_store.specs.Machine.{store_full, is_logged, reply_to, after}
use Rattle.kh_store.specs.Command.{put_bytes}

-- The tree, and how many bytes of the log stand before its last gate.
pub record State : Type 0 where
  pub nodes : List Node
  pub span : ℕ

-- the empty store
abbrev pub empty : State
empty = record { nodes = root; span = 0 }

-- the greatest length of a log, in bytes
abbrev pub log_limit : ℕ
log_limit = 134217728

-- no command is longer than this as it is logged, in bytes
abbrev pub command_limit : ℕ
command_limit = 2097152

-- whether the log has room for the record of a command: its length in four bytes, its bytes and a gate, behind the last gate
abbrev pub log_has_room : Form → ℕ → Bool
log_has_room (form.Put path number) span = nat_le (span + 6 + length (put_bytes path number)) log_limit
log_has_room (form.Get path) span = true

-- how far the last gate of the log moves where a command is logged
abbrev pub record_span : Form → ℕ
record_span (form.Put path number) = 5 + length (put_bytes path number)
record_span (form.Get path) = 0

-- whether a command is logged: it is one that the tree has room for, and so has the log
abbrev pub store_logs : Form → State → Bool
store_logs form s = log_has_room form s.span && is_logged form s.nodes

-- the records that a command adds to the log: where it is logged, one, its packed bytes
abbrev pub records_logged : Form → State → List (List ℕ)
records_logged (form.Put path number) s = if store_logs (form.Put path number) s then put_bytes path number ∷ [] else []
records_logged (form.Get path) s = []

-- the reply to a command
abbrev pub store_reply : Form → State → TermTree
store_reply form s = if log_has_room form s.span then reply_to form s.nodes else store_full

-- the state that it leaves: the same where it isn't logged
abbrev pub store_after : Form → State → State
store_after form s = if store_logs form s then record { nodes = after form s.nodes; span = s.span + record_span form } else s

-- the state after several commands
abbrev pub state_after : List Form → State → State
state_after [] s = s
state_after (form ∷ forms) s = state_after forms (store_after form s)

-- the replies to them, one line each
abbrev pub text_of : List Form → State → List ℕ
text_of [] s = []
text_of (form ∷ forms) s = shown_line (store_reply form s) ++ text_of forms (store_after form s)
