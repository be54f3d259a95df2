-- Commands as they are logged.
use Rattle.std.specs.Prelude.{◌≡◌, ℕ, ℤ, Bool, true, false, ◌&&◌, nat_le, IsTrue, codes, List, [], ◌∷◌, length}
use Rattle.std.specs.List.{list_all}
use Rattle.kh_term.specs.declared.name.Name.{Name}
use Rattle.kh_term.specs.declared.name.Name.TheVariants as name
use Rattle.kh_term.specs.declared.tree.TermTree.{TermTree}
use Rattle.kh_term.specs.declared.tree.TermTree.TheVariants as tree
use Rattle.kh_term.specs.Make.{path_tree}
use Rattle.kh_term.specs.Name.{is_path}
use Rattle.kh_term.specs.Packed.{packed_of}
use Rattle.kh_term.specs.WellFormed.{IsTerm}
use Rattle.kh_read.specs.declared.form.Form.{Form}
use Rattle.kh_read.specs.declared.form.Form.TheVariants as form
use Rattle.kh_store.specs.Machine.{word}

-- the parts of the command of a put
abbrev pub put_parts : List Name → ℤ → List TermTree
put_parts path number = word (codes "put") ∷ path_tree path ∷ tree.Int number ∷ tree.Map [] ∷ []

-- the command of a put as it is logged: `{put,Path,Integer,#{}}`
abbrev pub put_command : List Name → ℤ → TermTree
put_command path number = tree.Tuple (put_parts path number)

-- its packed bytes
abbrev pub put_bytes : List Name → ℤ → List ℕ
put_bytes path number = packed_of (put_command path number)

abbrev pub is_atom : Name → Bool
is_atom (name.Atom text) = true
is_atom (name.Bin bytes) = false

-- a path of a logged put: 1 to 32 names, each an atom
abbrev pub is_atom_path : List Name → Bool
is_atom_path path = nat_le 1 (length path) && is_path path && list_all is_atom path

-- whether a form can be executed: a put is at such a path
abbrev pub is_command : Form → Bool
is_command (form.Put path number) = is_atom_path path
is_command (form.Get path) = true

-- These bytes are the command of this put: its path is 1 to 32 names, each an atom, and its integer has 128 bits.
pub record IsPut (bytes : List ℕ) (path : List Name) (number : ℤ) : Type 0 where
  pub packed : bytes ≡ put_bytes path number
  pub term : IsTerm (put_command path number)
  pub names : IsTrue (is_atom_path path)
