-- What a built-in answers.
use Rattle.std.specs.Prelude.{ℕ, Bool, List, [], ◌∷◌, codes, if◌then◌else◌}
use Rattle.kh_term.specs.declared.kinds.Class.{Class}
use Rattle.kh_term.specs.declared.kinds.Class.TheVariants as class
use Rattle.kh_term.specs.declared.tree.TermTree.{TermTree}
use Rattle.kh_term.specs.declared.tree.TermTree.TheVariants as tree
use Rattle.kh_term.specs.Limits.{is_small}

-- a value, or a raise of a class with a reason
pub data Answer : Type 0 where
  Value : TermTree → Answer
  Raise : Class → TermTree → Answer

-- a raise of class `error` whose reason is the atom of this text
abbrev pub error_of : List ℕ → Answer
error_of text = Raise class.Error (tree.Atom text)

abbrev pub badarg : Answer
badarg = error_of (codes "badarg")

abbrev pub badarith : Answer
badarith = error_of (codes "badarith")

abbrev pub system_limit : Answer
system_limit = error_of (codes "system_limit")

-- `{badmap,V}`
abbrev pub badmap : TermTree → Answer
badmap v = Raise class.Error (tree.Tuple (tree.Atom (codes "badmap") ∷ v ∷ []))

-- `true` or `false`
abbrev pub boolean : Bool → Answer
boolean b = Value (tree.Atom (if b then codes "true" else codes "false"))

-- a term past the limits of size and depth is no answer, as a value or as a reason: then it is `system_limit`
abbrev pub limited : Answer → Answer
limited (Value t) = if is_small t then Value t else system_limit
limited (Raise c reason) = if is_small reason then Raise c reason else system_limit
