-- Terms that stand for names, paths, origins and functions.
use Rattle.std.specs.Prelude.{ℕ, Bool, true, false, ◌&&◌, nat_le, if◌then◌else◌, List, [], ◌∷◌, length, map, Option, Some, None, ℤ, pos, negsuc}
use Rattle.kh_term.specs.declared.limits.TheConstants.{MOST_ARITY, MOST_NAMES}
use Rattle.kh_term.specs.declared.name.Name.{Name}
use Rattle.kh_term.specs.declared.name.Name.TheVariants as name
use Rattle.kh_term.specs.declared.name.Origin.{Origin}
use Rattle.kh_term.specs.declared.term.Closure.{Closure}
use Rattle.kh_term.specs.declared.tree.TermTree.{TermTree, out-TermTree}
use Rattle.kh_term.specs.declared.tree.TermTree.TheOpen.{TermTree-F}
use Rattle.kh_term.specs.declared.tree.TermTree.TheOpen as layer
use Rattle.kh_term.specs.declared.tree.TermTree.TheVariants as tree
use Rattle.kh_term.specs.Name.{is_name}
use Rattle.kh_term.specs.Size.{is_nil}

-- ---- names and paths

-- a name, where it may name a node
abbrev pub named : Name → Option Name
named n = if is_name n then Some n else None

abbrev pub name_in : {A : Type 0} → TermTree-F A → Option Name
name_in (layer.Atom text) = named (name.Atom text)
name_in (layer.Bin bytes) = named (name.Bin bytes)
name_in l = None

-- the name that a term stands for: an atom or a binary that may name a node
abbrev pub name_of : TermTree → Option Name
name_of t = name_in (out-TermTree t)

abbrev pub in_front : Option Name → Option (List Name) → Option (List Name)
in_front (Some n) (Some names) = Some (n ∷ names)
in_front n names = None

-- the names of terms, where each stands for one
abbrev pub names_of : List TermTree → Option (List Name)
names_of [] = Some []
names_of (t ∷ ts) = in_front (name_of t) (names_of ts)

abbrev pub path_in : TermTree-F TermTree → Option (List Name)
path_in layer.Nil = Some []
path_in (layer.List parts tail) =
    if is_nil (out-TermTree tail) && nat_le (length parts) MOST_NAMES then names_of parts else None
path_in l = None

-- the path that a term stands for: a list of at most 32 names
abbrev pub path_of : TermTree → Option (List Name)
path_of t = path_in (out-TermTree t)

-- ---- origins

-- an origin as a term: the triple of its module, its name and its arity
abbrev pub origin_tree : Origin → TermTree
origin_tree o = tree.Tuple (tree.Atom o.module ∷ tree.Atom o.name ∷ tree.Int (pos o.arity) ∷ [])

abbrev pub atom_in : {A : Type 0} → TermTree-F A → Option (List ℕ)
atom_in (layer.Atom text) = Some text
atom_in l = None

abbrev pub arity_within : ℤ → Option ℕ
arity_within (pos n) = if nat_le n MOST_ARITY then Some n else None
arity_within (negsuc n) = None

abbrev pub arity_in : {A : Type 0} → TermTree-F A → Option ℕ
arity_in (layer.Int number) = arity_within number
arity_in l = None

abbrev pub origin_with : Option (List ℕ) → Option (List ℕ) → Option ℕ → Option Origin
origin_with (Some m) (Some f) (Some a) = Some record { «module» = m; name = f; arity = a }
origin_with m f a = None

abbrev pub origin_of_parts : List TermTree → Option Origin
origin_of_parts (m ∷ f ∷ a ∷ []) =
    origin_with (atom_in (out-TermTree m)) (atom_in (out-TermTree f)) (arity_in (out-TermTree a))
origin_of_parts ts = None

abbrev pub origin_in : TermTree-F TermTree → Option Origin
origin_in (layer.Tuple parts) = origin_of_parts parts
origin_in l = None

-- the origin that a term stands for: a tuple of two atoms and an integer from 0 to 255
abbrev pub origin_of : TermTree → Option Origin
origin_of t = origin_in (out-TermTree t)

-- ---- functions

abbrev pub is_closure : {A : Type 0} → TermTree-F A → Bool
is_closure (layer.Closure origin env) = true
is_closure l = false

-- where a function was written
abbrev pub closure_origin : Closure → Origin
closure_origin c = record { «module» = c.module; name = c.name; arity = c.arity }

-- a function as a term
abbrev pub closure_tree : Closure → TermTree
closure_tree c = tree.Closure (closure_origin c) c.env.nodes
