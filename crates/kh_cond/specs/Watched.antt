-- The paths that a node watches.
use Rattle.std.specs.Prelude.{◌≡◌, ◌+◌, ℕ, Bool, ◌&&◌, IsTrue, nat_le, List, [], ◌∷◌, ◌++◌, length, map, codes, Option, Some, None, if◌then◌else◌}
use Rattle.std.specs.List.{list_all, flat_map}
use Rattle.std.specs.Str.{bytes_eq}
use Rattle.kh_term.specs.declared.name.Name.{Name}
use Rattle.kh_term.specs.declared.text.Text.{Text}
use Rattle.kh_term.specs.declared.tree.TermTree.{TermTree, out-TermTree}
use Rattle.kh_term.specs.declared.tree.TermTree.TheOpen.{TermTree-F}
use Rattle.kh_term.specs.declared.tree.TermTree.TheOpen as layer
use Rattle.kh_term.specs.declared.tree.TermTree.TheVariants as tree
use Rattle.kh_term.specs.Make.{list_of, name_tree}
use Rattle.kh_term.specs.Name.{is_name}
use Rattle.kh_term.specs.Parts.{names_of}
use Rattle.kh_term.specs.WellFormed.{keys_rise}
use Rattle.kh_cond.specs.declared.cond.Cond.{Cond}
use Rattle.kh_cond.specs.declared.watching.Start.{Start}
use Rattle.kh_cond.specs.declared.watching.Start.TheVariants as start
use Rattle.kh_cond.specs.Reading.{cond_in, each, elements_of}
use Rattle.kh_cond.specs.Short.{cond_tree}
use Rattle.kh_cond.specs.Spells.{SpellsCond}
use Rattle.kh_cond.specs.Texts.{texts_of}

-- a watched path as it was written: where it begins, and the names from there on
abbrev pub Watched : Type 0
Watched = Start × List Name

-- `.` is the written node, `^` its parent, and without either a path begins at the root
abbrev pub start_terms : Start → List TermTree
start_terms start.Root = []
start_terms start.Node = tree.Atom (codes ".") ∷ []
start_terms start.Parent = tree.Atom (codes "^") ∷ []

-- names, and at most 32 components with the start counted
abbrev pub is_watched : Watched → Bool
is_watched w = nat_le (length (start_terms w.0) + length w.1) 32 && list_all is_name w.1

-- the term of a watched path, its only spelling
abbrev pub watched_tree : Watched → TermTree
watched_tree w = list_of (start_terms w.0 ++ map name_tree w.1)

-- the watched paths stand by their terms in rising order
abbrev pub paths_rise : List (Watched × Cond) → Bool
paths_rise ws = keys_rise (map (λ e. watched_tree e.0) ws)

-- the keys are watched paths, and the values spell their conditions
pub data SpellEntries : List (TermTree × TermTree) → List (Watched × Cond) → Type 0 where
  end : SpellEntries [] []
  next : (w : Watched) (t : TermTree) (c : Cond) (ps : List (TermTree × TermTree)) (ws : List (Watched × Cond)) →
      IsTrue (is_watched w) → SpellsCond t c → SpellEntries ps ws → SpellEntries ((watched_tree w, t) ∷ ps) ((w, c) ∷ ws)

-- a map from watched paths to conditions
abbrev pub SpellsWatching : TermTree → List (Watched × Cond) → Type 0
SpellsWatching t ws = (ps : List (TermTree × TermTree)) × (t ≡ tree.Map ps) × SpellEntries ps ws

-- no watched paths are spelled
abbrev pub IsNoWatching : TermTree → Type 0
IsNoWatching t = (ws : List (Watched × Cond)) → SpellsWatching t ws → ⊥

-- the short spelling
abbrev pub watching_tree : List (Watched × Cond) → TermTree
watching_tree ws = tree.Map (map (λ e. (watched_tree e.0, cond_tree e.1)) ws)

-- the texts of the conditions, in order of place
abbrev pub watching_texts : List (Watched × Cond) → List Text
watching_texts ws = flat_map (λ e. texts_of e.1) ws

-- ---- what a term is read as

abbrev pub start_of : List ℕ → Option Start
start_of text =
    if bytes_eq text (codes ".") then Some start.Node else (if bytes_eq text (codes "^") then Some start.Parent else None)

abbrev pub start_in : {A : Type 0} → TermTree-F A → Option Start
start_in (layer.Atom text) = start_of text
start_in l = None

abbrev pub watched_with : Start → Option (List Name) → Option Watched
watched_with s None = None
watched_with s (Some ns) = if is_watched (s, ns) then Some (s, ns) else None

abbrev pub watched_by : Option Start → TermTree → List TermTree → Option Watched
watched_by None t ts = watched_with start.Root (names_of (t ∷ ts))
watched_by (Some s) t ts = watched_with s (names_of ts)

abbrev pub watched_of : List TermTree → Option Watched
watched_of [] = Some (start.Root, [])
watched_of (t ∷ ts) = watched_by (start_in (out-TermTree t)) t ts

abbrev pub watched_elements : Option (List TermTree) → Option Watched
watched_elements None = None
watched_elements (Some ts) = watched_of ts

-- the watched path that a term is read as
abbrev pub watched_in : TermTree → Option Watched
watched_in t = watched_elements (elements_of (out-TermTree t))

abbrev pub entry_with : Option Watched → Option Cond → Option (Watched × Cond)
entry_with (Some w) (Some c) = Some (w, c)
entry_with w c = None

abbrev pub entry_in : TermTree × TermTree → Option (Watched × Cond)
entry_in p = entry_with (watched_in p.0) (cond_in p.1)

-- the watched paths and conditions that the pairs of a map are read as
abbrev pub entries_in : List (TermTree × TermTree) → Option (List (Watched × Cond))
entries_in ps = each entry_in ps

-- the keys and values of a map
abbrev pub pairs_in : TermTree-F TermTree → Option (List (TermTree × TermTree))
pairs_in (layer.Map ps) = Some ps
pairs_in l = None
