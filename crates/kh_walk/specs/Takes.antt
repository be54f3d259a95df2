-- Which paths a pattern takes. It knows nothing of places, rows or a walk.
use Rattle.std.specs.Prelude.{◌≡◌, ℕ, ◌+◌, ◌<◌, List, [], ◌∷◌, ◌++◌, length, map, take, IsTrue}
use Rattle.std.specs.FinMap.{contains_key}
use Rattle.std.specs.List.{list_all, join_with_byte}
use Rattle.kh_cond.specs.declared.component.Component.{Component}
use Rattle.kh_cond.specs.declared.component.Component.TheVariants as component
use Rattle.kh_cond.specs.declared.cond.Cond.{Cond}
use Rattle.kh_cond.specs.declared.cond.Regex.{Regex}
use Rattle.kh_cond.specs.Holds.{Search, holds, is_found}
use Rattle.kh_term.specs.declared.name.Name.{Name}
use Rattle.kh_term.specs.Name.{name_text}
use Rattle.kh_tree.specs.Nodes.{Nodes, view_of}

-- the bytes of names, joined by `/`
abbrev pub joined : List Name → List ℕ
joined names = join_with_byte 47 (map name_text names)

-- names of which a front and the rest are as these say
pub record Parts (Front : List Name → Type 0) (Rest : List Name → List Name → Type 0) (names : List Name) : Type 0 where
  pub front : List Name
  pub rest : List Name
  pub whole : names ≡ front ++ rest
  pub front_is : Front front
  pub rest_is : Rest front rest

module _ {S : Type 0} (search : Search) (m : Nodes S) where
  -- one name after a path: a node is there, and the condition holds of it
  pub record TakesOne (above : List Name) (c : Cond) (names : List Name) : Type 0 where
    pub one : length names ≡ 1
    pub node : IsTrue (contains_key m (above ++ names))
    pub holds : IsTrue (holds search (view_of m (above ++ names)) c)

  -- One or more names after a path: each node on them is there, the regular expression is found in them joined, and the further
  -- conditions hold of the last.
  pub record TakesMany (above : List Name) (regex : Regex) (further : List Cond) (names : List Name) : Type 0 where
    pub some : 0 < length names
    pub nodes : (k : ℕ) → k < length names → IsTrue (contains_key m (above ++ take (k + 1) names))
    pub found : IsTrue (is_found search regex (joined names))
    pub hold : IsTrue (list_all (holds search (view_of m (above ++ names))) further)

  -- whether a component takes names, after a path
  abbrev pub Takes : List Name → Component → List Name → Type 0
  Takes above (component.One c) names = TakesOne above c names
  Takes above (component.Many regex) names = TakesMany above regex [] names
  Takes above (component.ManyAll regex further) names = TakesMany above regex further names

  -- Whether components take names, after a path: nothing takes nothing, and otherwise the first component takes a front of the
  -- names and the others take the rest.
  abbrev pub AllTake : List Name → List Component → List Name → Type 0
  AllTake above [] names = names ≡ []
  AllTake above (c ∷ cs) names = Parts (Takes above c) (λ front rest. AllTake (above ++ front) cs rest) names

  -- a pattern matches a path
  abbrev pub Matches : List Component → List Name → Type 0
  Matches q path = AllTake [] q path
