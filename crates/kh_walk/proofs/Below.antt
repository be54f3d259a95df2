-- What a pattern matches stands below the names with which it begins.
use Rattle.std.proofs.Common.{◌≡◌, ◌<◌, true, false, List, [], length, take, Option, Some, None, MatchOption, IsTrue, refl, sym, ◌∙◌, arith}
use Rattle.std.specs.FinMap.{get, contains_key}
use Rattle.std.specs.Option.{is_some}
use Rattle.kh_cond.specs.declared.component.Component.{Component}
use Rattle.kh_cond.specs.Holds.{Search}
use Rattle.kh_term.specs.declared.name.Name.{Name}
use Rattle.kh_tree.specs.Node.{Node}
use Rattle.kh_tree.specs.Nodes.{Nodes, IsRoot, IsTree}
use Rattle.kh_tree.proofs.Paths.{is_same, never}
use Rattle.kh_walk.specs.Found.{AreMatching}
use Rattle.kh_walk.specs.Front.{BeginsWith}
use Rattle.kh_walk.specs.Walked.{AreBelow}
use Rattle.kh_walk.proofs.Fronts.{begun}

module _ {S : Type 0} (search : Search) (m : Nodes S) (t : IsTree m) where
  root_key : contains_key m [] ≡ true
  root_key = of_root (get m []) t.root where
    of_root : (o : Option (Node S)) → MatchOption o ⊥ (IsRoot {S = S}) → is_some o ≡ true
    of_root None h = absurd h
    of_root (Some x) h = refl

  module _ (q : List Component) (start : List Name) (begins : BeginsWith q start) where
    -- so what is found there is all
    pub from_below : (found : List (List Name)) → AreBelow search m q start found → AreMatching search m q found
    from_below found are p = (
      λ a. let b = (are p).0 a in (b.node, b.matches),
      λ h. (are p).1 (record { node = h.0; below = is_same start (take (length start) p) (sym (begun search m start q [] p root_key begins h.1).front); matches = h.1 }),
    )

    -- and nothing is where no node has these names
    pub none_match : contains_key m start ≡ false → AreMatching search m q []
    none_match missing p = (λ a. absurd (let h = a.1.0 in omega (arith, h)), λ h. never (sym (begun search m start q [] p root_key begins h.1).node ∙ missing))
