-- What a node holds.
use Rattle.std.proofs.Common.{◌≡◌, refl, sym, ap, ◌∙◌, ◌∷◌, ◌++◌}
use denote.Hole.Carrier.{hidden}
use Rattle.kh_shared.specs.declared.shared.Shared.{Shared}
use Rattle.kh_pmap.specs.declared.tree.Tree.{Tree, Fork}
use Rattle.kh_pmap.specs.declared.tree.Tree.TheBlock.{hidden-the_row-Node-0}
use Rattle.kh_pmap.specs.declared.tree.Node.{Node}
use Rattle.kh_pmap.specs.Entries.{entries, held, joined}

module _ {K V : Type 0} where
  pub forked : (s : Shared (Node K V)) → entries (Fork s) ≡ joined s.value.left (held s.value.key) (held s.value.value) s.value.right
  unfolding hidden-the_row-Node-0 hidden
  forked s = refl

  pub opened : (t : Tree K V) (s : Shared (Node K V)) (n : Node K V) → t ≡ Fork s → n ≡ s.value → entries t ≡ joined n.left (held n.key) (held n.value) n.right
  opened t s n fork node = ap entries fork ∙ forked s ∙ ap (λ m. joined m.left (held m.key) (held m.value) m.right) (sym node)
