use Rattle.std.proofs.Common.{◌≡◌, ◌∙◌, Some}
use Rattle.std.specs.Option.{option_map}
use Rattle.std.specs.Map.Iter.{deref_pair}
use Rattle.kh_pmap.specs.Entries.{entries, held, joined}
use Rattle.kh_pmap.proofs.Ends.{some_stays, last_here, last_behind}
use Rattle.kh_pmap.proofs.Layers.{opened}
use Rattle.kh_pmap.proofs.search.+last_in.Goals as goal

pub returns-in-None : goal.returns-in-None
returns-in-None g t c =
    let n = c.as_ref-node.result.now in
    let es : entries c.args.tree.now ≡ joined n.left (held n.key) (held n.value) n.right = opened _ _ _ c.in-Fork.is c.as_ref-node.ensures in
    let here : Some (deref_pair (c.as_ref.result, c.as_ref-in-None.result)) ≡ Some (held n.key, held n.value) = λ i. Some (c.as_ref.ensures i, c.as_ref-in-None.ensures i) in
    rw es (here ∙ last_here (entries n.left) (held n.key, held n.value) (entries n.right) c.in-None.ensures)

pub returns-in_default : goal.returns-in_default
returns-in_default g t c =
    let n = c.as_ref-node.result.now in
    let es : entries c.args.tree.now ≡ joined n.left (held n.key) (held n.value) n.right = opened _ _ _ c.in-Fork.is c.as_ref-node.ensures in
    let some = some_stays deref_pair c.last_in.result c.in_default.not-None in
    rw es (last_behind (option_map deref_pair c.last_in.result) (entries n.left) (held n.key, held n.value) (entries n.right) some c.last_in.ensures)
