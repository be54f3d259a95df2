use Rattle.std.proofs.Common.{◌≡◌, sym, ◌∙◌, ap, rules, Some}
use Rattle.std.specs.declared.cmp.Ordering.TheVariants.{Less, Equal, Greater}
use Rattle.kh_pmap.proofs.Layers.{opened}
use Rattle.kh_pmap.specs.Entries.{entries, held, joined}
use Rattle.kh_pmap.proofs.Between.{find_left, find_here, find_right, sorted_left, sorted_right}
use Rattle.kh_pmap.proofs.search.+find_in.Goals as goal

pub returns-in-Less : goal.returns-in-Less
returns-in-Less g t c =
    let n = c.as_ref-node.result.now in
    let es : entries c.args.tree.now ≡ joined n.left (held n.key) (held n.value) n.right = opened _ _ _ c.in-Fork.is c.as_ref-node.ensures in
    let way : g.K.Ord.cmp c.args.key.now (held n.key) ≡ Less = search rules in
    rw es (λ s. c.find_in.ensures (sorted_left _ (entries n.left) _ _ s) ∙ sym (find_left g.met.K.Ord.total _ _ _ _ s way))

pub returns-in-Equal : goal.returns-in-Equal
returns-in-Equal g t c =
    let n = c.as_ref-node.result.now in
    let es : entries c.args.tree.now ≡ joined n.left (held n.key) (held n.value) n.right = opened _ _ _ c.in-Fork.is c.as_ref-node.ensures in
    let way : g.K.Ord.cmp c.args.key.now (held n.key) ≡ Equal = search rules in
    rw es (λ s. ap Some c.as_ref-in-Equal.ensures ∙ sym (find_here g.met.K.Ord.total _ _ _ _ s way))

pub returns-in-Greater : goal.returns-in-Greater
returns-in-Greater g t c =
    let n = c.as_ref-node.result.now in
    let es : entries c.args.tree.now ≡ joined n.left (held n.key) (held n.value) n.right = opened _ _ _ c.in-Fork.is c.as_ref-node.ensures in
    let way : g.K.Ord.cmp c.args.key.now (held n.key) ≡ Greater = search rules in
    rw es (λ s. c.find_in-in-Greater.ensures (sorted_right _ (entries n.left) _ _ s) ∙ sym (find_right g.met.K.Ord.total _ _ _ _ s way))
