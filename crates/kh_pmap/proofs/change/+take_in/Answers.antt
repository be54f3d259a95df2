use Rattle.std.proofs.Common.{◌≡◌, sym, ◌∙◌, ap, subst, rules, ◌∷◌, ◌++◌, IfOk}
use Rattle.std.specs.declared.cmp.Ordering.TheVariants.{Less, Equal, Greater}
use Rattle.kh_pmap.proofs.Layers.{opened}
use Rattle.kh_pmap.specs.Entries.{entries, held, joined}
use Rattle.kh_pmap.proofs.Between.{others_left, others_here, others_right, sorted_left, sorted_right}
use Rattle.kh_pmap.proofs.change.+take_in.Goals as goal

pub returns-in_ok-left-in-Less : goal.returns-in_ok-left-in-Less
returns-in_ok-left-in-Less g t c =
    let n = c.as_ref-node.result.now in
    let es : entries c.args.tree.now ≡ joined n.left (held n.key) (held n.value) n.right = opened _ _ _ c.in-Fork.is c.as_ref-node.ensures in
    let way : g.K.Ord.cmp (c.args.key.now) (held n.key) ≡ Less = search rules in
    rw es (λ s. subst (λ l. IfOk c.balanced.result (λ made. entries made ≡ l))
    (ap (λ l. l ++ (held n.key, held n.value) ∷ entries n.right) (c.in_ok-left-in-Less.ensures (sorted_left _ (entries n.left) _ _ s))
    ∙ sym (others_left g.met.K.Ord.total _ (entries n.left) _ _ s way))
    c.balanced.ensures)

pub returns-in-Equal : goal.returns-in-Equal
returns-in-Equal g t c =
    let n = c.as_ref-node.result.now in
    let es : entries c.args.tree.now ≡ joined n.left (held n.key) (held n.value) n.right = opened _ _ _ c.in-Fork.is c.as_ref-node.ensures in
    let way : g.K.Ord.cmp (c.args.key.now) (held n.key) ≡ Equal = search rules in
    rw es (λ s. subst (λ l. IfOk c.appended.result (λ made. entries made ≡ l))
    (sym (others_here g.met.K.Ord.total _ (entries n.left) _ _ s way))
    c.appended.ensures)

pub returns-in_ok-right-in-Greater : goal.returns-in_ok-right-in-Greater
returns-in_ok-right-in-Greater g t c =
    let n = c.as_ref-node.result.now in
    let es : entries c.args.tree.now ≡ joined n.left (held n.key) (held n.value) n.right = opened _ _ _ c.in-Fork.is c.as_ref-node.ensures in
    let way : g.K.Ord.cmp (c.args.key.now) (held n.key) ≡ Greater = search rules in
    rw es (λ s. subst (λ l. IfOk c.balanced-in-Greater.result (λ made. entries made ≡ l))
    (ap (λ l. entries n.left ++ (held n.key, held n.value) ∷ l) (c.in_ok-right-in-Greater.ensures (sorted_right _ (entries n.left) _ _ s))
    ∙ sym (others_right g.met.K.Ord.total _ (entries n.left) _ _ s way))
    c.balanced-in-Greater.ensures)
