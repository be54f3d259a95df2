use Rattle.std.proofs.Common.{◌≡◌, sym, ap, subst, ◌∙◌, ◌++◌, IfOk}
use Rattle.kh_pmap.specs.Entries.{entries, held, joined}
use Rattle.kh_pmap.proofs.Layers.{opened}
use Rattle.kh_pmap.proofs.change.appended.Goals as goal

pub returns : goal.returns
returns g c =
    let n = c.as_ref-node.result.now in
    let es : entries c.args.right.now ≡ joined n.left (held n.key) (held n.value) n.right = opened _ _ _ c.in-Fork.is c.as_ref-node.ensures in
    subst (λ l. IfOk c.balanced.result (λ made. entries made ≡ l))
    (ap (λ l. entries c.args.left.now ++ l) (c.in_ok-first.ensures ∙ sym es))
    c.balanced.ensures
