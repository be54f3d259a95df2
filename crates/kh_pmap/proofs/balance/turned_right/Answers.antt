use Rattle.std.proofs.Common.{◌≡◌, sym, ap, subst, ◌∙◌, ◌∷◌, ◌++◌, IfOk}
use Rattle.kh_pmap.specs.Entries.{entries, held, joined}
use Rattle.kh_pmap.proofs.Ends.{one_up, two_up}
use Rattle.kh_pmap.proofs.Layers.{opened}
use Rattle.kh_pmap.proofs.balance.turned_right.Goals as goal

pub returns-in_ok-high-in-Fork-right : goal.returns-in_ok-high-in-Fork-right
returns-in_ok-high-in-Fork-right g c =
    let n = c.as_ref-node.result.now in
    let m = c.as_ref-inner.result.now in
    let last : g.row.K.Denot × g.row.V.Denot = (held c.args.key.now, held c.args.value.now) in
    let inner : entries n.right ≡ joined m.left (held m.key) (held m.value) m.right = opened _ _ _ c.in-Fork-right.is c.as_ref-inner.ensures in
    let left : entries c.args.left.now ≡ joined n.left (held n.key) (held n.value) n.right = opened _ _ _ c.in-Fork.is c.as_ref-node.ensures in
    let whole : entries c.args.left.now ≡ entries n.left ++ (held n.key, held n.value) ∷ joined m.left (held m.key) (held m.value) m.right =
    left ∙ ap (λ es. entries n.left ++ (held n.key, held n.value) ∷ es) inner in
    subst (λ l. IfOk c.fork-in-Fork-right-3.result (λ made. entries made ≡ l))
    (ap (λ es. es ++ (held m.key, held m.value) ∷ entries c.in_ok-high-in-Fork-right.high) c.in_ok-low-in-Fork-right.ensures
    ∙ ap (λ es. joined n.left (held n.key) (held n.value) m.left ++ (held m.key, held m.value) ∷ es) c.in_ok-high-in-Fork-right.ensures
    ∙ two_up (entries n.left) (held n.key, held n.value) (entries m.left) (held m.key, held m.value) (entries m.right) last (entries c.args.right.now)
    ∙ ap (λ es. es ++ last ∷ entries c.args.right.now) (sym whole))
    c.fork-in-Fork-right-3.ensures

pub returns-in_ok-high-in_default-right : goal.returns-in_ok-high-in_default-right
returns-in_ok-high-in_default-right g c =
    let n = c.as_ref-node.result.now in
    let last : g.row.K.Denot × g.row.V.Denot = (held c.args.key.now, held c.args.value.now) in
    let left : entries c.args.left.now ≡ joined n.left (held n.key) (held n.value) n.right = opened _ _ _ c.in-Fork.is c.as_ref-node.ensures in
    subst (λ l. IfOk c.fork-in_default-right-2.result (λ made. entries made ≡ l))
    (ap (λ es. entries n.left ++ (held n.key, held n.value) ∷ es) c.in_ok-high-in_default-right.ensures
    ∙ one_up (entries n.left) (held n.key, held n.value) (entries n.right) last (entries c.args.right.now)
    ∙ ap (λ es. es ++ last ∷ entries c.args.right.now) (sym left))
    c.fork-in_default-right-2.ensures
