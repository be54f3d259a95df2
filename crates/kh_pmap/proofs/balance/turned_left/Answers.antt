use Rattle.std.proofs.Common.{◌≡◌, sym, ap, subst, ◌∙◌, ◌∷◌, ◌++◌, IfOk}
use Rattle.kh_pmap.specs.Entries.{entries, held, joined}
use Rattle.kh_pmap.proofs.Ends.{one_up, two_up}
use Rattle.kh_pmap.proofs.Layers.{opened}
use Rattle.kh_pmap.proofs.balance.turned_left.Goals as goal

pub returns-in_ok-high-in-Fork-left : goal.returns-in_ok-high-in-Fork-left
returns-in_ok-high-in-Fork-left g c =
    let n = c.as_ref-node.result.now in
    let m = c.as_ref-inner.result.now in
    let first : g.row.K.Denot × g.row.V.Denot = (held c.args.key.now, held c.args.value.now) in
    let inner : entries n.left ≡ joined m.left (held m.key) (held m.value) m.right = opened _ _ _ c.in-Fork-left.is c.as_ref-inner.ensures in
    let right : entries c.args.right.now ≡ joined n.left (held n.key) (held n.value) n.right = opened _ _ _ c.in-Fork.is c.as_ref-node.ensures in
    let whole : entries c.args.right.now ≡ joined m.left (held m.key) (held m.value) m.right ++ (held n.key, held n.value) ∷ entries n.right =
    right ∙ ap (λ es. es ++ (held n.key, held n.value) ∷ entries n.right) inner in
    subst (λ l. IfOk c.fork-in-Fork-left-3.result (λ made. entries made ≡ l))
    (ap (λ es. es ++ (held m.key, held m.value) ∷ entries c.in_ok-high-in-Fork-left.high) c.in_ok-low-in-Fork-left.ensures
    ∙ ap (λ es. joined c.args.left.now (held c.args.key.now) (held c.args.value.now) m.left ++ (held m.key, held m.value) ∷ es) c.in_ok-high-in-Fork-left.ensures
    ∙ two_up (entries c.args.left.now) first (entries m.left) (held m.key, held m.value) (entries m.right) (held n.key, held n.value) (entries n.right)
    ∙ sym (one_up (entries c.args.left.now) first (joined m.left (held m.key) (held m.value) m.right) (held n.key, held n.value) (entries n.right))
    ∙ ap (λ es. entries c.args.left.now ++ first ∷ es) (sym whole))
    c.fork-in-Fork-left-3.ensures

pub returns-in_ok-low-in_default-left : goal.returns-in_ok-low-in_default-left
returns-in_ok-low-in_default-left g c =
    let n = c.as_ref-node.result.now in
    let first : g.row.K.Denot × g.row.V.Denot = (held c.args.key.now, held c.args.value.now) in
    let right : entries c.args.right.now ≡ joined n.left (held n.key) (held n.value) n.right = opened _ _ _ c.in-Fork.is c.as_ref-node.ensures in
    subst (λ l. IfOk c.fork-in_default-left-2.result (λ made. entries made ≡ l))
    (ap (λ es. es ++ (held n.key, held n.value) ∷ entries n.right) c.in_ok-low-in_default-left.ensures
    ∙ sym (one_up (entries c.args.left.now) first (entries n.left) (held n.key, held n.value) (entries n.right))
    ∙ ap (λ es. entries c.args.left.now ++ first ∷ es) (sym right))
    c.fork-in_default-left-2.ensures
