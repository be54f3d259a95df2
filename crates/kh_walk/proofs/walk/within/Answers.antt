use Rattle.std.proofs.Common.{◌≡◌, true, false, cond, length, take, Some, None, ap, sym, ◌∙◌}
use Rattle.std.specs.List.{starts_with}
use Rattle.std.specs.Ordering.{eq_by_cmp}
use Rattle.kh_term.specs.Name.{name_cmp}
use Rattle.kh_tree.specs.Nodes.{begins}
use Rattle.kh_walk.proofs.Orders.{same_names}
use Rattle.kh_walk.proofs.walk.within.Goals as goal

pub returns-then-starts_with : goal.returns-then-starts_with
returns-then-starts_with c =
    let start = c.args.start.now in
    let next = c.args.next.now in
    let same : c.starts_with.result ≡ begins start next =
    c.starts_with.ensures.value ∙ (λ i. starts_with (eq_by_cmp name_cmp) (c.names.ensures.names i) (c.names-2.ensures.names i)) ∙ same_names start (take (length start) next) in
    sym (ap (λ b. cond b (Some next) None) (sym same ∙ c.if-starts_with.true))

pub returns-else-starts_with : goal.returns-else-starts_with
returns-else-starts_with c =
    let start = c.args.start.now in
    let next = c.args.next.now in
    let same : c.starts_with.result ≡ begins start next =
    c.starts_with.ensures.value ∙ (λ i. starts_with (eq_by_cmp name_cmp) (c.names.ensures.names i) (c.names-2.ensures.names i)) ∙ same_names start (take (length start) next) in
    sym (ap (λ b. cond b (Some next) None) (sym same ∙ c.if-starts_with.false))
