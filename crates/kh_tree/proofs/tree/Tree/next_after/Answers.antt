use Rattle.std.proofs.Common.{Some, None, subst}
use Rattle.kh_tree.specs.Nodes.{IsNext, NoneNext}
use Rattle.kh_tree.proofs.Next.{next_key}
use Rattle.kh_tree.proofs.tree.Tree.next_after.Goals as goal

pub returns-in-Some : goal.returns-in-Some
returns-in-Some g c =
    subst (λ m. IsNext m c.args.path.now c.in-Some.next.now) c.self.view_is
    (next_key c.self.inside.map c.self.invariant.rises c.args.path.now c.first_is_least.ensures (Some (c.in-Some.next.now, c.in-Some.field-0-1.now)) c.in-Some.ensures.entry)

pub returns-in-None : goal.returns-in-None
returns-in-None g c =
    subst (λ m. NoneNext m c.args.path.now) c.self.view_is
    (next_key c.self.inside.map c.self.invariant.rises c.args.path.now c.first_is_least.ensures None c.in-None.ensures.entry)
