use Rattle.std.proofs.Common.{◌≡◌, ap, sym, subst, ◌∙◌, T, length}
use Rattle.std.specs.FinMap.{put, is_sorted}
use Rattle.std.specs.FinMap.Entries.{is_sorted-put}
use Rattle.kh_pmap.specs.Entries.{entries}
use Rattle.kh_pmap.proofs.map.PMap.with.Goals as goal

pub invariant_of-result : goal.invariant_of-result
invariant_of-result g c =
    let made : entries c.in_ok-root.root ≡ put g.K.Ord.cmp c.args.key c.args.value (entries c.self.inside.root) =
    c.in_ok-root.ensures c.self.invariant.rises ∙ (λ i. put g.K.Ord.cmp (c.in_ok-key.ensures.value i) (c.in_ok-value.ensures.value i) (entries c.self.inside.root)) in
    record {
      rises = subst (λ es. T (is_sorted g.K.Ord.cmp es)) (sym made) (is_sorted-put g.K.Ord.cmp g.met.K.Ord.total _ _ _ c.self.invariant.rises);
      counted = c.in-Some.ensures c.args.value ∙ ap (λ es. length (put g.K.Ord.cmp c.args.key c.args.value es)) (sym c.self.view_is) ∙ sym (ap length made);
    }
