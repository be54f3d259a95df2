use Rattle.std.proofs.Common.{◌≡◌, ◌-◌, ap, sym, subst, ◌∙◌, T, length}
use Rattle.std.specs.Option.{is_some}
use Rattle.std.specs.FinMap.{find, is_sorted}
use Rattle.std.specs.FinMap.Entries.{where_key, is_sorted-where_key}
use Rattle.kh_pmap.specs.Entries.{entries}
use Rattle.kh_pmap.specs.Keyed.{is_other}
use Rattle.kh_pmap.proofs.Counting.{copied_is, missing, one_less}
use Rattle.kh_pmap.proofs.Following.{others_missing}
use Rattle.kh_pmap.proofs.map.PMap.without.Goals as goal

pub returns-then-is_none : goal.returns-then-is_none
returns-then-is_none g c = c.share.ensures ∙ sym (others_missing g.K.Ord.cmp c.args.key.now c.args.self.now
    (missing _ (ap is_some (sym c.get.ensures.value) ∙ copied_is c.get.result ∙ c.if-is_none.ensures)))

pub invariant_of-result : goal.invariant_of-result
invariant_of-result g c =
    let made : entries c.in_ok-root.root ≡ where_key g.K.Ord.cmp (is_other g.K.Ord.cmp c.args.key.now) (entries c.self.inside.root) = c.in_ok-root.ensures c.self.invariant.rises in
    record {
      rises = subst (λ es. T (is_sorted g.K.Ord.cmp es)) (sym made) (is_sorted-where_key g.K.Ord.cmp (is_other g.K.Ord.cmp c.args.key.now) _ c.self.invariant.rises);
      counted = ap (λ n. n - 1) c.self.invariant.counted
          ∙ one_less g.met.K.Ord.total c.args.key.now (entries c.self.inside.root) c.self.invariant.rises
          (ap (λ es. is_some (find g.K.Ord.cmp c.args.key.now es)) c.self.view_is ∙ ap is_some (sym c.get.ensures.value) ∙ copied_is c.get.result ∙ c.if-is_none.ensures)
          ∙ sym (ap length made);
    }
