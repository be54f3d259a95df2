use Rattle.std.proofs.Common.{◌≡◌, sym, ◌∙◌, subst, refl, rules, Some, None, T, not}
use Rattle.std.specs.declared.cmp.Ordering.{Ordering}
use Rattle.std.specs.declared.cmp.Ordering.TheVariants.{Less, Equal, Greater}
use Rattle.std.specs.declared.option.Option.{Option}
use Rattle.std.specs.Option.{option_map}
use Rattle.std.specs.Map.Iter.{deref_pair}
use Rattle.std.specs.Ordering.{is_lt}
use Rattle.kh_pmap.proofs.Layers.{opened}
use Rattle.kh_pmap.specs.Entries.{entries, held, joined}
use Rattle.kh_pmap.proofs.Between.{above_here, above_before, above_right, sorted_left, sorted_right}
use Rattle.kh_pmap.proofs.search.+next_in.Goals as goal

pub returns-in-None : goal.returns-in-None
returns-in-None g t c =
    let n = c.as_ref-node.result.now in
    let es : entries c.args.tree.now ≡ joined n.left (held n.key) (held n.value) n.right = opened _ _ _ c.in-Fork.is c.as_ref-node.ensures in
    let way : g.K.Ord.cmp c.args.key.now (held n.key) ≡ Less = search rules in
    let here : Some (deref_pair (c.as_ref-in-None.result, c.as_ref-in-None-2.result)) ≡ Some (held n.key, held n.value) = λ i. Some (c.as_ref-in-None.ensures i, c.as_ref-in-None-2.ensures i) in
    rw es (λ s. here ∙ above_here g.K.Ord.cmp c.args.key.now (entries n.left) (held n.key, held n.value) (entries n.right) way (c.in-None.ensures (sorted_left _ (entries n.left) _ _ s)))

no_none : {A B : Type 0} (f : A → B) (r : Option A) → (r ≡ None → ⊥) → option_map f r ≡ None → ⊥
no_none f None some e = some refl
no_none f (Some x) some e = cc

pub returns-in_default-next_in : goal.returns-in_default-next_in
returns-in_default-next_in g t c =
    let n = c.as_ref-node.result.now in
    let es : entries c.args.tree.now ≡ joined n.left (held n.key) (held n.value) n.right = opened _ _ _ c.in-Fork.is c.as_ref-node.ensures in
    let way : g.K.Ord.cmp c.args.key.now (held n.key) ≡ Less = search rules in
    rw es (λ s. above_before g.K.Ord.cmp c.args.key.now (entries n.left) (held n.key, held n.value) (entries n.right) (option_map deref_pair c.next_in.result) way
    (no_none _ _ c.in_default-next_in.not-None) (c.next_in.ensures (sorted_left _ (entries n.left) _ _ s)))

no_less : (r : Ordering) → (r ≡ Less → ⊥) → T (not (is_lt r))
no_less Less n = n refl
no_less Equal n = tt
no_less Greater n = tt

pub returns-in_default : goal.returns-in_default
returns-in_default g t c =
    let n = c.as_ref-node.result.now in
    let es : entries c.args.tree.now ≡ joined n.left (held n.key) (held n.value) n.right = opened _ _ _ c.in-Fork.is c.as_ref-node.ensures in
    let same : c.cmp.result ≡ g.K.Ord.cmp c.args.key.now (held n.key) = search rules in
    let way : T (not (is_lt (g.K.Ord.cmp c.args.key.now (held n.key)))) = subst (λ r. T (not (is_lt r))) same (no_less _ c.in_default.not-Less) in
    rw es (λ s. c.next_in-in_default.ensures (sorted_right _ (entries n.left) _ _ s) ∙ sym (above_right g.met.K.Ord.total _ _ _ _ s way))
