use Rattle.std.proofs.Common.{◌≡◌, ◌<◌, ◌≤◌, ◌+◌, [], ◌∷◌, ◌++◌, length, length-append, take, ap, sym, subst, ◌∙◌, arith}
use Rattle.kh_term.specs.Lemmas.Fits.{part_of}
use Rattle.kh_cond.specs.Spells.{SpellComponents}
use Rattle.kh_cond.specs.Spells as spells
use Rattle.kh_cond.proofs.ComponentSpells.{component_sound}
use Rattle.kh_cond.proofs.PatternReads.{fault_at, front_more, too_many}
use Rattle.kh_cond.proofs.read.components_in.Goals as goal

pub loop-at-init : goal.loop-at-init
loop-at-init c = record {
  front = subst (SpellComponents []) (sym c.new-all.ensures.items) spells.end;
  many = ap length c.new-all.ensures.items;
  few = omega arith;
}

pub returns-then-at-ge-MOST_COMPONENTS-clause-bad : goal.returns-then-at-ge-MOST_COMPONENTS-clause-bad
returns-then-at-ge-MOST_COMPONENTS-clause-bad c =
    let most : 32 ≤ c.loop-at.at = c.if-at-ge-MOST_COMPONENTS.true in
    let is : c.loop-at.at ≡ 32 = omega (arith, c.loop-at.invariant.few, most) in
    too_many c.args.parts.now c.loop-at.all.items (omega (arith, is, c.loop-at-test.true))
    (subst (λ n. SpellComponents (take n c.args.parts.now) c.loop-at.all.items) is c.loop-at.invariant.front)

pub component_in-requires : goal.component_in-requires
component_in-requires c =
    part_of c.args.parts.now c.loop-at.at c.index-parts-at.result c.requires c.loop-at-test.true c.index-parts-at.is

pub returns-in-None-clause-bad : goal.returns-in-None-clause-bad
returns-in-None-clause-bad c =
    let few : c.loop-at.at < 32 = c.if-at-ge-MOST_COMPONENTS.false in
    fault_at c.args.parts.now c.loop-at.at c.index-parts-at.result c.loop-at.all.items c.loop-at-test.true few c.index-parts-at.is c.loop-at.invariant.front
    (sym c.in_ok-component.ensures ∙ c.in-None.is)

pub loop-at-preserved : goal.loop-at-preserved
loop-at-preserved c =
    let few : c.loop-at.at < 32 = c.if-at-ge-MOST_COMPONENTS.false in
    let pushed : c.push.new.self.items ≡ c.loop-at.all.items ++ c.in-Some.component ∷ [] = c.in_ok-push-in-Some.ensures.items in
    let fits = part_of c.args.parts.now c.loop-at.at c.index-parts-at.result c.requires c.loop-at-test.true c.index-parts-at.is in
    let spelled = component_sound c.index-parts-at.result c.in-Some.component fits (sym c.in_ok-component.ensures ∙ c.in-Some.is) in
    record {
      front = subst (SpellComponents (take (c.loop-at.at + 1) c.args.parts.now)) (sym pushed)
          (front_more c.args.parts.now c.loop-at.at c.index-parts-at.result c.in-Some.component c.loop-at.all.items c.loop-at-test.true c.index-parts-at.is
          c.loop-at.invariant.front spelled);
      many = omega (arith, ap length pushed, length-append c.loop-at.all.items (c.in-Some.component ∷ []), c.loop-at.invariant.many);
      few = omega (arith, few);
    }
