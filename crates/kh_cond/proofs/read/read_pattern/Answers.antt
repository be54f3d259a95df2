use Rattle.std.proofs.Common.{◌≡◌, ◌≤◌, length, ◌∙◌, ap, sym, subst, refl, inl, inr}
use Rattle.std.specs.Option.{option_map}
use Rattle.kh_term.specs.Make.{list_of}
use Rattle.kh_cond.specs.Faults.{IsFaultOf, PatternFault}
use Rattle.kh_cond.specs.Spells.{SpellComponents}
use Rattle.kh_cond.proofs.PatternReads.{elements_list, handed_on, no_list}
use Rattle.kh_cond.proofs.read.read_pattern.Goals as goal

pub returns-in-None-clause-bad : goal.returns-in-None-clause-bad
returns-in-None-clause-bad c =
    inl (no_list c.args.term.now.node (sym c.elements_of.ensures.value ∙ ap (option_map (λ s. s.now)) c.in-None.is), refl)

pub returns-in-Err-clause-bad : goal.returns-in-Err-clause-bad
returns-in-Err-clause-bad c =
    let list : c.args.term.now.node ≡ list_of c.in-Some.parts.now =
    elements_list c.args.term.now.node c.in-Some.parts.now c.args.term.now.fits (sym c.in-Some.ensures.value) in
    handed_on (IsFaultOf c.in-Some.parts.now) (PatternFault c.args.term.now.node) (λ n h. inr (c.in-Some.parts.now, list, h)) c.in-Err.error c.in-Err.ensures.bad

pub returns-clause-ok : goal.returns-clause-ok
returns-clause-ok c =
    let list : c.args.term.now.node ≡ list_of c.in-Some.parts.now =
    elements_list c.args.term.now.node c.in-Some.parts.now c.args.term.now.fits (sym c.in-Some.ensures.value) in (
      c.in-Some.parts.now,
      list,
      subst (SpellComponents c.in-Some.parts.now) (sym c.in-Some-new.ensures.value) c.in-Ok.ensures.ok.0,
      subst (λ cs. length cs ≤ 32) (sym c.in-Some-new.ensures.value) c.in-Ok.ensures.ok.1,
    )
