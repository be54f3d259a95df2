use Rattle.std.proofs.Common.{◌∙◌, ap, sym, refl}
use Rattle.std.specs.Option.{option_map}
use Rattle.kh_cond.proofs.Watches.{entries_spelled, map_of_pairs, no_entries}
use Rattle.kh_cond.proofs.watched.read_watching.Goals as goal

pub invariant_of-result : goal.invariant_of-result
invariant_of-result c =
    (entries_spelled c.in-Some.pairs.now c.in-Some-2.entries.items c.in-Some.ensures.fits
    (sym c.in_ok-entries.ensures ∙ ap (option_map (λ es. es.items)) c.in-Some-2.is)).1

pub returns-in-Some-2-clause-ok : goal.returns-in-Some-2-clause-ok
returns-in-Some-2-clause-ok c = (
  c.in-Some.pairs.now,
  map_of_pairs c.args.term.now.node c.in-Some.pairs.now (sym c.in-Some.ensures.value),
  (entries_spelled c.in-Some.pairs.now c.in-Some-2.entries.items c.in-Some.ensures.fits
      (sym c.in_ok-entries.ensures ∙ ap (option_map (λ es. es.items)) c.in-Some-2.is)).0,
)

pub returns-in-None-clause-bad : goal.returns-in-None-clause-bad
returns-in-None-clause-bad c = (
  refl,
  λ ws. no_entries c.args.term.now.node c.in-Some.pairs.now ws (sym c.in-Some.ensures.value)
      (sym c.in_ok-entries.ensures ∙ ap (option_map (λ es. es.items)) c.in-None.is),
)
