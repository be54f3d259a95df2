use Rattle.std.proofs.Common.{◌≡◌, map, sum, drop}
use Rattle.std.specs.List.{list_all, list_any}
use Rattle.std.specs.Option.{option_copied}
use Rattle.kh_cond.specs.Holds.{holds}
use Rattle.kh_cond.specs.Texts.{lacking}
use Rattle.kh_cond.proofs.judging.+judging.Given as goal

abbrev pub invariant-all_hold-loop-part : goal.invariant-all_hold-loop-part
invariant-all_hold-loop-part g l = record {
  ahead : list_all (holds g.P.Patterns.search (option_copied l.view)) (drop l.part-index l.parts)
      ≡ list_all (holds g.P.Patterns.search (option_copied l.view)) l.parts;
  prepared : sum (map (lacking (g.P.Patterns.texts l.patterns)) (drop l.part-index l.parts)) ≡ 0;
  texts : g.P.Patterns.texts l.patterns ≡ g.P.Patterns.texts l.fn.patterns;
  refusals : g.P.Patterns.refusals l.patterns ≡ g.P.Patterns.refusals l.fn.patterns;
  refused : g.P.Patterns.refused l.patterns ≡ g.P.Patterns.refused l.fn.patterns;
}

abbrev pub invariant-any_holds-loop-part : goal.invariant-any_holds-loop-part
invariant-any_holds-loop-part g l = record {
  ahead : list_any (holds g.P.Patterns.search (option_copied l.view)) (drop l.part-index l.parts)
      ≡ list_any (holds g.P.Patterns.search (option_copied l.view)) l.parts;
  prepared : sum (map (lacking (g.P.Patterns.texts l.patterns)) (drop l.part-index l.parts)) ≡ 0;
  texts : g.P.Patterns.texts l.patterns ≡ g.P.Patterns.texts l.fn.patterns;
  refusals : g.P.Patterns.refusals l.patterns ≡ g.P.Patterns.refusals l.fn.patterns;
  refused : g.P.Patterns.refused l.patterns ≡ g.P.Patterns.refused l.fn.patterns;
}
