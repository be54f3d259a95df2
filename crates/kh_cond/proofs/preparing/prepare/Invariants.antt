use Rattle.std.proofs.Common.{◌≡◌, ◌≤◌, ◌+◌, ◌++◌, length, drop, take}
use Rattle.kh_cond.specs.Texts.{added}
use Rattle.kh_cond.proofs.preparing.prepare.Given as goal

abbrev pub invariant-loop-text : goal.invariant-loop-text
invariant-loop-text g l = record {
  texts : g.P.Patterns.texts l.patterns ++ added (g.P.Patterns.texts l.patterns) (drop l.text-index l.text-items)
      ≡ g.P.Patterns.texts l.fn.patterns ++ added (g.P.Patterns.texts l.fn.patterns) l.text-items;
  front : take (length (g.P.Patterns.texts l.fn.patterns)) (g.P.Patterns.texts l.patterns) ≡ g.P.Patterns.texts l.fn.patterns;
  longer : length (g.P.Patterns.texts l.fn.patterns) ≤ length (g.P.Patterns.texts l.patterns);
  room : length (g.P.Patterns.texts l.patterns) ≤ length (g.P.Patterns.texts l.fn.patterns) + l.text-index;
  refusals : g.P.Patterns.refusals l.patterns ≡ g.P.Patterns.refusals l.fn.patterns;
  refused : g.P.Patterns.refused l.patterns ≡ g.P.Patterns.refused l.fn.patterns;
}
