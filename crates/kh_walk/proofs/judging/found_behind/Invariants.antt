use Rattle.std.proofs.Common.{◌≡◌, ◌<◌, drop}
use Rattle.kh_walk.specs.Rows.{IsFound}
use Rattle.kh_walk.specs.Takes.{joined}
use Rattle.kh_walk.proofs.judging.found_behind.Given as goal

-- it wasn't found behind a shorter front
abbrev pub invariant-loop-at : goal.invariant-loop-at
invariant-loop-at g l = record {
  rest : l.rest ≡ joined (drop l.at l.place.path.now);
  none : (f : IsFound g.P.Patterns.search l.place.rows.now l.place.path.now l.i l.regex) → f.at < l.at → ⊥;
  texts : g.P.Patterns.texts l.patterns ≡ g.P.Patterns.texts l.fn.patterns;
  refusals : g.P.Patterns.refusals l.patterns ≡ g.P.Patterns.refusals l.fn.patterns;
  refused : g.P.Patterns.refused l.patterns ≡ g.P.Patterns.refused l.fn.patterns;
}
