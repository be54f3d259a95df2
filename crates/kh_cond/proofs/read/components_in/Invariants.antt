use Rattle.std.proofs.Common.{◌≡◌, ◌≤◌, length, take}
use Rattle.kh_cond.specs.Spells.{SpellComponents}
use Rattle.kh_cond.proofs.read.components_in.Given as goal

abbrev pub invariant-loop-at : goal.invariant-loop-at
invariant-loop-at l = record {
  front : SpellComponents (take l.at l.parts) l.all.items;
  many : length l.all.items ≡ l.at;
  few : l.at ≤ 32;
}
