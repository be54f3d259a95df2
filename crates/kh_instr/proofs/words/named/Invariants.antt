use Rattle.std.proofs.Common.{◌≡◌, drop, find}
use Rattle.std.specs.Str.{bytes_eq}
use Rattle.kh_instr.proofs.words.named.Given as goal

abbrev pub invariant-loop-one : goal.invariant-loop-one
invariant-loop-one g l = find (λ one. bytes_eq (g.T.Spelled.spelling one) l.text) (drop l.one-index l.all) ≡ find (λ one. bytes_eq (g.T.Spelled.spelling one) l.text) l.all
