use Rattle.std.proofs.Common.{◌≡◌, ◌-◌, ◌*◌, ◌^◌, nat_lt, find, unwrap_or, drop}
use Rattle.kh_term.specs.Packed.{least_len}
use Rattle.kh_term.proofs.packed_lens.least_len.Given as goal

abbrev pub invariant-loop-length : goal.invariant-loop-length
invariant-loop-length l = unwrap_or (find (λ len. nat_lt l.behind (2 ^ (8 * len - 1))) (drop l.length-index l.length-items)) 16 ≡ least_len l.behind
