use Rattle.std.proofs.Common.{◌≡◌, [], ℕ, List, length, ◌<◌, drop, refl, sym, ◌∙◌, Err, arith, drop-cons}
use Rattle.std.proofs.lemmas.List.{nil_from_length}
use Rattle.kh_read.specs.Reading.{literal_at, Cut}
use Rattle.kh_read.proofs.scan.literal.Goals as goal

-- a byte is wanted, and none is left
cut_short : (wanted rest : List ℕ) (i : ℕ) → i < length wanted → rest ≡ [] → literal_at (drop i wanted) rest ≡ Err Cut
cut_short wanted rest i within none = rw (none, drop-cons wanted i 0 within) refl

pub returns-in-empty : goal.returns-in-empty
returns-in-empty c =
    sym c.loop-byte.invariant
    ∙ cut_short c.args.wanted.now c.loop-byte.rest.now c.loop-byte.byte-index (omega arith)
    (nil_from_length c.loop-byte.rest.now (omega arith))
