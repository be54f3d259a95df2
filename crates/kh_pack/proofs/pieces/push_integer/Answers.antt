use Rattle.std.proofs.Common.{[], ◌∷◌, take}
use Rattle.kh_term.specs.Packed.{integer_len, integer_bytes}
use Rattle.kh_term.proofs.InTurn.{closed}
use Rattle.kh_pack.proofs.Integers.{len_is, front_is}
use Rattle.kh_pack.proofs.pieces.push_integer.Goals as goal

pub returns : goal.returns
returns c =
    let z = c.args.number in
    let len = c.integer_len-len.result in
    let is = len_is z len c.ranges.number c.integer_len-len.ensures in
    let front = front_is z len c.write_int128.new.buf _ c.ranges.number c.integer_len-len.ensures c.write_int128.ensures in
    closed c.push_bytes.result c.args.out.now.items c.push_byte.new.out.items c.push_bytes.new.out.items (len ∷ []) (take len c.write_int128.new.buf)
    (integer_len z ∷ integer_bytes z) (λ i. is i ∷ front i) c.in_ok-push_byte.ensures c.push_bytes.ensures
