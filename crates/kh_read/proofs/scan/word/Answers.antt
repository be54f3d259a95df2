use Rattle.std.proofs.Common.{arith}
use Rattle.std.proofs.lemmas.List.Sums.{prefix_len-le-length}
use Rattle.kh_text_defs.specs.Atoms.{is_word_byte}
use Rattle.kh_read.proofs.Fronts.{front_read}
use Rattle.kh_read.proofs.Words.{word_is_atom_text}
use Rattle.kh_read.proofs.scan.word.Goals as goal

pub split_front-requires : goal.split_front-requires
split_front-requires c = omega (arith, prefix_len-le-length is_word_byte c.args.bytes.now)

pub returns-clause-text : goal.returns-clause-text
returns-clause-text c =
    let front = front_read is_word_byte 255 c.args.bytes.now (c.in_ok-text.text.now, c.in_ok-text.rest.now)
    (rw c.word_len.ensures at c.in_ok-text.ensures) in
    word_is_atom_text c.in_ok-text.text.now front.passes front.few
