use Rattle.std.proofs.Common.{length, Err, arith, ap, ◌∙◌}
use Rattle.kh_store.proofs.Puts.{put_stands, command_of, only_put, none_then}
use Rattle.kh_store.proofs.command.read_put.Goals as goal

pub returns-then-end-bytes-clause-none : goal.returns-then-end-bytes-clause-none
returns-then-end-bytes-clause-none c = λ path number is.
    let whole = only_put c.args.bytes.now c.in-Ok.term c.in-Ok.end path number c.in-Ok.ensures.only is in
    absurd (omega (arith, whole.1, c.if-end-bytes.true))

pub returns-else-end-bytes-clause-none : goal.returns-else-end-bytes-clause-none
returns-else-end-bytes-clause-none c =
    none_then c.put_of.result
    (λ none path number is. none path number (only_put c.args.bytes.now c.in-Ok.term c.in-Ok.end path number c.in-Ok.ensures.only is).0 is.names)
    c.put_of.ensures.none

pub returns-in-Err-NotPacked-clause-none : goal.returns-in-Err-NotPacked-clause-none
returns-in-Err-NotPacked-clause-none c = λ path number is.
    (c.unpack.ensures.not_packed c.in-Err-NotPacked.field-0-0 (c.in-Err-NotPacked.is ∙ ap Err c.in-Err-NotPacked.field-0-is)).1 (command_of c.args.bytes.now path number is) (length c.args.bytes.now) (put_stands c.args.bytes.now path number is)
