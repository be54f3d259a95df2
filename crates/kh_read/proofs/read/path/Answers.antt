use Rattle.kh_read.proofs.Paths.{names_are_path}
use Rattle.kh_read.proofs.read.path.Goals as goal

pub unreachable-requires : goal.unreachable-requires
unreachable-requires c =
    let is_path = names_are_path c.args.bytes.now (c.in_ok-names.names.items, c.in_ok-names.rest.now) c.in_ok-names.ensures in
    absurd (let known = c.in-None.ensures.accepts.1 is_path in cc)
