use Rattle.kh_store.proofs.Puts.{no_names}
use Rattle.kh_store.proofs.command.names_of.Goals as goal

pub returns-in-None-clause-none : goal.returns-in-None-clause-none
returns-in-None-clause-none c =
    no_names c.args.parts.now c.loop-part.part-index c.part-item.result c.loop-part-test.true c.part-item.is (rw c.in-None.is at c.in_ok-name_of.ensures.none)
