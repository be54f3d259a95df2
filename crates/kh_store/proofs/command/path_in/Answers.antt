use Rattle.kh_store.proofs.Puts.{no_path}
use Rattle.kh_store.proofs.command.path_in.Goals as goal

pub returns-in-Some-clause-none : goal.returns-in-Some-clause-none
returns-in-Some-clause-none c =
    no_path c.new.result c.in-Some.names.items c.args.parts.now c.new.ensures.accepts (rw c.in-Some.is at c.in_ok-names_of.ensures.found).0
