use Rattle.std.proofs.Common.{rules, subst, sym, ap, ◌∙◌}
use Rattle.kh_term.proofs.NamesRead.{path_read}
use Rattle.kh_term.proofs.names.path_of.Goals as goal

pub returns-in-Some : goal.returns-in-Some
returns-in-Some c =
    path_read c.args.tree.now c.in-List.parts c.in-List.tail c.in-Some.names c.new-in-Some.result c.in-List.is (search rules) (search rules) (search rules) (search rules) (search rules)
