use Rattle.std.proofs.Common.{◌≡◌, IsTrue, map, take}
use Rattle.std.specs.List.{list_all}
use Rattle.kh_term.specs.Make.{name_tree}
use Rattle.kh_store.specs.Command.{is_atom}
use Rattle.kh_store.proofs.command.names_of.Given as goal

abbrev pub invariant-loop-part : goal.invariant-loop-part
invariant-loop-part l = (map name_tree l.names.items ≡ take l.part-index l.parts) × IsTrue (list_all is_atom l.names.items)
