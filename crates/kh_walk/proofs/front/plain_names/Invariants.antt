use Rattle.std.proofs.Common.{◌≡◌, length, IsTrue}
use Rattle.std.specs.List.{list_all}
use Rattle.kh_term.specs.Name.{is_name}
use Rattle.kh_walk.specs.Front.{BeginsWith}
use Rattle.kh_walk.proofs.front.plain_names.Given as goal

-- the names so far are the first components
abbrev pub invariant-loop-component : goal.invariant-loop-component
invariant-loop-component l = record {
  long : length l.names.items ≡ l.component-index;
  begun : BeginsWith l.components l.names.items;
  named : IsTrue (list_all is_name l.names.items);
}
