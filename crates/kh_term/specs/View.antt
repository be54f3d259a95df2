-- What a node holds.
use Rattle.std.specs.Prelude.{Bool, true, false}
use Rattle.kh_term.specs.declared.kinds.Kind.{Kind}
use Rattle.kh_term.specs.declared.kinds.Kind.TheVariants as kind

abbrev pub is_data : Kind → Bool
is_data kind.Empty = false
is_data kind.Data = true
is_data kind.Sproc = false
