use Rattle.std.proofs.lemmas.Bool.{and_parts}
use Rattle.std.proofs.lemmas.Str.{IsUtf8-from_is_utf8}
use Rattle.std.proofs.Common.{subst, sym, IsTrue}
use Rattle.std.specs.Str.{IsUtf8}
use Rattle.kh_term.proofs.text.Text.as_str.Goals as goal

pub unreachable-requires : goal.unreachable-requires
unreachable-requires c =
    c.in-Err.ensures.cases.0 (subst IsUtf8 (sym c.as_slice.ensures.value) (IsUtf8-from_is_utf8 _ (and_parts _ _ c.self.invariant).1))
