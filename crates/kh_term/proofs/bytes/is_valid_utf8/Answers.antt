use Rattle.std.proofs.Common.{◌≡◌, sym, Bool, true, false, List, ℕ, refl}
use Rattle.std.specs.Str.{is_utf8, IsUtf8}
use Rattle.std.proofs.lemmas.Str.{is_utf8-from_IsUtf8, IsUtf8-from_is_utf8}
use Rattle.kh_term.proofs.bytes.is_valid_utf8.Goals as goal

-- what is no UTF-8 fails the test
fails : (bytes : List ℕ) → ¬ (IsUtf8 bytes) → (test : Bool) → is_utf8 bytes ≡ test → false ≡ test
fails bytes not_text false passes = refl
fails bytes not_text true passes = absurd (not_text (IsUtf8-from_is_utf8 bytes passes))

pub returns-in-Ok : goal.returns-in-Ok
returns-in-Ok c = sym (is_utf8-from_IsUtf8 c.args.bytes.now c.in-Ok.ensures.cases.1)

pub returns-in-Err : goal.returns-in-Err
returns-in-Err c = fails c.args.bytes.now c.in-Err.ensures.cases.0 (is_utf8 c.args.bytes.now) refl
