use Rattle.std.proofs.Common.{◌≡◌, ℕ, List, [], ◌∷◌, length, ◌∙◌, ap, arith}
use Rattle.kh_log.specs.Records.{open_gate, log_of}
use Rattle.kh_log.proofs.Append.{logged, logged_back}
use Rattle.kh_log.proofs.record.prepare.Goals as goal

pub invariant_of-result : goal.invariant_of-result
invariant_of-result c =
    let is : open_gate ∷ c.in_ok-bytes.bytes.items ≡ log_of (c.args.bytes.items ∷ []) =
    c.in_ok-bytes.ensures ∙ ap (λ (l : List ℕ). log_of (l ∷ [])) c.deref.ensures.value in
    logged_back c.args.bytes.items c.in_ok-bytes.bytes.items (omega (arith, c.requires, c.deref.ensures.len, ap length c.deref.ensures.value)) is

pub returns : goal.returns
returns c =
    let is : open_gate ∷ c.in_ok-bytes.bytes.items ≡ log_of (c.args.bytes.items ∷ []) =
    c.in_ok-bytes.ensures ∙ ap (λ (l : List ℕ). log_of (l ∷ [])) c.deref.ensures.value in
    logged c.args.bytes.items c.in_ok-bytes.bytes.items (omega (arith, c.requires, c.deref.ensures.len, ap length c.deref.ensures.value)) is
