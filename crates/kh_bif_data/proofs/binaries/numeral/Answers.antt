use Rattle.std.proofs.Common.{List, ℕ, subst, ◌∙◌}
use Rattle.std.specs.Int.{w128}
use Rattle.std.specs.Str.Parse.{ParsesSigned}
use Rattle.kh_bif_data.proofs.Fitted.{numeral_read, numeral_utf8}
use Rattle.kh_bif_data.proofs.binaries.numeral.Goals as goal

pub returns-in-Ok : goal.returns-in-Ok
returns-in-Ok c =
    let text = c.args.text.now in
    c.ok.ensures.value
    ∙ numeral_read text c.parse.result (subst (λ (bs : List ℕ). ParsesSigned w128 10 bs c.parse.result) c.in-Ok.ensures.cases.0 c.parse.ensures.value.0) c.requires

pub returns-in-Err : goal.returns-in-Err
returns-in-Err c = absurd (c.in-Err.ensures.cases.0 (numeral_utf8 c.args.text.now c.requires))
