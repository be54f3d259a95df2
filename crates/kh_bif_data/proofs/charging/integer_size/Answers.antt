use Rattle.std.proofs.Common.{◌+◌, ◌/◌, rules, ap, sym, ◌∙◌, length, ℤ, SFits, arith}
use Rattle.std.specs.Fmt.{signed_decimal}
use Rattle.std.specs.Int.{w128}
use Rattle.std.specs.Prelude.{Option}
use Rattle.std.proofs.lemmas.Int.{to_z-of_z}
use Rattle.kh_term.specs.declared.tree.TermTree.TheVariants as tree
use Rattle.kh_bif_base.specs.Answer.{Value, badarg, limited}
use Rattle.kh_bif_data.specs.Answer.{size_answered}
use Rattle.kh_bif_data.specs.Asked.{of_some}
use Rattle.kh_bif_data.proofs.Costs.{bin_size}
use Rattle.kh_bif_data.proofs.charging.integer_size.Goals as goal

pub returns-in-Some : goal.returns-in-Some
returns-in-Some c =
    let fits : SFits w128 c.in-Some.n = search rules in
    let text = signed_decimal c.in-Some.n in
    let long = ap length (c.as_bytes-text.ensures.value ∙ c.format.ensures.text ∙ ap signed_decimal (to_z-of_z w128 c.in-Some.n fits)) in
    let short = ap length (c.format.ensures.text ∙ ap signed_decimal (to_z-of_z w128 c.in-Some.n fits)) in
    c.binary_size.ensures ∙ ap (λ n. 1 + (n + 7) / 8) long ∙ sym (bin_size text (omega (arith, short, c.format.ensures.short)))
    ∙ sym (ap (λ (o : Option ℤ). size_answered (limited (of_some o badarg (λ n. Value (tree.Bin (signed_decimal n)))))) (sym c.integer.ensures ∙ c.in-Some.is))
