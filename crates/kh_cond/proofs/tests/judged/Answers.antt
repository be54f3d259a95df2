use Rattle.std.proofs.Common.{◌≡◌, ℕ, List, ◌++◌, ap, ◌∙◌}
use Rattle.kh_cond.specs.Texts.{added, lacking, texts_of}
use Rattle.kh_cond.proofs.Prepared.{prepared}
use Rattle.kh_cond.proofs.tests.judged.Goals as goal

pub judge-requires : goal.judge-requires
judge-requires g c =
    let old : List (List ℕ) = g.P.Patterns.texts c.args.patterns.now in
    let all = c.in_ok-push_cond_texts.ensures.ok ∙ ap (λ ts. ts ++ texts_of c.args.cond.now) c.new-texts.ensures in
    ap (λ known. lacking known c.args.cond.now) (c.in_ok-prepare.ensures.texts ∙ ap (λ ts. old ++ added old ts) all) ∙ prepared old c.args.cond.now

pub judge-requires-2 : goal.judge-requires-2
judge-requires-2 g c =
    let old : List (List ℕ) = g.P.Patterns.texts c.args.patterns.now in
    let all = c.in_ok-push_cond_texts.ensures.ok ∙ ap (λ ts. ts ++ texts_of c.args.cond.now) c.new-texts.ensures in
    ap (λ known. lacking known c.args.cond.now) (c.in_ok-prepare.ensures.texts ∙ ap (λ ts. old ++ added old ts) all) ∙ prepared old c.args.cond.now
