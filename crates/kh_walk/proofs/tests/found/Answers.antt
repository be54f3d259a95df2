use Rattle.std.proofs.Common.{◌≡◌, ℕ, List, ◌++◌, ap, ◌∙◌}
use Rattle.kh_cond.specs.Texts.{added, pattern_texts}
use Rattle.kh_walk.specs.Prepared.{lacking_in}
use Rattle.kh_walk.proofs.Prepares.{pattern_prepared}
use Rattle.kh_walk.proofs.tests.found.Goals as goal

pub matching-requires : goal.matching-requires
matching-requires g c =
    let old : List (List ℕ) = g.P.Patterns.texts c.args.patterns.now in
    let q = c.in_ok-pattern.pattern in
    let all = c.in_ok-push_pattern_texts.ensures.ok ∙ ap (λ ts. ts ++ pattern_texts q) c.new-texts.ensures in
    record { prepared = ap (λ known. lacking_in known q) (c.in_ok-prepare.ensures.texts ∙ ap (λ ts. old ++ added old ts) all) ∙ pattern_prepared old q }

pub matches_at-requires-clause-prepared : goal.matches_at-requires-clause-prepared
matches_at-requires-clause-prepared g c =
    let old : List (List ℕ) = g.P.Patterns.texts c.args.patterns.now in
    let q = c.in_ok-pattern.pattern in
    let all = c.in_ok-push_pattern_texts.ensures.ok ∙ ap (λ ts. ts ++ pattern_texts q) c.new-texts.ensures in
    ap (λ known. lacking_in known q) (c.in_ok-paths.ensures.engine.0 ∙ c.in_ok-prepare.ensures.texts ∙ ap (λ ts. old ++ added old ts) all) ∙ pattern_prepared old q
