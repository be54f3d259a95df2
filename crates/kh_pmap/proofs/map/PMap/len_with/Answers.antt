use Rattle.std.proofs.Common.{◌≡◌, ◌+◌, ap, ◌∙◌, length, rules}
use Rattle.std.specs.FinMap.{put}
use Rattle.kh_pmap.proofs.Counting.{as_many, one_more}
use Rattle.kh_pmap.proofs.map.PMap.len_with.Goals as goal

pub returns-in-Some : goal.returns-in-Some
returns-in-Some g c value =
    c.self.invariant.counted ∙ ap length c.self.view_is ∙ as_many g.met.K.Ord.total _ value _ c.args.self.now c.in-Some.ensures.rises c.in-Some.ensures.value

pub returns-in-None : goal.returns-in-None
returns-in-None g c =
    let more : (value : _) → c.self.inside.len + 1 ≡ length (put g.K.Ord.cmp c.args.key.now value c.args.self.now) =
    λ value. ap (λ n. n + 1) (c.self.invariant.counted ∙ ap length c.self.view_is) ∙ one_more g.met.K.Ord.total _ value c.args.self.now c.in-None.ensures.rises c.in-None.ensures.value in
    search (rules, more)
