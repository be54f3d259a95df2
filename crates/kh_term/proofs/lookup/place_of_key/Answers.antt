use Rattle.std.proofs.Common.{rules}
use Rattle.std.proofs.lemmas.Fn.{always_returns_same}
use Rattle.kh_term.specs.Order.{term_cmp}
use Rattle.kh_term.proofs.Places.{searched}
use Rattle.kh_term.proofs.lookup.place_of_key.Goals as goal

-- the closure compares a pair's key
pub returns : goal.returns
returns c =
    let facts = c.binary_search_by.ensures in
    searched c.args.pairs.now c.args.key.now c.binary_search_by.result c.requires facts.bound
    (facts.position (λ p. term_cmp p.0 c.args.key.now.node) (always_returns_same _ _ _ (λ a r g called. (search rules, search rules))))
