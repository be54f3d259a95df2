use Rattle.std.specs.Option.{option_copied}
use Rattle.kh_walk.proofs.Walks.{next_below}
use Rattle.kh_walk.proofs.walk.next_below.Goals as goal

pub returns-in-Some : goal.returns-in-Some
returns-in-Some g c =
    next_below c.args.tree.now c.args.start.now c.args.at.now c.requires.below c.in-Some.next.now c.in-Some.ensures (option_copied c.within.result) c.within.ensures

pub returns-in-None : goal.returns-in-None
returns-in-None g c = λ path node below behind. c.in-None.ensures path node behind
