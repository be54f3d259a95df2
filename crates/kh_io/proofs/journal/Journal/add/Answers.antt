use Rattle.std.proofs.Common.{arith, length-append, refl}
use Rattle.std.proofs.lemmas.List.Sums.{sum_by_push}
use Rattle.kh_io.proofs.Calls.{cost-calls_of, calls_of-push}
use Rattle.kh_io.proofs.journal.Journal.add.Goals as goal

pub push_reserved-requires : goal.push_reserved-requires
push_reserved-requires c =
    let fits = rw (← c.self.view_is, cost-calls_of _ _ c.self.invariant.0) at c.requires.fits in grind arith

pub append-requires : goal.append-requires
append-requires c =
    let fits = rw (← c.self.view_is, cost-calls_of _ _ c.self.invariant.0) at c.requires.fits in grind arith

pub invariant_of-self : goal.invariant_of-self
invariant_of-self c =
    let fits = rw (← c.self.view_is, cost-calls_of _ _ c.self.invariant.0) at c.requires.fits in grind (arith, length-append, sum_by_push)

pub returns : goal.returns
returns c = rw (← c.self.view_is, c.push_reserved.ensures.items, c.append.ensures.items, calls_of-push _ _ _ _ c.self.invariant.0 c.requires.sizes) refl
