use Rattle.std.proofs.Common.{ap, sym, ◌∙◌, ◌∷◌, length, arith}
use Rattle.std.specs.Option.{option_map}
use Rattle.std.specs.Map.Iter.{deref_pair}
use Rattle.kh_pmap.specs.Keyed.{entries_from}
use Rattle.kh_pmap.proofs.Following.{from_next}
use Rattle.kh_pmap.proofs.iter.IterIterator.next.Goals as goal

pub returns-clause-steps : goal.returns-clause-steps
returns-clause-steps g c =
    sym c.self.view_is
    ∙ ap (λ next. entries_from g.K.Ord.cmp (option_map deref_pair next) c.self.inside.map.now) c.in_ok-key.was
    ∙ ap (λ left. (c.in_ok-key.key.now, c.in_ok-key.value.now) ∷ left)
    (sym (from_next g.met.K.Ord.total c.in_ok-key.key.now _ c.self.inside.map.now c.next_after-self-inside.ensures.rises c.next_after-self-inside.ensures.entry))

pub returns-clause-goes : goal.returns-clause-goes
returns-clause-goes g c =
    let fewer = ap length (returns-clause-steps g c) in
    record { on = λ _. (tt, tt, omega (arith, fewer)); keeps = tt; rests = λ _. tt }
