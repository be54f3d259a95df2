use Rattle.std.proofs.Common.{[], ◌∷◌, ◌++◌, ◌+◌, ◌<◌, length, take, refl, sym, ap, ◌∙◌, arith}
use Rattle.std.proofs.lemmas.List.{take-take}
use Rattle.std.specs.Prelude.{slice_set}
use Rattle.kh_arena.specs.Sizes.{places_before}
use Rattle.kh_arena.specs.Listed.{spots_of, items, spots, spare}
use Rattle.kh_arena.proofs.Listed.{room-places, chunk-within, place-within, spots-put, items-put, places-put, IsArena-put}
use Rattle.kh_arena.proofs.arena.Arena.put.Goals as goal

pub index_mut-requires : goal.index_mut-requires
index_mut-requires g c =
    let inside = c.self.inside in let at = c.locate-chunk in let cs = inside.chunks.items in let is = c.self.invariant in
    let before = ap (λ v. spare v) c.self.view_is in
    let there : inside.len < places_before (length cs) = omega (arith, c.requires, before, room-places inside.len inside.room cs is) in
    omega (arith, inside.chunks.ok.0, chunk-within inside.len inside.room cs is at.result.0 at.result.1 inside.len at.ensures.at at.ensures.within there)

pub put-requires : goal.put-requires
put-requires g c =
    let inside = c.self.inside in let at = c.locate-chunk in let cs = inside.chunks.items in let is = c.self.invariant in
    let before = ap (λ v. spare v) c.self.view_is in
    let there : inside.len < places_before (length cs) = omega (arith, c.requires, before, room-places inside.len inside.room cs is) in
    place-within inside.len inside.room cs is at.result.0 at.result.1 inside.len at.ensures.at at.ensures.within there c.index_mut.result.now c.index_mut.ensures.value

pub invariant_of-self : goal.invariant_of-self
invariant_of-self g c =
    let inside = c.self.inside in let at = c.locate-chunk in let cs = inside.chunks.items in let is = c.self.invariant in
    let before = ap (λ v. spare v) c.self.view_is in
    let there : inside.len < places_before (length cs) = omega (arith, c.requires, before, room-places inside.len inside.room cs is) in
    IsArena-put inside.len inside.room cs is at.result.0 at.result.1 inside.len at.ensures.at at.ensures.within there c.index_mut.result.now c.put.new.self c.args.item c.index_mut.ensures.value c.put.ensures.places c.put.ensures.at refl (omega (arith, c.requires, before))

pub returns-clause-appended : goal.returns-clause-appended
returns-clause-appended g c =
    let inside = c.self.inside in let at = c.locate-chunk in let cs = inside.chunks.items in let is = c.self.invariant in
    let before = ap (λ v. spare v) c.self.view_is in
    let there : inside.len < places_before (length cs) = omega (arith, c.requires, before, room-places inside.len inside.room cs is) in
    items-put inside.len inside.room cs is at.result.0 at.result.1 inside.len at.ensures.at at.ensures.within there c.index_mut.result.now c.put.new.self c.args.item c.index_mut.ensures.value c.put.ensures.places c.put.ensures.at refl ∙ ap (λ v. items v ++ c.args.item ∷ []) c.self.view_is

pub returns-clause-stays : goal.returns-clause-stays
returns-clause-stays g c =
    let inside = c.self.inside in let at = c.locate-chunk in let cs = inside.chunks.items in let is = c.self.invariant in
    let before = ap (λ v. spare v) c.self.view_is in
    let there : inside.len < places_before (length cs) = omega (arith, c.requires, before, room-places inside.len inside.room cs is) in
    let n = inside.len in
    let count = sym (ap (λ v. length (items v)) c.self.view_is) ∙ is.full in
    ap (λ k. take k (take (n + 1) (spots_of (slice_set cs at.result.0 c.put.new.self)))) count ∙ ap (λ ss. take n (take (n + 1) ss)) (spots-put inside.len inside.room cs is at.result.0 at.result.1 inside.len at.ensures.at at.ensures.within there c.index_mut.result.now c.put.new.self c.args.item c.index_mut.ensures.value c.put.ensures.places c.put.ensures.at refl)
    ∙ take-take n (n + 1) (spots_of cs) (omega arith) ∙ ap (λ v. spots v) c.self.view_is

pub returns-clause-spare : goal.returns-clause-spare
returns-clause-spare g c =
    let inside = c.self.inside in let at = c.locate-chunk in let cs = inside.chunks.items in let is = c.self.invariant in
    let before = ap (λ v. spare v) c.self.view_is in
    let there : inside.len < places_before (length cs) = omega (arith, c.requires, before, room-places inside.len inside.room cs is) in
    omega (arith, c.requires, before, places-put inside.len inside.room cs is at.result.0 at.result.1 inside.len at.ensures.at at.ensures.within there c.index_mut.result.now c.put.new.self c.args.item c.index_mut.ensures.value c.put.ensures.places c.put.ensures.at refl)
