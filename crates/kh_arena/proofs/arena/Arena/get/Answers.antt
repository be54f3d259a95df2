use Rattle.std.proofs.Common.{◌<◌, length, sym, ap, subst, ◌∙◌, arith}
use Rattle.std.specs.Prelude.{IsSome, Some, option_map, slice_get}
use Rattle.std.specs.Mem.{type_size}
use Rattle.kh_arena.specs.Sizes.{places_before}
use Rattle.kh_arena.specs.Spots.{address}
use Rattle.kh_arena.specs.Listed.{items, spots}
use Rattle.kh_arena.proofs.Listed.{room-enough, chunk-within, place-holds, place-lies, slice_get-is_some}
use Rattle.kh_arena.proofs.arena.Arena.get.Goals as goal

pub index-requires : goal.index-requires
index-requires g c =
    let inside = c.self.inside in let at = c.locate-chunk in let cs = inside.chunks.items in let is = c.self.invariant in
    let under : c.args.i < inside.len = omega (arith, c.requires, is.full, ap (λ v. length (items v)) c.self.view_is) in
    let there : c.args.i < places_before (length cs) = omega (arith, under, room-enough inside.len inside.room cs is) in
    omega (arith, inside.chunks.ok.0, chunk-within inside.len inside.room cs is at.result.0 at.result.1 c.args.i at.ensures.at at.ensures.within there)

pub get-requires : goal.get-requires
get-requires g c =
    let inside = c.self.inside in let at = c.locate-chunk in let cs = inside.chunks.items in let is = c.self.invariant in
    let under : c.args.i < inside.len = omega (arith, c.requires, is.full, ap (λ v. length (items v)) c.self.view_is) in
    let there : c.args.i < places_before (length cs) = omega (arith, under, room-enough inside.len inside.room cs is) in
    subst IsSome
    (sym (place-holds inside.len inside.room cs is at.result.0 at.result.1 c.args.i at.ensures.at at.ensures.within there c.index.result.now c.index.ensures under ∙ ap (λ v. slice_get (items v) c.args.i) c.self.view_is))
    (slice_get-is_some (items c.args.self.now) c.args.i c.requires)

pub returns-clause-item : goal.returns-clause-item
returns-clause-item g c =
    let inside = c.self.inside in let at = c.locate-chunk in let cs = inside.chunks.items in let is = c.self.invariant in
    let under : c.args.i < inside.len = omega (arith, c.requires, is.full, ap (λ v. length (items v)) c.self.view_is) in
    let there : c.args.i < places_before (length cs) = omega (arith, under, room-enough inside.len inside.room cs is) in
    sym (place-holds inside.len inside.room cs is at.result.0 at.result.1 c.args.i at.ensures.at at.ensures.within there c.index.result.now c.index.ensures under ∙ ap (λ v. slice_get (items v) c.args.i) c.self.view_is)
    ∙ c.get.ensures.item

pub returns-clause-there : goal.returns-clause-there
returns-clause-there g c =
    let inside = c.self.inside in let at = c.locate-chunk in let cs = inside.chunks.items in let is = c.self.invariant in
    let under : c.args.i < inside.len = omega (arith, c.requires, is.full, ap (λ v. length (items v)) c.self.view_is) in
    let there : c.args.i < places_before (length cs) = omega (arith, under, room-enough inside.len inside.room cs is) in
    let size = type_size g.row.T in
    ap (λ v. option_map (address size) (slice_get (spots v) c.args.i)) (sym c.self.view_is)
    ∙ ap (option_map (address size)) (place-lies inside.len inside.room cs is at.result.0 at.result.1 c.args.i at.ensures.at at.ensures.within there c.index.result.now c.index.ensures under)
    ∙ ap (λ p. Some p) (sym c.get.ensures.there)
