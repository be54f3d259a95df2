use Rattle.std.proofs.Common.{[], ◌∷◌, ◌++◌, ◌+◌, ◌-◌, ◌<◌, length, take, min, sym, ap, subst, ◌∙◌, arith}
use Rattle.kh_arena.specs.Sizes.{chunk_len}
use Rattle.kh_arena.specs.Ownership.{empty_places}
use Rattle.kh_arena.specs.Listed.{first_items, places_of, spots_of, items, spots, spare, most_items, IsArena}
use Rattle.kh_arena.proofs.Listed.{items-grown, spots-grown, IsArena-grown, spare-grown}
use Rattle.kh_arena.proofs.arena.Arena.grow.Goals as goal

pub invariant_of-self-in-Some : goal.invariant_of-self-in-Some
invariant_of-self-in-Some g c =
    let inside = c.self.inside in let cs = inside.chunks.items in let is = c.self.invariant in
    let chunk = c.in-Some.chunk in
    let empty = c.in-Some.ensures.empty ∙ ap empty_places (c.chunk_items-places.ensures.places ∙ ap chunk_len (c.len.ensures ∙ inside.chunks.ok.0)) in
    let added = c.push_reserved.ensures.items ∙ ap (λ ds. ds ++ chunk ∷ []) c.reserve.ensures.items in
    let sum = c.saturating_add-self-inside.ensures ∙ ap (λ k. min (inside.room + k) most_items) (c.chunk_items-places.ensures.places ∙ ap chunk_len (c.len.ensures ∙ inside.chunks.ok.0)) in
    let grown = IsArena-grown inside.len inside.room cs is chunk empty in
    subst (λ ds. IsArena inside.len c.saturating_add-self-inside.result ds) (sym added) (subst (λ k. IsArena inside.len k (cs ++ chunk ∷ [])) (sym sum) grown)

pub returns-in-Some-clause-items : goal.returns-in-Some-clause-items
returns-in-Some-clause-items g c =
    let inside = c.self.inside in let cs = inside.chunks.items in let is = c.self.invariant in
    let chunk = c.in-Some.chunk in
    let empty = c.in-Some.ensures.empty ∙ ap empty_places (c.chunk_items-places.ensures.places ∙ ap chunk_len (c.len.ensures ∙ inside.chunks.ok.0)) in
    let added = c.push_reserved.ensures.items ∙ ap (λ ds. ds ++ chunk ∷ []) c.reserve.ensures.items in
    ap (λ ds. first_items inside.len (places_of ds)) added ∙ items-grown inside.len inside.room cs is chunk empty ∙ ap (λ v. items v) c.self.view_is

pub returns-in-Some-clause-spots : goal.returns-in-Some-clause-spots
returns-in-Some-clause-spots g c =
    let inside = c.self.inside in let cs = inside.chunks.items in let is = c.self.invariant in
    let chunk = c.in-Some.chunk in
    let empty = c.in-Some.ensures.empty ∙ ap empty_places (c.chunk_items-places.ensures.places ∙ ap chunk_len (c.len.ensures ∙ inside.chunks.ok.0)) in
    let added = c.push_reserved.ensures.items ∙ ap (λ ds. ds ++ chunk ∷ []) c.reserve.ensures.items in
    ap (λ ds. take inside.len (spots_of ds)) added ∙ spots-grown inside.len inside.room cs is chunk empty ∙ ap (λ v. spots v) c.self.view_is

pub returns-in-Some-clause-more : goal.returns-in-Some-clause-more
returns-in-Some-clause-more g c =
    let inside = c.self.inside in let cs = inside.chunks.items in let is = c.self.invariant in
    let chunk = c.in-Some.chunk in
    let empty = c.in-Some.ensures.empty ∙ ap empty_places (c.chunk_items-places.ensures.places ∙ ap chunk_len (c.len.ensures ∙ inside.chunks.ok.0)) in
    let added = c.push_reserved.ensures.items ∙ ap (λ ds. ds ++ chunk ∷ []) c.reserve.ensures.items in
    let before = ap (λ v. spare v) c.self.view_is in
    let l : inside.len + (min (length (places_of cs)) most_items - inside.len) < most_items = omega (arith, c.requires, before, is.full, ap (λ v. length (items v)) c.self.view_is) in
    omega (arith, spare-grown inside.len inside.room cs is chunk empty l, before, ap (λ ds. length (places_of ds)) added)
