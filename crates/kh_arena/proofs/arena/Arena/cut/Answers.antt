use Rattle.std.proofs.Common.{◌≡◌, ℕ, ◌≤◌, List, length, take, ap, ◌∙◌, arith}
use Rattle.kh_arena.specs.Listed.{View, items, spare, view_of, IsArena}
use Rattle.kh_arena.specs.declared.chunk.Chunk.{Chunk}
use Rattle.kh_arena.proofs.Listed.{items-take, IsArena-take, room-enough, room-places}
use Rattle.kh_arena.proofs.arena.Arena.cut.Goals as goal

within : {X A : Type 0} (n r m : ℕ) (cs : List (Chunk X A)) (v : View X) → IsArena n r cs → view_of n cs ≡ v → m ≤ length (items v) → m ≤ n
within n r m cs v is view l = omega (arith, l, is.full, ap (λ v. length (items v)) view)

pub invariant_of-self : goal.invariant_of-self
invariant_of-self g c =
    let inside = c.self.inside in let cs = inside.chunks.items in
    IsArena-take inside.len inside.room cs c.self.invariant c.args.mark (within inside.len inside.room c.args.mark cs c.args.self.now c.self.invariant c.self.view_is c.requires)

pub returns-clause-items : goal.returns-clause-items
returns-clause-items g c =
    let inside = c.self.inside in let cs = inside.chunks.items in
    items-take inside.len inside.room cs c.self.invariant c.args.mark (within inside.len inside.room c.args.mark cs c.args.self.now c.self.invariant c.self.view_is c.requires)
    ∙ ap (λ v. take c.args.mark (items v)) c.self.view_is

pub returns-clause-len : goal.returns-clause-len
returns-clause-len g c =
    let inside = c.self.inside in let cs = inside.chunks.items in
    (IsArena-take inside.len inside.room cs c.self.invariant c.args.mark (within inside.len inside.room c.args.mark cs c.args.self.now c.self.invariant c.self.view_is c.requires)).full

pub returns-clause-spare : goal.returns-clause-spare
returns-clause-spare g c =
    let inside = c.self.inside in let cs = inside.chunks.items in let is = c.self.invariant in
    let few = within inside.len inside.room c.args.mark cs c.args.self.now is c.self.view_is c.requires in
    omega (arith, few, is.full, is.few, is.room, room-enough inside.len inside.room cs is, room-places inside.len inside.room cs is, ap (λ v. length (items v)) c.self.view_is, ap (λ v. spare v) c.self.view_is)
