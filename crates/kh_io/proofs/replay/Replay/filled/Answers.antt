use Rattle.std.proofs.Common.{refl, ap, ◌∙◌, arith, ◌≡◌, ℕ, length, List, take, drop, ◌++◌}
use Rattle.std.proofs.lemmas.Grind.{common_steps}
use Rattle.kh_io.proofs.Replays.{overwritten}
use Rattle.kh_io.proofs.replay.Replay.filled.Goals as goal

pub returns : goal.returns
returns c = λ s shows.
    let bytes : List ℕ = c.overwrite.new.bytes in
    let old : List ℕ = c.self.inside.bytes.items in
    let len : length bytes ≡ length old = c.overwrite.auto.bytes ∙ ap length c.deref_mut.ensures.value in
    let whole : take c.self.inside.bytes.len (bytes ++ drop (length bytes) old) ≡ bytes = grind (arith, common_steps) in
    let each = rw (c.deref.ensures.value, c.deref_mut.ensures.value) at c.overwrite.ensures in
    rw (c.in-Some.is, c.new-2.ensures, whole)
    (overwritten s _ c.self.inside.loose.items c.in-Some.byte bytes (rw (← c.self.view_is) at shows) refl len each)
