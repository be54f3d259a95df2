use Rattle.std.proofs.Common.{◌≡◌, ◌∙◌, ◌||◌, Bool, true, false, sym, ap, slice_get}
use Rattle.std.specs.List.{list_any}
use Rattle.kh_frames.specs.Frame.{is_mark, is_marked}
use Rattle.kh_frames.proofs.Marks.{found_mark, marks_more}
use Rattle.kh_frames.proofs.calls.any_marked.Goals as goal

pub returns-then-is_mark : goal.returns-then-is_mark
returns-then-is_mark c =
    let found : is_mark c.get.result ≡ true = sym c.is_mark.ensures ∙ c.if-is_mark.true in
    sym (found_mark c.args.n c.args.slots.now c.loop-i.i (ap is_mark (sym c.get.ensures) ∙ found) c.loop-i-test.true)

pub loop-i-preserved : goal.loop-i-preserved
loop-i-preserved c =
    let none : is_mark c.get.result ≡ false = sym c.is_mark.ensures ∙ c.if-is_mark.false in
    marks_more c.args.slots.now c.loop-i.i ∙ ap (λ b. b || is_mark (slice_get c.args.slots.now c.loop-i.i)) c.loop-i.invariant ∙ ap is_mark (sym c.get.ensures) ∙ none
