use Rattle.std.proofs.Common.{◌∙◌, ap, reverse}
use Rattle.kh_frames.proofs.Reversed.{seen_copies}
use Rattle.kh_frames.proofs.stack.Stack.push_copies.Goals as goal

pub returns-clause-pushed : goal.returns-clause-pushed
returns-clause-pushed g c =
    let v = c.self.inside.items in
    ap reverse c.in_ok-resize.ensures.items ∙ seen_copies v.items c.args.self.now c.len.result (c.len.ensures ∙ v.ok.0) c.self.view_is c.args.n v.len c.args.item c.len.ensures
