use Rattle.std.proofs.Common.{◌∙◌}
use Rattle.kh_frames.proofs.Reversed.{seen_set}
use Rattle.kh_frames.proofs.stack.Stack.set.Goals as goal

pub returns : goal.returns
returns g c =
    let v = c.self.inside.items in
    seen_set v.items c.args.self.now c.len.result (c.len.ensures ∙ v.ok.0) c.self.view_is c.args.i c.args.item c.requires
