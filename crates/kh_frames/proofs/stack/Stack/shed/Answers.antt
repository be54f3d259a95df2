use Rattle.std.proofs.Common.{◌∙◌, ap, reverse}
use Rattle.kh_frames.proofs.Reversed.{seen_shed}
use Rattle.kh_frames.proofs.stack.Stack.shed.Goals as goal

pub returns : goal.returns
returns g c =
    let v = c.self.inside.items in
    ap reverse c.truncate.ensures.items ∙ seen_shed v.items c.args.self.now c.len.result (c.len.ensures ∙ v.ok.0) c.self.view_is c.args.n c.requires
