use Rattle.std.proofs.Common.{◌≡◌, ◌∙◌, Bool, true, false, sym, ap, arith}
use Rattle.std.proofs.lemmas.Bool.Decides.{nat_tests}
use Rattle.kh_frames.specs.Frame.{is_empty}
use Rattle.kh_frames.proofs.Laying.{led_on}
use Rattle.kh_frames.proofs.calls.CallStack.raise.Goals as goal

pub returns : goal.returns
returns c =
    let own : is_empty c.loop-self.self.running.catches ≡ false = grind (arith, nat_tests) in
    led_on c.loop-self.self c.args.self.now c.take_catch.new.self c.take_catch.result c.loop-self.invariant.same own c.take_catch.ensures
