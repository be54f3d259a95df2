use Rattle.std.proofs.Common.{◌≡◌, List, sym, subst}
use Rattle.kh_instr.specs.Written.{IsWritten, HasSmallLiterals}
use Rattle.kh_instr.specs.declared.module.Function.{Function}
use Rattle.kh_code.proofs.Labelled.{both_pushed, two_written, two_small}
use Rattle.kh_code.proofs.tests.module.Goals as goal

pub returns-clause-written : goal.returns-clause-written
returns-clause-written c =
    let made = both_pushed c.in_ok-functions.functions c.push-2.new.self c.push.new.self c.new-functions.result c.in_ok-labelled.field-0 c.in_ok-labelled-2.field-0
    c.in_ok-module.module c.in_ok-name.name c.in_ok-functions.ensures c.in_ok-push-2.ensures.ok c.in_ok-push.ensures.ok c.new-functions.ensures
    c.in_ok-labelled.ensures c.in_ok-labelled-2.ensures in
    subst (λ (fs : List Function). IsWritten (record { name = c.in_ok-module.module; exports = c.push-4.new.self; functions = fs })) (sym made)
    (two_written c.in_ok-module.module c.in_ok-name.name c.push-4.new.self)

pub returns-clause-small : goal.returns-clause-small
returns-clause-small c =
    let made = both_pushed c.in_ok-functions.functions c.push-2.new.self c.push.new.self c.new-functions.result c.in_ok-labelled.field-0 c.in_ok-labelled-2.field-0
    c.in_ok-module.module c.in_ok-name.name c.in_ok-functions.ensures c.in_ok-push-2.ensures.ok c.in_ok-push.ensures.ok c.new-functions.ensures
    c.in_ok-labelled.ensures c.in_ok-labelled-2.ensures in
    subst (λ (fs : List Function). HasSmallLiterals (record { name = c.in_ok-module.module; exports = c.push-4.new.self; functions = fs })) (sym made)
    (two_small c.in_ok-module.module c.in_ok-name.name c.push-4.new.self)
