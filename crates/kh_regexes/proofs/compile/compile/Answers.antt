use Rattle.kh_regexes.proofs.Compiling.{searches}
use Rattle.kh_regexes.proofs.compile.compile.Goals as goal

pub invariant_of-result : goal.invariant_of-result
invariant_of-result c = record { of_text = searches c.in-Ok.regex c.in-Ok.ensures.config c.in-Ok.ensures.read }
