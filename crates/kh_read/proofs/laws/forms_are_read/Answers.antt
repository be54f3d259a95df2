use Rattle.std.proofs.Common.{◌∙◌, ap, length, zero-add}
use Rattle.kh_read.specs.State.{Ended}
use Rattle.kh_read.proofs.TextExact.{only}
use Rattle.kh_read.proofs.laws.forms_are_read.Goals as goal

pub returns : goal.returns
returns c = λ mode form rest t h follows. only mode form rest t 0 h follows ∙ ap (λ n. Ended t n) (zero-add (length form))
