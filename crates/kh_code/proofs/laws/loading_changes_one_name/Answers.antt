use Rattle.kh_code.proofs.OneName.{loaded, others, order}
use Rattle.kh_code.proofs.laws.loading_changes_one_name.Goals as goal

pub returns : goal.returns
returns c = record { loaded = loaded; others = others; order = order }
