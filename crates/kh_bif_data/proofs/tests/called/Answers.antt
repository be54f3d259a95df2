use Rattle.kh_bif_data.proofs.Answering.{held_answer}
use Rattle.kh_bif_data.proofs.tests.called.Goals as goal

pub returns : goal.returns
returns c = held_answer c.call.new.heap c.call.result _ c.call.ensures.answer
