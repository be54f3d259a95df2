use Rattle.kh_listing.proofs.Faulty.{calls_first, labels_first, entries_first, functions_first, all_first}
use Rattle.kh_listing.proofs.judging.first_fault.Goals as goal

pub returns : goal.returns
returns c =
    let calls = calls_first c.args.forms.now c.in_ok-jumping_out.jumping_out c.in_ok-astray.astray c.earlier-calls.result c.earlier-calls.ensures c.in_ok-jumping_out.ensures c.in_ok-astray.ensures in
    let labels = labels_first c.args.forms.now c.in_ok-labelled_again.labelled_again c.earlier-calls.result c.earlier-labels.result c.earlier-labels.ensures c.in_ok-labelled_again.ensures calls in
    let entries = entries_first c.args.forms.now c.first_lacking-lacking.result c.earlier-labels.result c.earlier-entries.result c.earlier-entries.ensures c.first_lacking-lacking.ensures labels in
    let functions = functions_first c.args.forms.now c.in_ok-defined_again.defined_again c.earlier-entries.result c.earlier-functions.result c.earlier-functions.ensures c.in_ok-defined_again.ensures entries in
    all_first c.args.forms.now c.first_misplaced-misplaced.result c.earlier-functions.result c.earlier-all.result c.earlier-all.ensures c.first_misplaced-misplaced.ensures functions
