use Rattle.std.proofs.Common.{◌≡◌, ◌<◌, ◌∙◌, length, get_or, take, true, false, sym, arith}
use Rattle.std.proofs.lemmas.Bool.{and_from}
use Rattle.std.proofs.lemmas.List.Folds.{list_all_at, list_all_more}
use Rattle.std.specs.List.{list_all}
use Rattle.kh_listing.specs.Sets.{has_pair}
use Rattle.kh_listing.proofs.labels.all_stand.Goals as goal

pub returns-then-not-stands_by : goal.returns-then-not-stands_by
returns-then-not-stands_by c =
    let within : c.loop-label.label-index < length c.args.labels.now = omega arith in
    let out : has_pair c.args.homes.now c.args.number (get_or c.args.labels.now c.loop-label.label-index 0) ≡ false = cc in
    sym (list_all_at (has_pair c.args.homes.now c.args.number) c.args.labels.now c.loop-label.label-index 0 within out)

pub loop-label-preserved : goal.loop-label-preserved
loop-label-preserved c =
    let within : c.loop-label.label-index < length c.args.labels.now = omega arith in
    let stands : has_pair c.args.homes.now c.args.number (get_or c.args.labels.now c.loop-label.label-index 0) ≡ true = cc in
    list_all_more (has_pair c.args.homes.now c.args.number) c.args.labels.now c.loop-label.label-index 0 within
    ∙ and_from (list_all (has_pair c.args.homes.now c.args.number) (take c.loop-label.label-index c.args.labels.now)) (has_pair c.args.homes.now c.args.number (get_or c.args.labels.now c.loop-label.label-index 0)) c.loop-label.invariant stands
