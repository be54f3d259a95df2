use Rattle.std.proofs.Common.{◌≡◌, ◌∙◌, Bool, true, false, Ok, ap}
use Rattle.std.proofs.lemmas.Result.{err_from_is_err_and}
use Rattle.kh_read.specs.Reading.{comma_at, names_at}
use Rattle.kh_read.proofs.Names.{goes_on, last, no_name, no_comma, too_many}
use Rattle.kh_read.proofs.path.names.Goals as goal

pub returns-in_err-first : goal.returns-in_err-first
returns-in_err-first c =
    let p = err_from_is_err_and c.from_residual.result c.from_residual.ensures.1 in
    rw (p.1, p.2) (no_name c.in_err-first.field-0.0 c.loop-count.names.items 32 c.loop-count.count c.loop-count.rest.now
    (names_at 32 c.args.bytes.now) c.loop-count-test.true c.in_err-first.ensures c.loop-count.invariant)

pub returns-in_err-more : goal.returns-in_err-more
returns-in_err-more c =
    let p = err_from_is_err_and c.from_residual-in_err-more.result c.from_residual-in_err-more.ensures.1 in
    rw (p.1, p.2) (no_comma c.in_err-more.field-0.0 c.loop-count.names.items 32 c.loop-count.count c.loop-count.rest.now
    c.in_ok-first.first c.in_ok-first.after.now (names_at 32 c.args.bytes.now) c.loop-count-test.true
    c.in_ok-first.ensures c.in_err-more.ensures c.loop-count.invariant)

pub returns-then-not-more : goal.returns-then-not-more
returns-then-not-more c =
    let is_last : c.in_ok-more.more ≡ false = cc in
    let bracket : comma_at c.in_ok-first.after.now ≡ Ok (false, c.in_ok-more.after.now) =
    c.in_ok-more.ensures ∙ ap (λ (t : Bool). Ok (t, c.in_ok-more.after.now)) is_last in
    rw c.in_ok-push.ensures.items (last c.loop-count.names.items 32 c.loop-count.count c.loop-count.rest.now
    c.in_ok-first.first c.in_ok-first.after.now c.in_ok-more.after.now (names_at 32 c.args.bytes.now)
    c.loop-count-test.true c.in_ok-first.ensures bracket c.loop-count.invariant)

pub loop-count-preserved : goal.loop-count-preserved
loop-count-preserved c =
    let goes : c.in_ok-more.more ≡ true = cc in
    let comma : comma_at c.in_ok-first.after.now ≡ Ok (true, c.in_ok-more.after.now) =
    c.in_ok-more.ensures ∙ ap (λ (t : Bool). Ok (t, c.in_ok-more.after.now)) goes in
    rw c.in_ok-push.ensures.items (goes_on c.loop-count.names.items 32 c.loop-count.count c.loop-count.rest.now
    c.in_ok-first.first c.in_ok-first.after.now c.in_ok-more.after.now (names_at 32 c.args.bytes.now)
    c.loop-count-test.true c.in_ok-first.ensures comma c.loop-count.invariant)

pub returns : goal.returns
returns c =
    too_many c.loop-count.names.items 32 c.loop-count.count c.loop-count.rest.now (names_at 32 c.args.bytes.now)
    c.loop-count-test.false c.loop-count.invariant
