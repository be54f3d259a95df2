use Rattle.std.proofs.Common.{◌≡◌, ◌-◌, length, drop, Some, Ok, Err, sym, ◌∙◌, arith}
use Rattle.std.proofs.lemmas.Result.{err_from_is_err_and}
use Rattle.kh_read.specs.declared.error.ReadError.TheVariants as errors
use Rattle.kh_read.proofs.CutForms.{begins_form}
use Rattle.kh_read.proofs.Stands.{only_read, no_form_comes, is_left}
use Rattle.kh_read.proofs.Place.{read_is_placed}
use Rattle.kh_read.proofs.read.read_form.Goals as goal

pub overflow_sub-result : goal.overflow_sub-result
overflow_sub-result c =
    (read_is_placed c.args.bytes.now c.args.at c.split_at.result.1.now c.in_ok-form.form c.in_ok-form.rest.now
    c.requires c.split_at.ensures.back c.in_ok-form.ensures).fits

pub returns-clause-exact : goal.returns-clause-exact
returns-clause-exact c =
    let placed = read_is_placed c.args.bytes.now c.args.at c.split_at.result.1.now c.in_ok-form.form c.in_ok-form.rest.now
    c.requires c.split_at.ensures.back c.in_ok-form.ensures in
    let later = placed.later in
    (rw placed.behind (rw c.split_at.ensures.back at c.in_ok-form.ensures), later, omega arith)

pub returns-clause-found : goal.returns-clause-found
returns-clause-found c =
    (read_is_placed c.args.bytes.now c.args.at c.split_at.result.1.now c.in_ok-form.form c.in_ok-form.rest.now
    c.requires c.split_at.ensures.back c.in_ok-form.ensures).text

pub returns-in_err-form-clause-only : goal.returns-in_err-form-clause-only
returns-in_err-form-clause-only c = λ text rest f is stands.
    let p = err_from_is_err_and c.from_residual.result c.from_residual.ensures.1 in
    let later = is_left c.args.bytes.now c.args.at c.split_at.result.1.now c.split_at.ensures.back (sym c.is_empty.ensures ∙ c.if-is_empty.false) in
    rw (p.1, p.2) (only_read c.args.bytes.now c.args.at (Err c.in_err-form.field-0.0) (later, rw c.split_at.ensures.back at c.in_err-form.ensures) text rest f is stands)

pub returns-in_err-form-clause-incomplete : goal.returns-in_err-form-clause-incomplete
returns-in_err-form-clause-incomplete c = λ incomplete.
    let p = err_from_is_err_and c.from_residual.result c.from_residual.ensures.1 in
    let later = is_left c.args.bytes.now c.args.at c.split_at.result.1.now c.split_at.ensures.back (sym c.is_empty.ensures ∙ c.if-is_empty.false) in
    let is : c.in_err-form.field-0.0 ≡ errors.Incomplete = cc in
    (later, begins_form (drop c.args.at c.args.bytes.now) (rw (is, c.split_at.ensures.back) at c.in_err-form.ensures))

pub returns-in_err-form-clause-syntax : goal.returns-in_err-form-clause-syntax
returns-in_err-form-clause-syntax c = λ fault.
    let p = err_from_is_err_and c.from_residual.result c.from_residual.ensures.1 in
    let is : c.in_err-form.field-0.0 ≡ errors.Syntax = cc in
    no_form_comes (drop c.args.at c.args.bytes.now) (rw (is, c.split_at.ensures.back) at c.in_err-form.ensures)

pub returns-clause-only : goal.returns-clause-only
returns-clause-only c = λ text rest f is stands.
    only_read c.args.bytes.now c.args.at (Ok (Some (c.in_ok-form.form, length c.args.bytes.now - length c.in_ok-form.rest.now)))
    (returns-clause-exact c) text rest f is stands
