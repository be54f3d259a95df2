use Rattle.std.proofs.Common.{◌≡◌, ◌≤◌, ◌+◌, ℕ, true, false, List, drop, length, Option, Some, None, Ok, Err, refl, sym, ap, subst, ◌∙◌, arith}
use Rattle.std.specs.Prelude.{◌↔◌, IfErr, IfOk, IfSome, Result}
use Rattle.kh_term.specs.Size.{size_of, depth_of}
use Rattle.kh_term.specs.declared.term.Term.{Term}
use Rattle.kh_text_defs.specs.Blanks.{IsBlankToEnd}
use Rattle.kh_text_defs.specs.Faults.{max_levels, max_size}
use Rattle.kh_read.specs.declared.fault.ReadError.{ReadError}
use Rattle.kh_read.specs.Exact.{reading}
use Rattle.kh_read.specs.Skipped.{first_mark}
use Rattle.kh_read.specs.Text.{Answers, IsRead, IsWhy}
use Rattle.kh_read.specs.Views.{GivesReading, answer_of, answer_offset}
use Rattle.kh_read.proofs.Answered.{none_blank, none_read, offset_within, none_of, found_of, only_of, why_of, small_of, shallow_of}
use Rattle.kh_read.proofs.TextDepths.{are_bytes, bytes_are}
use Rattle.kh_read.proofs.text.read_form.Goals as goal

pub returns-in-None-clause-none : goal.returns-in-None-clause-none
returns-in-None-clause-none c =
    let e : first_mark false 0 (drop c.args.at c.args.bytes.now) ≡ None = cc in
    (λ same. none_blank (drop c.args.at c.args.bytes.now) e, λ blank. refl)

pub returns-in-None-clause-only : goal.returns-in-None-clause-only
returns-in-None-clause-only c = λ t end h.
    let e : first_mark false 0 (drop c.args.at c.args.bytes.now) ≡ None = cc in
    absurd (none_read c.args.mode c.args.bytes.now c.args.at t end e h)

pub answer-requires : goal.answer-requires
answer-requires c =
    let marks : first_mark false 0 (drop c.args.at c.args.bytes.now) ≡ Some c.in-Some.first = ap (λ (w : List ℕ). first_mark false 0 w) (sym c.split_at.ensures.back) ∙ (sym c.first_mark.ensures ∙ c.in-Some.is) in
    let gives : GivesReading c.read.result (reading c.args.mode (drop c.args.at c.args.bytes.now)) = subst (λ (w : List ℕ). GivesReading c.read.result (reading c.args.mode w)) c.split_at.ensures.back c.read.ensures in
    offset_within c.args.mode c.args.bytes.now c.args.at c.in-Some.first marks c.read.result gives c.requires

pub returns-in-Some-clause-none : goal.returns-in-Some-clause-none
returns-in-Some-clause-none c =
    let marks : first_mark false 0 (drop c.args.at c.args.bytes.now) ≡ Some c.in-Some.first = ap (λ (w : List ℕ). first_mark false 0 w) (sym c.split_at.ensures.back) ∙ (sym c.first_mark.ensures ∙ c.in-Some.is) in
    subst (λ (r : Result (Option (Term × ℕ)) ReadError). (r ≡ Ok None) ↔ IsBlankToEnd (drop c.args.at c.args.bytes.now)) (sym c.answer.ensures)
    (none_of c.args.mode c.args.bytes.now c.args.at c.in-Some.first marks c.read.result)

pub returns-in-Some-clause-found : goal.returns-in-Some-clause-found
returns-in-Some-clause-found c =
    let marks : first_mark false 0 (drop c.args.at c.args.bytes.now) ≡ Some c.in-Some.first = ap (λ (w : List ℕ). first_mark false 0 w) (sym c.split_at.ensures.back) ∙ (sym c.first_mark.ensures ∙ c.in-Some.is) in
    let gives : GivesReading c.read.result (reading c.args.mode (drop c.args.at c.args.bytes.now)) = subst (λ (w : List ℕ). GivesReading c.read.result (reading c.args.mode w)) c.split_at.ensures.back c.read.ensures in
    subst (λ (r : Result (Option (Term × ℕ)) ReadError). IfOk r (λ read. IfSome read (λ x. IsRead c.args.mode c.args.bytes.now c.args.at x.0 x.1))) (sym c.answer.ensures)
    (found_of c.args.mode c.args.bytes.now c.args.at c.in-Some.first marks c.read.result gives)

pub returns-in-Some-clause-only : goal.returns-in-Some-clause-only
returns-in-Some-clause-only c = λ t end h.
    let marks : first_mark false 0 (drop c.args.at c.args.bytes.now) ≡ Some c.in-Some.first = ap (λ (w : List ℕ). first_mark false 0 w) (sym c.split_at.ensures.back) ∙ (sym c.first_mark.ensures ∙ c.in-Some.is) in
    let gives : GivesReading c.read.result (reading c.args.mode (drop c.args.at c.args.bytes.now)) = subst (λ (w : List ℕ). GivesReading c.read.result (reading c.args.mode w)) c.split_at.ensures.back c.read.ensures in
    subst (λ (r : Result (Option (Term × ℕ)) ReadError). Answers r (Some (t, end))) (sym c.answer.ensures)
    (only_of c.args.mode c.args.bytes.now c.args.at c.in-Some.first marks c.read.result gives t end h)

pub returns-in-Some-clause-why : goal.returns-in-Some-clause-why
returns-in-Some-clause-why c =
    let marks : first_mark false 0 (drop c.args.at c.args.bytes.now) ≡ Some c.in-Some.first = ap (λ (w : List ℕ). first_mark false 0 w) (sym c.split_at.ensures.back) ∙ (sym c.first_mark.ensures ∙ c.in-Some.is) in
    let gives : GivesReading c.read.result (reading c.args.mode (drop c.args.at c.args.bytes.now)) = subst (λ (w : List ℕ). GivesReading c.read.result (reading c.args.mode w)) c.split_at.ensures.back c.read.ensures in
    subst (λ (r : Result (Option (Term × ℕ)) ReadError). IfErr r (λ e. IsWhy c.args.mode c.args.bytes.now c.args.at e)) (sym c.answer.ensures)
    (why_of c.args.mode c.args.bytes.now c.args.at c.in-Some.first marks c.read.result gives)

pub returns-in-Some-clause-small : goal.returns-in-Some-clause-small
returns-in-Some-clause-small c =
    let marks : first_mark false 0 (drop c.args.at c.args.bytes.now) ≡ Some c.in-Some.first = ap (λ (w : List ℕ). first_mark false 0 w) (sym c.split_at.ensures.back) ∙ (sym c.first_mark.ensures ∙ c.in-Some.is) in
    let gives : GivesReading c.read.result (reading c.args.mode (drop c.args.at c.args.bytes.now)) = subst (λ (w : List ℕ). GivesReading c.read.result (reading c.args.mode w)) c.split_at.ensures.back c.read.ensures in
    subst (λ (r : Result (Option (Term × ℕ)) ReadError). IfOk r (λ read. IfSome read (λ x. size_of x.0.node ≤ max_size))) (sym c.answer.ensures)
    (small_of c.args.mode c.args.bytes.now c.args.at c.in-Some.first marks c.read.result gives)

pub returns-in-Some-clause-shallow : goal.returns-in-Some-clause-shallow
returns-in-Some-clause-shallow c =
    let marks : first_mark false 0 (drop c.args.at c.args.bytes.now) ≡ Some c.in-Some.first = ap (λ (w : List ℕ). first_mark false 0 w) (sym c.split_at.ensures.back) ∙ (sym c.first_mark.ensures ∙ c.in-Some.is) in
    let gives : GivesReading c.read.result (reading c.args.mode (drop c.args.at c.args.bytes.now)) = subst (λ (w : List ℕ). GivesReading c.read.result (reading c.args.mode w)) c.split_at.ensures.back c.read.ensures in
    subst (λ (r : Result (Option (Term × ℕ)) ReadError). IfOk r (λ read. IfSome read (λ x. depth_of x.0.node ≤ max_levels))) (sym c.answer.ensures)
    (shallow_of c.args.mode c.args.bytes.now c.args.at c.in-Some.first marks (bytes_are c.args.bytes.now (λ i. omega (arith, c.type_inv.bytes i))) c.read.result gives)
