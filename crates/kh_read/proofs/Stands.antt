-- What stands in the bytes, and what is answered.
use Rattle.std.proofs.Common.{◌≡◌, ℕ, ◌+◌, ◌<◌, eqb, false, List, ◌++◌, length, drop, Option, Some, None, Result, Ok, Err, inl, inr, refl, sym, ap, ◌∙◌, arith, length-append, length-drop}
use Rattle.std.proofs.lemmas.Bool.{eqb-false}
use Rattle.std.proofs.lemmas.List.{append_cancel_right}
use Rattle.kh_read.specs.declared.error.ReadError.{ReadError}
use Rattle.kh_read.specs.declared.error.ReadError.TheVariants as errors
use Rattle.kh_read.specs.declared.form.Form.{Form}
use Rattle.kh_read.specs.Form.{IsForm, NoFormComes, AtMostOneForm}
use Rattle.kh_read.specs.Reading.{Cut, Fault, form_at, extended, ReadsForm, IsUnlessMemory}
use Rattle.kh_read.proofs.Steps.{done, ok_is}
use Rattle.kh_read.proofs.Again.{form_again}
use Rattle.kh_read.proofs.Grows.{form_grows}
use Rattle.kh_read.proofs.Place.{form_some}

-- something is left
pub is_left : (bytes : List ℕ) (at : ℕ) (left : List ℕ) → left ≡ drop at bytes → eqb (length left) 0 ≡ false → at < length bytes
is_left bytes at left is some =
    let more = eqb-false (length left) 0 some in
    let len = ap (λ (l : List ℕ). length l) is in
    omega (arith, length-drop at bytes)

-- A form that stands there is read.
stands_read : (bytes : List ℕ) (at : ℕ) (x : Form × ℕ) (text rest : List ℕ) (f : Form) → ReadsForm bytes at (Ok (Some x)) → IsForm text f
    → drop at bytes ≡ text ++ rest → x ≡ (f, at + length text)
stands_read bytes at x text rest f reads is stands =
    let same = ok_is (x.0, drop x.1 bytes) (f, rest) (sym reads.0 ∙ ap form_at stands ∙ form_again text f rest is) in
    let left : drop x.1 bytes ≡ rest = ap (λ (y : Form × List ℕ). y.1) same in
    let whole = ap (λ (l : List ℕ). length l) stands in
    let later = ap (λ (l : List ℕ). length l) left in
    let place : x.1 ≡ at + length text = omega (arith, length-append text rest, length-drop at bytes, length-drop x.1 bytes, reads.1, reads.2) in
    let form : x.0 ≡ f = ap (λ (y : Form × List ℕ). y.0) same in
    λ i. (form i, place i)

pub only_read : (bytes : List ℕ) (at : ℕ) (result : Result (Option (Form × ℕ)) ReadError) → ReadsForm bytes at result
    → (text rest : List ℕ) (f : Form) → IsForm text f → drop at bytes ≡ text ++ rest → IsUnlessMemory result (Some (f, at + length text))
only_read bytes at (Ok None) reads text rest f is stands =
    let some = form_some text f is in
    let whole = ap (λ (l : List ℕ). length l) stands in
    absurd (omega (arith, length-append text rest, length-drop at bytes))
only_read bytes at (Ok (Some x)) reads text rest f is stands = inl (ap (λ (y : Form × ℕ). Ok (Some y)) (stands_read bytes at x text rest f reads is stands))
only_read bytes at (Err errors.NoMemory) reads text rest f is stands = inr refl
only_read bytes at (Err errors.Incomplete) reads text rest f is stands =
    let e : Err Cut ≡ done (f, rest) = sym reads.1 ∙ ap form_at stands ∙ form_again text f rest is in cc
only_read bytes at (Err errors.Syntax) reads text rest f is stands =
    let e : Err Fault ≡ done (f, rest) = sym reads.1 ∙ ap form_at stands ∙ form_again text f rest is in cc

-- A fault isn't mended by what comes later.
pub no_form_comes : (bytes : List ℕ) → form_at bytes ≡ Err Fault → NoFormComes bytes
no_form_comes bytes fault more text rest f is stands =
    let still : form_at (bytes ++ more) ≡ Err Fault = form_grows bytes more (λ e. absurd cc) ∙ ap (extended more) fault in
    let e : Err Fault ≡ done (f, rest) = sym still ∙ ap form_at stands ∙ form_again text f rest is in
    cc

pub at_most_one_form : AtMostOneForm
at_most_one_form text other rest later f g is is_other same =
    let both = ok_is (f, rest) (g, later) (sym (form_again text f rest is) ∙ ap form_at same ∙ form_again other g later is_other) in
    let behind : rest ≡ later = ap (λ (y : Form × List ℕ). y.1) both in
    let form : f ≡ g = ap (λ (y : Form × List ℕ). y.0) both in
    (append_cancel_right text other later (rw behind at same), form)
