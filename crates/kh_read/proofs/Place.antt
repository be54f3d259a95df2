-- Where a form stands in the bytes.
use Rattle.std.proofs.Common.{◌≡◌, ℕ, ◌+◌, ◌-◌, ◌<◌, ◌≤◌, List, length, take, drop, Ok, refl, ap, subst, ◌∙◌, arith}
use Rattle.std.specs.Prelude.{slice_range}
use Rattle.std.proofs.lemmas.List.{take_at, drop_at, drop-drop, length-append, length-drop}
use Rattle.kh_read.specs.declared.form.Form.{Form}
use Rattle.kh_read.specs.declared.form.Form.TheVariants as form
use Rattle.kh_read.specs.Form.{IsForm}
use Rattle.kh_read.proofs.FormRead.{IsFormRead, form_read}
use Rattle.kh_read.specs.Reading.{form_at}

-- a form isn't empty
pub form_some : (text : List ℕ) (f : Form) → IsForm text f → 0 < length text
form_some text (form.Put path number) h = rw h.3 (omega arith)
form_some text (form.Get path) h = rw h.1 (omega arith)

-- a form at a place, with what is behind it
pub record IsPlaced (bytes : List ℕ) (at : ℕ) (f : Form) (rest : List ℕ) : Type 0 where
  pub fits : length rest ≤ length bytes
  pub behind : drop (length bytes - length rest) bytes ≡ rest
  pub later : at < length bytes - length rest
  pub text : IsForm (slice_range bytes at (length bytes - length rest)) f

pub is_placed : (bytes : List ℕ) (at : ℕ) (f : Form) (rest : List ℕ) → at ≤ length bytes → IsFormRead (drop at bytes) f rest → IsPlaced bytes at f rest
is_placed bytes at f rest within read =
    let some = form_some read.text f read.is in
    let whole : length (drop at bytes) ≡ length read.text + length rest = ap length read.parts ∙ length-append read.text rest in
    let left : length (drop at bytes) ≡ length bytes - at = length-drop at bytes in
    let place : length bytes - length rest ≡ at + length read.text = omega arith in
    let behind : drop (length read.text) (drop at bytes) ≡ rest = rw read.parts (drop_at read.text rest (length read.text) refl) in
    let len : (at + length read.text) - at ≡ length read.text = omega arith in
    let front : take (length read.text) (drop at bytes) ≡ read.text = rw read.parts (take_at read.text rest (length read.text) refl) in
    record {
      fits = omega arith;
      behind = rw (place, ← drop-drop (length read.text) at bytes) behind;
      later = omega arith;
      text = rw (place, len, front) read.is;
    }

-- the same of a form that was read off the bytes from a place on
pub read_is_placed : (bytes : List ℕ) (at : ℕ) (left : List ℕ) (f : Form) (rest : List ℕ) → at ≤ length bytes → left ≡ drop at bytes
    → form_at left ≡ Ok (f, rest) → IsPlaced bytes at f rest
read_is_placed bytes at left f rest within is e =
    is_placed bytes at f rest within (subst (λ (b : List ℕ). IsFormRead b f rest) is (form_read left (f, rest) e))

-- fewer bytes are behind a form than before it
pub form_shorter : (bytes : List ℕ) (x : Form × List ℕ) → form_at bytes ≡ Ok x → length x.1 < length bytes
form_shorter bytes x e =
    let read = form_read bytes x e in
    let some = form_some read.text x.0 read.is in
    let whole : length bytes ≡ length read.text + length x.1 = ap length read.parts ∙ length-append read.text x.1 in
    omega arith
