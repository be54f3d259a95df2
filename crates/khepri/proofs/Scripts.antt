-- Reading line after line is a script, whatever comes later.
use Rattle.std.proofs.Common.{◌≡◌, ◌≢◌, ℕ, zero, suc, ◌<◌, ◌≤◌, Bool, true, false, cond, eqb, List, [], ◌∷◌, ◌++◌, length, Ok, Err, refl, sym, ap, subst, ◌∙◌, append_assoc, arith}
use Rattle.std.proofs.lemmas.List.{append-nil}
use Rattle.kh_read.specs.declared.form.Form.{Form}
use Rattle.kh_read.specs.Reading.{◌>>=◌, Read, Cut, Fault, form_at, extended}
use Rattle.kh_read.proofs.{form_grows, form_shorter}
use Rattle.khepri.specs.Script.{Ending, AtFault, behind_form, line_at, cut_short, all_read, Script, ends, faulty, cut, line, Later, Reads, EndsReading, BeginsReading}

-- ---- lines, with more behind them

behind_later : (is_end end : Bool) (form : Form) (rest more : List ℕ) → Later is_end end more → behind_form is_end form rest ≢ Err Cut
    → behind_form end form (rest ++ more) ≡ extended more (behind_form is_end form rest)
behind_later true end form [] more later uncut = rw (later.0, later.1) refl
behind_later false end form [] more later uncut = absurd (uncut refl)
behind_later is_end end form (byte ∷ rest) more later uncut = by_newline (eqb byte 10)
  where
    by_newline : (t : Bool) → cond t (Ok (form, rest ++ more)) (Err Fault) ≡ extended more (cond t (Ok (form, rest)) (Err Fault))
    by_newline true = refl
    by_newline false = refl

line_case : (is_end end : Bool) (more : List ℕ) (now later : Read Form) → Later is_end end more → (now ≢ Err Cut → later ≡ extended more now)
    → (now >>= λ x. behind_form is_end x.0 x.1) ≢ Err Cut
    → (later >>= λ x. behind_form end x.0 x.1) ≡ extended more (now >>= λ x. behind_form is_end x.0 x.1)
line_case is_end end more (Ok x) later comes grows uncut =
    let e = grows (λ same. cc) in rw e (behind_later is_end end x.0 x.1 more comes uncut)
line_case is_end end more (Err Cut) later comes grows uncut = absurd (uncut refl)
line_case is_end end more (Err Fault) later comes grows uncut =
    let e = grows (λ same. cc) in rw e refl

-- a line that isn't cut short stays as it is
pub line_later : (is_end end : Bool) (bytes more : List ℕ) → Later is_end end more → line_at is_end bytes ≢ Err Cut
    → line_at end (bytes ++ more) ≡ extended more (line_at is_end bytes)
line_later is_end end bytes more comes uncut =
    line_case is_end end more (form_at bytes) (form_at (bytes ++ more)) comes (form_grows bytes more) uncut

abbrev got : Form × List ℕ → Read Form
got x = Ok x

got_is : (x y : Form × List ℕ) → got x ≡ got y → x ≡ y
got_is x y e = cc

behind_newline : (form : Form) (rest : List ℕ) (x : Form × List ℕ) (t : Bool) → cond t (got (form, rest)) (Err Fault) ≡ Ok x → length x.1 ≤ suc (length rest)
behind_newline form rest x true e = subst (λ (y : Form × List ℕ). length y.1 ≤ suc (length rest)) (got_is (form, rest) x e) (omega arith)
behind_newline form rest x false e = absurd cc

behind_shorter : (is_end : Bool) (form : Form) (rest : List ℕ) (x : Form × List ℕ) → behind_form is_end form rest ≡ Ok x → length x.1 ≤ length rest
behind_shorter true form [] x e = subst (λ (y : Form × List ℕ). length y.1 ≤ 0) (got_is (form, []) x e) (omega arith)
behind_shorter false form [] x e = absurd cc
behind_shorter is_end form (byte ∷ rest) x e = behind_newline form rest x (eqb byte 10) e

line_of : (is_end : Bool) (read : Read Form) (x : Form × List ℕ) → (read >>= λ y. behind_form is_end y.0 y.1) ≡ Ok x
    → (y : Form × List ℕ) × (read ≡ Ok y) × (behind_form is_end y.0 y.1 ≡ Ok x)
line_of is_end (Ok y) x e = (y, refl, e)
line_of is_end (Err stop) x e = absurd cc

-- a line takes bytes
pub line_shorter : (is_end : Bool) (bytes : List ℕ) (x : Form × List ℕ) → line_at is_end bytes ≡ Ok x → length x.1 < length bytes
line_shorter is_end bytes x e =
    let read = line_of is_end (form_at bytes) x e in
    let form = form_shorter bytes read.0 read.1 in
    let behind = behind_shorter is_end read.0.0 read.0.1 x read.2 in
    omega arith

-- ---- each input has a script

abbrev HasScript : Bool → List ℕ → Type 0
HasScript end bytes = (forms : List Form) × (ending : Ending) × Script end bytes forms ending

script_by_line : (end : Bool) (byte : ℕ) (bytes : List ℕ) (read : Read Form) → line_at end (byte ∷ bytes) ≡ read
    → ((form : Form) (rest : List ℕ) → read ≡ Ok (form, rest) → HasScript end rest) → HasScript end (byte ∷ bytes)
script_by_line end byte bytes (Ok x) is next =
    let others = next x.0 x.1 refl in
    (x.0 ∷ others.0, others.1, line (byte ∷ bytes) x.0 x.1 others.0 others.1 is others.2)
script_by_line end byte bytes (Err Cut) is next = ([], cut_short end, cut (byte ∷ bytes) (λ none. cc) is)
script_by_line end byte bytes (Err Fault) is next = ([], AtFault, faulty (byte ∷ bytes) is)

script_within : (n : ℕ) (end : Bool) (bytes : List ℕ) → length bytes ≤ n → HasScript end bytes
script_within n end [] few = ([], all_read end, ends)
script_within zero end (byte ∷ bytes) few = absurd (omega arith)
script_within (suc n) end (byte ∷ bytes) few =
    script_by_line end byte bytes (line_at end (byte ∷ bytes)) refl (λ form rest is.
    script_within n end rest (let shorter = line_shorter end (byte ∷ bytes) (form, rest) is in omega arith))

pub script_exists : (end : Bool) (bytes : List ℕ) → HasScript end bytes
script_exists end bytes = script_within (length bytes) end bytes (omega arith)

-- ---- reading on

pub reads_starts : (is_end : Bool) (bytes : List ℕ) → Reads is_end bytes bytes []
reads_starts is_end bytes = record { goes_on = λ end more others ending comes script. script }

not_cut : {x : Form × List ℕ} (read : Read Form) → read ≡ Ok x → read ≢ Err Cut
not_cut read is same = cc

-- one line more
pub reads_on : (is_end : Bool) (bytes left : List ℕ) (forms : List Form) (form : Form) (rest : List ℕ)
    → Reads is_end bytes left forms → line_at is_end left ≡ Ok (form, rest) → Reads is_end bytes rest (forms ++ form ∷ [])
reads_on is_end bytes left forms form rest so_far is = record {
  goes_on = λ end more others ending comes script.
      let still : line_at end (left ++ more) ≡ Ok (form, rest ++ more) =
      line_later is_end end left more comes (not_cut (line_at is_end left) is) ∙ ap (extended more) is in
      subst (λ (fs : List Form). Script end (bytes ++ more) fs ending) (sym (append_assoc forms (form ∷ []) others))
      (so_far.goes_on end more (form ∷ others) ending comes (line (left ++ more) form (rest ++ more) others ending still script));
}

fault_isn't_cut : (read : Read Form) → read ≡ Err Fault → read ≢ Err Cut
fault_isn't_cut read is same = cc

-- bytes that are no form
pub reads_faulty : (is_end : Bool) (bytes left : List ℕ) (forms : List Form)
    → Reads is_end bytes left forms → line_at is_end left ≡ Err Fault → EndsReading is_end bytes forms AtFault
reads_faulty is_end bytes left forms so_far is = record {
  script = λ end more comes.
      let still : line_at end (left ++ more) ≡ Err Fault =
      line_later is_end end left more comes (fault_isn't_cut (line_at is_end left) is) ∙ ap (extended more) is in
      subst (λ (fs : List Form). Script end (bytes ++ more) fs AtFault) (append-nil forms)
      (so_far.goes_on end more [] AtFault comes (faulty (left ++ more) still));
}

-- the input ends inside a form
pub reads_cut : (bytes left : List ℕ) (forms : List Form)
    → Reads true bytes left forms → left ≢ [] → line_at true left ≡ Err Cut → EndsReading true bytes forms AtFault
reads_cut bytes left forms so_far some is = record {
  script = λ end more comes.
      let whole : Script true (left ++ []) [] AtFault = subst (λ (b : List ℕ). Script true b [] AtFault) (sym (append-nil left)) (cut left some is) in
      let here : Script end (left ++ more) [] AtFault = rw (comes.0, comes.1) whole in
      subst (λ (fs : List Form). Script end (bytes ++ more) fs AtFault) (append-nil forms) (so_far.goes_on end more [] AtFault comes here);
}

-- what was read so far begins a script
pub reads_begins : (is_end : Bool) (bytes left : List ℕ) (forms : List Form) → Reads is_end bytes left forms → BeginsReading is_end bytes forms
reads_begins is_end bytes left forms so_far = record {
  script = λ end more comes.
      let others = script_exists end (left ++ more) in
      (others.0, others.1, so_far.goes_on end more others.0 others.1 comes others.2);
}

-- ---- reading in parts

pub reads_then : (is_end : Bool) (bytes left last : List ℕ) (forms others : List Form)
    → Reads false bytes left forms → Reads is_end left last others → Reads is_end bytes last (forms ++ others)
reads_then is_end bytes left last forms others first second = record {
  goes_on = λ end more behind ending comes script.
      subst (λ (fs : List Form). Script end (bytes ++ more) fs ending) (sym (append_assoc forms others behind))
      (first.goes_on end more (others ++ behind) ending tt (second.goes_on end more behind ending comes script));
}

pub ends_then : (is_end : Bool) (bytes left : List ℕ) (forms others : List Form) (ending : Ending)
    → Reads false bytes left forms → EndsReading is_end left others ending → EndsReading is_end bytes (forms ++ others) ending
ends_then is_end bytes left forms others ending first second = record {
  script = λ end more comes. first.goes_on end more others ending tt (second.script end more comes);
}

pub begins_then : (is_end : Bool) (bytes left : List ℕ) (forms others : List Form)
    → Reads false bytes left forms → BeginsReading is_end left others → BeginsReading is_end bytes (forms ++ others)
begins_then is_end bytes left forms others first second = record {
  script = λ end more comes.
      let next = second.script end more comes in (
        next.0,
        next.1,
        subst (λ (fs : List Form). Script end (bytes ++ more) fs next.1) (sym (append_assoc forms others next.0))
            (first.goes_on end more (others ++ next.0) next.1 tt next.2),
      );
}

-- more of the input has come
pub reads_more : (bytes left more : List ℕ) (forms : List Form) → Reads false bytes left forms → Reads false (bytes ++ more) (left ++ more) forms
reads_more bytes left more forms so_far = record {
  goes_on = λ end behind others ending comes script.
      subst (λ (b : List ℕ). Script end b (forms ++ others) ending) (sym (append_assoc bytes more behind))
      (so_far.goes_on end (more ++ behind) others ending tt
      (subst (λ (b : List ℕ). Script end b others ending) (append_assoc left more behind) script));
}
