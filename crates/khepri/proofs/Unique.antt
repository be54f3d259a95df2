-- An input has one script.
use Rattle.std.proofs.Common.{◌≡◌, ◌≢◌, ℕ, Bool, List, [], ◌∷◌, Ok, Err, refl, sym, ap, subst, ◌∙◌}
use Rattle.kh_read.specs.declared.form.Form.{Form}
use Rattle.kh_read.specs.Reading.{Read, Cut, Fault, form_at}
use Rattle.khepri.specs.Script.{Ending, AtFault, line_at, cut_short, all_read, Script, ends, faulty, cut, line}

nothing_there : (end : Bool) → line_at end [] ≡ Err Cut
unfolding form_at
nothing_there end = refl

-- what stands at the front decides how a script begins
record IsDecided (end : Bool) (bytes : List ℕ) (forms : List Form) (ending : Ending) : Type 0 where
  at_end : bytes ≡ [] → (forms ≡ []) × (ending ≡ all_read end)
  at_fault : line_at end bytes ≡ Err Fault → (forms ≡ []) × (ending ≡ AtFault)
  at_cut : bytes ≢ [] → line_at end bytes ≡ Err Cut → (forms ≡ []) × (ending ≡ cut_short end)
  at_form : (form : Form) (rest : List ℕ) → line_at end bytes ≡ Ok (form, rest)
      → (others : List Form) × Script end rest others ending × (forms ≡ form ∷ others)

abbrev got : Form × List ℕ → Read Form
got x = Ok x

same_read : (x y : Form × List ℕ) → got x ≡ got y → x ≡ y
same_read x y e = cc

apart : {x : Form × List ℕ} (read : Read Form) → read ≡ Err Cut → read ≡ Ok x → ⊥
apart read p q = cc

fault_apart : {x : Form × List ℕ} (read : Read Form) → read ≡ Err Fault → read ≡ Ok x → ⊥
fault_apart read p q = cc

cut_or_fault : (read : Read Form) → read ≡ Err Cut → read ≡ Err Fault → ⊥
cut_or_fault read p q = cc

decided : (end : Bool) (bytes : List ℕ) (forms : List Form) (ending : Ending) → Script end bytes forms ending → IsDecided end bytes forms ending
decided end bytes forms ending ends = record {
  at_end = λ e. (refl, refl);
  at_fault = λ is. absurd (cut_or_fault (line_at end []) (nothing_there end) is);
  at_cut = λ some is. absurd (some refl);
  at_form = λ form rest is. absurd (apart (line_at end []) (nothing_there end) is);
}
decided end bytes forms ending (faulty same_bytes is) = record {
  at_end = λ e. absurd (cut_or_fault (line_at end bytes) (ap (line_at end) e ∙ nothing_there end) is);
  at_fault = λ again. (refl, refl);
  at_cut = λ some again. absurd (cut_or_fault (line_at end bytes) again is);
  at_form = λ form rest again. absurd (fault_apart (line_at end bytes) is again);
}
decided end bytes forms ending (cut same_bytes left is) = record {
  at_end = λ e. absurd (left e);
  at_fault = λ again. absurd (cut_or_fault (line_at end bytes) is again);
  at_cut = λ some again. (refl, refl);
  at_form = λ form rest again. absurd (apart (line_at end bytes) is again);
}
decided end bytes forms ending (line same_bytes read left others same_ending is script) = record {
  at_end = λ e. absurd (apart (line_at end bytes) (ap (line_at end) e ∙ nothing_there end) is);
  at_fault = λ again. absurd (fault_apart (line_at end bytes) again is);
  at_cut = λ some again. absurd (apart (line_at end bytes) again is);
  at_form = λ form rest again.
      let same : (read, left) ≡ (form, rest) = same_read (read, left) (form, rest) (sym is ∙ again) in
      subst (λ (y : Form × List ℕ). (fs : List Form) × Script end y.1 fs ending × (read ∷ others ≡ y.0 ∷ fs)) same (others, script, refl);
}

-- two scripts of the same bytes are one
pub script_unique : (end : Bool) (bytes : List ℕ) (forms others : List Form) (ending last : Ending)
    → Script end bytes forms ending → Script end bytes others last → (forms ≡ others) × (ending ≡ last)
script_unique end bytes forms others ending last ends second =
    let next = (decided end [] others last second).at_end refl in (sym next.0, sym next.1)
script_unique end bytes forms others ending last (faulty same_bytes is) second =
    let next = (decided end bytes others last second).at_fault is in (sym next.0, sym next.1)
script_unique end bytes forms others ending last (cut same_bytes left is) second =
    let next = (decided end bytes others last second).at_cut left is in (sym next.0, sym next.1)
script_unique end bytes forms others ending last (line same_bytes read left more same_ending is script) second =
    let next = (decided end bytes others last second).at_form read left is in
    let rest = script_unique end left more next.0 ending last script next.1 in
    (ap (λ (fs : List Form). read ∷ fs) rest.0 ∙ sym next.2, rest.1)
