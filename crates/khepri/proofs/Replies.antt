-- Commands, their replies and the state after them, in parts; and what a crash leaves of them.
use Rattle.std.proofs.Common.{◌≡◌, ℕ, zero, suc, ◌+◌, ◌≤◌, List, [], ◌∷◌, ◌++◌, length, take, Option, refl, sym, ap, subst, ◌∙◌, append_assoc, length-append, inl, inr, ◌⊎◌, arith}
use Rattle.std.proofs.lemmas.Bool.{cases_lt}
use Rattle.std.proofs.lemmas.List.{take-append-le, take_all}
use Rattle.std.proofs.Math.Seq.{take-append-add}
use Rattle.kh_io.specs.declared.files.Files.{Files}
use Rattle.kh_io.specs.View.{View}
use Rattle.kh_text_defs.specs.Shown.{shown_line}
use Rattle.kh_read.specs.declared.form.Form.{Form}
use Rattle.kh_store.specs.State.{State, store_reply, store_after, state_after, text_of}
use Rattle.kh_store.specs.Recovery.{Recovered, Recovers}
use Rattle.khepri.specs.Session.{RecoversAt, RecoversBy, HasPrefix, KeepsAnswered}

pub state_after-append : (forms others : List Form) (s : State) → state_after (forms ++ others) s ≡ state_after others (state_after forms s)
state_after-append [] others s = refl
state_after-append (form ∷ forms) others s = state_after-append forms others (store_after form s)

pub text_of-append : (forms others : List Form) (s : State) → text_of (forms ++ others) s ≡ text_of forms s ++ text_of others (state_after forms s)
text_of-append [] others s = refl
text_of-append (form ∷ forms) others s =
    ap (λ (t : List ℕ). shown_line (store_reply form s) ++ t) (text_of-append forms others (store_after form s))
    ∙ sym (append_assoc (shown_line (store_reply form s)) (text_of forms (store_after form s)) (text_of others (state_after forms (store_after form s))))

-- the text of more commands is no shorter
text_grows : (k j : ℕ) (forms : List Form) (s : State) → k ≤ j → length (text_of (take k forms) s) ≤ length (text_of (take j forms) s)
text_grows zero j forms s le = omega arith
text_grows (suc k) zero forms s le = absurd (omega arith)
text_grows (suc k) (suc j) [] s le = omega arith
text_grows (suc k) (suc j) (form ∷ forms) s le =
    let line = shown_line (store_reply form s) in
    let more = text_grows k j forms (store_after form s) (omega (arith, le)) in
    omega (
      arith,
      more,
      length-append line (text_of (take k forms) (store_after form s)),
      length-append line (text_of (take j forms) (store_after form s)),
    )

-- a front of fewer commands than begin to be answered lacks one of these
pub keeps_answered : (first : State) (forms : List Form) (from : ℕ) (files : Files) (s : ℕ) → HasPrefix first forms from files s → KeepsAnswered first forms from files s
keeps_answered first forms from files s has = record {
  k = has.k;
  within = has.within;
  recovers = has.recovers;
  answered = λ j lt begun. elim (cases_lt j has.k) [
    | inl before ↦ before
    | inr le ↦ absurd (let longer = text_grows has.k j forms first le in omega (arith, longer, begun, has.taken))
  ];
}

-- more commands came
pub prefix_more : (first : State) (forms others : List Form) (from : ℕ) (files : Files) (s : ℕ) → HasPrefix first forms from files s
    → HasPrefix first (forms ++ others) from files s
prefix_more first forms others from files s has =
    let same : take has.k (forms ++ others) ≡ take has.k forms = take-append-le has.k forms others has.within in
    record {
      k = has.k;
      within = omega (arith, has.within, length-append forms others);
      recovers = subst (λ (fs : List Form). Recovers files (Recovered (state_after fs first))) (sym same) has.recovers;
      taken = subst (λ (fs : List Form). s ≤ from + length (text_of fs first)) (sym same) has.taken;
    }

-- all commands so far
pub prefix_whole : (first : State) (forms : List Form) (from : ℕ) (files : Files) (s : ℕ) → Recovers files (Recovered (state_after forms first))
    → s ≤ from + length (text_of forms first) → HasPrefix first forms from files s
prefix_whole first forms from files s recovers taken =
    let same : take (length forms) forms ≡ forms = take_all (length forms) forms (omega arith) in
    record {
      k = length forms;
      within = omega arith;
      recovers = subst (λ (fs : List Form). Recovers files (Recovered (state_after fs first))) (sym same) recovers;
      taken = subst (λ (fs : List Form). s ≤ from + length (text_of fs first)) (sym same) taken;
    }

-- commands behind those that were executed
pub prefix_behind : (first mid : State) (forms others : List Form) (from between : ℕ) (files : Files) (s : ℕ) → mid ≡ state_after forms first
    → between ≤ from + length (text_of forms first) → HasPrefix mid others between files s → HasPrefix first (forms ++ others) from files s
prefix_behind first mid forms others from between files s is taken has =
    let same : take (length forms + has.k) (forms ++ others) ≡ forms ++ take has.k others = take-append-add forms others has.k in
    record {
      k = length forms + has.k;
      within = omega (arith, has.within, length-append forms others);
      recovers = subst (λ (fs : List Form). Recovers files (Recovered (state_after fs first))) (sym same)
          (subst (λ (t : State). Recovers files (Recovered t)) (sym (state_after-append forms (take has.k others) first))
          (subst (λ (t : State). Recovers files (Recovered (state_after (take has.k others) t))) is has.recovers));
      taken = subst (λ (fs : List Form). s ≤ from + length (text_of fs first)) (sym same) (omega (
        arith,
        has.taken,
        taken,
        ap length (text_of-append forms (take has.k others) first),
        length-append (text_of forms first) (text_of (take has.k others) (state_after forms first)),
        ap (λ (t : State). length (text_of (take has.k others) t)) is,
      ));
    }

-- the state after a command behind others
pub behind : (first mid : State) (forms : List Form) (form : Form) (files : Files) → mid ≡ state_after forms first → Recovers files (Recovered (store_after form mid))
    → Recovers files (Recovered (state_after (forms ++ form ∷ []) first))
behind first mid forms form files is recovers =
    subst (λ (t : State). Recovers files (Recovered t)) (sym (state_after-append forms (form ∷ []) first))
    (subst (λ (t : State). Recovers files (Recovered (store_after form t))) is recovers)

-- a command is executed behind others, and its reply given
pub answering_is_prefix : (first mid : State) (forms : List Form) (form : Form) (from : ℕ) (v w : View) → mid ≡ state_after forms first
    → v.stamp ≤ from + length (text_of forms first) → w.stamp ≤ from + length (text_of (forms ++ form ∷ []) first)
    → (files : Files) (s : ℕ) → RecoversAt mid v files s ⊎ RecoversBy (store_after form mid) w files s → HasPrefix first (forms ++ form ∷ []) from files s
answering_is_prefix first mid forms form from v w is taken taken_now files s (inl old) =
    prefix_more first forms (form ∷ []) from files s
    (prefix_whole first forms from files s (subst (λ (t : State). Recovers files (Recovered t)) is old.1) (omega (arith, old.0, taken)))
answering_is_prefix first mid forms form from v w is taken taken_now files s (inr new) =
    prefix_whole first (forms ++ form ∷ []) from files s (behind first mid forms form files is new.1) (omega (arith, new.0, taken_now))
