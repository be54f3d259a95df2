-- A run over an open store, from the first piece of the input to its end.
use Rattle.std.proofs.Common.{◌≡◌, ℕ, ◌+◌, ◌-◌, ◌<◌, ◌≤◌, Bool, true, false, leb, List, [], ◌∷◌, ◌++◌, length, take, drop, Option, Some, None, refl, sym, ap, subst, ◌∙◌, append_assoc, inl, inr, ◌⊎◌, arith}
use Rattle.std.specs.Prelude.{IsTrue}
use Rattle.std.proofs.lemmas.Bool.{le-leb, lt-leb}
use Rattle.std.proofs.Math.Seq.{take-append-add}
use Rattle.std.proofs.lemmas.List.{append-nil, length-append, take_all, take_at, drop-append-le}
use Rattle.kh_io.specs.declared.files.Files.{Files}
use Rattle.kh_io.specs.Told.{Told, Kept, Extends, IsFrontOf}
use Rattle.kh_io.specs.Disk.{AreImages}
use Rattle.kh_io.specs.View.{View}
use Rattle.kh_io.specs.Frames.{During, OfView}
use Rattle.kh_io.proofs.{both, weakened, told_map, told_both}
use Rattle.kh_read.specs.declared.form.Form.{Form}
use Rattle.khepri.specs.declared.session.Stop.{Stop}
use Rattle.khepri.specs.declared.session.Stop.TheVariants as stop
use Rattle.khepri.specs.declared.input.Piece.TheVariants as piece
use Rattle.kh_store.specs.State.{State, store_logs, state_after, text_of}
use Rattle.kh_store.specs.Recovery.{Recovered, Recovers}
use Rattle.khepri.specs.Script.{Ending, AtEnd, AtFault, Unfinished, Script, Reads, EndsReading, BeginsReading, script_limit, WholeScript, ends}
use Rattle.khepri.specs.Session.{KeepsAnswered, CutOff, IsInDoubt}
use Rattle.khepri.specs.Serving.{Lines, KeepsPrefix, Served, ServedToFault, ServedPart, ServesTo, ServeStops}
use Rattle.khepri.specs.Input.{TakesMore, TakeStops}
use Rattle.khepri.specs.Run.{stop_status, IsUnreported, Passed, Keeps, PartAnswered, Ran, Ends}
use Rattle.khepri.proofs.Scripts.{reads_then, ends_then, begins_then, reads_more, reads_begins}
use Rattle.khepri.proofs.Replies.{state_after-append, text_of-append, prefix_more, prefix_whole, prefix_behind, keeps_answered}
use Rattle.khepri.proofs.Lines.{IsCounted, told_counted, SoFar, step_to, nothing_served, to_front}

-- what has come of an input that goes on, and one that has ended
abbrev pub front_of : List ℕ → Lines
front_of input = record { is_end = false; bytes = input }

abbrev pub all_of : List ℕ → Lines
all_of input = record { is_end = true; bytes = input }

-- ---- what of an input is read

take_front : (limit : ℕ) (front rest : List ℕ) → length front ≤ limit → take limit (front ++ rest) ≡ front ++ take (limit - length front) rest
take_front limit front rest few =
    let split : limit ≡ length front + (limit - length front) = omega arith in
    ap (λ (n : ℕ). take n (front ++ rest)) split ∙ take-append-add front rest (limit - length front)

-- a script that ends whatever comes is that of the whole input
whole_ends : (input rest : List ℕ) (forms : List Form) (ending : Ending) → length input ≤ script_limit → EndsReading false input forms ending
    → WholeScript (input ++ rest) forms ending
whole_ends input rest forms ending few reads =
    subst (λ (b : List ℕ). Script (leb (length (input ++ rest)) script_limit) b forms ending) (sym (take_front script_limit input rest few))
    (reads.script (leb (length (input ++ rest)) script_limit) (take (script_limit - length input) rest) tt)

-- forms that begin a script begin that of the whole input
abbrev WholeBegins : List ℕ → List Form → Type 0
WholeBegins all forms = (others : List Form) × (ending : Ending) × WholeScript all (forms ++ others) ending

whole_begins : (input rest : List ℕ) (forms : List Form) → length input ≤ script_limit → BeginsReading false input forms → WholeBegins (input ++ rest) forms
whole_begins input rest forms few reads =
    let script = reads.script (leb (length (input ++ rest)) script_limit) (take (script_limit - length input) rest) tt in (
      script.0,
      script.1,
      subst (λ (b : List ℕ). Script (leb (length (input ++ rest)) script_limit) b (forms ++ script.0) script.1) (sym (take_front script_limit input rest few)) script.2,
    )

-- the script of all of an input
whole_at_end : (input : List ℕ) (forms : List Form) (ending : Ending) → length input ≤ script_limit → Script true input forms ending → WholeScript input forms ending
whole_at_end input forms ending few script = rw (le-leb _ _ few, take_all script_limit input few) script

whole_at_true : (input : List ℕ) (forms : List Form) (ending : Ending) → length input ≤ script_limit → EndsReading true input forms ending → WholeScript input forms ending
whole_at_true input forms ending few reads =
    whole_at_end input forms ending few (subst (λ (b : List ℕ). Script true b forms ending) (append-nil input) (reads.script true [] (refl, refl)))

whole_begins_true : (input : List ℕ) (forms : List Form) → length input ≤ script_limit → BeginsReading true input forms → WholeBegins input forms
whole_begins_true input forms few reads =
    let script = reads.script true [] (refl, refl) in (
      script.0,
      script.1,
      whole_at_end input (forms ++ script.0) script.1 few (subst (λ (b : List ℕ). Script true b (forms ++ script.0) script.1) (append-nil input) script.2),
    )

-- the script of an input that goes on past the limit
whole_too_long : (input rest : List ℕ) (forms : List Form) (ending : Ending) → length input ≡ script_limit → 0 < length rest → Script false input forms ending
    → WholeScript (input ++ rest) forms ending
whole_too_long input rest forms ending full more script =
    let past : leb (length (input ++ rest)) script_limit ≡ false = lt-leb _ _ (omega (arith, length-append input rest)) in
    rw (past, take_at input rest script_limit full) script

-- ---- how a run stands

-- The pieces of the input that came were answered as far as their lines are whole.
pub record IsRunning (v w : View) (input : List ℕ) (at : ℕ) (first state : State) : Type 0 where
  pub within : at ≤ length input
  pub short : length input ≤ script_limit
  pub given : SoFar (step_to (front_of input) (drop at input) first state) v w
  pub told : Told v.left w.left (λ all rest. all ≡ input ++ rest)
  pub rests : Script false (drop at input) [] Unfinished

nothing_taken : (left : Option (List ℕ)) → Told left left (λ all rest. all ≡ [] ++ rest)
nothing_taken (Some x) = refl
nothing_taken None = tt

pub starts : (v : View) (state : State) → ((files : Files) (s : ℕ) → v.since v.moment files s → Recovers files (Recovered state) × (s ≡ v.stamp))
    → IsRunning v v [] 0 state state
starts v state now = record {
  within = omega arith;
  short = omega arith;
  given = nothing_served (front_of []) state v now;
  told = nothing_taken v.left;
  rests = ends;
}

-- three views of which the stamps are known
pub record AreCounted (u v w : View) : Type 0 where
  pub at_first : IsCounted u
  pub at_now : IsCounted v
  pub at_later : IsCounted w

-- a crash leaves a state
abbrev pub Leaves : State → View → Type 0
Leaves state w = (files : Files) → AreImages w.image files → Recovers files (Recovered state)

-- the files aren't touched, and nothing is given
pub so_far_untouched : (lines : Lines) (rest : List ℕ) (first state : State) (v w x : View) → AreCounted v w x → SoFar (step_to lines rest first state) v w
    → Kept w.given x.given → Leaves state w → During (OfView w) w x → SoFar (step_to lines rest first state) v x
so_far_untouched lines rest first state v w x c so_far kept recovers untouched =
    told_counted v.given w.given x.given v.stamp w.stamp x.stamp c.at_first c.at_now c.at_later so_far kept (λ a b d k l m p q. (
      p.0,
      q ∙ p.1,
      record {
        forms = p.2.forms;
        reads = p.2.reads;
        text = p.2.text;
        state = p.2.state;
        crash = both p.2.crash untouched (λ files s u. prefix_whole first p.2.forms v.stamp files s
            (subst (λ (t : State). Recovers files (Recovered t)) p.2.state (recovers files u.images))
            (omega (arith, u.stamp, k, l, ap length p.1, length-append a p.0, ap length p.2.text)));
      },
    ))

-- The lines that had come were answered, and a further piece has come.
pub record HasMore (v w : View) (input : List ℕ) (at : ℕ) (first state : State) : Type 0 where
  pub within : at ≤ length input
  pub short : length input ≤ script_limit
  pub given : SoFar (step_to (front_of input) (drop at input) first state) v w
  pub told : Told v.left w.left (λ all rest. all ≡ input ++ rest)

-- the same input, with more behind it
so_far_more : (input more : List ℕ) (at : ℕ) (first state : State) (v w : View) → at ≤ length input
    → SoFar (step_to (front_of input) (drop at input) first state) v w → SoFar (step_to (front_of (input ++ more)) (drop at (input ++ more)) first state) v w
so_far_more input more at first state v w within so_far = told_map v.given w.given so_far (λ x y p. (
  p.0,
  p.1,
  record {
    forms = p.2.forms;
    reads = subst (λ (b : List ℕ). Reads false (input ++ more) b p.2.forms) (sym (drop-append-le at input more within))
        (reads_more input (drop at input) more p.2.forms p.2.reads);
    text = p.2.text;
    state = p.2.state;
    crash = p.2.crash;
  },
))

pub took_piece : (v w x : View) (input input_after : List ℕ) (at : ℕ) (first state : State) → AreCounted v w x
    → IsRunning v w input at first state → TakesMore piece.Some w x input input_after → Kept w.given x.given → Leaves state w → During (OfView w) w x
    → HasMore v x input_after at first state
took_piece v w x input input_after at first state c run taken kept recovers untouched =
    let within = run.within in
    let few : length (input ++ taken.0) ≤ script_limit = subst (λ (b : List ℕ). length b ≤ script_limit) taken.2 taken.3 in
    subst (λ (b : List ℕ). HasMore v x b at first state) (sym taken.2) (record {
      within = omega (arith, length-append input taken.0);
      short = few;
      given = so_far_more input taken.0 at first state v x within
          (so_far_untouched (front_of input) (drop at input) first state v w x c run.given kept recovers untouched);
      told = told_both v.left w.left x.left run.told taken.4 (λ a b c p q. p ∙ ap (λ (r : List ℕ). input ++ r) q ∙ sym (append_assoc input taken.0 c));
    })

-- how much less may come then
pub took_shorter : (v w : View) (input input_after : List ℕ) → TakesMore piece.Some v w input input_after
    → script_limit - length input_after < script_limit - length input
took_shorter v w input input_after taken =
    let few = taken.3 in
    let some = taken.1 in
    let len : length input_after ≡ length input + length taken.0 = ap length taken.2 ∙ length-append input taken.0 in
    omega arith

-- the input is as it was
still_left : (v w x : View) (input : List ℕ) → Told v.left w.left (λ all rest. all ≡ input ++ rest) → Kept w.left x.left
    → Told v.left x.left (λ all rest. all ≡ input ++ rest)
still_left v w x input told kept = told_both v.left w.left x.left told kept (λ a b c p q. p ∙ ap (λ (r : List ℕ). input ++ r) (sym q))

-- what is given behind the lines so far
joined : {Q : List ℕ → Type 0} (R : List ℕ → Type 0) (lines : Lines) (rest : List ℕ) (first state : State) (v w x : View) → AreCounted v w x
    → SoFar (step_to lines rest first state) v w → Extends w.given x.given Q
    → ((given more : List ℕ) (served : Served (step_to lines rest first state) v w given) → w.stamp ≤ v.stamp + length (text_of served.forms first) → Q more → R (given ++ more))
    → Extends v.given x.given R
joined R lines rest first state v w x c so_far next is =
    told_counted v.given w.given x.given v.stamp w.stamp x.stamp c.at_first c.at_now c.at_later so_far next (λ a b d k l m p q. (
      p.0 ++ q.0,
      q.1 ∙ ap (λ (t : List ℕ). t ++ q.0) p.1 ∙ append_assoc a p.0 q.0,
      is p.0 q.0 p.2 (omega (arith, k, l, ap length p.1, length-append a p.0, ap length p.2.text)) q.2,
    ))

-- a crash over two spans
kept_behind : (first state : State) (forms others : List Form) (v w x : View) → state ≡ state_after forms first → w.stamp ≤ v.stamp + length (text_of forms first)
    → KeepsPrefix first forms v w → KeepsPrefix state others w x → KeepsPrefix first (forms ++ others) v x
kept_behind first state forms others v w x is taken before behind =
    both (weakened before (λ files s. prefix_more first forms others v.stamp files s)) behind
    (λ files s. prefix_behind first state forms others v.stamp w.stamp files s is taken)

-- the state after two spans
state_behind : (first state : State) (forms others : List Form) → state ≡ state_after forms first → state_after others state ≡ state_after (forms ++ others) first
state_behind first state forms others is = ap (state_after others) is ∙ sym (state_after-append forms others first)

-- the text of two spans
text_behind : (first state : State) (forms others : List Form) (given more : List ℕ) → state ≡ state_after forms first → given ≡ text_of forms first
    → more ≡ text_of others state → given ++ more ≡ text_of (forms ++ others) first
text_behind first state forms others given more is text next =
    ap (λ (t : List ℕ). t ++ more) text ∙ ap (λ (t : List ℕ). text_of forms first ++ t) (next ∙ ap (text_of others) is) ∙ sym (text_of-append forms others first)

-- and lines were answered behind those
both_served : (is_end : Bool) (input rest last : List ℕ) (first state new : State) (v w x : View) (given more : List ℕ)
    (served : Served (step_to (front_of input) rest first state) v w given) → w.stamp ≤ v.stamp + length (text_of served.forms first)
    → Served (step_to (record { is_end = is_end; bytes = rest }) last state new) w x more → Served (step_to (record { is_end = is_end; bytes = input }) last first new) v x (given ++ more)
both_served is_end input rest last first state new v w x given more served taken next = record {
  forms = served.forms ++ next.forms;
  reads = reads_then is_end input rest last served.forms next.forms served.reads next.reads;
  text = text_behind first state served.forms next.forms given more served.state served.text next.text;
  state = next.state ∙ state_behind first state served.forms next.forms served.state;
  crash = kept_behind first state served.forms next.forms v w x served.state taken served.crash next.crash;
}

both_to_fault : (is_end : Bool) (input rest : List ℕ) (first state : State) (v w x : View) (given more : List ℕ)
    (served : Served (step_to (front_of input) rest first state) v w given) → w.stamp ≤ v.stamp + length (text_of served.forms first)
    → ServedToFault (record { is_end = is_end; bytes = rest }) state w x more → ServedToFault (record { is_end = is_end; bytes = input }) first v x (given ++ more)
both_to_fault is_end input rest first state v w x given more served taken next = record {
  forms = served.forms ++ next.forms;
  reads = ends_then is_end input rest served.forms next.forms AtFault served.reads next.reads;
  text = text_behind first state served.forms next.forms given more served.state served.text next.text;
  crash = kept_behind first state served.forms next.forms v w x served.state taken served.crash next.crash;
}

-- a session that was cut off behind other commands
abbrev cut_behind : (first state : State) (forms : List Form) (x : View) → state ≡ state_after forms first → CutOff 1 state x → CutOff 1 first x
cut_behind first state forms x is cut = record {
  answered = forms ++ cut.answered;
  last = cut.last;
  few = cut.few;
  part = cut.part;
  reply = subst (λ (t : State). IsFrontOf cut.part (text_of cut.last t)) (state_behind first state forms cut.answered is) cut.reply;
  images = λ files left. elim (cut.images files left) [
    | inl before ↦ inl (subst (λ (t : State). Recovers files (Recovered t)) (state_behind first state forms cut.answered is) before)
    | inr later ↦ inr (subst (λ (t : State). Recovers files (Recovered t)) (state_behind first state forms (cut.answered ++ cut.last) is
        ∙ ap (λ (fs : List Form). state_after fs first) (sym (append_assoc forms cut.answered cut.last))) later)
  ];
}

both_part : (is_end : Bool) (input rest : List ℕ) (first state : State) (v w x : View) (given more : List ℕ)
    (served : Served (step_to (front_of input) rest first state) v w given) → w.stamp ≤ v.stamp + length (text_of served.forms first)
    → ServedPart (record { is_end = is_end; bytes = rest }) state w x more → ServedPart (record { is_end = is_end; bytes = input }) first v x (given ++ more)
both_part is_end input rest first state v w x given more served taken next =
    let same : served.forms ++ (next.cut.answered ++ next.cut.last) ≡ (served.forms ++ next.cut.answered) ++ next.cut.last =
    sym (append_assoc served.forms next.cut.answered next.cut.last) in
    record {
      cut = cut_behind first state served.forms x served.state next.cut;
      reads = subst (BeginsReading is_end input) same (begins_then is_end input rest served.forms (next.cut.answered ++ next.cut.last) served.reads next.reads);
      text = ap (λ (t : List ℕ). given ++ t) next.text ∙ sym (append_assoc given (text_of next.cut.answered state) next.cut.part)
          ∙ ap (λ (t : List ℕ). t ++ next.cut.part) (text_behind first state served.forms next.cut.answered given (text_of next.cut.answered state) served.state served.text refl);
      crash = subst (λ (fs : List Form). KeepsPrefix first fs v x) same
          (kept_behind first state served.forms (next.cut.answered ++ next.cut.last) v w x served.state taken served.crash next.crash);
    }

doubt_behind : (first state : State) (forms : List Form) (x : View) (is : state ≡ state_after forms first) (cut : CutOff 1 state x) → IsInDoubt state x cut
    → IsInDoubt first x (cut_behind first state forms x is cut)
doubt_behind first state forms x is cut doubt = record {
  form = doubt.form;
  alone = doubt.alone;
  logged = subst (λ (t : State). IsTrue (store_logs doubt.form t)) (state_behind first state forms cut.answered is) doubt.logged;
  none = doubt.none;
}

-- in doubt
abbrev pub ServedToDoubt : Lines → State → (v w : View) → List ℕ → Type 0
ServedToDoubt lines old v w given = (served : ServedPart lines old v w given) × IsInDoubt old w served.cut

both_to_doubt : (is_end : Bool) (input rest : List ℕ) (first state : State) (v w x : View) (given more : List ℕ)
    (served : Served (step_to (front_of input) rest first state) v w given) → w.stamp ≤ v.stamp + length (text_of served.forms first)
    → ServedToDoubt (record { is_end = is_end; bytes = rest }) state w x more → ServedToDoubt (record { is_end = is_end; bytes = input }) first v x (given ++ more)
unfolding both_part
both_to_doubt is_end input rest first state v w x given more served taken next = (
  both_part is_end input rest first state v w x given more served taken next.0,
  doubt_behind first state served.forms x served.state next.0.cut next.1,
)

-- the lines of a piece were answered
pub served_on : (v w x : View) (input : List ℕ) (at next : ℕ) (first state new : State) → AreCounted v w x → HasMore v w input at first state → next ≤ length input
    → ServesTo (step_to (front_of (drop at input)) (drop next input) state new) w x → Kept w.left x.left → IsRunning v x input next first new
served_on v w x input at next first state new c more within served kept = record {
  within = within;
  short = more.short;
  given = joined (Served (step_to (front_of input) (drop next input) first new) v x) (front_of input) (drop at input) first state v w x c more.given served.given
      (both_served false input (drop at input) (drop next input) first state new v w x);
  told = still_left v w x input more.told kept;
  rests = served.rests;
}

-- ---- what a run has done at its end

-- a crash leaves what was answered, whatever commands are behind them
ran_crash : (first : State) (forms others : List Form) (v x : View) → KeepsPrefix first forms v x → Keeps first (forms ++ others) v x
ran_crash first forms others v x crash =
    weakened crash (λ files s has. inr (keeps_answered first (forms ++ others) v.stamp files s (prefix_more first forms others v.stamp files s has)))

ran_crash_all : (first : State) (forms : List Form) (v x : View) → KeepsPrefix first forms v x → Keeps first forms v x
ran_crash_all first forms v x crash = weakened crash (λ files s has. inr (keeps_answered first forms v.stamp files s has))

more_of_text : (first : State) (forms others : List Form) (given : List ℕ) → IsFrontOf given (text_of forms first) → IsFrontOf given (text_of (forms ++ others) first)
more_of_text first forms others given front = (
  front.0 ++ text_of others (state_after forms first),
  text_of-append forms others first ∙ ap (λ (t : List ℕ). t ++ text_of others (state_after forms first)) front.1
      ∙ append_assoc given front.0 (text_of others (state_after forms first)),
)

-- what has passed
abbrev pub passed : (all rest given : List ℕ) → Passed
passed all rest given = record { input = all; rest = rest; given = given }

-- what was given by a session that was cut off
cut_text : (first : State) (x : View) (cut : CutOff 1 first x) (given : List ℕ) → given ≡ text_of cut.answered first ++ cut.part → IsFrontOf given (text_of (cut.answered ++ cut.last) first)
cut_text first x cut given is = (
  cut.reply.0,
  text_of-append cut.answered cut.last first ∙ ap (λ (t : List ℕ). text_of cut.answered first ++ t) cut.reply.1
      ∙ sym (append_assoc (text_of cut.answered first) cut.part cut.reply.0) ∙ ap (λ (t : List ℕ). t ++ cut.reply.0) (sym is),
)

-- a status of a run that was cut off is no other
cut_not : (status n : ℕ) → IsUnreported status → (n < 4) ⊎ (6 < n) → status ≡ n → ⊥
cut_not status n (inl is) (inl low) e = omega (arith, is, low, e)
cut_not status n (inl is) (inr high) e = omega (arith, is, high, e)
cut_not status n (inr (inl is)) (inl low) e = omega (arith, is, low, e)
cut_not status n (inr (inl is)) (inr high) e = omega (arith, is, high, e)
cut_not status n (inr (inr is)) (inl low) e = omega (arith, is, low, e)
cut_not status n (inr (inr is)) (inr high) e = omega (arith, is, high, e)

-- a run that was cut off while it answered: the sink or the disk failed, or memory ran out
ran_part : (status : ℕ) (first : State) (lines : Lines) (v x : View) (all rest given : List ℕ) (served : ServedPart lines first v x given)
    → WholeBegins all (served.cut.answered ++ served.cut.last) → IsUnreported status → (status ≡ 5 → IsInDoubt first x served.cut) → Ran first status (passed all rest given) v x
ran_part status first lines v x all rest given served whole why doubt =
    let forms = served.cut.answered ++ served.cut.last in
    let part : PartAnswered first (forms ++ whole.0) given v x = record {
      cut = served.cut;
      front = (whole.0, refl);
      text = served.text;
      crash = ran_crash_all first forms v x served.crash;
    } in
    record {
      forms = forms ++ whole.0;
      ending = whole.1;
      script = whole.2;
      front = more_of_text first forms whole.0 given (cut_text first x served.cut given served.text);
      how = inr (inr why);
      done = λ e. absurd (cut_not status 0 why (inl (omega arith)) e);
      syntax = λ e. absurd (cut_not status 2 why (inl (omega arith)) e);
      too_long = λ e. absurd (cut_not status 9 why (inr (omega arith)) e);
      read_fault = λ e. absurd (cut_not status 3 why (inl (omega arith)) e);
      write_fault = λ e. part;
      disk_fault = λ e. inr (part, doubt e);
      no_memory = λ e. inr part;
      crash = ran_crash first forms whole.0 v x served.crash;
      last = λ e. absurd (cut_not status 0 why (inl (omega arith)) e);
    }

-- a run that met bytes that are no form
ran_to_fault : (first : State) (v x : View) (all rest given : List ℕ) (forms : List Form) → WholeScript all forms AtFault
    → given ≡ text_of forms first → KeepsPrefix first forms v x → Ran first 2 (passed all rest given) v x
ran_to_fault first v x all rest given forms script text crash = record {
  forms = forms;
  ending = AtFault;
  script = script;
  front = ([], sym text ∙ sym (append-nil given));
  how = inl refl;
  done = λ e. absurd (omega arith);
  syntax = λ e. text;
  too_long = λ e. absurd (omega arith);
  read_fault = λ e. absurd (omega arith);
  write_fault = λ e. absurd (omega arith);
  disk_fault = λ e. absurd (omega arith);
  no_memory = λ e. absurd (omega arith);
  crash = ran_crash_all first forms v x crash;
  last = λ e. absurd (omega arith);
}

-- what the host tells of the input and of the sink, put together
assemble : {P : List ℕ → List ℕ → Type 0} (X : List ℕ → Type 0) (status : ℕ) (first : State) (v x : View)
    → Told v.left x.left P → Extends v.given x.given X → ((all rest given : List ℕ) → P all rest → X given → Ran first status (passed all rest given) v x)
    → Ends first status v x
assemble X status first v x told given is =
    told_map v.left x.left told (λ all rest p. told_map v.given x.given given (λ a b q. (q.0, q.1, is all rest q.0 p q.2)))

-- only a part of the next lines was answered
part_stops : (v w x : View) (input : List ℕ) (at : ℕ) (first state : State) (status : ℕ) → (status ≡ 4) ⊎ (status ≡ 6) → AreCounted v w x
    → HasMore v w input at first state → Extends w.given x.given (ServedPart (front_of (drop at input)) state w x) → Kept w.left x.left → Ends first status v x
part_stops v w x input at first state status why c more served kept =
    assemble (ServedPart (front_of input) first v x) status first v x (still_left v w x input more.told kept)
    (joined (ServedPart (front_of input) first v x) (front_of input) (drop at input) first state v w x c more.given served (both_part false input (drop at input) first state v w x))
    (λ all rest given is begun. ran_part status first (front_of input) v x all rest given begun
    (subst (λ (b : List ℕ). WholeBegins b (begun.cut.answered ++ begun.cut.last)) (sym is) (whole_begins input rest (begun.cut.answered ++ begun.cut.last) more.short begun.reads))
    (elim why [ inl e ↦ inl e | inr e ↦ inr (inr e) ]) (λ five. absurd (elim why [ inl e ↦ omega (arith, e, five) | inr e ↦ omega (arith, e, five) ])))

-- serving the lines of a piece ended early
pub served_stops : (v w x : View) (input : List ℕ) (at : ℕ) (first state : State) (s : Stop) → AreCounted v w x
    → HasMore v w input at first state → ServeStops s (front_of (drop at input)) state w x → Kept w.left x.left → Ends first (stop_status s) v x
served_stops v w x input at first state stop.Syntax c more served kept =
    assemble (ServedToFault (front_of input) first v x) 2 first v x (still_left v w x input more.told kept)
    (joined (ServedToFault (front_of input) first v x) (front_of input) (drop at input) first state v w x c more.given served (both_to_fault false input (drop at input) first state v w x))
    (λ all rest given is ended. ran_to_fault first v x all rest given ended.forms
    (subst (λ (b : List ℕ). WholeScript b ended.forms AtFault) (sym is) (whole_ends input rest ended.forms AtFault more.short ended.reads)) ended.text ended.crash)
served_stops v w x input at first state stop.Damaged c more served kept = absurd served
served_stops v w x input at first state stop.ReadFault c more served kept = absurd served
served_stops v w x input at first state stop.TooLong c more served kept = absurd served
served_stops v w x input at first state stop.WriteFault c more served kept = part_stops v w x input at first state 4 (inl refl) c more served kept
served_stops v w x input at first state stop.DiskFault c more served kept =
    assemble (ServedToDoubt (front_of input) first v x) 5 first v x (still_left v w x input more.told kept)
    (joined (ServedToDoubt (front_of input) first v x) (front_of input) (drop at input) first state v w x c more.given served (both_to_doubt false input (drop at input) first state v w x))
    (λ all rest given is doubt. ran_part 5 first (front_of input) v x all rest given doubt.0
    (subst (λ (b : List ℕ). WholeBegins b (doubt.0.cut.answered ++ doubt.0.cut.last)) (sym is) (whole_begins input rest (doubt.0.cut.answered ++ doubt.0.cut.last) more.short doubt.0.reads))
    (inr (inl refl)) (λ e. doubt.1))
served_stops v w x input at first state stop.NoMemory c more served kept = part_stops v w x input at first state 6 (inr refl) c more served kept

-- ---- no further piece came

script_so_far : (input : List ℕ) (at : ℕ) (forms : List Form) → Reads false input (drop at input) forms → Script false (drop at input) [] Unfinished
    → Script false input forms Unfinished
script_so_far input at forms reads rests =
    let here : Script false (drop at input ++ []) [] Unfinished = subst (λ (b : List ℕ). Script false b [] Unfinished) (sym (append-nil (drop at input))) rests in
    subst (λ (b : List ℕ). Script false b forms Unfinished) (append-nil input)
    (subst (λ (fs : List Form). Script false (input ++ []) fs Unfinished) (append-nil forms) (reads.goes_on false [] [] Unfinished tt here))

-- a read failed
ran_to_read_fault : (first state : State) (v x : View) (input all rest given : List ℕ) (at : ℕ) → length input ≤ script_limit
    → all ≡ input ++ rest → Served (step_to (front_of input) (drop at input) first state) v x given → Script false (drop at input) [] Unfinished
    → Ran first 3 (passed all rest given) v x
ran_to_read_fault first state v x input all rest given at few is served rests =
    let whole = whole_begins input rest served.forms few (reads_begins false input (drop at input) served.forms served.reads) in
    record {
      forms = served.forms ++ whole.0;
      ending = whole.1;
      script = subst (λ (b : List ℕ). WholeScript b (served.forms ++ whole.0) whole.1) (sym is) whole.2;
      front = more_of_text first served.forms whole.0 given ([], sym served.text ∙ sym (append-nil given));
      how = inr (inl refl);
      done = λ e. absurd (omega arith);
      syntax = λ e. absurd (omega arith);
      too_long = λ e. absurd (omega arith);
      read_fault = λ e. (input, served.forms, is, script_so_far input at served.forms served.reads rests, (whole.0, refl), served.text);
      write_fault = λ e. absurd (omega arith);
      disk_fault = λ e. absurd (omega arith);
      no_memory = λ e. absurd (omega arith);
      crash = ran_crash first served.forms whole.0 v x served.crash;
      last = λ e. absurd (omega arith);
    }

-- the limit was met, and more comes
ran_to_limit : (first state : State) (v x : View) (input all rest given : List ℕ) (at : ℕ) → length input ≡ script_limit
    → (more : List ℕ) → all ≡ input ++ more → 0 < length more → Served (step_to (front_of input) (drop at input) first state) v x given
    → Script false (drop at input) [] Unfinished → Ran first 9 (passed all rest given) v x
ran_to_limit first state v x input all rest given at full more is some served rests = record {
  forms = served.forms;
  ending = Unfinished;
  script = subst (λ (b : List ℕ). WholeScript b served.forms Unfinished) (sym is)
      (whole_too_long input more served.forms Unfinished full some (script_so_far input at served.forms served.reads rests));
  front = ([], sym served.text ∙ sym (append-nil given));
  how = inl refl;
  done = λ e. absurd (omega arith);
  syntax = λ e. absurd (omega arith);
  too_long = λ e. served.text;
  read_fault = λ e. absurd (omega arith);
  write_fault = λ e. absurd (omega arith);
  disk_fault = λ e. absurd (omega arith);
  no_memory = λ e. absurd (omega arith);
  crash = ran_crash_all first served.forms v x served.crash;
  last = λ e. absurd (omega arith);
}

pub take_stops : (v w x : View) (input : List ℕ) (at : ℕ) (first state : State) (s : Stop) → AreCounted v w x
    → IsRunning v w input at first state → TakeStops s w x input → Kept w.given x.given → Leaves state w → Leaves state x → During (OfView w) w x → Ends first (stop_status s) v x
take_stops v w x input at first state stop.Syntax c run stops kept recovers later untouched = absurd stops
take_stops v w x input at first state stop.Damaged c run stops kept recovers later untouched = absurd stops
take_stops v w x input at first state stop.WriteFault c run stops kept recovers later untouched = absurd stops
take_stops v w x input at first state stop.DiskFault c run stops kept recovers later untouched = absurd stops
take_stops v w x input at first state stop.ReadFault c run stops kept recovers later untouched =
    assemble (Served (step_to (front_of input) (drop at input) first state) v x) 3 first v x (still_left v w x input run.told stops)
    (so_far_untouched (front_of input) (drop at input) first state v w x c run.given kept recovers untouched)
    (λ all rest given is served. ran_to_read_fault first state v x input all rest given at run.short is served run.rests)
take_stops v w x input at first state stop.TooLong c run stops kept recovers later untouched =
    assemble {P = λ all rest. (more : List ℕ) × (all ≡ input ++ more) × (0 < length more)} (Served (step_to (front_of input) (drop at input) first state) v x) 9 first v x
    (told_both v.left w.left x.left run.told stops.1 (λ a b c p q. (b, p, q)))
    (so_far_untouched (front_of input) (drop at input) first state v w x c run.given kept recovers untouched)
    (λ all rest given is served. ran_to_limit first state v x input all rest given at stops.0 is.0 is.1 is.2 served run.rests)
take_stops v w x input at first state stop.NoMemory c run stops kept recovers later untouched =
    assemble {P = λ all rest. (more : List ℕ) × (all ≡ input ++ more)} (ServedPart (front_of input) first v x) 6 first v x
    (told_both v.left w.left x.left run.told stops (λ a b c p q. (b, p)))
    (to_front (front_of input) (drop at input) first state v x later (so_far_untouched (front_of input) (drop at input) first state v w x c run.given kept recovers untouched))
    (λ all rest given is begun. ran_part 6 first (front_of input) v x all rest given begun
    (subst (λ (b : List ℕ). WholeBegins b (begun.cut.answered ++ begun.cut.last)) (sym is.1)
    (whole_begins input is.0 (begun.cut.answered ++ begun.cut.last) run.short begun.reads)) (inr (inr refl)) (λ e. absurd (omega (arith, e))))

-- ---- the input has ended

-- the input was these bytes
abbrev pub HasEnded : Option (List ℕ) → Option (List ℕ) → List ℕ → Type 0
HasEnded left left_now input = Told left left_now (λ all rest. (all ≡ input) × (rest ≡ []))

-- The input has ended, and the lines that had come whole were answered.
pub record AllCame (v w : View) (input : List ℕ) (at : ℕ) (first state : State) : Type 0 where
  pub short : length input ≤ script_limit
  pub given : SoFar (step_to (front_of input) (drop at input) first state) v w
  pub ended : HasEnded v.left w.left input

pub all_came : (v w x : View) (input input_after : List ℕ) (at : ℕ) (first state : State) → AreCounted v w x
    → IsRunning v w input at first state → TakesMore piece.None w x input input_after → Kept w.given x.given → Leaves state w → During (OfView w) w x
    → AllCame v x input at first state
all_came v w x input input_after at first state c run taken kept recovers untouched = record {
  short = run.short;
  given = so_far_untouched (front_of input) (drop at input) first state v w x c run.given kept recovers untouched;
  ended = told_both v.left w.left x.left run.told taken.1 (λ a b c p q. (p ∙ ap (λ (r : List ℕ). input ++ r) q.0 ∙ append-nil input, q.1));
}

still_ended : (v w x : View) (input : List ℕ) → HasEnded v.left w.left input → Kept w.left x.left → HasEnded v.left x.left input
still_ended v w x input told kept = told_both v.left w.left x.left told kept (λ a b c p q. (p.0, q ∙ p.1))

script_to_end : (input rest : List ℕ) (forms : List Form) → Reads true input rest forms → Script true rest [] AtEnd → Script true input forms AtEnd
script_to_end input rest forms reads rests =
    let last : Script true (rest ++ []) [] AtEnd = subst (λ (b : List ℕ). Script true b [] AtEnd) (sym (append-nil rest)) rests in
    subst (λ (b : List ℕ). Script true b forms AtEnd) (append-nil input)
    (subst (λ (fs : List Form). Script true (input ++ []) fs AtEnd) (append-nil forms) (reads.goes_on true [] [] AtEnd (refl, refl) last))

-- a run to the end of the input
ran_to_end : (first new : State) (v x : View) (input all rest last given : List ℕ) → length input ≤ script_limit → all ≡ input → rest ≡ []
    → Served (step_to (all_of input) last first new) v x given → Script true last [] AtEnd → Leaves new x → Ran first 0 (passed all rest given) v x
ran_to_end first new v x input all rest last given few is none served rests recovers = record {
  forms = served.forms;
  ending = AtEnd;
  script = subst (λ (b : List ℕ). WholeScript b served.forms AtEnd) (sym is) (whole_at_end input served.forms AtEnd few (script_to_end input last served.forms served.reads rests));
  front = ([], sym served.text ∙ sym (append-nil given));
  how = inl refl;
  done = λ e. (served.text, none);
  syntax = λ e. absurd (omega arith);
  too_long = λ e. absurd (omega arith);
  read_fault = λ e. absurd (omega arith);
  write_fault = λ e. absurd (omega arith);
  disk_fault = λ e. absurd (omega arith);
  no_memory = λ e. absurd (omega arith);
  crash = ran_crash_all first served.forms v x served.crash;
  last = λ e files images. subst (λ (t : State). Recovers files (Recovered t)) served.state (recovers files images);
}

pub finished : (v w x : View) (input : List ℕ) (at next : ℕ) (first state new : State) → AreCounted v w x → AllCame v w input at first state
    → ServesTo (step_to (all_of (drop at input)) (drop next input) state new) w x → Kept w.left x.left → Leaves new x → Ends first 0 v x
finished v w x input at next first state new c came served kept recovers =
    assemble (Served (step_to (all_of input) (drop next input) first new) v x) 0 first v x (still_ended v w x input came.ended kept)
    (joined (Served (step_to (all_of input) (drop next input) first new) v x) (front_of input) (drop at input) first state v w x c came.given served.given (both_served true input (drop at input) (drop next input) first state new v w x))
    (λ all rest given is done. ran_to_end first new v x input all rest (drop next input) given came.short is.0 is.1 done served.rests recovers)

part_at_end : (v w x : View) (input : List ℕ) (at : ℕ) (first state : State) (status : ℕ) → (status ≡ 4) ⊎ (status ≡ 6) → AreCounted v w x
    → AllCame v w input at first state → Extends w.given x.given (ServedPart (all_of (drop at input)) state w x) → Kept w.left x.left → Ends first status v x
part_at_end v w x input at first state status why c came served kept =
    assemble (ServedPart (all_of input) first v x) status first v x (still_ended v w x input came.ended kept)
    (joined (ServedPart (all_of input) first v x) (front_of input) (drop at input) first state v w x c came.given served (both_part true input (drop at input) first state v w x))
    (λ all rest given is begun. ran_part status first (all_of input) v x all rest given begun
    (subst (λ (b : List ℕ). WholeBegins b (begun.cut.answered ++ begun.cut.last)) (sym is.0) (whole_begins_true input (begun.cut.answered ++ begun.cut.last) came.short begun.reads))
    (elim why [ inl e ↦ inl e | inr e ↦ inr (inr e) ]) (λ five. absurd (elim why [ inl e ↦ omega (arith, e, five) | inr e ↦ omega (arith, e, five) ])))

pub finish_stops : (v w x : View) (input : List ℕ) (at : ℕ) (first state : State) (s : Stop) → AreCounted v w x
    → AllCame v w input at first state → ServeStops s (all_of (drop at input)) state w x → Kept w.left x.left → Ends first (stop_status s) v x
finish_stops v w x input at first state stop.Syntax c came served kept =
    assemble (ServedToFault (all_of input) first v x) 2 first v x (still_ended v w x input came.ended kept)
    (joined (ServedToFault (all_of input) first v x) (front_of input) (drop at input) first state v w x c came.given served (both_to_fault true input (drop at input) first state v w x))
    (λ all rest given is ended. ran_to_fault first v x all rest given ended.forms
    (subst (λ (b : List ℕ). WholeScript b ended.forms AtFault) (sym is.0) (whole_at_true input ended.forms AtFault came.short ended.reads)) ended.text ended.crash)
finish_stops v w x input at first state stop.Damaged c came served kept = absurd served
finish_stops v w x input at first state stop.ReadFault c came served kept = absurd served
finish_stops v w x input at first state stop.TooLong c came served kept = absurd served
finish_stops v w x input at first state stop.WriteFault c came served kept = part_at_end v w x input at first state 4 (inl refl) c came served kept
finish_stops v w x input at first state stop.DiskFault c came served kept =
    assemble (ServedToDoubt (all_of input) first v x) 5 first v x (still_ended v w x input came.ended kept)
    (joined (ServedToDoubt (all_of input) first v x) (front_of input) (drop at input) first state v w x c came.given served (both_to_doubt true input (drop at input) first state v w x))
    (λ all rest given is doubt. ran_part 5 first (all_of input) v x all rest given doubt.0
    (subst (λ (b : List ℕ). WholeBegins b (doubt.0.cut.answered ++ doubt.0.cut.last)) (sym is.0) (whole_begins_true input (doubt.0.cut.answered ++ doubt.0.cut.last) came.short doubt.0.reads))
    (inr (inl refl)) (λ e. doubt.1))
finish_stops v w x input at first state stop.NoMemory c came served kept = part_at_end v w x input at first state 6 (inr refl) c came served kept

-- ---- why it stopped

-- taking a piece stops for no other reason
pub take_not : (s : Stop) (v w : View) (input : List ℕ) → TakeStops s v w input → (s ≡ stop.Damaged) ⊎ ((s ≡ stop.WriteFault) ⊎ (s ≡ stop.DiskFault)) → ⊥
take_not stop.Syntax v w input stops is = stops
take_not stop.Damaged v w input stops is = stops
take_not stop.WriteFault v w input stops is = stops
take_not stop.DiskFault v w input stops is = stops
take_not stop.ReadFault v w input stops is = elim is [ inl e ↦ cc | inr o ↦ elim o [ inl e ↦ cc | inr e ↦ cc ] ]
take_not stop.TooLong v w input stops is = elim is [ inl e ↦ cc | inr o ↦ elim o [ inl e ↦ cc | inr e ↦ cc ] ]
take_not stop.NoMemory v w input stops is = elim is [ inl e ↦ cc | inr o ↦ elim o [ inl e ↦ cc | inr e ↦ cc ] ]

-- nor does serving
pub serve_not : (s : Stop) (lines : Lines) (old : State) (v w : View) → ServeStops s lines old v w → (s ≡ stop.Damaged) → ⊥
serve_not stop.Damaged lines old v w stops is = stops
serve_not stop.ReadFault lines old v w stops is = stops
serve_not stop.TooLong lines old v w stops is = stops
serve_not stop.Syntax lines old v w stops is = cc
serve_not stop.WriteFault lines old v w stops is = cc
serve_not stop.DiskFault lines old v w stops is = cc
serve_not stop.NoMemory lines old v w stops is = cc
