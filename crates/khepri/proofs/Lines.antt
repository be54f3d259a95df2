-- Answering line after line, as a loop does.
use Rattle.std.proofs.Common.{◌≡◌, ◌≢◌, ℕ, ◌+◌, ◌<◌, ◌≤◌, Bool, true, false, List, [], ◌∷◌, ◌++◌, length, drop, Option, Some, None, Ok, Err, refl, sym, ap, subst, ◌∙◌, append_assoc, length-append, inl, inr, ◌⊎◌, arith}
use Rattle.std.specs.Prelude.{IfSome, IsTrue, Result}
use Rattle.std.proofs.lemmas.List.{append-nil, length-drop}
use Rattle.kh_io.specs.declared.files.Files.{Files}
use Rattle.kh_io.specs.Told.{Told, Kept, Extends, IsFrontOf}
use Rattle.kh_io.specs.Disk.{AreImages}
use Rattle.kh_io.specs.View.{View}
use Rattle.kh_io.specs.Frames.{During}
use Rattle.kh_io.proofs.{started, both, weakened, told_same, told_map}
use Rattle.kh_text_defs.specs.Shown.{shown_line}
use Rattle.kh_read.specs.declared.form.Form.{Form}
use Rattle.kh_read.specs.Reading.{Cut, Fault}
use Rattle.khepri.specs.declared.session.Stop.{Stop}
use Rattle.khepri.specs.declared.session.Stop.TheVariants as stop
use Rattle.kh_store.specs.State.{State, store_logs, store_reply, store_after, state_after, text_of}
use Rattle.kh_store.specs.Recovery.{Recovered, Recovers}
use Rattle.khepri.specs.Output.{GivesAll}
use Rattle.khepri.specs.Script.{line_at, all_read, Script, BeginsReading, ends, cut}
use Rattle.khepri.specs.Session.{RecoversAt, RecoversBy, CutOff, IsInDoubt}
use Rattle.khepri.specs.Serving.{AnswerStops, Lines, Step, KeepsPrefix, Served, ServedToFault, ServedPart, ServeStops}
use Rattle.khepri.proofs.Scripts.{reads_starts, reads_on, reads_faulty, reads_cut, reads_begins}
use Rattle.khepri.proofs.Replies.{text_of-append, state_after-append, prefix_more, prefix_whole, answering_is_prefix, behind}

-- the stamp is what the sink has taken
abbrev pub Counts : Option (List ℕ) → ℕ → Type 0
Counts sink stamp = IfSome sink (λ given. stamp ≡ length given)

pub counts : (sink : Option (List ℕ)) (stamp : ℕ) → ((bytes : List ℕ) → sink ≡ Some bytes → stamp ≡ length bytes) → Counts sink stamp
counts (Some given) stamp law = law given refl
counts None stamp law = tt

-- a line and its reply behind the text so far
text_on : (old mid : State) (forms : List Form) (form : Form) → mid ≡ state_after forms old
    → text_of (forms ++ form ∷ []) old ≡ text_of forms old ++ shown_line (store_reply form mid)
text_on old mid forms form is =
    text_of-append forms (form ∷ []) old
    ∙ ap (λ (t : List ℕ). text_of forms old ++ t) (append-nil (shown_line (store_reply form (state_after forms old))))
    ∙ ap (λ (t : State). text_of forms old ++ shown_line (store_reply form t)) (sym is)

-- a fact over two calls of which the stamps are known
pub told_counted : {P Q R : List ℕ → List ℕ → Type 0} (a b c : Option (List ℕ)) (s0 s1 s2 : ℕ) → Counts a s0 → Counts b s1 → Counts c s2 → Told a b P → Told b c Q
    → ((x y z : List ℕ) → s0 ≡ length x → s1 ≡ length y → s2 ≡ length z → P x y → Q y z → R x z) → Told a c R
told_counted (Some x) (Some y) (Some z) s0 s1 s2 k l m p q is = is x y z k l m p q
told_counted None (Some y) (Some z) s0 s1 s2 k l m p q is = absurd p
told_counted a None (Some z) s0 s1 s2 k l m p q is = absurd q
told_counted (Some x) b None s0 s1 s2 k l m p q is = tt
told_counted None b None s0 s1 s2 k l m p q is = tt

-- a view whose stamp is known
abbrev pub IsCounted : View → Type 0
IsCounted v = Counts v.given v.stamp

-- the lines so far were answered, up to this moment
abbrev pub SoFar : Step → (v w : View) → Type 0
SoFar step v w = Extends v.given w.given (Served step v w)

-- what was served from the first bytes on, up to these
abbrev pub step_to : Lines → List ℕ → State → State → Step
step_to lines left old new = record { lines = lines; left = left; old = old; new = new }

-- before the first line
pub nothing_served : (lines : Lines) (state : State) (v : View)
    → ((files : Files) (s : ℕ) → v.since v.moment files s → Recovers files (Recovered state) × (s ≡ v.stamp)) → SoFar (step_to lines lines.bytes state state) v v
nothing_served lines state v now = told_same _ v.given (λ a. (
  [],
  sym (append-nil a),
  record {
    forms = [];
    reads = reads_starts lines.is_end lines.bytes;
    text = refl;
    state = refl;
    crash = started v (λ files s left. let is = now files s left in prefix_whole state [] v.stamp files s is.0 (omega (arith, is.1)));
  },
))

-- what answering a form leaves at any moment
abbrev pub Answering : Form → State → (v w : View) → Type 0
Answering form old v w = During (λ files s. RecoversAt old v files s ⊎ RecoversBy (store_after form old) w files s) v w

-- what a crash leaves over a line more
crash_on : (old mid : State) (forms : List Form) (form : Form) (u v w : View) → mid ≡ state_after forms old → v.stamp ≤ u.stamp + length (text_of forms old)
    → w.stamp ≤ u.stamp + length (text_of (forms ++ form ∷ []) old) → KeepsPrefix old forms u v → Answering form mid v w → KeepsPrefix old (forms ++ form ∷ []) u w
crash_on old mid forms form u v w is taken taken_now so_far crash =
    both (weakened so_far (λ files s. prefix_more old forms (form ∷ []) u.stamp files s)) crash (answering_is_prefix old mid forms form u.stamp v w is taken taken_now)

-- one line more
pub one_line : (lines : Lines) (left rest : List ℕ) (old mid new : State) (form : Form) (u v w : View) → IsCounted u → IsCounted v → IsCounted w
    → SoFar (step_to lines left old mid) u v → line_at lines.is_end left ≡ Ok (form, rest) → GivesAll v.given w.given (shown_line (store_reply form mid))
    → Answering form mid v w → new ≡ store_after form mid → SoFar (step_to lines rest old new) u w
one_line lines left rest old mid new form u v w at_first at_now at_later so_far line given crash is =
    let reply = shown_line (store_reply form mid) in
    told_counted u.given v.given w.given u.stamp v.stamp w.stamp at_first at_now at_later so_far given (λ x y z k l m p q.
    let served = p.2 in
    let text : text_of (served.forms ++ form ∷ []) old ≡ p.0 ++ reply =
    text_on old mid served.forms form served.state ∙ ap (λ (t : List ℕ). t ++ reply) (sym served.text) in (
      p.0 ++ reply,
      q ∙ ap (λ (t : List ℕ). t ++ reply) p.1 ∙ append_assoc x p.0 reply,
      record {
        forms = served.forms ++ form ∷ [];
        reads = reads_on lines.is_end lines.bytes left served.forms form rest served.reads line;
        text = sym text;
        state = is ∙ ap (store_after form) served.state ∙ sym (state_after-append served.forms (form ∷ []) old);
        crash = crash_on old mid served.forms form u v w served.state
            (omega (arith, k, l, ap length p.1, length-append x p.0, ap length served.text))
            (omega (arith, k, m, ap length q, ap length p.1, length-append x p.0, length-append y reply, ap length text, length-append p.0 reply))
            served.crash crash;
      },
    ))

-- what a crash leaves once a form was executed or not
abbrev pub LeavesOneOf : Form → State → View → Type 0
LeavesOneOf form mid w = (files : Files) → AreImages w.image files → Recovers files (Recovered mid) ⊎ Recovers files (Recovered (store_after form mid))

pub left_one_of : (form : Form) (mid : State) (v w : View) → Answering form mid v w → ((files : Files) → AreImages w.image files → w.since v.moment files w.stamp) → LeavesOneOf form mid w
left_one_of form mid v w crash now files images = elim (crash.each files w.stamp (now files images)) [ inl before ↦ inl before.1 | inr later ↦ inr later.1 ]

-- a session that was cut off at one form
abbrev cut_at : (old mid : State) (forms : List Form) (form : Form) (part : List ℕ) (w : View) → mid ≡ state_after forms old → IsFrontOf part (shown_line (store_reply form mid))
    → LeavesOneOf form mid w → CutOff 1 old w
cut_at old mid forms form part w is front images = record {
  answered = forms;
  last = form ∷ [];
  few = omega arith;
  part = part;
  reply = (
    front.0,
    append-nil (shown_line (store_reply form (state_after forms old))) ∙ ap (λ (t : State). shown_line (store_reply form t)) (sym is) ∙ front.1,
  );
  images = λ files left. elim (images files left) [
    | inl before ↦ inl (subst (λ (t : State). Recovers files (Recovered t)) is before)
    | inr later ↦ inr (behind old mid forms form files is later)
  ];
}

-- or between two
abbrev cut_between : (old mid : State) (forms : List Form) (w : View) → mid ≡ state_after forms old → ((files : Files) → AreImages w.image files → Recovers files (Recovered mid)) → CutOff 1 old w
cut_between old mid forms w is images = record {
  answered = forms;
  last = [];
  few = omega arith;
  part = [];
  reply = ([], refl);
  images = λ files left. inl (subst (λ (t : State). Recovers files (Recovered t)) is (images files left));
}

-- a front of one line more
front_of_line : (lines : Lines) (left rest : List ℕ) (old mid : State) (form : Form) (u v w : View) → IsCounted u → IsCounted v → IsCounted w
    → SoFar (step_to lines left old mid) u v → line_at lines.is_end left ≡ Ok (form, rest) → Extends v.given w.given (λ more. IsFrontOf more (shown_line (store_reply form mid)))
    → Answering form mid v w → LeavesOneOf form mid w → Extends u.given w.given (ServedPart lines old u w)
front_of_line lines left rest old mid form u v w at_first at_now at_later so_far line given crash images =
    let reply = shown_line (store_reply form mid) in
    told_counted u.given v.given w.given u.stamp v.stamp w.stamp at_first at_now at_later so_far given (λ x y z k l m p q.
    let served = p.2 in
    let text : text_of (served.forms ++ form ∷ []) old ≡ p.0 ++ reply =
    text_on old mid served.forms form served.state ∙ ap (λ (t : List ℕ). t ++ reply) (sym served.text) in (
      p.0 ++ q.0,
      q.1 ∙ ap (λ (t : List ℕ). t ++ q.0) p.1 ∙ append_assoc x p.0 q.0,
      record {
        cut = cut_at old mid served.forms form q.0 w served.state q.2 images;
        reads = reads_begins lines.is_end lines.bytes rest (served.forms ++ form ∷ []) (reads_on lines.is_end lines.bytes left served.forms form rest served.reads line);
        text = ap (λ (t : List ℕ). t ++ q.0) served.text;
        crash = crash_on old mid served.forms form u v w served.state
            (omega (arith, k, l, ap length p.1, length-append x p.0, ap length served.text))
            (omega (
              arith,
              k,
              m,
              ap length q.1,
              ap length p.1,
              length-append x p.0,
              length-append y q.0,
              ap length text,
              length-append p.0 reply,
              ap length q.2.1,
              length-append q.0 q.2.0,
            ))
            served.crash crash;
      },
    ))

-- nothing of it was given
kept_front : (v w : View) (line : List ℕ) → Kept v.given w.given → Extends v.given w.given (λ more. (more ≡ []) × IsFrontOf more line)
kept_front v w line kept = told_map v.given w.given kept (λ x y same. ([], same ∙ sym (append-nil x), (refl, (line, refl))))

-- one line more is in doubt
line_in_doubt : (lines : Lines) (left rest : List ℕ) (old mid : State) (form : Form) (u v w : View) → IsCounted u → IsCounted v → IsCounted w
    → SoFar (step_to lines left old mid) u v → line_at lines.is_end left ≡ Ok (form, rest) → Kept v.given w.given → IsTrue (store_logs form mid)
    → Answering form mid v w → LeavesOneOf form mid w → Extends u.given w.given (λ given. (served : ServedPart lines old u w given) × IsInDoubt old w served.cut)
line_in_doubt lines left rest old mid form u v w at_first at_now at_later so_far line kept logged crash images =
    let reply = shown_line (store_reply form mid) in
    told_counted u.given v.given w.given u.stamp v.stamp w.stamp at_first at_now at_later so_far kept (λ x y z k l m p same.
    let served = p.2 in
    let text : text_of (served.forms ++ form ∷ []) old ≡ p.0 ++ reply =
    text_on old mid served.forms form served.state ∙ ap (λ (t : List ℕ). t ++ reply) (sym served.text) in (
      p.0,
      same ∙ p.1,
      (
        record {
          cut = cut_at old mid served.forms form [] w served.state (reply, refl) images;
          reads = reads_begins lines.is_end lines.bytes rest (served.forms ++ form ∷ []) (reads_on lines.is_end lines.bytes left served.forms form rest served.reads line);
          text = served.text ∙ sym (append-nil (text_of served.forms old));
          crash = crash_on old mid served.forms form u v w served.state
              (omega (arith, k, l, ap length p.1, length-append x p.0, ap length served.text))
              (omega (arith, k, m, ap length same, ap length p.1, length-append x p.0, ap length text, length-append p.0 reply))
              served.crash crash;
        },
        record { form = form; alone = refl; logged = subst (λ (t : State). IsTrue (store_logs form t)) served.state logged; none = refl },
      ),
    ))

-- what answering a form gives where it stops so
abbrev pub unanswered : Stop → Result (Unit {0}) Stop
unanswered s = Err s

pub no_reply : (lines : Lines) (left rest : List ℕ) (old mid : State) (form : Form) (u v w : View) (s : Stop) → IsCounted u → IsCounted v → IsCounted w
    → SoFar (step_to lines left old mid) u v → line_at lines.is_end left ≡ Ok (form, rest) → Extends v.given w.given (λ more. IsFrontOf more (shown_line (store_reply form mid)))
    → (unanswered s ≡ unanswered stop.DiskFault → Kept v.given w.given × IsTrue (store_logs form mid)) → Answering form mid v w → LeavesOneOf form mid w
    → AnswerStops s → ServeStops s lines old u w
no_reply lines left rest old mid form u v w stop.Syntax k l m so_far line given in_doubt crash images why = absurd why
no_reply lines left rest old mid form u v w stop.Damaged k l m so_far line given in_doubt crash images why = absurd why
no_reply lines left rest old mid form u v w stop.ReadFault k l m so_far line given in_doubt crash images why = absurd why
no_reply lines left rest old mid form u v w stop.TooLong k l m so_far line given in_doubt crash images why = absurd why
no_reply lines left rest old mid form u v w stop.WriteFault k l m so_far line given in_doubt crash images why =
    front_of_line lines left rest old mid form u v w k l m so_far line given crash images
no_reply lines left rest old mid form u v w stop.NoMemory k l m so_far line given in_doubt crash images why =
    front_of_line lines left rest old mid form u v w k l m so_far line given crash images
no_reply lines left rest old mid form u v w stop.DiskFault k l m so_far line given in_doubt crash images why =
    let is = in_doubt refl in line_in_doubt lines left rest old mid form u v w k l m so_far line is.0 is.1 crash images

-- bytes that are no form
pub to_fault : (lines : Lines) (left : List ℕ) (old mid : State) (v w : View) → SoFar (step_to lines left old mid) v w → line_at lines.is_end left ≡ Err Fault
    → Extends v.given w.given (ServedToFault lines old v w)
to_fault lines left old mid v w so_far line = told_map v.given w.given so_far (λ x y p. (
  p.0,
  p.1,
  record { forms = p.2.forms; reads = reads_faulty lines.is_end lines.bytes left p.2.forms p.2.reads line; text = p.2.text; crash = p.2.crash },
))

-- the input ends inside a form
pub to_cut : (is_end : Bool) (bytes left : List ℕ) (old mid : State) (v w : View) → is_end ≡ true → SoFar (step_to (record { is_end = is_end; bytes = bytes }) left old mid) v w → left ≢ []
    → line_at is_end left ≡ Err Cut → Extends v.given w.given (ServedToFault (record { is_end = is_end; bytes = bytes }) old v w)
to_cut false bytes left old mid v w ended so_far some line = absurd cc
to_cut true bytes left old mid v w ended so_far some line = told_map v.given w.given so_far (λ x y p. (
  p.0,
  p.1,
  record { forms = p.2.forms; reads = reads_cut bytes left p.2.forms p.2.reads some line; text = p.2.text; crash = p.2.crash },
))

-- what was answered so far
pub to_front : (lines : Lines) (left : List ℕ) (old mid : State) (v w : View) → ((files : Files) → AreImages w.image files → Recovers files (Recovered mid))
    → SoFar (step_to lines left old mid) v w → Extends v.given w.given (ServedPart lines old v w)
to_front lines left old mid v w images so_far = told_map v.given w.given so_far (λ x y p. (
  p.0,
  p.1,
  record {
    cut = cut_between old mid p.2.forms w p.2.state images;
    reads = subst (BeginsReading lines.is_end lines.bytes) (sym (append-nil p.2.forms)) (reads_begins lines.is_end lines.bytes left p.2.forms p.2.reads);
    text = p.2.text ∙ sym (append-nil (text_of p.2.forms old));
    crash = subst (λ (fs : List Form). KeepsPrefix old fs v w) (sym (append-nil p.2.forms)) p.2.crash;
  },
))

-- something is left before the end
pub some_left : (input : List ℕ) (place : ℕ) → place < length input → drop place input ≢ []
some_left input place within none =
    let len : length (drop place input) ≡ 0 = ap length none in
    omega (arith, length-drop place input)

pub rests_at_end : (is_end : Bool) (left : List ℕ) → left ≡ [] → Script is_end left [] (all_read is_end)
rests_at_end is_end left none = rw none ends

pub rests_cut : (is_end : Bool) (left : List ℕ) → is_end ≡ false → left ≢ [] → line_at is_end left ≡ Err Cut → Script is_end left [] (all_read is_end)
rests_cut true left more some line = absurd cc
rests_cut false left more some line = cut left some line
