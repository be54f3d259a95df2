-- What answering the forms of a script does.
use Rattle.std.specs.Prelude.{◌≡◌, ℕ, Bool, List, [], ◌++◌}
use Rattle.kh_io.specs.Told.{Extends}
use Rattle.kh_io.specs.View.{View}
use Rattle.kh_io.specs.Frames.{During}
use Rattle.kh_text_defs.specs.Shown.{shown_line}
use Rattle.kh_read.specs.declared.form.Form.{Form}
use Rattle.khepri.specs.declared.session.Stop.{Stop}
use Rattle.khepri.specs.declared.session.Stop.TheVariants as stop
use Rattle.kh_store.specs.State.{State, store_reply, store_after, state_after, text_of}
use Rattle.khepri.specs.Output.{GivesAll}
use Rattle.khepri.specs.Script.{AtFault, all_read, Script, Reads, EndsReading, BeginsReading}
use Rattle.khepri.specs.Session.{HasPrefix, CutOff, IsInDoubt}

-- a form was answered: its reply was given whole, and the state is the one after it
abbrev pub Answers : Form → (old new : State) → (v w : View) → Type 0
Answers form old new v w = GivesAll v.given w.given (shown_line (store_reply form old)) × (new ≡ store_after form old)

-- why a form wasn't answered: the sink failed, the disk failed, or memory ran out
abbrev pub AnswerStops : Stop → Type 0
AnswerStops stop.WriteFault = Unit {0}
AnswerStops stop.DiskFault = Unit {0}
AnswerStops stop.NoMemory = Unit {0}
AnswerStops stop.Syntax = ⊥
AnswerStops stop.Damaged = ⊥
AnswerStops stop.ReadFault = ⊥
AnswerStops stop.TooLong = ⊥

-- what has come of a script, and whether it ends behind that
pub record Lines : Type 0 where
  pub is_end : Bool
  pub bytes : List ℕ

-- What answering made of it: the bytes that are left, and the states before and after.
pub record Step : Type 0 where
  pub lines : Lines
  pub left : List ℕ
  pub old : State
  pub new : State

-- a crash leaves the state after some of these commands, each of which was answered only once it was executed
abbrev pub KeepsPrefix : State → List Form → (v w : View) → Type 0
KeepsPrefix first forms v w = During (HasPrefix first forms v.stamp) v w

-- The forms from the first bytes to those that are left were answered whole.
pub record Served (step : Step) (v w : View) (given : List ℕ) : Type 0 where
  pub forms : List Form
  pub reads : Reads step.lines.is_end step.lines.bytes step.left forms
  pub text : given ≡ text_of forms step.old
  pub state : step.new ≡ state_after forms step.old
  pub crash : KeepsPrefix step.old forms v w

-- The forms up to the first bytes that are no form were answered whole, and no others.
pub record ServedToFault (lines : Lines) (old : State) (v w : View) (given : List ℕ) : Type 0 where
  pub forms : List Form
  pub reads : EndsReading lines.is_end lines.bytes forms AtFault
  pub text : given ≡ text_of forms old
  pub crash : KeepsPrefix old forms v w

-- The session was cut off: some forms were answered whole, and at most one more was executed, of whose reply a front was given.
pub record ServedPart (lines : Lines) (old : State) (v w : View) (given : List ℕ) : Type 0 where
  pub cut : CutOff 1 old w
  pub reads : BeginsReading lines.is_end lines.bytes (cut.answered ++ cut.last)
  pub text : given ≡ text_of cut.answered old ++ cut.part
  pub crash : KeepsPrefix old (cut.answered ++ cut.last) v w

-- The lines were answered as far as they are whole.
pub record ServesTo (step : Step) (v w : View) : Type 0 where
  pub given : Extends v.given w.given (Served step v w)
  pub rests : Script step.lines.is_end step.left [] (all_read step.lines.is_end)

-- why answering ended early, and what was given by then
abbrev pub ServeStops : Stop → Lines → State → (v w : View) → Type 0
ServeStops stop.Syntax lines old v w = Extends v.given w.given (ServedToFault lines old v w)
ServeStops stop.WriteFault lines old v w = Extends v.given w.given (ServedPart lines old v w)
ServeStops stop.DiskFault lines old v w =
    Extends v.given w.given (λ given. (served : ServedPart lines old v w given) × IsInDoubt old w served.cut)
ServeStops stop.NoMemory lines old v w = Extends v.given w.given (ServedPart lines old v w)
ServeStops stop.Damaged lines old v w = ⊥
ServeStops stop.ReadFault lines old v w = ⊥
ServeStops stop.TooLong lines old v w = ⊥
