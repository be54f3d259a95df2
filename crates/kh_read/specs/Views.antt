-- The states of the code as those of the definition.
use Rattle.std.specs.Char.{is_ascii_digit}
use Rattle.std.specs.Prelude.{◌≡◌, ℕ, Bool, true, false, ◌+◌, ◌*◌, ◌&&◌, nat_lt, if◌then◌else◌, List, [], ◌∷◌, length, map, reverse, Result, Ok, Err, Option, Some, None}
use Rattle.kh_term.specs.MapOf.{trees_of}
use Rattle.kh_text_defs.specs.declared.mode.Mode.{Mode}
pub use Rattle.kh_read.specs.Exact.{setting}
use Rattle.kh_term.specs.declared.term.Term.{Term}
use Rattle.kh_read.specs.declared.fault.ReadError.{ReadError}
use Rattle.kh_read.specs.declared.fault.ReadError.TheVariants as faults
use Rattle.kh_read.specs.declared.places.Frame.{Frame as CodeFrame}
use Rattle.kh_read.specs.declared.places.Frame.TheVariants as frame
use Rattle.kh_read.specs.declared.places.Use.{Use as CodeUse}
use Rattle.kh_read.specs.declared.places.Use.TheVariants as uses
use Rattle.kh_read.specs.declared.places.Inner.{Inner as CodeInner}
use Rattle.kh_read.specs.declared.places.Inner.TheVariants as inners
use Rattle.kh_read.specs.declared.places.Quoting.{Quoting as CodeQuoting}
use Rattle.kh_read.specs.declared.places.Place.{Place as CodePlace}
use Rattle.kh_read.specs.declared.places.Place.TheVariants as place
use Rattle.kh_read.specs.declared.reader.Reading.{Reading as CodeReading}
use Rattle.kh_read.specs.declared.reader.Reading.TheVariants as reading
use Rattle.kh_read.specs.declared.state.State.{State as CodeState}
use Rattle.kh_read.specs.declared.state.Next.{Next}
use Rattle.kh_read.specs.declared.state.Next.TheVariants as next
use Rattle.kh_read.specs.declared.state.Stop.{Stop as CodeStop}
use Rattle.kh_read.specs.declared.state.Stop.TheVariants as stop
use Rattle.kh_read.specs.State.{Frame, InList, InTail, InTuple, InKey, InValue, InModule, InName, InArity, InOpening, InCaptured, InClosing, InBinary, InReference, InReferenceName, Use, ForName, ForList, ForSegment, Inner, Plain, Slash, Brace, Code, Follow, Quoting, Place, Before, After, AfterName, AfterArity, AfterByte, AfterText, AfterSegment, Minus, Digits, Word, Quote, Angle, Sharp, Arrow, Close, Dotted, Point, Fraction, Mark, Signed, Exponent, SizeMark, Size, UtfMark, Utf, Fun, CountMark, Count, State, Setting, Halt, Syntax, Number, Deep, Large, Step, Go, Done, Stop, Reading, Ended, Cut, Halted}
use Rattle.kh_read.specs.Steps.{at, fault, bound, can_be_code, ends_well, quote_ended, with_point}

abbrev pub frame_of : CodeFrame → Frame
frame_of (frame.List parts) = InList parts.nodes
frame_of (frame.Tail parts) = InTail parts.nodes
frame_of (frame.Tuple parts) = InTuple parts.nodes
frame_of (frame.Key pairs) = InKey (trees_of pairs.items)
frame_of (frame.Value pairs key) = InValue (trees_of pairs.items) key.node
frame_of frame.Module = InModule
frame_of (frame.Name home) = InName home
frame_of (frame.Arity home name) = InArity home name
frame_of (frame.Opening home name arity) = InOpening home name arity
frame_of (frame.Captured home name arity env) = InCaptured home name arity env.nodes
frame_of (frame.Closing home name arity env) = InClosing home name arity env.nodes
frame_of (frame.Binary begun bytes sized) = InBinary begun bytes.items sized
frame_of frame.Reference = InReference
frame_of frame.ReferenceName = InReferenceName

-- the code has the innermost last
abbrev pub frames_of : List CodeFrame → List Frame
frames_of frames = reverse (map frame_of frames)

abbrev pub use_of : CodeUse → Use
use_of (uses.Name left) = ForName left
use_of uses.List = ForList
use_of uses.Segment = ForSegment

abbrev pub inner_of : CodeInner → Inner
inner_of inners.Plain = Plain
inner_of inners.Slash = Slash
inner_of inners.Brace = Brace
inner_of (inners.Code count value) = Code count value
inner_of (inners.Follow f) = Follow f.count f.low f.high f.value

abbrev pub quoting_of : CodeQuoting → Quoting
quoting_of q = record { use_ = use_of q.purpose; points = q.points.items }

abbrev pub place_of : CodePlace → Place
place_of place.Before = Before
place_of (place.After t) = After t.node
place_of (place.AfterName name) = AfterName name
place_of (place.AfterArity arity) = AfterArity arity
place_of (place.AfterByte byte) = AfterByte byte
place_of (place.AfterText points) = AfterText points.items
place_of place.AfterSegment = AfterSegment
place_of (place.Minus first) = Minus first
place_of (place.Digits first whole) = Digits first whole.negative whole.magnitude
place_of (place.Word word) = Word word.bytes.items
place_of (place.Quote q inner) = Quote (quoting_of q) (inner_of inner)
place_of place.Angle = Angle
place_of (place.Sharp count) = Sharp count
place_of (place.Arrow key) = Arrow key.node
place_of place.Close = Close
place_of (place.Dotted t) = Dotted t.node
place_of (place.Point z) = Point z
place_of place.Fraction = Fraction
place_of place.Mark = Mark
place_of place.Signed = Signed
place_of place.Exponent = Exponent
place_of place.SizeMark = SizeMark
place_of place.Size = Size
place_of place.UtfMark = UtfMark
place_of (place.Utf count) = Utf count
place_of place.Fun = Fun
place_of place.CountMark = CountMark
place_of place.Count = Count

abbrev pub state_of : CodeState → State
state_of s = record { comment = s.comment; place = place_of s.place; frames = frames_of s.frames }

-- What a function returned is what the step is, unless memory ran out.
abbrev pub Stops : CodeStop → Step → Type 0
Stops stop.Syntax s = s ≡ Stop Syntax
Stops (stop.Number first) s = s ≡ Stop (Number first)
Stops stop.Deep s = s ≡ Stop Deep
Stops stop.Large s = s ≡ Stop Large
Stops stop.NoMemory s = Unit {0}

abbrev pub Gives : Result CodeState CodeStop → Step → Type 0
Gives (Ok state) s = s ≡ Go (state_of state)
Gives (Err e) s = Stops e s

abbrev pub GivesNext : Result Next CodeStop → Step → Type 0
GivesNext (Ok (next.Go state)) s = s ≡ Go (state_of state)
GivesNext (Ok (next.Done t)) s = s ≡ Done t.node
GivesNext (Err e) s = Stops e s

-- a text in double quotes as a list opens a level
abbrev pub text_begun : List Frame → Step
text_begun frames = if nat_lt (length frames) 200 then at (Quote (record { use_ = ForList; points = [] }) Plain) frames else Stop Deep

-- a digit goes on with a place
abbrev pub digit_to : Place → List Frame → ℕ → Step
digit_to there frames byte = if is_ascii_digit byte then at there frames else fault

-- the quote that ends a text
abbrev pub quote_closed : List Frame → Quoting → Step
quote_closed frames q = if ends_well q.use_ q.points then at (quote_ended frames q.use_ q.points) frames else fault

-- one more digit of a code
abbrev pub code_digit : Mode → List Frame → Quoting → ℕ × ℕ → ℕ → Step
code_digit mode frames q code digit =
    if nat_lt code.0 6 && can_be_code (bound mode q.use_) (code.0 + 1) (code.1 * 16 + digit)
    then at (Quote q (Code (code.0 + 1) (code.1 * 16 + digit))) frames else fault

-- Reading came to this, unless memory ran out.
abbrev pub Halts : CodeStop → ℕ → Reading → Type 0
Halts stop.Syntax n r = r ≡ Halted Syntax n
Halts (stop.Number first) n r = r ≡ Halted (Number first) n
Halts stop.Deep n r = r ≡ Halted Deep n
Halts stop.Large n r = r ≡ Halted Large n
Halts stop.NoMemory n r = Unit {0}

abbrev pub GivesReading : CodeReading → Reading → Type 0
GivesReading (reading.Ended t n) r = r ≡ Ended t.node n
GivesReading reading.Cut r = r ≡ Cut
GivesReading (reading.Halted e n) r = Halts e n r

-- neither behind a dot that ends a form nor behind one that may
abbrev pub ends_no_form : Place → Bool
ends_no_form (Dotted t) = false
ends_no_form (Point z) = false
ends_no_form here = true

-- ---- the answer

-- how far behind the beginning the place of a fault is, where the first byte that isn't blank has this offset
abbrev pub fault_offset : ℕ → CodeStop → ℕ → ℕ
fault_offset first stop.Syntax offset = offset
fault_offset first (stop.Number number) offset = number
fault_offset first stop.Deep offset = offset
fault_offset first stop.Large offset = first
fault_offset first stop.NoMemory offset = 0

abbrev pub fault_of : ℕ → ℕ → CodeStop → ℕ → ReadError
fault_of at first stop.Syntax offset = faults.Syntax (at + offset)
fault_of at first (stop.Number number) offset = faults.Number (at + number)
fault_of at first stop.Deep offset = faults.TooDeep (at + offset)
fault_of at first stop.Large offset = faults.TooLarge (at + first)
fault_of at first stop.NoMemory offset = faults.NoMemory

abbrev pub answer_offset : ℕ → CodeReading → ℕ
answer_offset first (reading.Ended t end) = end
answer_offset first reading.Cut = 0
answer_offset first (reading.Halted e offset) = fault_offset first e offset

abbrev pub answer_of : ℕ → ℕ → CodeReading → Result (Option (Term × ℕ)) ReadError
answer_of at first (reading.Ended t end) = Ok (Some (t, at + end))
answer_of at first reading.Cut = Err faults.Incomplete
answer_of at first (reading.Halted e offset) = Err (fault_of at first e offset)
