-- What is known in the midst of a form, when it is read byte by byte.
use Rattle.std.specs.Prelude.{ℕ, Bool, List, ℤ}
use Rattle.kh_term.specs.declared.tree.TermTree.{TermTree}
use Rattle.kh_text_defs.specs.Spelled.{Rules, KeyValues}

-- which texts are read, how many levels may be open at a time, and whether the size of a term counts
pub record Setting : Type 0 where
  pub rules : Rules
  pub levels : ℕ
  pub sized : Bool

-- What stands open, with what was read in it: a list, the tail of a list, a tuple, a key and a value of a map; of a closure its
-- module, its name, its arity, the bracket of its captured values, these, and its end; a binary with its bytes and
-- whether a segment had a size; and the module and the name of `fun m:f/1`.
pub data Frame : Type 0 where
  InList : (parts : List TermTree) → Frame
  InTail : (parts : List TermTree) → Frame
  InTuple : (parts : List TermTree) → Frame
  InKey : (pairs : KeyValues) → Frame
  InValue : (pairs : KeyValues) (key : TermTree) → Frame
  InModule : Frame
  InName : (home : List ℕ) → Frame
  InArity : (home name : List ℕ) → Frame
  InOpening : (home name : List ℕ) (arity : ℤ) → Frame
  InCaptured : (home name : List ℕ) (arity : ℤ) (env : List TermTree) → Frame
  InClosing : (home name : List ℕ) (arity : ℤ) (env : List TermTree) → Frame
  InBinary : (begun : Bool) (bytes : List ℕ) (sized : Bool) → Frame
  InReference : Frame
  InReferenceName : Frame

-- what a text in quotes is for: a name with so many bytes left, a list, or a segment of a binary
pub data Use : Type 0 where
  ForName : (left : ℕ) → Use
  ForList : Use
  ForSegment : Use

-- Where a text in quotes stands: between characters, behind a backslash, behind `\x`, behind so many digits of a code, or in
-- a code point of which so many bytes come behind the next, which has these bounds.
pub data Inner : Type 0 where
  Plain : Inner
  Slash : Inner
  Brace : Inner
  Code : (count value : ℕ) → Inner
  Follow : (count low high value : ℕ) → Inner

-- a text in quotes: what it is for, and its code points so far
pub record Quoting : Type 0 where
  pub use_ : Use
  pub points : List ℕ

-- Where reading stands. `Before`: a value has to come, `After` and its kin: one was read, and a mark has to come.
pub data Place : Type 0 where
  Before : Place
  After : (t : TermTree) → Place
  AfterName : (name : List ℕ) → Place
  AfterArity : (arity : ℤ) → Place
  AfterByte : (byte : ℕ) → Place
  AfterText : (points : List ℕ) → Place
  AfterSegment : Place
  Minus : (first : ℕ) → Place
  Digits : (first : ℕ) (negative : Bool) (magnitude : ℕ) → Place
  Word : (name : List ℕ) → Place
  Quote : (q : Quoting) (inner : Inner) → Place
  Angle : Place
  Sharp : (count : ℕ) → Place
  Arrow : (key : TermTree) → Place
  Close : Place
  Dotted : (t : TermTree) → Place
  Point : (z : ℤ) → Place
  Fraction : Place
  Mark : Place
  Signed : Place
  Exponent : Place
  SizeMark : Place
  Size : Place
  UtfMark : Place
  Utf : (count : ℕ) → Place
  Fun : Place
  CountMark : Place
  Count : Place

-- a place, whether a comment stands there, and what stands open round it, innermost first
pub record State : Type 0 where
  pub comment : Bool
  pub place : Place
  pub frames : List Frame

-- why reading stops: a syntax fault, an integer that begins there and leaves its range, a level too many, a term too large
pub data Halt : Type 0 where
  Syntax : Halt
  Number : (first : ℕ) → Halt
  Deep : Halt
  Large : Halt

-- what a byte does: reading goes on, the form has ended before it, or it is a fault
pub data Step : Type 0 where
  Go : (s : State) → Step
  Done : (t : TermTree) → Step
  Stop : (halt : Halt) → Step

-- what reading a form gives: its term with the place behind its dot, nothing yet, or a fault at a place
pub data Reading : Type 0 where
  Ended : (t : TermTree) (end : ℕ) → Reading
  Cut : Reading
  Halted : (halt : Halt) (place : ℕ) → Reading
