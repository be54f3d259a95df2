-- What stands at the front of bytes, from left to right.
use Rattle.std.specs.Prelude.{◌≡◌, ◌≢◌, ◌<◌, ◌≤◌, ◌++◌, Option, Some, None, ℕ, zero, suc, Bool, true, false, ◌==◌, nat_lt, not, codes, ℤ, pos, neg_ℤ, List, [], ◌∷◌, length, take, drop, Result, Ok, Err, ◌⊎◌, if◌then◌else◌}
use Rattle.std.specs.Char.{is_ascii_digit, is_ascii_lowercase}
use Rattle.std.specs.List.{prefix_len}
use Rattle.std.specs.Str.Parse.{starts_with_minus, digits_value}
use Rattle.kh_term.specs.declared.name.Name.{Name}
use Rattle.kh_term.specs.declared.name.Name.TheVariants as name
use Rattle.kh_text_defs.specs.Atoms.{is_word_byte, is_reserved}
use Rattle.kh_read.specs.declared.form.Form.{Form}
use Rattle.kh_read.specs.declared.form.Form.TheVariants as form
use Rattle.kh_read.specs.declared.error.ReadError.{ReadError}
use Rattle.kh_read.specs.declared.error.ReadError.TheVariants as errors

-- Why nothing stands there: the bytes end inside it, or a byte doesn't fit.
pub data Stop : Type 0 where
  Cut : Stop
  Fault : Stop

-- what was read with the bytes behind it, or why nothing was
abbrev pub Read : Type 0 → Type 0
Read A = Result (A × List ℕ) Stop

infixl 10 ◌>>=◌
abbrev pub ◌>>=◌ : {A B : Type 0} → Result A Stop → (A → Result B Stop) → Result B Stop
(Ok x) >>= f = f x
(Err stop) >>= f = Err stop

-- these very bytes
abbrev pub literal_at : List ℕ → List ℕ → Result (List ℕ) Stop
literal_at [] bytes = Ok bytes
literal_at (wanted ∷ others) [] = Err Cut
literal_at (wanted ∷ others) (byte ∷ bytes) = if byte == wanted then literal_at others bytes else Err Fault

-- a front of this length and what is behind it: a fault where it is longer than allowed, cut where nothing is behind it
abbrev pub split_front : ℕ → ℕ → List ℕ → Read (List ℕ)
split_front len most bytes =
    if nat_lt most len then Err Fault
    else if len == length bytes then Err Cut
    else Ok (take len bytes, drop len bytes)

-- The longest front that passes a test, of at most so many bytes, with a byte behind it. One byte more than allowed is a
-- fault before the front has ended.
abbrev pub front_at : (ℕ → Bool) → ℕ → List ℕ → Read (List ℕ)
front_at test most bytes = split_front (prefix_len test bytes) most bytes

-- a plain atom of at most 255 bytes
unfoldable pub word_at : List ℕ → Read (List ℕ)
word_at [] = Err Cut
word_at (first ∷ others) =
    if not (is_ascii_lowercase first) then Err Fault
    else (front_at is_word_byte 255 (first ∷ others) >>= λ word. if is_reserved word.0 then Err Fault else Ok word)

-- the atom of a word
unfoldable pub name_at : List ℕ → Read Name
name_at bytes = word_at bytes >>= λ word. Ok (name.Atom word.0, word.1)

-- whether a comma stands there, behind which a further name comes, or the bracket behind the last
abbrev pub comma_at : List ℕ → Read Bool
comma_at [] = Err Cut
comma_at (byte ∷ bytes) = if byte == 44 then Ok (true, bytes) else if byte == 93 then Ok (false, bytes) else Err Fault

-- at most so many names with commas between them, and the bracket behind the last
unfoldable pub names_at : ℕ → List ℕ → Read (List Name)
names_at zero bytes = Err Fault
names_at (suc room) bytes =
    name_at bytes >>= λ first. comma_at first.1 >>= λ comma.
    if comma.0 then (names_at room comma.1 >>= λ others. Ok (first.0 ∷ others.0, others.1))
    else Ok (first.0 ∷ [], comma.1)

-- 1 to 18 digits
unfoldable pub digits_at : List ℕ → Read (List ℕ)
digits_at bytes = front_at is_ascii_digit 18 bytes >>= λ digits. if length digits.0 == 0 then Err Fault else Ok digits

-- an integer: digits, perhaps behind a minus sign
unfoldable pub integer_at : List ℕ → Read ℤ
integer_at bytes =
    if starts_with_minus bytes then (digits_at (drop 1 bytes) >>= λ digits. Ok (neg_ℤ (pos (digits_value 10 digits.0)), digits.1))
    else (digits_at bytes >>= λ digits. Ok (pos (digits_value 10 digits.0), digits.1))

unfoldable pub put_at : List ℕ → Read Form
put_at bytes =
    literal_at (codes "put,[") bytes >>= λ names. names_at 32 names >>= λ path. literal_at (codes ",") path.1 >>= λ rest.
    integer_at rest >>= λ number. literal_at (codes "}.") number.1 >>= λ rest. Ok (form.Put path.0 number.0, rest)

unfoldable pub get_at : List ℕ → Read Form
get_at bytes =
    literal_at (codes "get,[") bytes >>= λ names. names_at 32 names >>= λ path.
    literal_at (codes "}.") path.1 >>= λ rest. Ok (form.Get path.0, rest)

-- the form that begins with this byte behind its brace
abbrev pub by_keyword : List ℕ → Read Form
by_keyword [] = Err Cut
by_keyword (byte ∷ bytes) =
    if byte == 112 then put_at (byte ∷ bytes) else if byte == 103 then get_at (byte ∷ bytes) else Err Fault

-- a form, its dot with it
unfoldable pub form_at : List ℕ → Read Form
form_at bytes = literal_at (codes "{") bytes >>= by_keyword

-- What a function returned, seen by view, is what reading gives, unless memory ran out.
abbrev pub Fails : {Y : Type 0} → ReadError → Result Y Stop → Type 0
Fails errors.NoMemory read = Unit {0}
Fails errors.Incomplete read = read ≡ Err Cut
Fails errors.Syntax read = read ≡ Err Fault

abbrev pub Gives : {X Y : Type 0} → (X → Y) → Result X ReadError → Result Y Stop → Type 0
Gives view (Ok x) read = read ≡ Ok (view x)
Gives view (Err e) read = Fails e read

-- This was answered, unless memory ran out.
abbrev pub IsUnlessMemory : {X : Type 0} → Result X ReadError → X → Type 0
IsUnlessMemory result x = (result ≡ Ok x) ⊎ (result ≡ Err errors.NoMemory)

-- What reading from a place on gives: nothing exactly at the end; a form with the place behind it; or why there is none.
abbrev pub ReadsForm : List ℕ → ℕ → Result (Option (Form × ℕ)) ReadError → Type 0
ReadsForm bytes at (Ok None) = at ≡ length bytes
ReadsForm bytes at (Ok (Some x)) = (form_at (drop at bytes) ≡ Ok (x.0, drop x.1 bytes)) × (at < x.1) × (x.1 ≤ length bytes)
ReadsForm bytes at (Err e) = (at < length bytes) × Fails e (form_at (drop at bytes))

-- what was read, with more bytes behind it
abbrev pub extended : {A : Type 0} → List ℕ → Read A → Read A
extended more (Ok x) = Ok (x.0, x.1 ++ more)
extended more (Err stop) = Err stop

-- What isn't cut short stays as it is with more bytes behind it.
abbrev pub Grows : {A : Type 0} → (List ℕ → Read A) → Type 0
Grows f = (bytes more : List ℕ) → f bytes ≢ Err Cut → f (bytes ++ more) ≡ extended more (f bytes)
