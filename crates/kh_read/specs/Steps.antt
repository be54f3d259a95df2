-- Reading a form byte by byte: what each byte does.
use Rattle.std.specs.Prelude.{ℕ, zero, suc, ◌+◌, ◌-◌, ◌*◌, Bool, true, false, ◌&&◌, ◌||◌, ◌==◌, not, nat_lt, nat_le, codes, Option, Some, None, List, [], ◌∷◌, ◌++◌, length, if◌then◌else◌, ℤ, pos, negsuc, neg_ℤ}
use Rattle.std.specs.Char.{is_ascii_digit, is_ascii_lowercase, is_ascii_hexdigit, digit_value, len_utf8}
use Rattle.std.specs.List.{list_all}
use Rattle.std.specs.Str.{bytes_eq, encode_utf8_all, all_scalars}
use Rattle.kh_term.specs.declared.tree.TermTree.{TermTree}
use Rattle.kh_term.specs.declared.tree.TermTree.TheVariants as tree
use Rattle.kh_term.specs.Make.{list_of, list_with_tail}
use Rattle.kh_term.specs.Size.{size_of}
use Rattle.kh_text_defs.specs.declared.mode.Mode.{Mode}
use Rattle.kh_text_defs.specs.declared.mode.Mode.TheVariants.{Script, Listing}
use Rattle.kh_text_defs.specs.Atoms.{is_word_byte}
use Rattle.kh_text_defs.specs.Blanks.{is_space, may_follow}
use Rattle.kh_text_defs.specs.Faults.{max_size}
use Rattle.kh_term.specs.MapOf.{map_of}
use Rattle.kh_text_defs.specs.Spelled.{Rules, allows, unsupported, list_of_points, closure_of, is_arity, is_exponent_mark, is_sign, KeyValues}
use Rattle.kh_text_defs.specs.Tokens.{escaped}
use Rattle.kh_read.specs.State.{Frame, InList, InTail, InTuple, InKey, InValue, InModule, InName, InArity, InOpening, InCaptured, InClosing, InBinary, InReference, InReferenceName, Setting, Use, ForName, ForList, ForSegment, Inner, Plain, Slash, Brace, Code, Follow, Quoting, Place, Before, After, AfterName, AfterArity, AfterByte, AfterText, AfterSegment, Minus, Digits, Word, Quote, Angle, Sharp, Arrow, Close, Dotted, Point, Fraction, Mark, Signed, Exponent, SizeMark, Size, UtfMark, Utf, Fun, CountMark, Count, State, Halt, Syntax, Number, Deep, Large, Step, Go, Done, Stop, Reading, Ended, Cut, Halted}

-- reading goes on at a place
abbrev pub at : Place → List Frame → Step
at place frames = Go (record { comment = false; place = place; frames = frames })

abbrev pub fault : Step
fault = Stop Syntax

abbrev pub is_listing : Mode → Bool
is_listing Script = false
is_listing Listing = true

-- ---- what stands open

-- a level more, where one is left
abbrev pub opened : ℕ → Frame → List Frame → Step
opened levels frame frames = if nat_lt (length frames) levels then at Before (frame ∷ frames) else Stop Deep

abbrev pub takes_name : List Frame → Bool
takes_name (InModule ∷ frames) = true
takes_name (InName home ∷ frames) = true
takes_name (InReference ∷ frames) = true
takes_name (InReferenceName ∷ frames) = true
takes_name frames = false

abbrev pub takes_arity : List Frame → Bool
takes_arity (InArity home name ∷ frames) = true
takes_arity frames = false

abbrev pub takes_segment : List Frame → Bool
takes_segment (InBinary begun bytes sized ∷ frames) = true
takes_segment frames = false

abbrev pub takes_mark : List Frame → Bool
takes_mark (InOpening home name arity ∷ frames) = true
takes_mark (InClosing home name arity env ∷ frames) = true
takes_mark frames = false

-- ---- integers

abbrev pub signed : Bool → ℕ → ℤ
signed true magnitude = neg_ℤ (pos magnitude)
signed false magnitude = pos magnitude

-- an integer of a segment is 0 to 255
abbrev pub is_byte : Bool → ℕ → Bool
is_byte true magnitude = magnitude == 0
is_byte false magnitude = nat_lt magnitude 256

abbrev pub digit_of : ℕ → ℕ
digit_of byte = byte - 48

-- whether an integer may have this value there
abbrev pub fits_here : Rules → List Frame → Bool → ℕ → Bool
fits_here rules frames negative magnitude =
    if takes_segment frames then is_byte negative magnitude else allows rules (signed negative magnitude)

-- where it mustn't: in a segment that is a syntax fault, elsewhere an integer out of its range, which began at first
abbrev pub misfit : List Frame → ℕ → Halt
misfit frames first = if takes_segment frames then Syntax else Number first

-- one more digit of an integer that began at first
abbrev pub with_digit : Rules → List Frame → ℕ → Bool → ℕ → Step
with_digit rules frames first negative magnitude =
    if fits_here rules frames negative magnitude then at (Digits first negative magnitude) frames else Stop (misfit frames first)

-- the byte that an integer of a segment is
abbrev pub byte_of : ℕ → ℕ
byte_of magnitude = if nat_lt magnitude 256 then magnitude else 0

abbrev pub integer_ended : List Frame → Bool → ℕ → Place
integer_ended frames negative magnitude =
    if takes_segment frames then AfterByte (byte_of magnitude)
    else if takes_arity frames then AfterArity (signed negative magnitude) else After (tree.Int (signed negative magnitude))

-- ---- the end of a name

abbrev pub name_ended : List Frame → List ℕ → Place
name_ended frames name = if takes_name frames then AfterName name else After (tree.Atom name)

abbrev pub word_ended : Rules → List Frame → List ℕ → Place
word_ended rules frames name =
    if takes_name frames then AfterName name
    else if is_listing rules.mode && bytes_eq name (codes "fun") then Fun else After (tree.Atom name)

-- ---- a value comes

-- the bytes that begin an atom
abbrev pub begin_name : List Frame → ℕ → Step
begin_name frames byte =
    if is_ascii_lowercase byte then at (Word (byte ∷ [])) frames
    else if byte == 39 then at (Quote (record { use_ = ForName 255; points = [] }) Plain) frames else fault

abbrev pub begin_integer : Rules → List Frame → ℕ → ℕ → Step
begin_integer rules frames place byte =
    if byte == 45 then at (Minus place) frames
    else if is_ascii_digit byte then with_digit rules frames place false (digit_of byte) else fault

-- the bytes that begin a term
unfoldable pub begin_term : Setting → List Frame → ℕ → ℕ → Step
begin_term setting frames place byte =
    if byte == 45 || is_ascii_digit byte then begin_integer setting.rules frames place byte
    else if is_ascii_lowercase byte || byte == 39 then begin_name frames byte
    else if byte == 91 then opened setting.levels (InList []) frames
    else if byte == 123 then opened setting.levels (InTuple []) frames
    else if byte == 34 then (if nat_lt (length frames) setting.levels then at (Quote (record { use_ = ForList; points = [] }) Plain) frames else Stop Deep)
    else if byte == 60 then at Angle frames
    else if byte == 35 then at (Sharp 0) frames
    else fault

abbrev pub begin_segment : Rules → List Frame → ℕ → ℕ → Step
begin_segment rules frames place byte =
    if byte == 34 then at (Quote (record { use_ = ForSegment; points = [] }) Plain) frames else begin_integer rules frames place byte

-- a closure's end: no byte where its arity isn't allowed
abbrev pub close_closure : List Frame → ℕ → Step
close_closure (InClosing home name arity env ∷ frames) byte =
    if is_arity arity (length env) && byte == 125 then at (After (closure_of home name arity env)) frames
    else if not (is_arity arity (length env)) && byte == 256 then at (After (closure_of home name arity env)) frames else fault
close_closure frames byte = fault

-- a value has to come, or a bracket that closes at once
unfoldable pub step_before : Setting → List Frame → ℕ → ℕ → Step
step_before setting (InModule ∷ frames) place byte = begin_name (InModule ∷ frames) byte
step_before setting (InName home ∷ frames) place byte = begin_name (InName home ∷ frames) byte
step_before setting (InReference ∷ frames) place byte = begin_name (InReference ∷ frames) byte
step_before setting (InReferenceName ∷ frames) place byte = begin_name (InReferenceName ∷ frames) byte
step_before setting (InArity home name ∷ frames) place byte = begin_integer setting.rules (InArity home name ∷ frames) place byte
step_before setting (InOpening home name arity ∷ frames) place byte =
    if byte == 91 then at Before (InCaptured home name arity [] ∷ frames) else fault
step_before setting (InCaptured home name arity [] ∷ frames) place byte =
    if byte == 93 then at Before (InClosing home name arity [] ∷ frames)
    else begin_term setting (InCaptured home name arity [] ∷ frames) place byte
step_before setting (InClosing home name arity env ∷ frames) place byte = close_closure (InClosing home name arity env ∷ frames) byte
step_before setting (InBinary begun bytes sized ∷ frames) place byte =
    if not begun && byte == 62 then at Close (InBinary begun bytes sized ∷ frames)
    else begin_segment setting.rules (InBinary begun bytes sized ∷ frames) place byte
step_before setting (InList [] ∷ frames) place byte =
    if byte == 93 then at (After tree.Nil) frames else begin_term setting (InList [] ∷ frames) place byte
step_before setting (InTuple [] ∷ frames) place byte =
    if byte == 125 then at (After (tree.Tuple [])) frames else begin_term setting (InTuple [] ∷ frames) place byte
step_before setting (InKey [] ∷ frames) place byte =
    if byte == 125 then at (After (tree.Map [])) frames else begin_term setting (InKey [] ∷ frames) place byte
step_before setting frames place byte = begin_term setting frames place byte

-- ---- a value was read

-- a term was read; at the end of the form it may be too large, where sizes count
unfoldable pub step_after : Bool → List Frame → TermTree → ℕ → Step
step_after sized [] t byte = if byte == 46 then (if sized && nat_lt max_size (size_of t) then Stop Large else at (Dotted t) []) else fault
step_after sized (InList parts ∷ frames) t byte =
    if byte == 44 then at Before (InList (parts ++ t ∷ []) ∷ frames)
    else if byte == 124 then at Before (InTail (parts ++ t ∷ []) ∷ frames)
    else if byte == 93 then at (After (list_of (parts ++ t ∷ []))) frames else fault
step_after sized (InTail parts ∷ frames) t byte = if byte == 93 then at (After (list_with_tail parts t)) frames else fault
step_after sized (InTuple parts ∷ frames) t byte =
    if byte == 44 then at Before (InTuple (parts ++ t ∷ []) ∷ frames)
    else if byte == 125 then at (After (tree.Tuple (parts ++ t ∷ []))) frames else fault
step_after sized (InKey pairs ∷ frames) t byte = if byte == 61 then at (Arrow t) (InKey pairs ∷ frames) else fault
step_after sized (InValue pairs key ∷ frames) t byte =
    if byte == 44 then at Before (InKey (pairs ++ (key, t) ∷ []) ∷ frames)
    else if byte == 125 then at (After (tree.Map (map_of (pairs ++ (key, t) ∷ [])))) frames else fault
step_after sized (InCaptured home name arity env ∷ frames) t byte =
    if byte == 44 then at Before (InCaptured home name arity (env ++ t ∷ []) ∷ frames)
    else if byte == 93 then at Before (InClosing home name arity (env ++ t ∷ []) ∷ frames) else fault
step_after sized frames t byte = fault

-- a name was read, of a closure or of `fun m:f/1`
unfoldable pub step_after_name : List Frame → List ℕ → ℕ → Step
step_after_name (InModule ∷ frames) name byte = if byte == 44 then at Before (InName name ∷ frames) else fault
step_after_name (InName home ∷ frames) name byte = if byte == 44 then at Before (InArity home name ∷ frames) else fault
step_after_name (InReference ∷ frames) name byte = if byte == 58 then at Before (InReferenceName ∷ frames) else fault
step_after_name (InReferenceName ∷ frames) name byte = if byte == 47 then at CountMark frames else fault
step_after_name frames name byte = fault

unfoldable pub step_after_arity : List Frame → ℤ → ℕ → Step
step_after_arity (InArity home name ∷ frames) arity byte = if byte == 44 then at Before (InOpening home name arity ∷ frames) else fault
step_after_arity frames arity byte = fault

-- a segment was read: a further one comes, or the binary closes
abbrev pub next_segment : List ℕ → Bool → List Frame → ℕ → Step
next_segment bytes sized frames byte =
    if byte == 44 then at Before (InBinary true bytes sized ∷ frames)
    else if byte == 62 then at Close (InBinary true bytes sized ∷ frames) else fault

unfoldable pub step_after_byte : Mode → List Frame → ℕ → ℕ → Step
step_after_byte mode (InBinary begun bytes sized ∷ frames) n byte =
    if byte == 58 && is_listing mode then at SizeMark (InBinary true bytes true ∷ frames)
    else next_segment (bytes ++ n ∷ []) sized frames byte
step_after_byte mode frames n byte = fault

abbrev pub all_latin : List ℕ → Bool
all_latin points = list_all (λ c. nat_lt c 256) points

unfoldable pub step_after_text : Mode → List Frame → List ℕ → ℕ → Step
step_after_text mode (InBinary begun bytes sized ∷ frames) points byte =
    if byte == 47 && is_listing mode then
    (if all_scalars points then at UtfMark (InBinary true (bytes ++ encode_utf8_all points) sized ∷ frames) else fault)
    else if all_latin points then next_segment (bytes ++ points) sized frames byte else fault
step_after_text mode frames points byte = fault

unfoldable pub step_after_segment : List Frame → ℕ → Step
step_after_segment (InBinary begun bytes sized ∷ frames) byte = next_segment bytes sized frames byte
step_after_segment frames byte = fault

abbrev pub binary_term : List ℕ → Bool → TermTree
binary_term bytes true = unsupported
binary_term bytes false = tree.Bin bytes

-- the second byte of `>>`
unfoldable pub step_close : List Frame → ℕ → Step
step_close (InBinary begun bytes sized ∷ frames) byte = if byte == 62 then at (After (binary_term bytes sized)) frames else fault
step_close frames byte = fault

-- the second byte of `=>`
unfoldable pub step_arrow : List Frame → TermTree → ℕ → Step
step_arrow (InKey pairs ∷ frames) key byte = if byte == 62 then at Before (InValue pairs key ∷ frames) else fault
step_arrow frames key byte = fault

-- behind `#`, `#f`, `#fu` and `#fun`; no byte, written as 256, ends what only begins there
unfoldable pub step_sharp : Setting → List Frame → ℕ → ℕ → Step
step_sharp setting frames zero byte =
    if byte == 123 then opened setting.levels (InKey []) frames else if byte == 102 then at (Sharp 1) frames
    else if byte == 256 then at (After tree.Nil) frames else fault
step_sharp setting frames (suc zero) byte =
    if byte == 117 then at (Sharp 2) frames else if byte == 256 then at (After tree.Nil) frames else fault
step_sharp setting frames (suc (suc zero)) byte =
    if byte == 110 then at (Sharp 3) frames else if byte == 256 then at (After tree.Nil) frames else fault
step_sharp setting frames (suc (suc (suc count))) byte =
    if byte == 123 then opened setting.levels InModule frames else if byte == 256 then at (After tree.Nil) frames else fault

-- ---- texts in quotes

abbrev pub quote_of : Use → ℕ
quote_of (ForName left) = 39
quote_of ForList = 34
quote_of ForSegment = 34

-- what a further code point has to be below
abbrev pub bound : Mode → Use → ℕ
bound mode (ForName left) =
    if left == 0 then 0 else if left == 1 then 0x80 else if left == 2 then 0x800 else if left == 3 then 0x10000 else 0x110000
bound mode ForList = 0x110000
bound Script ForSegment = 0x100
bound Listing ForSegment = 0x110000

abbrev pub used : Use → ℕ → Use
used (ForName left) point = ForName (left - len_utf8 point)
used ForList point = ForList
used ForSegment point = ForSegment

-- a code point more
abbrev pub with_point : List Frame → Quoting → ℕ → Step
with_point frames q point = at (Quote (record { use_ = used q.use_ point; points = q.points ++ point ∷ [] }) Plain) frames

abbrev pub quote_ended : List Frame → Use → List ℕ → Place
quote_ended frames (ForName left) points = name_ended frames (encode_utf8_all points)
quote_ended frames ForList points = After (list_of_points points)
quote_ended frames ForSegment points = AfterText points

-- whether a text may end: a name is UTF-8 of at most 255 bytes
abbrev pub ends_well : Use → List ℕ → Bool
ends_well (ForName left) points = all_scalars points && nat_le (length (encode_utf8_all points)) 255
ends_well ForList points = true
ends_well ForSegment points = true

abbrev pub is_within : ℕ → ℕ → ℕ → Bool
is_within low high byte = nat_le low byte && nat_le byte high

-- the first byte of a code point of two, three or four bytes
abbrev pub lead : List Frame → Quoting → ℕ → ℕ → Step
lead frames q below byte =
    if is_within 0xC2 0xDF byte && nat_lt ((byte - 0xC0) * 64) below then at (Quote q (Follow 0 0x80 0xBF (byte - 0xC0))) frames
    else if byte == 0xE0 && nat_lt 0x800 below then at (Quote q (Follow 1 0xA0 0xBF 0)) frames
    else if byte == 0xED && nat_lt 0x800 below then at (Quote q (Follow 1 0x80 0x9F 13)) frames
    else if is_within 0xE1 0xEF byte && nat_lt 0x800 below then at (Quote q (Follow 1 0x80 0xBF (byte - 0xE0))) frames
    else if byte == 0xF0 && nat_lt 0x10000 below then at (Quote q (Follow 2 0x90 0xBF 0)) frames
    else if byte == 0xF4 && nat_lt 0x10000 below then at (Quote q (Follow 2 0x80 0x8F 4)) frames
    else if is_within 0xF1 0xF3 byte && nat_lt 0x10000 below then at (Quote q (Follow 2 0x80 0xBF (byte - 0xF0))) frames
    else fault

unfoldable pub step_plain : Mode → List Frame → Quoting → ℕ → Step
step_plain mode frames q byte =
    if byte == quote_of q.use_ then (if ends_well q.use_ q.points then at (quote_ended frames q.use_ q.points) frames else fault)
    else if bound mode q.use_ == 0 then fault
    else if byte == 92 then at (Quote q Slash) frames
    else if nat_lt byte 0x80 then with_point frames q byte
    else lead frames q (bound mode q.use_) byte

abbrev pub named : List Frame → Quoting → Option ℕ → Step
named frames q (Some point) = with_point frames q point
named frames q None = fault

unfoldable pub step_slash : List Frame → Quoting → ℕ → Step
step_slash frames q byte = if byte == 120 then at (Quote q Brace) frames else named frames q (escaped byte)

abbrev pub is_surrogate : ℕ → Bool
is_surrogate point = is_within 0xD800 0xDFFF point

-- whether so many digits with this value can be those of a code point below a bound, or the first of them
abbrev pub can_be_code : ℕ → ℕ → ℕ → Bool
can_be_code below count value =
    nat_lt value below && (not (is_surrogate value) || (nat_lt count 6 && nat_lt (value * 16) below))

unfoldable pub step_code : Mode → List Frame → Quoting → ℕ × ℕ → ℕ → Step
step_code mode frames q code byte =
    if is_ascii_hexdigit byte then
    (if nat_lt code.0 6 && can_be_code (bound mode q.use_) (code.0 + 1) (code.1 * 16 + digit_value byte)
    then at (Quote q (Code (code.0 + 1) (code.1 * 16 + digit_value byte))) frames else fault)
    else if byte == 125 && nat_lt 0 code.0 && not (is_surrogate code.1) then with_point frames q code.1 else fault

-- the next byte of a code point, of which so many more come
abbrev pub followed : List Frame → Quoting → ℕ → ℕ → Step
followed frames q zero value = with_point frames q value
followed frames q (suc count) value = at (Quote q (Follow count 0x80 0xBF value)) frames

unfoldable pub step_quote : Mode → List Frame → Quoting → Inner → ℕ → Step
step_quote mode frames q Plain byte = step_plain mode frames q byte
step_quote mode frames q Slash byte = step_slash frames q byte
step_quote mode frames q Brace byte = if byte == 123 then at (Quote q (Code 0 0)) frames else fault
step_quote mode frames q (Code count value) byte = step_code mode frames q (count, value) byte
step_quote mode frames q (Follow count low high value) byte =
    if is_within low high byte then followed frames q count (value * 64 + (byte - 0x80)) else fault

-- ---- between tokens

-- behind the word `fun` in a listing: a module's name begins a reference, else it was an atom
abbrev pub step_fun : Bool → List Frame → ℕ → Step
step_fun sized frames byte =
    if is_ascii_lowercase byte || byte == 39 then begin_name (InReference ∷ frames) byte
    else step_after sized frames (tree.Atom (codes "fun")) byte

-- a byte that is neither a space nor begins a comment
unfoldable pub step_mark : Setting → Place → List Frame → ℕ → ℕ → Step
step_mark setting Before frames place byte = step_before setting frames place byte
step_mark setting (After t) frames place byte = step_after setting.sized frames t byte
step_mark setting (AfterName name) frames place byte = step_after_name frames name byte
step_mark setting (AfterArity arity) frames place byte = step_after_arity frames arity byte
step_mark setting (AfterByte n) frames place byte = step_after_byte setting.rules.mode frames n byte
step_mark setting (AfterText points) frames place byte = step_after_text setting.rules.mode frames points byte
step_mark setting AfterSegment frames place byte = step_after_segment frames byte
step_mark setting SizeMark frames place byte = if is_ascii_digit byte then at Size frames else fault
step_mark setting UtfMark frames place byte = if byte == 117 then at (Utf 1) frames else fault
step_mark setting Fun frames place byte = step_fun setting.sized frames byte
step_mark setting CountMark frames place byte = if is_ascii_digit byte then at Count frames else fault
step_mark setting other frames place byte = fault

unfoldable pub step_between : Setting → Place → List Frame → ℕ → ℕ → Step
step_between setting here frames place byte =
    if is_space byte then at here frames
    else if byte == 37 then Go (record { comment = true; place = here; frames = frames })
    else step_mark setting here frames place byte

-- ---- inside tokens

-- whether a dot may begin a fraction: where a term stands in a listing
abbrev pub takes_fraction : Rules → List Frame → Bool
takes_fraction rules frames = is_listing rules.mode && not (takes_segment frames) && not (takes_arity frames)

unfoldable pub step_digits : Setting → List Frame → ℕ × Bool × ℕ → ℕ → ℕ → Step
step_digits setting frames number place byte =
    if is_ascii_digit byte then with_digit setting.rules frames number.0 number.1 (number.2 * 10 + digit_of byte)
    else if byte == 46 && takes_fraction setting.rules frames then at (Point (signed number.1 number.2)) frames
    else step_between setting (integer_ended frames number.1 number.2) frames place byte

unfoldable pub step_word : Setting → List Frame → List ℕ → ℕ → ℕ → Step
step_word setting frames name place byte =
    if is_word_byte byte then (if nat_lt (length name) 255 then at (Word (name ++ byte ∷ [])) frames else fault)
    else step_between setting (word_ended setting.rules frames name) frames place byte

-- behind the dot of a form
abbrev pub step_dotted : TermTree → ℕ → Step
step_dotted t byte = if may_follow (byte ∷ []) then Done t else fault

-- behind an integer and a dot: a fraction, or the form has ended
unfoldable pub step_point : List Frame → ℤ → ℕ → Step
step_point [] z byte = if is_ascii_digit byte then at Fraction [] else step_dotted (tree.Int z) byte
step_point (frame ∷ frames) z byte = if is_ascii_digit byte then at Fraction (frame ∷ frames) else fault

-- digits that go on, or what comes behind them
abbrev pub more_digits : Setting → Place → Place → List Frame → ℕ × ℕ → Step
more_digits setting here next frames byte =
    if is_ascii_digit byte.1 then at here frames else step_between setting next frames byte.0 byte.1

unfoldable pub step_utf : List Frame → ℕ → ℕ → Step
step_utf frames (suc zero) byte = if byte == 116 then at (Utf 2) frames else fault
step_utf frames (suc (suc zero)) byte = if byte == 102 then at (Utf 3) frames else fault
step_utf frames count byte = if byte == 56 then at AfterSegment frames else fault

-- what a byte does that isn't in a comment
unfoldable pub step_place : Setting → Place → List Frame → ℕ → ℕ → Step
step_place setting (Minus first) frames place byte =
    if is_ascii_digit byte then with_digit setting.rules frames first true (digit_of byte) else fault
step_place setting (Digits first negative magnitude) frames place byte = step_digits setting frames (first, negative, magnitude) place byte
step_place setting (Word name) frames place byte = step_word setting frames name place byte
step_place setting (Quote q inner) frames place byte = step_quote setting.rules.mode frames q inner byte
step_place setting Angle frames place byte = if byte == 60 then at Before (InBinary false [] false ∷ frames) else fault
step_place setting (Sharp count) frames place byte = step_sharp setting frames count byte
step_place setting (Arrow key) frames place byte = step_arrow frames key byte
step_place setting Close frames place byte = step_close frames byte
step_place setting (Dotted t) frames place byte = step_dotted t byte
step_place setting (Point z) frames place byte = step_point frames z byte
step_place setting Fraction frames place byte =
    if is_exponent_mark byte then at Mark frames else more_digits setting Fraction (After unsupported) frames (place, byte)
step_place setting Mark frames place byte =
    if is_sign byte then at Signed frames else if is_ascii_digit byte then at Exponent frames else fault
step_place setting Signed frames place byte = if is_ascii_digit byte then at Exponent frames else fault
step_place setting Exponent frames place byte = more_digits setting Exponent (After unsupported) frames (place, byte)
step_place setting Size frames place byte = more_digits setting Size AfterSegment frames (place, byte)
step_place setting (Utf count) frames place byte = step_utf frames count byte
step_place setting Count frames place byte = more_digits setting Count (After unsupported) frames (place, byte)
step_place setting here frames place byte = step_between setting here frames place byte

-- what a byte at a place does
unfoldable pub step : Setting → State → ℕ → ℕ → Step
step setting s place byte =
    if s.comment then (if byte == 10 then at s.place s.frames else Go s) else step_place setting s.place s.frames place byte

-- ---- a whole form

-- what the end of the input makes of a place
abbrev pub at_end : Place → List Frame → ℕ → Reading
at_end (Dotted t) frames place = Ended t place
at_end (Point z) [] place = Ended (tree.Int z) place
at_end here frames place = Cut

-- what comes of a step, where reading goes on so
abbrev pub continued : Step → (State → Reading) → ℕ → Reading
continued (Go s) on place = on s
continued (Done t) on place = Ended t place
continued (Stop halt) on place = Halted halt place

-- reading on from a state at a place of the input
unfoldable pub read_on : Setting → State → ℕ → List ℕ → Reading
read_on setting s place [] = at_end s.place s.frames place
read_on setting s place (byte ∷ bytes) =
    continued (step setting s place byte) (λ next. read_on setting next (suc place) bytes) place

-- the state before a form
abbrev pub fresh : State
fresh = record { comment = false; place = Before; frames = [] }
