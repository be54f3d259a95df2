-- Which texts spell which terms.
use Rattle.std.specs.Prelude.{◌≡◌, ◌<◌, ◌≤◌, ℕ, zero, suc, Bool, true, false, ◌&&◌, ◌||◌, ◌==◌, not, nat_lt, nat_le, codes, IsTrue, Option, Some, None, List, [], ◌∷◌, ◌++◌, length, map, ◌⊎◌, if◌then◌else◌, ℤ, pos, negsuc}
use Rattle.std.specs.List.{list_all}
use Rattle.std.specs.Str.{bytes_eq, encode_utf8_all}
use Rattle.kh_term.specs.declared.name.Origin.{Origin}
use Rattle.kh_term.specs.declared.tree.TermTree.{TermTree}
use Rattle.kh_term.specs.declared.tree.TermTree.TheVariants as tree
use Rattle.kh_term.specs.Make.{list_of, list_with_tail}
use Rattle.kh_term.specs.MapOf.{map_of}
use Rattle.kh_term.specs.WellFormed.{fits_128}
use Rattle.kh_text_defs.specs.declared.mode.Mode.{Mode}
use Rattle.kh_text_defs.specs.declared.mode.Mode.TheVariants.{Script, Listing}
use Rattle.kh_text_defs.specs.Atoms.{is_word_byte}
use Rattle.kh_text_defs.specs.Blanks.{IsBlank, Wide, Commas, Elements}
use Rattle.kh_text_defs.specs.Tokens.{are_digits, IsInteger, Quoted, SpellsAtom}

-- What is read: the texts of a mode, with integers of 128 bits, or of any length where these limits are put aside.
pub record Rules : Type 0 where
  pub mode : Mode
  pub bounded : Bool

abbrev pub within_limits : Mode → Rules
within_limits mode = record { mode = mode; bounded = true }

abbrev pub limits_aside : Mode → Rules
limits_aside mode = record { mode = mode; bounded = false }

abbrev pub allows : Rules → ℤ → Bool
allows rules number = not rules.bounded || fits_128 number

abbrev pub SpellsInteger : Rules → List ℕ → ℤ → Type 0
SpellsInteger rules text number = IsInteger text number × IsTrue (allows rules number)

-- what a listing holds that isn't supported
abbrev pub unsupported : TermTree
unsupported = tree.Atom (codes "$unsupported")

-- ---- binaries

-- A segment with its bytes: an integer of 0 to 255, or a text in double quotes whose code points are at most 255. In a
-- listing also an integer of 0 to 255 with its size, which has no bytes here, and a text with `/utf8`.
pub data SpellsSegment (rules : Rules) : List ℕ → Option (List ℕ) → Type 0 where
  one_byte : (text : List ℕ) (n : ℕ) → IsInteger text (pos n) → IsTrue (nat_lt n 256) → SpellsSegment rules text (Some (n ∷ []))
  latin_text : (text points : List ℕ) → Quoted 34 text points → IsTrue (list_all (λ c. nat_lt c 256) points)
      → SpellsSegment rules text (Some points)
  sized : (text number before behind digits : List ℕ) (n : ℕ) → rules.mode ≡ Listing → IsInteger number (pos n) → IsTrue (nat_lt n 256)
      → IsBlank before → IsBlank behind → IsTrue (are_digits digits)
      → text ≡ number ++ (before ++ 58 ∷ (behind ++ digits)) → SpellsSegment rules text None
  utf8_text : (text quoted points before behind : List ℕ) → rules.mode ≡ Listing → Quoted 34 quoted points
      → IsBlank before → IsBlank behind → text ≡ quoted ++ (before ++ 47 ∷ (behind ++ codes "utf8"))
      → SpellsSegment rules text (Some (encode_utf8_all points))

-- all bytes, where each segment has some
abbrev pub bytes_behind : List ℕ → Option (List ℕ) → Option (List ℕ)
bytes_behind bytes (Some more) = Some (bytes ++ more)
bytes_behind bytes None = None

abbrev pub all_bytes : List (Option (List ℕ)) → Option (List ℕ)
all_bytes [] = Some []
all_bytes (Some bytes ∷ segments) = bytes_behind bytes (all_bytes segments)
all_bytes (None ∷ segments) = None

abbrev pub binary_or_unsupported : Option (List ℕ) → TermTree
binary_or_unsupported (Some bytes) = tree.Bin bytes
binary_or_unsupported None = unsupported

-- a binary of these segments
abbrev pub binary_of : List (Option (List ℕ)) → TermTree
binary_of segments = binary_or_unsupported (all_bytes segments)

-- ---- terms without levels

abbrev pub is_exponent_mark : ℕ → Bool
is_exponent_mark byte = byte == 101 || byte == 69

abbrev pub is_sign : ℕ → Bool
is_sign byte = byte == 43 || byte == 45

-- the end of a float: nothing, or `e` or `E`, perhaps a sign, and digits
abbrev pub IsExponent : List ℕ → Type 0
IsExponent text =
    (text ≡ []) ⊎ ((mark : ℕ) × (digits : List ℕ) × IsTrue (is_exponent_mark mark) × IsTrue (are_digits digits)
    × ((text ≡ mark ∷ digits) ⊎ ((sign : ℕ) × IsTrue (is_sign sign) × (text ≡ mark ∷ sign ∷ digits))))

-- the text begins with no letter, digit, `_` or `@`
abbrev pub begins_no_word : List ℕ → Bool
begins_no_word [] = true
begins_no_word (byte ∷ rest) = not (is_word_byte byte)

-- The front of `#{` or `#fun{` up to the brace, which opens the level. It is no term: no byte comes behind it here, which is
-- written as 256. So it begins one where no level is left too, and the brace is the fault.
abbrev pub is_begun_sharp : List ℕ → Bool
is_begun_sharp front =
    bytes_eq front (codes "#") || bytes_eq front (codes "#f") || bytes_eq front (codes "#fu") || bytes_eq front (codes "#fun")

-- An integer, an atom or a binary. In a listing also a float, and a function by module, name and arity.
pub data SpellsFlat (rules : Rules) : List ℕ → TermTree → Type 0 where
  integer : (text : List ℕ) (z : ℤ) → SpellsInteger rules text z → SpellsFlat rules text (tree.Int z)
  atom : (text name : List ℕ) → SpellsAtom text name → SpellsFlat rules text (tree.Atom name)
  binary : (text inside : List ℕ) (segments : List (Option (List ℕ))) → Elements (SpellsSegment rules) inside segments
      → text ≡ 60 ∷ 60 ∷ (inside ++ 62 ∷ 62 ∷ []) → SpellsFlat rules text (binary_of segments)
  float : (text whole fraction exponent : List ℕ) (z : ℤ) → rules.mode ≡ Listing → SpellsInteger rules whole z
      → IsTrue (are_digits fraction) → IsExponent exponent → text ≡ whole ++ 46 ∷ (fraction ++ exponent) → SpellsFlat rules text unsupported
  reference : (text home name gap digits : List ℕ) (m f : List ℕ) → rules.mode ≡ Listing → Wide SpellsAtom home m → Wide SpellsAtom name f
      → IsBlank gap → IsTrue (are_digits digits) → IsTrue (begins_no_word home)
      → text ≡ codes "fun" ++ (home ++ 58 ∷ (name ++ 47 ∷ (gap ++ digits))) → SpellsFlat rules text unsupported
  begun_sharp : (text front : List ℕ) → IsTrue (is_begun_sharp front) → text ≡ front ++ 256 ∷ [] → SpellsFlat rules text tree.Nil

-- ---- terms with levels

-- a list's end: nothing, or a bar and a tail
pub data SpellsTail (one : List ℕ → TermTree → Type 0) : List ℕ → TermTree → Type 0 where
  no_tail : SpellsTail one [] tree.Nil
  tail : (text inside : List ℕ) (t : TermTree) → Wide one inside t → text ≡ 124 ∷ inside → SpellsTail one text t

-- the code points of a text as a list
abbrev pub list_of_points : List ℕ → TermTree
list_of_points points = list_of (map (λ c. tree.Int (pos c)) points)

-- a key, an arrow and a value
pub record SpellsPair (one : List ℕ → TermTree → Type 0) (text : List ℕ) (pair : TermTree × TermTree) : Type 0 where
  pub key : List ℕ
  pub value : List ℕ
  pub is_key : Wide one key pair.0
  pub is_value : Wide one value pair.1
  pub parts : text ≡ key ++ 61 ∷ 62 ∷ value

abbrev pub KeyValues : Type 0
KeyValues = List (TermTree × TermTree)

-- a map's pairs: none, or some with commas between them
abbrev pub SpellsPairs : (List ℕ → TermTree → Type 0) → List ℕ → KeyValues → Type 0
SpellsPairs one text pairs = (IsBlank text × (pairs ≡ [])) ⊎ Commas (SpellsPair one) text pairs

-- captured values in square brackets
abbrev pub SpellsCaptured : (List ℕ → TermTree → Type 0) → List ℕ → List TermTree → Type 0
SpellsCaptured one text env = (inside : List ℕ) × Elements one inside env × (text ≡ 91 ∷ (inside ++ 93 ∷ []))

-- whether an integer may be the arity of a closure with so many captured values
abbrev pub is_arity : ℤ → ℕ → Bool
is_arity (pos n) captured = nat_lt n 256 && nat_le captured n
is_arity (negsuc n) captured = false

-- A closure ends with `}` where its arity is allowed. Where it is another integer, no byte ends it: its text is one that
-- can begin, up to its end, which is written as 256.
abbrev pub closure_end : ℤ → List TermTree → ℕ
closure_end arity env = if is_arity arity (length env) then 125 else 256

abbrev pub closure_of : List ℕ → List ℕ → ℤ → List TermTree → TermTree
closure_of home name (pos arity) env = tree.Closure (record { «module» = home; name = name; arity = arity }) env
closure_of home name (negsuc n) env = tree.Nil

-- A list with its tail, a text in double quotes as the list of its code points, a tuple, a map and a closure.
pub data SpellsDeep (rules : Rules) (one : List ℕ → TermTree → Type 0) : List ℕ → TermTree → Type 0 where
  list : (text inside : List ℕ) (parts : List TermTree) → Elements one inside parts
      → text ≡ 91 ∷ (inside ++ 93 ∷ []) → SpellsDeep rules one text (list_of parts)
  list_and_tail : (text inside last : List ℕ) (parts : List TermTree) (t : TermTree) → Commas (Wide one) inside parts → Wide one last t
      → text ≡ 91 ∷ (inside ++ 124 ∷ (last ++ 93 ∷ [])) → SpellsDeep rules one text (list_with_tail parts t)
  points : (text points : List ℕ) → Quoted 34 text points → SpellsDeep rules one text (list_of_points points)
  tuple : (text inside : List ℕ) (parts : List TermTree) → Elements one inside parts
      → text ≡ 123 ∷ (inside ++ 125 ∷ []) → SpellsDeep rules one text (tree.Tuple parts)
  map_text : (text inside : List ℕ) (pairs : KeyValues) → SpellsPairs one inside pairs
      → text ≡ 35 ∷ 123 ∷ (inside ++ 125 ∷ []) → SpellsDeep rules one text (tree.Map (map_of pairs))
  closure : (text home name number captured : List ℕ) (m f : List ℕ) (arity : ℤ) (env : List TermTree)
      → Wide SpellsAtom home m → Wide SpellsAtom name f → Wide (SpellsInteger rules) number arity → Wide (SpellsCaptured one) captured env
      → text ≡ codes "#fun{" ++ (home ++ 44 ∷ (name ++ 44 ∷ (number ++ 44 ∷ (captured ++ closure_end arity env ∷ []))))
      → SpellsDeep rules one text (closure_of m f arity env)

-- A text spells a term, with at most so many levels open at a time. Each bracket of a list, a tuple, a map and a closure
-- opens one, a text in double quotes too where it is a list; the brackets of captured values and of a binary open none.
unfoldable pub Spells : Rules → ℕ → List ℕ → TermTree → Type 0
Spells rules zero text t = SpellsFlat rules text t
Spells rules (suc levels) text t = SpellsFlat rules text t ⊎ SpellsDeep rules (Spells rules levels) text t

-- a form: a term with blanks round it, and a dot
abbrev pub IsForm : Rules → ℕ → List ℕ → TermTree → Type 0
IsForm rules levels text t = (inside : List ℕ) × Wide (Spells rules levels) inside t × (text ≡ inside ++ 46 ∷ [])
