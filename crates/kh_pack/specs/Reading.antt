-- What stands at the front of bytes.
use Rattle.std.specs.Prelude.{◌≡◌, ◌++◌, Option, Some, None, ℕ, zero, suc, ◌==◌, nat_lt, ℤ, List, [], ◌∷◌, length, take, drop, Result, Ok, Err, if◌then◌else◌}
use Rattle.std.specs.Int.{w32, from_be_bytes}
use Rattle.byteorder.specs.Endian.{big_number, twos_complement}
use Rattle.kh_term.specs.declared.name.Origin.{Origin}
use Rattle.kh_term.specs.declared.tree.TermTree.{TermTree}
use Rattle.kh_term.specs.declared.tree.TermTree.TheVariants as tree
use Rattle.kh_term.specs.Lookup.{rises_after}
use Rattle.kh_term.specs.Make.{list_with_tail}
use Rattle.kh_term.specs.Packed.{integer_len}
use Rattle.kh_term.specs.Text.{is_atom_text}
use Rattle.kh_pack.specs.declared.error.Stop.{Stop}
use Rattle.kh_pack.specs.declared.error.Stop.TheVariants as stops

-- what was read with the bytes behind it, if anything was
abbrev pub Read : Type 0 → Type 0
Read A = Option (A × List ℕ)

infixl 10 ◌>>=◌
abbrev pub ◌>>=◌ : {A B : Type 0} → Option A → (A → Option B) → Option B
(Some x) >>= f = f x
None >>= f = None

-- one byte
abbrev pub first_at : List ℕ → Read ℕ
first_at [] = None
first_at (byte ∷ bytes) = Some (byte, bytes)

-- so many bytes
abbrev pub front_at : ℕ → List ℕ → Read (List ℕ)
front_at len bytes = if nat_lt (length bytes) len then None else Some (take len bytes, drop len bytes)

-- a count of four bytes, big-endian
unfoldable pub count_at : List ℕ → Read ℕ
count_at bytes = front_at 4 bytes >>= λ x. Some (from_be_bytes w32 x.0, x.1)

-- the integer that these bytes are in two's complement, big-endian, where they are the fewest that hold it
abbrev pub fewest : ℕ → List ℕ → List ℕ → Read ℤ
fewest len text rest =
    let number = twos_complement len (big_number len text) in
    if integer_len number == len then Some (number, rest) else None

-- a length of 1 to 16, and so many bytes of an integer
unfoldable pub integer_at : List ℕ → Read ℤ
integer_at bytes =
    first_at bytes >>= λ len. if len.0 == 0 then None else if nat_lt 16 len.0 then None
    else (front_at len.0 len.1 >>= λ text. fewest len.0 text.0 text.1)

-- the text of an atom, behind its length in one byte
unfoldable pub text_at : List ℕ → Read (List ℕ)
text_at bytes =
    first_at bytes >>= λ len. front_at len.0 len.1 >>= λ text. if is_atom_text text.0 then Some text else None

-- the bytes of a binary, behind their number
unfoldable pub binary_at : List ℕ → Read (List ℕ)
binary_at bytes = count_at bytes >>= λ len. front_at len.0 len.1

-- module, name and arity of a function
unfoldable pub origin_at : List ℕ → Read Origin
origin_at bytes =
    text_at bytes >>= λ home. text_at home.1 >>= λ name. first_at name.1 >>= λ arity.
    Some (record { «module» = home.0; name = name.0; arity = arity.0 }, arity.1)

-- so many more terms, behind those that were read before
unfoldable pub many_at : (List ℕ → Read TermTree) → ℕ → List TermTree → List ℕ → Read (List TermTree)
many_at one zero before bytes = Some (before, bytes)
many_at one (suc more) before bytes = one bytes >>= λ part. many_at one more (before ++ part.0 ∷ []) part.1

-- so many more keys with their values, each key above the one before it
unfoldable pub pairs_at : (List ℕ → Read TermTree) → ℕ → List (TermTree × TermTree) → List ℕ → Read (List (TermTree × TermTree))
pairs_at one zero before bytes = Some (before, bytes)
pairs_at one (suc more) before bytes =
    one bytes >>= λ key. one key.1 >>= λ value.
    if rises_after before key.0 then pairs_at one more (before ++ (key.0, value.0) ∷ []) value.1 else None

-- the tail of a list: nil, or another term that is no list
unfoldable pub tail_at : (List ℕ → Read TermTree) → List ℕ → Read TermTree
tail_at one [] = None
tail_at one (tag ∷ bytes) = if tag == 4 then Some (tree.Nil, bytes) else if tag == 5 then None else one (tag ∷ bytes)

-- a list behind its tag, then a tuple, a map and a closure
unfoldable pub list_at : (List ℕ → Read TermTree) → List ℕ → Read TermTree
list_at one bytes =
    count_at bytes >>= λ count. if count.0 == 0 then None
    else (many_at one count.0 [] count.1 >>= λ parts. tail_at one parts.1 >>= λ tail. Some (list_with_tail parts.0 tail.0, tail.1))

unfoldable pub tuple_at : (List ℕ → Read TermTree) → List ℕ → Read TermTree
tuple_at one bytes = count_at bytes >>= λ count. many_at one count.0 [] count.1 >>= λ parts. Some (tree.Tuple parts.0, parts.1)

unfoldable pub map_at : (List ℕ → Read TermTree) → List ℕ → Read TermTree
map_at one bytes = count_at bytes >>= λ count. pairs_at one count.0 [] count.1 >>= λ pairs. Some (tree.Map pairs.0, pairs.1)

unfoldable pub closure_at : (List ℕ → Read TermTree) → List ℕ → Read TermTree
closure_at one bytes =
    origin_at bytes >>= λ origin. first_at origin.1 >>= λ count. if nat_lt origin.0.arity count.0 then None
    else (many_at one count.0 [] count.1 >>= λ env. Some (tree.Closure origin.0 env.0, env.1))

-- a term of depth 0 behind its tag: an integer, an atom or a binary
unfoldable pub flat_at : ℕ → List ℕ → Read TermTree
flat_at tag bytes =
    if tag == 1 then (integer_at bytes >>= λ number. Some (tree.Int number.0, number.1))
    else if tag == 2 then (text_at bytes >>= λ text. Some (tree.Atom text.0, text.1))
    else if tag == 3 then (binary_at bytes >>= λ text. Some (tree.Bin text.0, text.1))
    else None

-- a term behind its tag, whose parts are read so
unfoldable pub deep_at : (List ℕ → Read TermTree) → ℕ → List ℕ → Read TermTree
deep_at one tag bytes =
    if tag == 4 then Some (tree.Nil, bytes) else if tag == 5 then list_at one bytes else if tag == 6 then tuple_at one bytes
    else if tag == 7 then map_at one bytes else if tag == 8 then closure_at one bytes else flat_at tag bytes

-- a term of at most this depth
unfoldable pub term_at : ℕ → List ℕ → Read TermTree
term_at zero bytes = first_at bytes >>= λ tag. flat_at tag.0 tag.1
term_at (suc depth) bytes = first_at bytes >>= λ tag. deep_at (term_at depth) tag.0 tag.1

-- What a function returned, seen by view, is what reading gives, unless memory ran out.
abbrev pub Fails : {Y : Type 0} → Stop → Option Y → Type 0
Fails stops.NoMemory read = Unit {0}
Fails stops.NoTerm read = read ≡ None

abbrev pub Gives : {X Y : Type 0} → (X → Y) → Result X Stop → Option Y → Type 0
Gives view (Ok x) read = read ≡ Some (view x)
Gives view (Err stop) read = Fails stop read
