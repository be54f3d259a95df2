-- How operands are read, and how they are spelled.
use Rattle.std.specs.Prelude.{ℕ, zero, suc, ◌^◌, Bool, true, false, ◌||◌, nat_eq, nat_le, nat_lt, if◌then◌else◌, codes, ℤ, pos, negsuc, List, [], ◌∷◌, length, map, Option, Some, None, option_map}
use Rattle.std.specs.List.{flat_map}
use Rattle.std.specs.Option.{option_and_then}
use Rattle.std.specs.Str.{bytes_eq}
use Rattle.kh_term.specs.declared.name.Origin.{Origin}
use Rattle.kh_term.specs.declared.term.Term.{Term}
use Rattle.kh_term.specs.declared.tree.TermTree.{TermTree, out-TermTree}
use Rattle.kh_term.specs.declared.tree.TermTree.TheOpen.{TermTree-F}
use Rattle.kh_term.specs.declared.tree.TermTree.TheOpen as layer
use Rattle.kh_term.specs.declared.tree.TermTree.TheFolds.{fold-TermTree}
use Rattle.kh_term.specs.declared.tree.TermTree.TheVariants as tree
use Rattle.kh_term.specs.Make.{list_of}
use Rattle.kh_term.specs.Whole.{whole}
use Rattle.kh_instr.specs.declared.operand.Reg.{Reg}
use Rattle.kh_instr.specs.declared.operand.Reg.TheVariants as reg
use Rattle.kh_instr.specs.declared.operand.Source.{Source}
use Rattle.kh_instr.specs.declared.operand.Source.TheVariants as source

-- ---- plain parts

abbrev pub int_in : TermTree-F TermTree → Option ℤ
int_in (layer.Int number) = Some number
int_in l = None

abbrev pub atom_in : TermTree-F TermTree → Option (List ℕ)
atom_in (layer.Atom text) = Some text
atom_in l = None

-- an atom's text
abbrev pub atom_of : TermTree → Option (List ℕ)
atom_of t = atom_in (out-TermTree t)

abbrev pub parts_in : TermTree-F TermTree → Option (List TermTree)
parts_in (layer.Tuple parts) = Some parts
parts_in l = None

-- a tuple's elements
abbrev pub parts_of : TermTree → Option (List TermTree)
parts_of t = parts_in (out-TermTree t)

abbrev pub ended_by : List TermTree → TermTree-F TermTree → Option (List TermTree)
ended_by items layer.Nil = Some items
ended_by items l = None

abbrev pub items_in : TermTree-F TermTree → Option (List TermTree)
items_in layer.Nil = Some []
items_in (layer.List items tail) = ended_by items (out-TermTree tail)
items_in l = None

-- the elements of a list that nil ends
abbrev pub items_of : TermTree → Option (List TermTree)
items_of t = items_in (out-TermTree t)

abbrev pub below : ℕ → ℤ → Option ℕ
below limit (pos n) = if nat_lt n limit then Some n else None
below limit (negsuc n) = None

-- a number from 0 that is below a limit
abbrev pub number_below : ℕ → TermTree → Option ℕ
number_below limit t = option_and_then (below limit) (int_in (out-TermTree t))

-- a count, a place, a slot or the number of a label
abbrev pub count_of : TermTree → Option ℕ
count_of = number_below (2 ^ 32)

-- a number of arguments
abbrev pub arity_of : TermTree → Option ℕ
arity_of = number_below 256

abbrev pub positive : ℕ → Option ℕ
positive zero = None
positive (suc n) = Some (suc n)

-- the number of a label where it stands, at least 1
abbrev pub own_number_of : TermTree → Option ℕ
own_number_of t = option_and_then positive (count_of t)

-- whether an atom is this word
abbrev pub is_word : List ℕ → Option (List ℕ) → Bool
is_word word None = false
is_word word (Some text) = bytes_eq text word

abbrev pub behind_word : List ℕ → Option (List ℕ) → TermTree → Option TermTree
behind_word word text part = if is_word word text then Some part else None

-- what stands behind this word, in a tuple of the two
abbrev pub behind : List ℕ → List TermTree → Option TermTree
behind word (first ∷ part ∷ []) = behind_word word (atom_of first) part
behind word parts = None

abbrev pub tagged_in : List ℕ → Option (List TermTree) → Option TermTree
tagged_in word None = None
tagged_in word (Some parts) = behind word parts

abbrev pub tagged : List ℕ → TermTree → Option TermTree
tagged word t = tagged_in word (parts_of t)

-- ---- operands

-- anything
abbrev pub any_of : TermTree → Option (Unit {0})
any_of t = Some tt

-- `{f,L}`
abbrev pub label_of : TermTree → Option ℕ
label_of t = option_and_then count_of (tagged (codes "f") t)

-- a slot or a register: at most 1023
abbrev pub place_of : TermTree → Option ℕ
place_of = number_below 1024

-- `{y,N}`
abbrev pub slot_of : TermTree → Option ℕ
slot_of t = option_and_then place_of (tagged (codes "y") t)

-- `{atom,A}`
abbrev pub quoted_of : TermTree → Option (List ℕ)
quoted_of t = option_and_then atom_of (tagged (codes "atom") t)

abbrev pub reg_named : List ℕ → TermTree → Option Reg
reg_named word t =
    if bytes_eq word (codes "x") then option_map (λ n. reg.X n) (place_of t)
    else if bytes_eq word (codes "y") then option_map (λ n. reg.Y n) (place_of t) else None

abbrev pub reg_from : List TermTree → Option Reg
reg_from (first ∷ part ∷ []) = option_and_then (λ word. reg_named word part) (atom_of first)
reg_from parts = None

-- a register: `{x,N}` or `{y,N}`
abbrev pub reg_of : TermTree → Option Reg
reg_of t = option_and_then reg_from (parts_of t)

-- whether some hold
abbrev pub some_hold : List Bool → Bool
some_hold [] = false
some_hold (b ∷ bs) = b || some_hold bs

abbrev pub unsupported_step : TermTree-F Bool → Bool
unsupported_step (layer.Atom text) = bytes_eq text (codes "$unsupported")
unsupported_step (layer.List parts tail) = some_hold parts || tail
unsupported_step (layer.Tuple parts) = some_hold parts
unsupported_step (layer.Map pairs) = some_hold (map (λ p. p.0 || p.1) pairs)
unsupported_step (layer.Closure origin env) = some_hold env
unsupported_step l = false

-- whether the atom `'$unsupported'` is a part of a term, at any depth
abbrev pub holds_unsupported : TermTree → Bool
holds_unsupported = fold-TermTree Bool unsupported_step

abbrev pub literal_of : TermTree → Option Source
literal_of t = if holds_unsupported t then None else Some (source.Literal (whole t))

abbrev pub int_of : TermTree → Option ℤ
int_of t = int_in (out-TermTree t)

abbrev pub literal_or : List ℕ → TermTree → Option Source
literal_or word t =
    if bytes_eq word (codes "literal") then literal_of t else option_map (λ r. source.Reg r) (reg_named word t)

abbrev pub integer_or : List ℕ → TermTree → Option Source
integer_or word t =
    if bytes_eq word (codes "integer") then option_map (λ n. source.Integer n) (int_of t) else literal_or word t

-- `{atom,A}`, `{integer,I}`, `{literal,T}`, or a register
abbrev pub source_named : List ℕ → TermTree → Option Source
source_named word t =
    if bytes_eq word (codes "atom") then option_map (λ a. source.Atom a) (atom_of t) else integer_or word t

-- a register with the type of its value, which isn't kept: `{tr,R,_}`
abbrev pub typed_reg : List ℕ → TermTree → Option Source
typed_reg word t = if bytes_eq word (codes "tr") then option_map (λ r. source.Reg r) (reg_of t) else None

abbrev pub source_of_two : Option (List ℕ) → TermTree → Option Source
source_of_two None t = None
source_of_two (Some word) t = source_named word t

abbrev pub source_of_three : Option (List ℕ) → TermTree → Option Source
source_of_three None t = None
source_of_three (Some word) t = typed_reg word t

abbrev pub source_from : List TermTree → Option Source
source_from (first ∷ part ∷ []) = source_of_two (atom_of first) part
source_from (first ∷ part ∷ type ∷ []) = source_of_three (atom_of first) part
source_from parts = None

abbrev pub source_in : TermTree-F TermTree → Option Source
source_in (layer.Atom text) = if bytes_eq text (codes "nil") then Some source.Nil else None
source_in (layer.Tuple parts) = source_from parts
source_in l = None

-- what an instruction reads: a register, with or without a type, an atom, an integer, `nil` or a literal
abbrev pub source_of : TermTree → Option Source
source_of t = source_in (out-TermTree t)

-- all of them, one by one
abbrev pub each : {A : Type 0} → (TermTree → Option A) → List TermTree → Option (List A)
each f [] = Some []
each f (t ∷ ts) = option_and_then (λ x. option_map (λ xs. x ∷ xs) (each f ts)) (f t)

-- two, where both are there
abbrev pub both : {A B : Type 0} → (TermTree → Option A) → (TermTree → Option B) → TermTree → TermTree → Option (A × B)
both f g t u = option_and_then (λ x. option_map (λ y. (x, y)) (g u)) (f t)

-- all of them, two by two
abbrev pub each_two : {A B : Type 0} → (TermTree → Option A) → (TermTree → Option B) → List TermTree → Option (List (A × B))
each_two f g [] = Some []
each_two f g (t ∷ []) = None
each_two f g (t ∷ u ∷ ts) = option_and_then (λ p. option_map (λ ps. p ∷ ps) (each_two f g ts)) (both f g t u)

-- `[A,..]`
abbrev pub list_by : {A : Type 0} → (TermTree → Option A) → TermTree → Option (List A)
list_by f t = option_and_then (each f) (items_of t)

-- `{list,[A,..]}`
abbrev pub listed_by : {A : Type 0} → (TermTree → Option A) → TermTree → Option (List A)
listed_by f t = option_and_then (list_by f) (tagged (codes "list") t)

-- `[A,B,..]`
abbrev pub list_by_two : {A B : Type 0} → (TermTree → Option A) → (TermTree → Option B) → TermTree → Option (List (A × B))
list_by_two f g t = option_and_then (each_two f g) (items_of t)

-- `{list,[A,B,..]}`
abbrev pub listed_by_two : {A B : Type 0} → (TermTree → Option A) → (TermTree → Option B) → TermTree → Option (List (A × B))
listed_by_two f g t = option_and_then (list_by_two f g) (tagged (codes "list") t)

abbrev pub function_from_parts : List TermTree → Option Origin
function_from_parts (first ∷ m ∷ n ∷ a ∷ []) =
    if is_word (codes "extfunc") (atom_of first) then
    option_and_then (λ module_name. option_and_then (λ name. option_map (λ arity. record { «module» = module_name; name = name; arity = arity }) (arity_of a)) (atom_of n)) (atom_of m)
    else None
function_from_parts parts = None

-- `{extfunc,M,F,N}`
abbrev pub function_of : TermTree → Option Origin
function_of t = option_and_then function_from_parts (parts_of t)

-- ---- several operands

abbrev pub one : {A : Type 0} → (TermTree → Option A) → List TermTree → Option A
one f (a ∷ []) = f a
one f ts = None

abbrev pub two : {A B : Type 0} → (TermTree → Option A) → (TermTree → Option B) → List TermTree → Option (A × B)
two f g (a ∷ b ∷ []) = both f g a b
two f g ts = None

abbrev pub three : {A B C : Type 0} → (TermTree → Option A) → (TermTree → Option B) → (TermTree → Option C) → List TermTree → Option (A × B × C)
three f g h (a ∷ b ∷ c ∷ []) =
    option_and_then (λ x. option_and_then (λ y. option_map (λ z. (x, y, z)) (h c)) (g b)) (f a)
three f g h ts = None

abbrev pub four : {A B C D : Type 0} → (TermTree → Option A) → (TermTree → Option B) → (TermTree → Option C) → (TermTree → Option D) → List TermTree → Option (A × B × C × D)
four f g h k (a ∷ b ∷ c ∷ d ∷ []) =
    option_and_then (λ x. option_and_then (λ y. option_and_then (λ z. option_map (λ w. (x, y, z, w)) (k d)) (h c)) (g b)) (f a)
four f g h k ts = None

abbrev pub five : {A B C D E : Type 0} → (TermTree → Option A) → (TermTree → Option B) → (TermTree → Option C) → (TermTree → Option D) → (TermTree → Option E) → List TermTree → Option (A × B × C × D × E)
five f g h k l (a ∷ b ∷ c ∷ d ∷ e ∷ []) =
    option_and_then (λ x. option_and_then (λ y. option_and_then (λ z. option_and_then (λ w. option_map (λ v. (x, y, z, w, v)) (l e)) (k d)) (h c)) (g b)) (f a)
five f g h k l ts = None
