-- What a term is read as. That this is what it spells, and that what it spells is read so, are laws above it.
use Rattle.std.specs.Prelude.{ℕ, Bool, true, false, ◌&&◌, List, [], ◌∷◌, ◌++◌, map, codes, Option, Some, None, ℤ, pos, negsuc, if◌then◌else◌}
use Rattle.std.specs.Option.{option_map, option_or}
use Rattle.std.specs.Str.{bytes_eq}
use Rattle.std.specs.Char.{encode_utf8}
use lib.Utf8.{scalar}
use Rattle.kh_term.specs.declared.tree.TermTree.{TermTree, out-TermTree}
use Rattle.kh_term.specs.declared.tree.TermTree.TheOpen.{TermTree-F}
use Rattle.kh_term.specs.declared.tree.TermTree.TheOpen as layer
use Rattle.kh_term.specs.declared.tree.TermTree.TheFolds.{para-TermTree}
use Rattle.kh_term.specs.Parts.{name_in}
use Rattle.kh_term.specs.Size.{is_nil}
use Rattle.kh_term.specs.Text.{is_text}
use Rattle.kh_term.specs.Whole.{whole}
use Rattle.kh_cond.specs.declared.cond.Regex.{Regex}
use Rattle.kh_cond.specs.declared.cond.Regex.TheVariants as regex
use Rattle.kh_cond.specs.declared.cond.Comparison.{Comparison}
use Rattle.kh_cond.specs.declared.cond.Comparison.TheVariants as comparison
use Rattle.kh_cond.specs.declared.cond.Operator.{Operator}
use Rattle.kh_cond.specs.declared.cond.Cond.{Cond}
use Rattle.kh_cond.specs.declared.cond.Cond.TheVariants as cond
use Rattle.kh_cond.specs.declared.words.Word.{Word}
use Rattle.kh_cond.specs.declared.words.Word.TheVariants as word
use Rattle.kh_cond.specs.declared.words.Shape.{Shape}
use Rattle.kh_cond.specs.declared.words.Shape.TheVariants as shape
use Rattle.kh_cond.specs.declared.component.Component.{Component}
use Rattle.kh_cond.specs.declared.component.Component.TheVariants as component
use Rattle.kh_cond.specs.Words.{word_of, shape_of, operator_of}

-- values in front of values that were read
abbrev pub in_front : {A : Type 0} → List A → Option (List A) → Option (List A)
in_front xs None = None
in_front xs (Some ys) = Some (xs ++ ys)

abbrev pub before : {A : Type 0} → Option A → Option (List A) → Option (List A)
before None rest = None
before (Some x) rest = in_front (x ∷ []) rest

-- what each value is read as, where each is
abbrev pub each : {A B : Type 0} → (A → Option B) → List A → Option (List B)
each f [] = Some []
each f (x ∷ xs) = before (f x) (each f xs)

-- the atom is this word
abbrev pub is_word : {A : Type 0} → List ℕ → TermTree-F A → Bool
is_word text (layer.Atom t) = bytes_eq t text
is_word text l = false

-- ---- regular expressions

abbrev pub point_within : ℤ → Option ℕ
point_within (pos c) = if scalar c then Some c else None
point_within (negsuc n) = None

-- the code point of an integer
abbrev pub point_in : {A : Type 0} → TermTree-F A → Option ℕ
point_in (layer.Int n) = point_within n
point_in l = None

abbrev pub point_before : Option ℕ → Option (List ℕ) → Option (List ℕ)
point_before None rest = None
point_before (Some c) rest = in_front (encode_utf8 c) rest

-- the UTF-8 of code points
abbrev pub points_in : List TermTree → Option (List ℕ)
points_in [] = Some []
points_in (t ∷ ts) = point_before (point_in (out-TermTree t)) (points_in ts)

-- a text that isn't too long
abbrev pub text_regex : Option (List ℕ) → Option Regex
text_regex None = None
text_regex (Some text) = if is_text text then Some (regex.Text text) else None

abbrev pub any_regex : List ℕ → Option Regex
any_regex text = if bytes_eq text (codes "any") then Some regex.Any else None

abbrev pub list_regex : List TermTree → TermTree → Option Regex
list_regex ts tail = if is_nil (out-TermTree tail) then text_regex (points_in ts) else None

abbrev pub regex_in : TermTree-F TermTree → Option Regex
regex_in (layer.Atom text) = any_regex text
regex_in (layer.Bin bytes) = text_regex (Some bytes)
regex_in layer.Nil = text_regex (Some [])
regex_in (layer.List ts tail) = list_regex ts tail
regex_in l = None

-- ---- booleans and comparisons

abbrev pub bool_of : List ℕ → Option Bool
bool_of text = if bytes_eq text (codes "true") then Some true else (if bytes_eq text (codes "false") then Some false else None)

abbrev pub bool_in : {A : Type 0} → TermTree-F A → Option Bool
bool_in (layer.Atom text) = bool_of text
bool_in l = None

abbrev pub int_in : {A : Type 0} → TermTree-F A → Option ℤ
int_in (layer.Int n) = Some n
int_in l = None

abbrev pub operator_in : {A : Type 0} → TermTree-F A → Option Operator
operator_in (layer.Atom text) = operator_of text
operator_in l = None

abbrev pub comparison_by : Option Operator → Option ℤ → Option Comparison
comparison_by (Some op) (Some n) = Some (comparison.By op n)
comparison_by op n = None

abbrev pub comparison_of_parts : List TermTree → Option Comparison
comparison_of_parts (op ∷ n ∷ []) = comparison_by (operator_in (out-TermTree op)) (int_in (out-TermTree n))
comparison_of_parts ts = None

abbrev pub comparison_in : TermTree-F TermTree → Option Comparison
comparison_in (layer.Int n) = Some (comparison.Is n)
comparison_in (layer.Tuple parts) = comparison_of_parts parts
comparison_in l = None

-- ---- conditions

-- a term, the condition that it is read as, and the conditions that it is read as where it is a list
abbrev pub Part : Type 0
Part = TermTree × (Option Cond × Option (List Cond))

abbrev pub word_in : {A : Type 0} → TermTree-F A → Option Word
word_in (layer.Atom text) = word_of text
word_in l = None

-- a row by its word and operand
abbrev pub row_in : Word → TermTree → Option Cond
row_in word.NodeExists t = option_map cond.NodeExists (bool_in (out-TermTree t))
row_in word.NameMatches t = option_map cond.NameMatches (regex_in (out-TermTree t))
row_in word.HasPayload t = option_map cond.HasPayload (bool_in (out-TermTree t))
row_in word.HasData t = option_map cond.HasData (bool_in (out-TermTree t))
row_in word.HasSproc t = option_map cond.HasSproc (bool_in (out-TermTree t))
row_in word.DataMatches t = Some (cond.DataMatches (whole t))
row_in word.PayloadVersion t = option_map cond.PayloadVersion (comparison_in (out-TermTree t))
row_in word.ChildListVersion t = option_map cond.ChildListVersion (comparison_in (out-TermTree t))
row_in word.ChildListLength t = option_map cond.ChildListLength (comparison_in (out-TermTree t))
row_in w t = None

abbrev pub by_shape : Shape → Part → Option Cond
by_shape shape.Not p = option_map cond.Not p.1.0
by_shape shape.All p = option_map cond.All p.1.1
by_shape shape.Any p = option_map cond.Any p.1.1
by_shape (shape.Row w) p = row_in w p.0

abbrev pub form_in : Option Word → Part → Option Cond
form_in None p = None
form_in (Some w) p = by_shape (shape_of w) p

-- a record spelling: of names, and of data
abbrev pub record_in : Option Word → TermTree → Bool → Option Cond
record_in (Some word.NameMatches) t true = option_map cond.NameMatches (regex_in (out-TermTree t))
record_in w t ends = None

abbrev pub data_record_in : Option Word → TermTree → Bool → Option Cond
data_record_in (Some word.DataMatches) t true = Some (cond.DataMatches (whole t))
data_record_in w t ends = None

-- the atom that ends a record spelling
abbrev pub is_undefined : TermTree → Bool
is_undefined t = is_word (codes "undefined") (out-TermTree t)

abbrev pub records_in : List TermTree → Option Cond
records_in (w ∷ t ∷ last ∷ []) = record_in (word_in (out-TermTree w)) t (is_undefined last)
records_in (w ∷ t ∷ options ∷ last ∷ []) =
    data_record_in (word_in (out-TermTree w)) t (is_nil (out-TermTree options) && is_undefined last)
records_in ts = None

abbrev pub tuple_in : List Part → Option Cond
tuple_in (w ∷ p ∷ []) = form_in (word_in (out-TermTree w.0)) p
tuple_in ps = records_in (map (λ p. p.0) ps)

abbrev pub all_in : List Part → Option (List Cond)
all_in ps = each (λ p. p.1.0) ps

abbrev pub cond_step : TermTree-F Part → Option Cond
cond_step (layer.Tuple ps) = tuple_in ps
cond_step l = option_map cond.Name (name_in l)

abbrev pub conds_step : TermTree-F Part → Option (List Cond)
conds_step layer.Nil = Some []
conds_step (layer.List ps tail) = if is_nil (out-TermTree tail.0) then all_in ps else None
conds_step l = None

abbrev pub read : TermTree → Option Cond × Option (List Cond)
read = para-TermTree (Option Cond × Option (List Cond)) (λ l. (cond_step l, conds_step l))

-- the condition that a term is read as
abbrev pub cond_in : TermTree → Option Cond
cond_in t = (read t).0

-- the conditions that the elements of a list are read as
abbrev pub conds_in : TermTree → Option (List Cond)
conds_in t = (read t).1

-- a part beside what it is read as
abbrev pub part_of : TermTree → Part
part_of t = (t, read t)

abbrev pub each_in : List TermTree → Option (List Cond)
each_in ts = each cond_in ts

-- ---- components of patterns

abbrev pub path_regex_by : Option Word → TermTree → Bool → Option Regex
path_regex_by (Some word.PathMatches) t true = regex_in (out-TermTree t)
path_regex_by w t ends = None

abbrev pub path_regex_of_parts : List TermTree → Option Regex
path_regex_of_parts (w ∷ t ∷ []) = path_regex_by (word_in (out-TermTree w)) t true
path_regex_of_parts (w ∷ t ∷ last ∷ []) = path_regex_by (word_in (out-TermTree w)) t (is_undefined last)
path_regex_of_parts ts = None

-- a path's regular expression
abbrev pub path_regex_in : TermTree-F TermTree → Option Regex
path_regex_in (layer.Tuple parts) = path_regex_of_parts parts
path_regex_in l = None

abbrev pub many_with : Option Regex → Option (List Cond) → Option Component
many_with (Some r) (Some cs) = Some (component.ManyAll r cs)
many_with r cs = None

abbrev pub many_of_elements : List TermTree → Option Component
many_of_elements [] = None
many_of_elements (t ∷ ts) = many_with (path_regex_in (out-TermTree t)) (each_in ts)

abbrev pub many_of_list : TermTree-F TermTree → Option Component
many_of_list (layer.List ts tail) = if is_nil (out-TermTree tail) then many_of_elements ts else None
many_of_list l = None

abbrev pub many_by : Option Word → TermTree → Option Component
many_by (Some word.All) t = many_of_list (out-TermTree t)
many_by w t = None

abbrev pub many_of_parts : List TermTree → Option Component
many_of_parts (w ∷ t ∷ []) = many_by (word_in (out-TermTree w)) t
many_of_parts ts = None

-- an `if_all` that begins with a path's regular expression
abbrev pub many_all_in : TermTree-F TermTree → Option Component
many_all_in (layer.Tuple parts) = many_of_parts parts
many_all_in l = None

-- the component that a term is read as
abbrev pub component_in : TermTree → Option Component
component_in t =
    option_or (option_map component.One (cond_in t))
    (option_or (option_map component.Many (path_regex_in (out-TermTree t))) (many_all_in (out-TermTree t)))

-- the elements of a list that nil ends
abbrev pub elements_of : TermTree-F TermTree → Option (List TermTree)
elements_of layer.Nil = Some []
elements_of (layer.List ts tail) = if is_nil (out-TermTree tail) then Some ts else None
elements_of l = None
