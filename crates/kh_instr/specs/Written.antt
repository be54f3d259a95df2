-- Modules that a listing can give.
use Rattle.std.specs.Prelude.{◌≡◌, ◌≤◌, ℕ, Bool, true, false, ◌&&◌, not, nat_eq, nat_le, IsTrue, List, [], ◌∷◌, length, map}
use Rattle.std.specs.List.{flat_map, list_all, list_any}
use Rattle.std.specs.Str.{bytes_eq}
use Rattle.kh_term.specs.declared.term.Term.{Term}
use Rattle.kh_term.specs.Limits.{is_small}
use Rattle.kh_instr.specs.declared.instr.Instr.{Instr}
use Rattle.kh_instr.specs.declared.instr.Instr.TheVariants as instr
use Rattle.kh_instr.specs.declared.module.Function.{Function}
use Rattle.kh_instr.specs.declared.module.Module.{Module}
use Rattle.kh_instr.specs.Syntax.{labels, literals}
use Rattle.kh_instr.specs.Tables.{function_of, is_same_function}

-- no two of them are alike
abbrev pub are_distinct : {A : Type 0} → (A → A → Bool) → List A → Bool
are_distinct alike [] = true
are_distinct alike (x ∷ xs) = not (list_any (alike x) xs) && are_distinct alike xs

-- the number of a label
abbrev pub own_label : Instr → List ℕ
own_label (instr.Label n) = n ∷ []
own_label i = []

-- the numbers of the labels of some instructions, as they stand
abbrev pub label_numbers : List Instr → List ℕ
label_numbers = flat_map own_label

-- the numbers of the labels of some functions, as they stand
abbrev pub all_label_numbers : List Function → List ℕ
all_label_numbers = flat_map (λ f. label_numbers f.code)

-- whether a label stands in a function
abbrev pub has_label : Function → ℕ → Bool
has_label f label = list_any (nat_eq label) (label_numbers f.code)

-- whether the jumps of an instruction stay in its function
abbrev pub jumps_within : Function → Instr → Bool
jumps_within f i = list_all (has_label f) (labels i)

-- whether a label is the entry of a function whose arity fits
abbrev pub enters : List Function → (ℕ → Bool) → ℕ → Bool
enters functions fits label = list_any (λ f. nat_eq f.entry label && fits f.arity) functions

-- whether a local call leads to the entry of a function of that arity, and a closure is made of a function that takes
-- all captured values
abbrev pub leads_to : List Function → Instr → Bool
leads_to functions (instr.Call n l) = enters functions (nat_eq n) l
leads_to functions (instr.CallLast n l d) = enters functions (nat_eq n) l
leads_to functions (instr.CallOnly n l) = enters functions (nat_eq n) l
leads_to functions (instr.MakeFun3 l r captured) = enters functions (nat_le (length captured)) l
leads_to functions i = true

-- whether each jump stays in its function, and each call and closure leads to a function
abbrev pub leads_right : List Function → Function → Bool
leads_right functions f = list_all (λ i. jumps_within f i && leads_to functions i) f.code

-- whether two functions have one name and one arity
abbrev pub is_same_name : Function → Function → Bool
is_same_name f g = nat_eq f.arity g.arity && bytes_eq f.name g.name

-- whether a function's origin is its own triple
abbrev pub is_its_own : List ℕ → Function → Bool
is_its_own module_name f = is_same_function f.origin (function_of module_name f.name f.arity)

-- A module that a listing can give: no function stands twice in it, and no label; each entry is a label of its function;
-- jumps stay in their function, and calls and closures lead to a function that fits; each origin is its own triple.
pub record IsWritten (m : Module) : Type 0 where
  pub functions_once : IsTrue (are_distinct is_same_name m.functions)
  pub labels_once : IsTrue (are_distinct nat_eq (all_label_numbers m.functions))
  pub entries : IsTrue (list_all (λ f. has_label f f.entry) m.functions)
  pub leads : IsTrue (list_all (leads_right m.functions) m.functions)
  pub origins : IsTrue (list_all (is_its_own m.name) m.functions)

-- the literals of some functions, as they stand
abbrev pub all_literals : List Function → List Term
all_literals = flat_map (λ f. flat_map literals f.code)

-- each literal of a module has a size of at most 1,048,576 and a depth of at most 200
abbrev pub HasSmallLiterals : Module → Type 0
HasSmallLiterals m = IsTrue (list_all (λ t. is_small t.node) (all_literals m.functions))
