-- Modules that extraction can emit.
use Rattle.std.specs.Prelude.{◌≤◌, ℕ, zero, suc, Bool, true, false, ◌&&◌, ◌+◌, nat_eq, nat_le, IsTrue, codes, decimal, List, [], ◌∷◌, ◌++◌, length, map, sum, is_some}
use Rattle.std.specs.List.{flat_map, list_all, list_any}
use Rattle.std.specs.Str.{bytes_eq}
use Rattle.kh_term.specs.declared.name.Origin.{Origin}
use Rattle.kh_term.specs.declared.tree.TermTree.{TermTree}
use Rattle.kh_term.specs.declared.tree.TermTree.TheOpen.{TermTree-F}
use Rattle.kh_term.specs.declared.tree.TermTree.TheOpen as layer
use Rattle.kh_term.specs.declared.tree.TermTree.TheFolds.{fold-TermTree}
use Rattle.kh_term.specs.Limits.{is_small}
use Rattle.kh_instr.specs.declared.instr.Instr.{Instr}
use Rattle.kh_instr.specs.declared.instr.Instr.TheVariants as instr
use Rattle.kh_instr.specs.declared.module.Function.{Function}
use Rattle.kh_instr.specs.declared.module.Standalone.{Standalone}
use Rattle.kh_instr.specs.Syntax.{is_library}
use Rattle.kh_instr.specs.Tables.{builtin_named, erlang, is_same_function}
use Rattle.kh_instr.specs.Written.{are_distinct, has_label, all_label_numbers, leads_right, all_literals}

-- The functions of the closures in a term, at any depth: in elements and tails, in the keys and values of maps, and in
-- the captured values of closures.
abbrev pub closures_step : TermTree-F (List Origin) → List Origin
closures_step (layer.Int number) = []
closures_step (layer.Atom text) = []
closures_step (layer.Bin bytes) = []
closures_step layer.Nil = []
closures_step (layer.List parts tail) = flat_map (λ part. part) parts ++ tail
closures_step (layer.Tuple parts) = flat_map (λ part. part) parts
closures_step (layer.Map pairs) = flat_map (λ p. p.0 ++ p.1) pairs
closures_step (layer.Closure origin env) = origin ∷ flat_map (λ part. part) env

abbrev pub closures_in : TermTree → List Origin
closures_in = fold-TermTree (List Origin) closures_step

-- those of several terms
abbrev pub closures_in_all : List TermTree → List Origin
closures_in_all ts = flat_map closures_in ts

-- whether a `bif` or `gc_bif` of this name with so many arguments is a built-in
abbrev pub is_erlang : List ℕ → ℕ → Bool
is_erlang name arguments = is_some (builtin_named (erlang name arguments))

-- Whether an instruction is allowed in a module that is its own code: it is listed, and an external call, a `bif` and a
-- `gc_bif` is one of a built-in or a service.
abbrev pub is_allowed : Instr → Bool
is_allowed (instr.Unsupported word) = false
is_allowed (instr.CallExt f) = is_library f
is_allowed (instr.CallExtLast f d) = is_library f
is_allowed (instr.CallExtOnly f) = is_library f
is_allowed (instr.Bif name l parts r) = is_erlang name (length parts)
is_allowed (instr.GcBif name l live parts r) = is_erlang name (length parts)
is_allowed i = true

-- the name of the function at a place: `run`, and then `f1`, `f2` and so on
abbrev pub emitted_name : ℕ → List ℕ
emitted_name zero = codes "run"
emitted_name (suc n) = codes "f" ++ decimal (suc n)

-- whether functions have the names of the places from this one on
abbrev pub are_named_from : ℕ → List Function → Bool
are_named_from n [] = true
are_named_from n (f ∷ functions) = bytes_eq f.name (emitted_name n) && are_named_from (suc n) functions

-- whether numbers count up from this one
abbrev pub count_up : ℕ → List ℕ → Bool
count_up n [] = true
count_up n (m ∷ ms) = nat_eq m n && count_up (suc n) ms

-- the arity of the first function, 0 where there is none
abbrev pub first_arity : List Function → ℕ
first_arity [] = 0
first_arity (f ∷ functions) = f.arity

-- whether a triple is that of one of these functions
abbrev pub is_from : List Function → Origin → Bool
is_from functions o = list_any (λ f. is_same_function f.origin o) functions

-- What extraction can emit, of functions alone: they are `run`, `f1`, `f2` and so on, each triple once; labels are
-- numbered from 1 as they stand; no instruction is denied; jumps stay in their function, and calls and closures lead to a
-- function that fits; each arity is that of the triple, and each entry a label of its function.
pub record AreEmitted (functions : List Function) : Type 0 where
  pub some : 1 ≤ length functions
  pub names : IsTrue (are_named_from 0 functions)
  pub triples_once : IsTrue (are_distinct is_same_function (map (λ f. f.origin) functions))
  pub labels_count_up : IsTrue (count_up 1 (all_label_numbers functions))
  pub allowed : IsTrue (list_all (λ f. list_all is_allowed f.code) functions)
  pub leads : IsTrue (list_all (leads_right functions) functions)
  pub arities : IsTrue (list_all (λ f. nat_eq f.arity f.origin.arity) functions)
  pub entries : IsTrue (list_all (λ f. has_label f f.entry) functions)

-- What extraction can emit, of the captured values over these functions: they are no more than the first one takes, and
-- the function of each closure in them, at any depth, is one of these.
pub record IsEnvironment (functions : List Function) (env : List TermTree) : Type 0 where
  pub few : length env ≤ first_arity functions
  pub own : IsTrue (list_all (is_from functions) (closures_in_all env))

-- a module that extraction can emit
pub record IsEmitted (m : Standalone) : Type 0 where
  pub functions : AreEmitted m.functions
  pub env : IsEnvironment m.functions m.env.nodes

-- the number of the instructions of some functions, labels among them
abbrev pub instructions_in : List Function → ℕ
instructions_in functions = sum (map (λ f. length f.code) functions)

abbrev pub most_functions : ℕ
most_functions = 512

abbrev pub most_instructions : ℕ
most_instructions = 65536

-- The limits of extraction: at most 512 functions and 65,536 instructions; and those of what it is given: each literal
-- and each captured value has a size of at most 1,048,576 and a depth of at most 200.
pub record IsWithinLimits (m : Standalone) : Type 0 where
  pub functions : length m.functions ≤ most_functions
  pub instructions : instructions_in m.functions ≤ most_instructions
  pub literals : IsTrue (list_all (λ t. is_small t.node) (all_literals m.functions))
  pub env : IsTrue (list_all is_small m.env.nodes)
