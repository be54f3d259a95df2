-- The table of instructions: each row's operands, and the instruction that they make.
use Rattle.std.specs.Prelude.{ℕ, zero, suc, Bool, true, false, ◌&&◌, nat_eq, nat_le, if◌then◌else◌, codes, List, [], ◌∷◌, length, Option, Some, None, option_map, unwrap_or}
use Rattle.std.specs.Option.{option_and_then}
use Rattle.std.specs.Str.{bytes_eq}
use Rattle.kh_term.specs.declared.name.Origin.{Origin}
use Rattle.kh_term.specs.declared.tree.TermTree.{TermTree, out-TermTree}
use Rattle.kh_term.specs.declared.tree.TermTree.TheOpen.{TermTree-F}
use Rattle.kh_term.specs.declared.tree.TermTree.TheOpen as layer
use Rattle.kh_instr.specs.declared.instr.Instr.{Instr}
use Rattle.kh_instr.specs.declared.instr.Instr.TheVariants as instr
use Rattle.kh_instr.specs.declared.operand.Reg.{Reg}
use Rattle.kh_instr.specs.declared.operand.Source.{Source}
use Rattle.kh_instr.specs.declared.test.Comparison.{Comparison}
use Rattle.kh_instr.specs.declared.test.TypeTest.{TypeTest}
use Rattle.kh_instr.specs.declared.test.Test.{Test}
use Rattle.kh_instr.specs.declared.test.Test.TheVariants as test
use Rattle.kh_instr.specs.declared.words.TestName.{TestName}
use Rattle.kh_instr.specs.declared.words.TestName.TheVariants as test_name
use Rattle.kh_instr.specs.declared.words.Word.{Word}
use Rattle.kh_instr.specs.declared.words.Word.TheVariants as word
use Rattle.kh_instr.specs.Operands.{atom_of, any_of, arity_of, count_of, own_number_of, label_of, slot_of, quoted_of, reg_of, source_of, function_of, items_of, each, list_by, listed_by, listed_by_two, one, both, two, three, four, five}
use Rattle.kh_instr.specs.Words.{word_named, test_named}

-- the function of an external call that says how many arguments it has
abbrev pub called : ℕ → Origin → Option Origin
called arguments f = if nat_eq arguments f.arity then Some f else None

-- at most 255 arguments
abbrev pub few : List Source → Bool
few arguments = nat_le (length arguments) 255

-- `{bif,raise,{f,0},[S,S],R}` is a row of its own
abbrev pub is_raise : List ℕ → ℕ → Bool
is_raise name label = nat_eq label 0 && bytes_eq name (codes "raise")

abbrev pub bif_made : List ℕ → ℕ → List Source → Reg → Instr
bif_made name label (trace ∷ reason ∷ []) r =
    if is_raise name label then instr.BifRaise trace reason r else instr.Bif name label (trace ∷ reason ∷ []) r
bif_made name label arguments r = instr.Bif name label arguments r

abbrev pub bif_of : List ℕ → ℕ → List Source → Reg → Option Instr
bif_of name label arguments r = if few arguments then Some (bif_made name label arguments r) else None

-- ---- tests

-- a map and keys
abbrev pub fields_of : List TermTree → Option Test
fields_of [] = None
fields_of (t ∷ keys) = option_and_then (λ s. option_map (λ ks. test.HasMapFields s ks) (each source_of keys)) (source_of t)

abbrev pub function2_of : List TermTree → Option Test
function2_of ts = option_map (λ p. test.Function2 p.0 p.1) (two source_of source_of ts)

abbrev pub test_arity_of : List TermTree → Option Test
test_arity_of ts = option_map (λ p. test.Arity p.0 p.1) (two source_of count_of ts)

abbrev pub tagged_tuple_of : List TermTree → Option Test
tagged_tuple_of ts = option_map (λ p. test.TaggedTuple p.0 p.1 p.2) (three source_of count_of source_of ts)

abbrev pub type_test_of : TypeTest → List TermTree → Option Test
type_test_of which ts = option_map (λ s. test.Type which s) (one source_of ts)

abbrev pub comparison_of : Comparison → List TermTree → Option Test
comparison_of which ts = option_map (λ p. test.Compare which p.0 p.1) (two source_of source_of ts)

-- the row of a test, by its name
abbrev pub test_of : TestName → List TermTree → Option Test
test_of (test_name.Type which) ts = type_test_of which ts
test_of (test_name.Compare which) ts = comparison_of which ts
test_of test_name.Function2 ts = function2_of ts
test_of test_name.Arity ts = test_arity_of ts
test_of test_name.TaggedTuple ts = tagged_tuple_of ts
test_of test_name.HasMapFields ts = fields_of ts

-- the operands in a list: `{test,Op,{f,L},[..]}`
abbrev pub listed_test : TestName → ℕ → TermTree → Option Instr
listed_test name label t = option_map (λ what. instr.Test label what) (option_and_then (test_of name) (items_of t))

-- keys behind the map: `{test,has_map_fields,{f,L},S,{list,[..]}}`
abbrev pub fields_test : TestName → ℕ → TermTree → TermTree → Option Instr
fields_test test_name.HasMapFields label t keys =
    option_map (λ p. instr.Test label (test.HasMapFields p.0 p.1)) (both source_of (listed_by source_of) t keys)
fields_test name label t keys = None

-- the name of a test, and the label to which it jumps
abbrev pub name_and_label : TermTree → TermTree → Option (TestName × ℕ)
name_and_label name label =
    option_and_then (λ n. option_map (λ l. (n, l)) (label_of label)) (option_and_then test_named (atom_of name))

abbrev pub test_row : List TermTree → Option Instr
test_row (name ∷ label ∷ t ∷ []) = option_and_then (λ p. listed_test p.0 p.1 t) (name_and_label name label)
test_row (name ∷ label ∷ t ∷ keys ∷ []) = option_and_then (λ p. fields_test p.0 p.1 t keys) (name_and_label name label)
test_row ts = None

-- ---- the rows

-- what the operands behind a word make, where they are as its row says
abbrev pub row : Word → List TermTree → Option Instr
row word.Label ts = option_map (λ n. instr.Label n) (one own_number_of ts)
row word.FuncInfo ts = option_map (λ p. instr.FuncInfo (record { «module» = p.0; name = p.1; arity = p.2 })) (three quoted_of quoted_of arity_of ts)
row word.Move ts = option_map (λ p. instr.Move p.0 p.1) (two source_of reg_of ts)
row word.Swap ts = option_map (λ p. instr.Swap p.0 p.1) (two reg_of reg_of ts)
row word.Call ts = option_map (λ p. instr.Call p.0 p.1) (two arity_of label_of ts)
row word.CallLast ts = option_map (λ p. instr.CallLast p.0 p.1 p.2) (three arity_of label_of count_of ts)
row word.CallOnly ts = option_map (λ p. instr.CallOnly p.0 p.1) (two arity_of label_of ts)
row word.CallExt ts = option_and_then (λ p. option_map (λ f. instr.CallExt f) (called p.0 p.1)) (two arity_of function_of ts)
row word.CallExtLast ts = option_and_then (λ p. option_map (λ f. instr.CallExtLast f p.2) (called p.0 p.1)) (three arity_of function_of count_of ts)
row word.CallExtOnly ts = option_and_then (λ p. option_map (λ f. instr.CallExtOnly f) (called p.0 p.1)) (two arity_of function_of ts)
row word.CallFun ts = option_map (λ n. instr.CallFun n) (one arity_of ts)
row word.CallFun2 ts = option_map (λ p. instr.CallFun2 p.1 p.2) (three any_of arity_of source_of ts)
row word.Allocate ts = option_map (λ p. instr.Allocate p.0 p.1) (two count_of count_of ts)
row word.AllocateHeap ts = option_map (λ p. instr.Allocate p.0 p.2) (three count_of any_of count_of ts)
row word.Deallocate ts = option_map (λ n. instr.Deallocate n) (one count_of ts)
row word.Trim ts = option_map (λ p. instr.Trim p.0 p.1) (two count_of count_of ts)
row word.TestHeap ts = option_map (λ p. instr.TestHeap p.1) (two any_of count_of ts)
row word.InitYregs ts = option_map (λ rs. instr.InitYregs rs) (one (listed_by reg_of) ts)
row word.Test ts = test_row ts
row word.Jump ts = option_map (λ l. instr.Jump l) (one label_of ts)
row word.SelectVal ts = option_map (λ p. instr.SelectVal p.0 p.1 p.2) (three source_of label_of (listed_by_two source_of label_of) ts)
row word.SelectTupleArity ts = option_map (λ p. instr.SelectTupleArity p.0 p.1 p.2) (three source_of label_of (listed_by_two count_of label_of) ts)
row word.GetList ts = option_map (λ p. instr.GetList p.0 p.1 p.2) (three source_of reg_of reg_of ts)
row word.GetHd ts = option_map (λ p. instr.GetHd p.0 p.1) (two source_of reg_of ts)
row word.GetTl ts = option_map (λ p. instr.GetTl p.0 p.1) (two source_of reg_of ts)
row word.GetTupleElement ts = option_map (λ p. instr.GetTupleElement p.0 p.1 p.2) (three source_of count_of reg_of ts)
row word.PutList ts = option_map (λ p. instr.PutList p.0 p.1 p.2) (three source_of source_of reg_of ts)
row word.PutTuple2 ts = option_map (λ p. instr.PutTuple2 p.0 p.1) (two reg_of (listed_by source_of) ts)
row word.MakeFun3 ts = option_map (λ p. instr.MakeFun3 p.0 p.3 p.4) (five label_of any_of any_of reg_of (listed_by source_of) ts)
row word.Bif ts = option_and_then (λ p. bif_of p.0 p.1 p.2 p.3) (four atom_of label_of (list_by source_of) reg_of ts)
row word.GcBif ts =
    option_and_then (λ p. if few p.3 then Some (instr.GcBif p.0 p.1 p.2 p.3 p.4) else None)
    (five atom_of label_of count_of (list_by source_of) reg_of ts)
row word.PutMapAssoc ts =
    option_map (λ p. instr.PutMapAssoc p.0 p.1 p.2 p.3 p.4) (five label_of source_of reg_of count_of (listed_by_two source_of source_of) ts)
row word.PutMapExact ts =
    option_map (λ p. instr.PutMapExact p.0 p.1 p.2 p.3 p.4) (five label_of source_of reg_of count_of (listed_by_two source_of source_of) ts)
row word.GetMapElements ts = option_map (λ p. instr.GetMapElements p.0 p.1 p.2) (three label_of source_of (listed_by_two source_of reg_of) ts)
row word.Badmatch ts = option_map (λ s. instr.Badmatch s) (one source_of ts)
row word.CaseEnd ts = option_map (λ s. instr.CaseEnd s) (one source_of ts)
row word.TryCaseEnd ts = option_map (λ s. instr.TryCaseEnd s) (one source_of ts)
row word.Try ts = option_map (λ p. instr.Try p.0 p.1) (two slot_of label_of ts)
row word.Catch ts = option_map (λ p. instr.Catch p.0 p.1) (two slot_of label_of ts)
row word.TryEnd ts = option_map (λ n. instr.TryEnd n) (one slot_of ts)
row word.TryCase ts = option_map (λ n. instr.TryCase n) (one slot_of ts)
row word.CatchEnd ts = option_map (λ n. instr.CatchEnd n) (one slot_of ts)
row word.Return ts = None
row word.IfEnd ts = None
row word.RawRaise ts = None
row word.BuildStacktrace ts = None

-- what a word by itself is
abbrev pub alone : Word → Option Instr
alone word.Return = Some instr.Return
alone word.IfEnd = Some instr.IfEnd
alone word.RawRaise = Some instr.RawRaise
alone word.BuildStacktrace = Some instr.BuildStacktrace
alone w = None

-- ---- reading

abbrev pub row_from : List ℕ → List TermTree → Option Instr
row_from text ts = option_and_then (λ w. row w ts) (word_named text)

abbrev pub tuple_read : List TermTree → Option Instr
tuple_read [] = None
tuple_read (first ∷ ts) = option_and_then (λ text. row_from text ts) (atom_of first)

abbrev pub alone_named : List ℕ → Option Instr
alone_named text = option_and_then alone (word_named text)

abbrev pub listed_in : TermTree-F TermTree → Option Instr
listed_in (layer.Atom text) = alone_named text
listed_in (layer.Tuple parts) = tuple_read parts
listed_in l = None

-- the instruction that a tree spells, where it is spelled as the table says
abbrev pub listed : TermTree → Option Instr
listed t = listed_in (out-TermTree t)

abbrev pub word_of_parts : List TermTree → Option (List ℕ)
word_of_parts [] = None
word_of_parts (first ∷ ts) = atom_of first

abbrev pub word_in : TermTree-F TermTree → Option (List ℕ)
word_in (layer.Atom text) = Some text
word_in (layer.Tuple parts) = word_of_parts parts
word_in l = None

-- the first word of a form: the atom, or the atom that a tuple begins with
abbrev pub first_word : TermTree → Option (List ℕ)
first_word t = word_in (out-TermTree t)

-- The instruction of a form: the one that it spells, else an unsupported one by its first word.
abbrev pub instr_read : TermTree → Instr
instr_read t = unwrap_or (listed t) (instr.Unsupported (unwrap_or (first_word t) []))
