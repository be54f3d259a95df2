-- The words of the table of instructions.
use Rattle.std.specs.Prelude.{ℕ, codes, List, [], ◌∷◌, find, Option}
use Rattle.std.specs.Str.{bytes_eq}
use Rattle.kh_instr.specs.declared.test.Comparison.TheVariants as comparison
use Rattle.kh_instr.specs.declared.test.TypeTest.TheVariants as type_test
use Rattle.kh_instr.specs.declared.words.TestName.{TestName}
use Rattle.kh_instr.specs.declared.words.TestName.TheVariants as test_name
use Rattle.kh_instr.specs.declared.words.Word.{Word}
use Rattle.kh_instr.specs.declared.words.Word.TheVariants as word

-- how an instruction's first word is spelled
abbrev pub word_text : Word → List ℕ
word_text word.Label = codes "label"
word_text word.FuncInfo = codes "func_info"
word_text word.Move = codes "move"
word_text word.Swap = codes "swap"
word_text word.Call = codes "call"
word_text word.CallLast = codes "call_last"
word_text word.CallOnly = codes "call_only"
word_text word.CallExt = codes "call_ext"
word_text word.CallExtLast = codes "call_ext_last"
word_text word.CallExtOnly = codes "call_ext_only"
word_text word.CallFun = codes "call_fun"
word_text word.CallFun2 = codes "call_fun2"
word_text word.Allocate = codes "allocate"
word_text word.AllocateHeap = codes "allocate_heap"
word_text word.Deallocate = codes "deallocate"
word_text word.Trim = codes "trim"
word_text word.TestHeap = codes "test_heap"
word_text word.InitYregs = codes "init_yregs"
word_text word.Return = codes "return"
word_text word.Test = codes "test"
word_text word.Jump = codes "jump"
word_text word.SelectVal = codes "select_val"
word_text word.SelectTupleArity = codes "select_tuple_arity"
word_text word.GetList = codes "get_list"
word_text word.GetHd = codes "get_hd"
word_text word.GetTl = codes "get_tl"
word_text word.GetTupleElement = codes "get_tuple_element"
word_text word.PutList = codes "put_list"
word_text word.PutTuple2 = codes "put_tuple2"
word_text word.MakeFun3 = codes "make_fun3"
word_text word.Bif = codes "bif"
word_text word.GcBif = codes "gc_bif"
word_text word.PutMapAssoc = codes "put_map_assoc"
word_text word.PutMapExact = codes "put_map_exact"
word_text word.GetMapElements = codes "get_map_elements"
word_text word.Badmatch = codes "badmatch"
word_text word.CaseEnd = codes "case_end"
word_text word.IfEnd = codes "if_end"
word_text word.TryCaseEnd = codes "try_case_end"
word_text word.Try = codes "try"
word_text word.Catch = codes "catch"
word_text word.TryEnd = codes "try_end"
word_text word.TryCase = codes "try_case"
word_text word.CatchEnd = codes "catch_end"
word_text word.RawRaise = codes "raw_raise"
word_text word.BuildStacktrace = codes "build_stacktrace"

abbrev pub all_words : List Word
all_words =
    word.Label ∷ word.FuncInfo ∷ word.Move ∷ word.Swap ∷ word.Call ∷ word.CallLast ∷
    word.CallOnly ∷ word.CallExt ∷ word.CallExtLast ∷ word.CallExtOnly ∷ word.CallFun ∷
    word.CallFun2 ∷ word.Allocate ∷ word.AllocateHeap ∷ word.Deallocate ∷ word.Trim ∷
    word.TestHeap ∷ word.InitYregs ∷ word.Return ∷ word.Test ∷ word.Jump ∷ word.SelectVal ∷
    word.SelectTupleArity ∷ word.GetList ∷ word.GetHd ∷ word.GetTl ∷ word.GetTupleElement ∷
    word.PutList ∷ word.PutTuple2 ∷ word.MakeFun3 ∷ word.Bif ∷ word.GcBif ∷
    word.PutMapAssoc ∷ word.PutMapExact ∷ word.GetMapElements ∷ word.Badmatch ∷
    word.CaseEnd ∷ word.IfEnd ∷ word.TryCaseEnd ∷ word.Try ∷ word.Catch ∷ word.TryEnd ∷
    word.TryCase ∷ word.CatchEnd ∷ word.RawRaise ∷ word.BuildStacktrace ∷ []

-- what is spelled so, if there is one
abbrev pub word_named : List ℕ → Option Word
word_named text = find (λ k. bytes_eq (word_text k) text) all_words

-- how the name of a test is spelled
abbrev pub test_text : TestName → List ℕ
test_text (test_name.Type type_test.Integer) = codes "is_integer"
test_text (test_name.Type type_test.Number) = codes "is_number"
test_text (test_name.Type type_test.Atom) = codes "is_atom"
test_text (test_name.Type type_test.Boolean) = codes "is_boolean"
test_text (test_name.Type type_test.Nil) = codes "is_nil"
test_text (test_name.Type type_test.List) = codes "is_list"
test_text (test_name.Type type_test.NonemptyList) = codes "is_nonempty_list"
test_text (test_name.Type type_test.Binary) = codes "is_binary"
test_text (test_name.Type type_test.Bitstr) = codes "is_bitstr"
test_text (test_name.Type type_test.Tuple) = codes "is_tuple"
test_text (test_name.Type type_test.Map) = codes "is_map"
test_text (test_name.Type type_test.Function) = codes "is_function"
test_text (test_name.Type type_test.Float) = codes "is_float"
test_text (test_name.Type type_test.Pid) = codes "is_pid"
test_text (test_name.Type type_test.Port) = codes "is_port"
test_text (test_name.Type type_test.Reference) = codes "is_reference"
test_text (test_name.Compare comparison.Lt) = codes "is_lt"
test_text (test_name.Compare comparison.Ge) = codes "is_ge"
test_text (test_name.Compare comparison.Eq) = codes "is_eq"
test_text (test_name.Compare comparison.Ne) = codes "is_ne"
test_text (test_name.Compare comparison.EqExact) = codes "is_eq_exact"
test_text (test_name.Compare comparison.NeExact) = codes "is_ne_exact"
test_text test_name.Function2 = codes "is_function2"
test_text test_name.Arity = codes "test_arity"
test_text test_name.TaggedTuple = codes "is_tagged_tuple"
test_text test_name.HasMapFields = codes "has_map_fields"

abbrev pub all_tests : List TestName
all_tests =
    (test_name.Type type_test.Integer) ∷ (test_name.Type type_test.Number) ∷
    (test_name.Type type_test.Atom) ∷ (test_name.Type type_test.Boolean) ∷
    (test_name.Type type_test.Nil) ∷ (test_name.Type type_test.List) ∷
    (test_name.Type type_test.NonemptyList) ∷ (test_name.Type type_test.Binary) ∷
    (test_name.Type type_test.Bitstr) ∷ (test_name.Type type_test.Tuple) ∷
    (test_name.Type type_test.Map) ∷ (test_name.Type type_test.Function) ∷
    (test_name.Type type_test.Float) ∷ (test_name.Type type_test.Pid) ∷
    (test_name.Type type_test.Port) ∷ (test_name.Type type_test.Reference) ∷
    (test_name.Compare comparison.Lt) ∷ (test_name.Compare comparison.Ge) ∷
    (test_name.Compare comparison.Eq) ∷ (test_name.Compare comparison.Ne) ∷
    (test_name.Compare comparison.EqExact) ∷ (test_name.Compare comparison.NeExact) ∷
    test_name.Function2 ∷ test_name.Arity ∷ test_name.TaggedTuple ∷
    test_name.HasMapFields ∷ []

-- what is spelled so, if there is one
abbrev pub test_named : List ℕ → Option TestName
test_named text = find (λ k. bytes_eq (test_text k) text) all_tests
