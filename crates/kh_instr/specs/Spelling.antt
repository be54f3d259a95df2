-- How instructions are spelled.
use Rattle.std.specs.Prelude.{ℕ, IsTrue, pos, codes, List, [], ◌∷◌, map}
use Rattle.std.specs.List.{flat_map}
use Rattle.kh_term.specs.declared.name.Origin.{Origin}
use Rattle.kh_term.specs.declared.tree.TermTree.{TermTree}
use Rattle.kh_term.specs.declared.tree.TermTree.TheVariants as tree
use Rattle.kh_term.specs.Make.{list_of}
use Rattle.kh_instr.specs.declared.instr.Instr.{Instr}
use Rattle.kh_instr.specs.declared.instr.Instr.TheVariants as instr
use Rattle.kh_instr.specs.declared.operand.Reg.{Reg}
use Rattle.kh_instr.specs.declared.operand.Reg.TheVariants as reg
use Rattle.kh_instr.specs.declared.operand.Source.{Source}
use Rattle.kh_instr.specs.declared.operand.Source.TheVariants as source
use Rattle.kh_instr.specs.declared.test.Test.{Test}
use Rattle.kh_instr.specs.declared.test.Test.TheVariants as test
use Rattle.kh_instr.specs.declared.words.TestName.{TestName}
use Rattle.kh_instr.specs.declared.words.TestName.TheVariants as test_name
use Rattle.kh_instr.specs.declared.words.Word.{Word}
use Rattle.kh_instr.specs.declared.words.Word.TheVariants as word
use Rattle.kh_instr.specs.Syntax.{is_listed}
use Rattle.kh_instr.specs.Words.{word_text, test_text}

abbrev pub number : ℕ → TermTree
number n = tree.Int (pos n)

-- a tuple of a word and what stands behind it
abbrev pub with_word : List ℕ → TermTree → TermTree
with_word word t = tree.Tuple (tree.Atom word ∷ t ∷ [])

abbrev pub reg_tree : Reg → TermTree
reg_tree (reg.X n) = with_word (codes "x") (number n)
reg_tree (reg.Y n) = with_word (codes "y") (number n)

abbrev pub label_tree : ℕ → TermTree
label_tree n = with_word (codes "f") (number n)

abbrev pub slot_tree : ℕ → TermTree
slot_tree n = with_word (codes "y") (number n)

abbrev pub quoted_tree : List ℕ → TermTree
quoted_tree text = with_word (codes "atom") (tree.Atom text)

abbrev pub source_tree : Source → TermTree
source_tree (source.Reg r) = reg_tree r
source_tree (source.Atom text) = quoted_tree text
source_tree (source.Integer n) = with_word (codes "integer") (tree.Int n)
source_tree source.Nil = tree.Atom (codes "nil")
source_tree (source.Literal t) = with_word (codes "literal") t.node

abbrev pub function_tree : Origin → TermTree
function_tree f =
    tree.Tuple (tree.Atom (codes "extfunc") ∷ tree.Atom f.«module» ∷ tree.Atom f.name ∷ number f.arity ∷ [])

-- `[A,..]` and `{list,[A,..]}`
abbrev pub list_tree : {A : Type 0} → (A → TermTree) → List A → TermTree
list_tree f xs = list_of (map f xs)

abbrev pub listed_tree : {A : Type 0} → (A → TermTree) → List A → TermTree
listed_tree f xs = with_word (codes "list") (list_tree f xs)

-- two by two
abbrev pub by_turns : {A B : Type 0} → (A → TermTree) → (B → TermTree) → List (A × B) → List TermTree
by_turns f g ps = flat_map (λ p. f p.0 ∷ g p.1 ∷ []) ps

-- `{list,[A,B,..]}`
abbrev pub listed_two_tree : {A B : Type 0} → (A → TermTree) → (B → TermTree) → List (A × B) → TermTree
listed_two_tree f g ps = with_word (codes "list") (list_of (by_turns f g ps))

-- a form: a word, alone or with operands behind it
abbrev pub formed : List ℕ → List TermTree → TermTree
formed word [] = tree.Atom word
formed word (t ∷ ts) = tree.Tuple (tree.Atom word ∷ t ∷ ts)

-- the operands of a test
abbrev pub test_trees : ℕ → Test → List TermTree
test_trees l (test.Type which s) = tree.Atom (test_text (test_name.Type which)) ∷ label_tree l ∷ list_of (source_tree s ∷ []) ∷ []
test_trees l (test.Compare which a b) = tree.Atom (test_text (test_name.Compare which)) ∷ label_tree l ∷ list_of (source_tree a ∷ source_tree b ∷ []) ∷ []
test_trees l (test.Function2 s arity) = tree.Atom (test_text test_name.Function2) ∷ label_tree l ∷ list_of (source_tree s ∷ source_tree arity ∷ []) ∷ []
test_trees l (test.Arity s n) = tree.Atom (test_text test_name.Arity) ∷ label_tree l ∷ list_of (source_tree s ∷ number n ∷ []) ∷ []
test_trees l (test.TaggedTuple s n tag) = tree.Atom (test_text test_name.TaggedTuple) ∷ label_tree l ∷ list_of (source_tree s ∷ number n ∷ source_tree tag ∷ []) ∷ []
test_trees l (test.HasMapFields s keys) = tree.Atom (test_text test_name.HasMapFields) ∷ label_tree l ∷ source_tree s ∷ listed_tree source_tree keys ∷ []

-- the operands of a raise that is spelled as a `bif`
abbrev pub raise_trees : Source → Source → Reg → List TermTree
raise_trees trace reason r =
    tree.Atom (codes "raise") ∷ label_tree 0 ∷ list_of (source_tree trace ∷ source_tree reason ∷ []) ∷ reg_tree r ∷ []

-- The word of each row. What an instruction doesn't keep is spelled in one way: heap sizes and the two numbers of
-- `make_fun3` as 0, the first operand of `call_fun2` as `{atom,safe}`.
abbrev pub word_of : Instr → Word
word_of (instr.Label n) = word.Label
word_of (instr.FuncInfo f) = word.FuncInfo
word_of (instr.Move s r) = word.Move
word_of (instr.Swap r q) = word.Swap
word_of (instr.Call n l) = word.Call
word_of (instr.CallLast n l d) = word.CallLast
word_of (instr.CallOnly n l) = word.CallOnly
word_of (instr.CallExt f) = word.CallExt
word_of (instr.CallExtLast f d) = word.CallExtLast
word_of (instr.CallExtOnly f) = word.CallExtOnly
word_of (instr.CallFun n) = word.CallFun
word_of (instr.CallFun2 n s) = word.CallFun2
word_of (instr.Allocate n live) = word.Allocate
word_of (instr.Deallocate n) = word.Deallocate
word_of (instr.Trim n rest) = word.Trim
word_of (instr.TestHeap live) = word.TestHeap
word_of (instr.InitYregs rs) = word.InitYregs
word_of instr.Return = word.Return
word_of (instr.Test l t) = word.Test
word_of (instr.Jump l) = word.Jump
word_of (instr.SelectVal s l cases) = word.SelectVal
word_of (instr.SelectTupleArity s l sizes) = word.SelectTupleArity
word_of (instr.GetList s head tail) = word.GetList
word_of (instr.GetHd s r) = word.GetHd
word_of (instr.GetTl s r) = word.GetTl
word_of (instr.GetTupleElement s n r) = word.GetTupleElement
word_of (instr.PutList head tail r) = word.PutList
word_of (instr.PutTuple2 r parts) = word.PutTuple2
word_of (instr.MakeFun3 l r captured) = word.MakeFun3
word_of (instr.Bif name l arguments r) = word.Bif
word_of (instr.GcBif name l live arguments r) = word.GcBif
word_of (instr.PutMapAssoc l s r live puts) = word.PutMapAssoc
word_of (instr.PutMapExact l s r live puts) = word.PutMapExact
word_of (instr.GetMapElements l s gets) = word.GetMapElements
word_of (instr.Badmatch s) = word.Badmatch
word_of (instr.CaseEnd s) = word.CaseEnd
word_of instr.IfEnd = word.IfEnd
word_of (instr.TryCaseEnd s) = word.TryCaseEnd
word_of (instr.Try n l) = word.Try
word_of (instr.Catch n l) = word.Catch
word_of (instr.TryEnd n) = word.TryEnd
word_of (instr.TryCase n) = word.TryCase
word_of (instr.CatchEnd n) = word.CatchEnd
word_of (instr.BifRaise trace reason r) = word.Bif
word_of instr.RawRaise = word.RawRaise
word_of instr.BuildStacktrace = word.BuildStacktrace
word_of (instr.Unsupported text) = word.Label

-- the operands of each row
abbrev pub operands_of : Instr → List TermTree
operands_of (instr.Label n) = number n ∷ []
operands_of (instr.FuncInfo f) = quoted_tree f.«module» ∷ quoted_tree f.name ∷ number f.arity ∷ []
operands_of (instr.Move s r) = source_tree s ∷ reg_tree r ∷ []
operands_of (instr.Swap r q) = reg_tree r ∷ reg_tree q ∷ []
operands_of (instr.Call n l) = number n ∷ label_tree l ∷ []
operands_of (instr.CallLast n l d) = number n ∷ label_tree l ∷ number d ∷ []
operands_of (instr.CallOnly n l) = number n ∷ label_tree l ∷ []
operands_of (instr.CallExt f) = number f.arity ∷ function_tree f ∷ []
operands_of (instr.CallExtLast f d) = number f.arity ∷ function_tree f ∷ number d ∷ []
operands_of (instr.CallExtOnly f) = number f.arity ∷ function_tree f ∷ []
operands_of (instr.CallFun n) = number n ∷ []
operands_of (instr.CallFun2 n s) = quoted_tree (codes "safe") ∷ number n ∷ source_tree s ∷ []
operands_of (instr.Allocate n live) = number n ∷ number live ∷ []
operands_of (instr.Deallocate n) = number n ∷ []
operands_of (instr.Trim n rest) = number n ∷ number rest ∷ []
operands_of (instr.TestHeap live) = number 0 ∷ number live ∷ []
operands_of (instr.InitYregs rs) = listed_tree reg_tree rs ∷ []
operands_of instr.Return = []
operands_of (instr.Test l t) = test_trees l t
operands_of (instr.Jump l) = label_tree l ∷ []
operands_of (instr.SelectVal s l cases) = source_tree s ∷ label_tree l ∷ listed_two_tree source_tree label_tree cases ∷ []
operands_of (instr.SelectTupleArity s l sizes) = source_tree s ∷ label_tree l ∷ listed_two_tree number label_tree sizes ∷ []
operands_of (instr.GetList s head tail) = source_tree s ∷ reg_tree head ∷ reg_tree tail ∷ []
operands_of (instr.GetHd s r) = source_tree s ∷ reg_tree r ∷ []
operands_of (instr.GetTl s r) = source_tree s ∷ reg_tree r ∷ []
operands_of (instr.GetTupleElement s n r) = source_tree s ∷ number n ∷ reg_tree r ∷ []
operands_of (instr.PutList head tail r) = source_tree head ∷ source_tree tail ∷ reg_tree r ∷ []
operands_of (instr.PutTuple2 r parts) = reg_tree r ∷ listed_tree source_tree parts ∷ []
operands_of (instr.MakeFun3 l r captured) = label_tree l ∷ number 0 ∷ number 0 ∷ reg_tree r ∷ listed_tree source_tree captured ∷ []
operands_of (instr.Bif name l arguments r) = tree.Atom name ∷ label_tree l ∷ list_tree source_tree arguments ∷ reg_tree r ∷ []
operands_of (instr.GcBif name l live arguments r) =
    tree.Atom name ∷ label_tree l ∷ number live ∷ list_tree source_tree arguments ∷ reg_tree r ∷ []
operands_of (instr.PutMapAssoc l s r live puts) =
    label_tree l ∷ source_tree s ∷ reg_tree r ∷ number live ∷ listed_two_tree source_tree source_tree puts ∷ []
operands_of (instr.PutMapExact l s r live puts) =
    label_tree l ∷ source_tree s ∷ reg_tree r ∷ number live ∷ listed_two_tree source_tree source_tree puts ∷ []
operands_of (instr.GetMapElements l s gets) = label_tree l ∷ source_tree s ∷ listed_two_tree source_tree reg_tree gets ∷ []
operands_of (instr.Badmatch s) = source_tree s ∷ []
operands_of (instr.CaseEnd s) = source_tree s ∷ []
operands_of instr.IfEnd = []
operands_of (instr.TryCaseEnd s) = source_tree s ∷ []
operands_of (instr.Try n l) = slot_tree n ∷ label_tree l ∷ []
operands_of (instr.Catch n l) = slot_tree n ∷ label_tree l ∷ []
operands_of (instr.TryEnd n) = slot_tree n ∷ []
operands_of (instr.TryCase n) = slot_tree n ∷ []
operands_of (instr.CatchEnd n) = slot_tree n ∷ []
operands_of (instr.BifRaise trace reason r) = raise_trees trace reason r
operands_of instr.RawRaise = []
operands_of instr.BuildStacktrace = []
operands_of (instr.Unsupported text) = []

-- the emitted spelling of an instruction
abbrev pub instr_tree : Instr → TermTree
instr_tree i = formed (word_text (word_of i)) (operands_of i)

-- an instruction that the table lists: not an unsupported one
abbrev pub IsListed : Instr → Type 0
IsListed i = IsTrue (is_listed i)
