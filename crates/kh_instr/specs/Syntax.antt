-- What an instruction names (labels, functions, literals), and what is left of it without that.
use Rattle.std.specs.Prelude.{ℕ, zero, suc, Bool, true, false, ◌||◌, if◌then◌else◌, List, [], ◌∷◌, ◌++◌, map, Option, Some, None, is_some}
use Rattle.std.specs.List.{flat_map}
use Rattle.kh_term.specs.declared.name.Origin.{Origin}
use Rattle.kh_term.specs.declared.term.Term.{Term}
use Rattle.kh_instr.specs.declared.instr.Instr.{Instr}
use Rattle.kh_instr.specs.declared.instr.Instr.TheVariants as instr
use Rattle.kh_instr.specs.declared.operand.Source.{Source}
use Rattle.kh_instr.specs.declared.operand.Source.TheVariants as source
use Rattle.kh_instr.specs.declared.operand.Reg.{Reg}
use Rattle.kh_instr.specs.declared.test.Test.{Test}
use Rattle.kh_instr.specs.declared.test.Test.TheVariants as test
use Rattle.kh_instr.specs.Tables.{builtin_named, service_named}

-- a built-in or a service: a call of it is the same in every code, since its name alone decides
abbrev pub is_library : Origin → Bool
is_library f = is_some (builtin_named f) || is_some (service_named f)

-- whether the table lists an instruction: it isn't an unsupported one
abbrev pub is_listed : Instr → Bool
is_listed (instr.Unsupported text) = false
is_listed i = true

-- whether an instruction is a label
abbrev pub is_any_label : Instr → Bool
is_any_label (instr.Label n) = true
is_any_label i = false

-- what a label is changed into, where 0 says that a failure raises
abbrev pub change : (ℕ → ℕ) → ℕ → ℕ
change f zero = zero
change f (suc n) = f (suc n)

-- the same instruction with each label changed: its own number, those to which it may jump, and that of the function
-- that it calls or makes; a 0 that says that a failure raises stays
abbrev pub relabel : (ℕ → ℕ) → Instr → Instr
relabel f (instr.Label n) = instr.Label (f n)
relabel f (instr.Call n l) = instr.Call n (f l)
relabel f (instr.CallLast n l d) = instr.CallLast n (f l) d
relabel f (instr.CallOnly n l) = instr.CallOnly n (f l)
relabel f (instr.Test l t) = instr.Test (f l) t
relabel f (instr.Jump l) = instr.Jump (f l)
relabel f (instr.SelectVal s l cases) = instr.SelectVal s (f l) (map (λ c. (c.0, f c.1)) cases)
relabel f (instr.SelectTupleArity s l cases) = instr.SelectTupleArity s (f l) (map (λ c. (c.0, f c.1)) cases)
relabel f (instr.MakeFun3 l r captured) = instr.MakeFun3 (f l) r captured
relabel f (instr.Bif name l parts r) = instr.Bif name (change f l) parts r
relabel f (instr.GcBif name l live parts r) = instr.GcBif name (change f l) live parts r
relabel f (instr.PutMapAssoc l s r live pairs) = instr.PutMapAssoc (change f l) s r live pairs
relabel f (instr.PutMapExact l s r live pairs) = instr.PutMapExact (change f l) s r live pairs
relabel f (instr.GetMapElements l s keys) = instr.GetMapElements (f l) s keys
relabel f (instr.Try slot l) = instr.Try slot (f l)
relabel f (instr.Catch slot l) = instr.Catch slot (f l)
relabel f i = i

-- the local call of the same shape, where a call is an external one of what is no built-in and no service
abbrev pub made_local : Instr → Instr
made_local (instr.CallExt f) = if is_library f then instr.CallExt f else instr.Call f.arity 0
made_local (instr.CallExtLast f d) = if is_library f then instr.CallExtLast f d else instr.CallLast f.arity 0 d
made_local (instr.CallExtOnly f) = if is_library f then instr.CallExtOnly f else instr.CallOnly f.arity 0
made_local i = i

-- 0 where the label is 0, else 1
abbrev pub whether : ℕ → ℕ
whether zero = 0
whether (suc n) = 1

-- What an instruction does, without where it leads: each label is 0, and an external call of what is no built-in and
-- no service is the local call of its shape. Where a failure raises (the label of a `bif`, `gc_bif` or `put_map_..` is
-- 0) or jumps is kept: there 1 stands for every other label.
abbrev pub bare : Instr → Instr
bare (instr.Label n) = instr.Label 0
bare (instr.Call n l) = instr.Call n 0
bare (instr.CallLast n l d) = instr.CallLast n 0 d
bare (instr.CallOnly n l) = instr.CallOnly n 0
bare (instr.CallExt f) = made_local (instr.CallExt f)
bare (instr.CallExtLast f d) = made_local (instr.CallExtLast f d)
bare (instr.CallExtOnly f) = made_local (instr.CallExtOnly f)
bare (instr.Test l t) = instr.Test 0 t
bare (instr.Jump l) = instr.Jump 0
bare (instr.SelectVal s l cases) = instr.SelectVal s 0 (map (λ c. (c.0, 0)) cases)
bare (instr.SelectTupleArity s l cases) = instr.SelectTupleArity s 0 (map (λ c. (c.0, 0)) cases)
bare (instr.MakeFun3 l r captured) = instr.MakeFun3 0 r captured
bare (instr.Bif name l parts r) = instr.Bif name (whether l) parts r
bare (instr.GcBif name l live parts r) = instr.GcBif name (whether l) live parts r
bare (instr.PutMapAssoc l s r live pairs) = instr.PutMapAssoc (whether l) s r live pairs
bare (instr.PutMapExact l s r live pairs) = instr.PutMapExact (whether l) s r live pairs
bare (instr.GetMapElements l s keys) = instr.GetMapElements 0 s keys
bare (instr.Try slot l) = instr.Try slot 0
bare (instr.Catch slot l) = instr.Catch slot 0
bare i = i

-- a label, and none where 0 says that a failure raises
abbrev pub jump_unless_0 : ℕ → List ℕ
jump_unless_0 zero = []
jump_unless_0 (suc n) = suc n ∷ []

-- the labels to which an instruction may jump, in order; those of `try` and `catch` too
abbrev pub labels : Instr → List ℕ
labels (instr.Test l t) = l ∷ []
labels (instr.Jump l) = l ∷ []
labels (instr.SelectVal s l cases) = l ∷ map (λ c. c.1) cases
labels (instr.SelectTupleArity s l cases) = l ∷ map (λ c. c.1) cases
labels (instr.Bif name l parts r) = jump_unless_0 l
labels (instr.GcBif name l live parts r) = jump_unless_0 l
labels (instr.PutMapAssoc l s r live pairs) = jump_unless_0 l
labels (instr.PutMapExact l s r live pairs) = jump_unless_0 l
labels (instr.GetMapElements l s keys) = l ∷ []
labels (instr.Try slot l) = l ∷ []
labels (instr.Catch slot l) = l ∷ []
labels i = []

-- the function that an instruction calls, or makes a closure of: near by the label of its entry, far by its triple
pub data Callee : Type 0 where
  Near : ℕ → Callee
  Far : Origin → Callee
  NoCallee : Callee

abbrev pub callee : Instr → Callee
callee (instr.Call n l) = Near l
callee (instr.CallLast n l d) = Near l
callee (instr.CallOnly n l) = Near l
callee (instr.MakeFun3 l r captured) = Near l
callee (instr.CallExt f) = Far f
callee (instr.CallExtLast f d) = Far f
callee (instr.CallExtOnly f) = Far f
callee i = NoCallee

-- a callee with its label changed
abbrev pub move_callee : (ℕ → ℕ) → Callee → Callee
move_callee f (Near l) = Near (f l)
move_callee f (Far g) = Far g
move_callee f NoCallee = NoCallee

-- the label of a near callee, and the triple of a far one
abbrev pub near_label : Callee → Option ℕ
near_label (Near l) = Some l
near_label (Far f) = None
near_label NoCallee = None

abbrev pub far_function : Callee → Option Origin
far_function (Near l) = None
far_function (Far f) = Some f
far_function NoCallee = None

-- the term of a literal
abbrev pub literal_in : Source → List Term
literal_in (source.Literal t) = t ∷ []
literal_in s = []

abbrev pub literals_in : List Source → List Term
literals_in = flat_map literal_in

-- those of a test
abbrev pub test_literals : Test → List Term
test_literals (test.Type which s) = literal_in s
test_literals (test.Function2 s arity) = literals_in (s ∷ arity ∷ [])
test_literals (test.Arity s n) = literal_in s
test_literals (test.TaggedTuple s n tag) = literals_in (s ∷ tag ∷ [])
test_literals (test.Compare which a b) = literals_in (a ∷ b ∷ [])
test_literals (test.HasMapFields s keys) = literals_in (s ∷ keys)

-- the terms of the literals of an instruction, in order
abbrev pub literals : Instr → List Term
literals (instr.Move s r) = literal_in s
literals (instr.CallFun2 n s) = literal_in s
literals (instr.Test l t) = test_literals t
literals (instr.SelectVal s l cases) = literals_in (s ∷ map (λ c. c.0) cases)
literals (instr.SelectTupleArity s l cases) = literal_in s
literals (instr.GetList s head tail) = literal_in s
literals (instr.GetHd s r) = literal_in s
literals (instr.GetTl s r) = literal_in s
literals (instr.GetTupleElement s n r) = literal_in s
literals (instr.PutList head tail r) = literals_in (head ∷ tail ∷ [])
literals (instr.PutTuple2 r parts) = literals_in parts
literals (instr.MakeFun3 l r captured) = literals_in captured
literals (instr.Bif name l parts r) = literals_in parts
literals (instr.GcBif name l live parts r) = literals_in parts
literals (instr.PutMapAssoc l s r live pairs) = literal_in s ++ flat_map (λ p. literals_in (p.0 ∷ p.1 ∷ [])) pairs
literals (instr.PutMapExact l s r live pairs) = literal_in s ++ flat_map (λ p. literals_in (p.0 ∷ p.1 ∷ [])) pairs
literals (instr.GetMapElements l s keys) = literal_in s ++ flat_map (λ k. literal_in k.0) keys
literals (instr.Badmatch s) = literal_in s
literals (instr.CaseEnd s) = literal_in s
literals (instr.TryCaseEnd s) = literal_in s
literals (instr.BifRaise trace reason r) = literals_in (trace ∷ reason ∷ [])
literals i = []
