-- The built-ins of this crate: what each of them does, and to how many arguments.
use Rattle.std.specs.Prelude.{ℕ, Option, Some, None}
use Rattle.kh_term.specs.declared.kinds.Class.TheVariants as class
use Rattle.kh_instr.specs.declared.builtin.Builtin.{Builtin}
use Rattle.kh_instr.specs.declared.builtin.Builtin.TheVariants as builtin
use Rattle.kh_bif_data.specs.declared.operation.Operation.{Operation}
use Rattle.kh_bif_data.specs.declared.operation.Operation.TheVariants.{Get, IsKey, Find, Put, Remove, Keys, Values, Pairs, Merge, FromList, Append, Reverse, ReverseOnto, Member, KeyFind, SetElement, TupleToList, ListToTuple, AtomToBinary, IntegerToBinary, BinaryToList, IolistToBinary, BinaryToInteger, Raise}

-- what a built-in does, if it is one of this crate
abbrev pub operation_of : Builtin → Option Operation
operation_of builtin.MapGet = Some Get
operation_of builtin.MapsGet = Some Get
operation_of builtin.IsMapKey = Some IsKey
operation_of builtin.MapsIsKey = Some IsKey
operation_of builtin.MapsFind = Some Find
operation_of builtin.MapsPut = Some Put
operation_of builtin.MapsRemove = Some Remove
operation_of builtin.MapsKeys = Some Keys
operation_of builtin.MapsValues = Some Values
operation_of builtin.MapsToList = Some Pairs
operation_of builtin.MapsMerge = Some Merge
operation_of builtin.MapsFromList = Some FromList
operation_of builtin.Append = Some Append
operation_of builtin.ListsReverse = Some Reverse
operation_of builtin.ListsReverseOnto = Some ReverseOnto
operation_of builtin.ListsMember = Some Member
operation_of builtin.ListsKeyfind = Some KeyFind
operation_of builtin.Setelement = Some SetElement
operation_of builtin.TupleToList = Some TupleToList
operation_of builtin.ListToTuple = Some ListToTuple
operation_of builtin.AtomToBinary = Some AtomToBinary
operation_of builtin.IntegerToBinary = Some IntegerToBinary
operation_of builtin.BinaryToList = Some BinaryToList
operation_of builtin.IolistToBinary = Some IolistToBinary
operation_of builtin.BinaryToInteger = Some BinaryToInteger
operation_of builtin.Error = Some (Raise class.Error)
operation_of builtin.Exit = Some (Raise class.Exit)
operation_of builtin.Throw = Some (Raise class.Throw)
operation_of b = None

-- how many arguments it takes
abbrev pub arity_of : Operation → ℕ
arity_of Get = 2
arity_of IsKey = 2
arity_of Find = 2
arity_of Put = 3
arity_of Remove = 2
arity_of Keys = 1
arity_of Values = 1
arity_of Pairs = 1
arity_of Merge = 2
arity_of FromList = 1
arity_of Append = 2
arity_of Reverse = 1
arity_of ReverseOnto = 2
arity_of Member = 2
arity_of KeyFind = 3
arity_of SetElement = 3
arity_of TupleToList = 1
arity_of ListToTuple = 1
arity_of AtomToBinary = 1
arity_of IntegerToBinary = 1
arity_of BinaryToList = 1
arity_of IolistToBinary = 1
arity_of BinaryToInteger = 1
arity_of (Raise c) = 1
