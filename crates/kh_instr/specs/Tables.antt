-- The tables of built-ins and services.
use Rattle.std.specs.Prelude.{ℕ, Bool, ◌&&◌, nat_eq, List, [], ◌∷◌, codes, find, Option, option_map}
use Rattle.std.specs.Str.{bytes_eq}
use Rattle.kh_term.specs.declared.name.Origin.{Origin}
use Rattle.kh_instr.specs.declared.builtin.Builtin.{Builtin}
use Rattle.kh_instr.specs.declared.builtin.Builtin.TheVariants as builtin
use Rattle.kh_instr.specs.declared.builtin.Service.{Service}
use Rattle.kh_instr.specs.declared.builtin.Service.TheVariants as service
use Rattle.kh_instr.specs.declared.builtin.Row.{Row}

-- a function by its module, its name and its number of arguments
abbrev pub function_of : List ℕ → List ℕ → ℕ → Origin
function_of module_name name arity = record { «module» = module_name; name = name; arity = arity }

-- the functions of `erlang`, `maps`, `lists` and `khepri_tx`
abbrev pub erlang : List ℕ → ℕ → Origin
erlang = function_of (codes "erlang")

abbrev pub maps : List ℕ → ℕ → Origin
maps = function_of (codes "maps")

abbrev pub lists : List ℕ → ℕ → Origin
lists = function_of (codes "lists")

abbrev pub khepri_tx : List ℕ → ℕ → Origin
khepri_tx = function_of (codes "khepri_tx")

-- each built-in, and the function that it is
abbrev pub builtin_rows : List (Builtin × Origin)
builtin_rows =
    (builtin.Add, erlang (codes "+") 2) ∷
    (builtin.Subtract, erlang (codes "-") 2) ∷
    (builtin.Multiply, erlang (codes "*") 2) ∷
    (builtin.Div, erlang (codes "div") 2) ∷
    (builtin.Rem, erlang (codes "rem") 2) ∷
    (builtin.Band, erlang (codes "band") 2) ∷
    (builtin.Bor, erlang (codes "bor") 2) ∷
    (builtin.Bxor, erlang (codes "bxor") 2) ∷
    (builtin.Bsl, erlang (codes "bsl") 2) ∷
    (builtin.Bsr, erlang (codes "bsr") 2) ∷
    (builtin.Plus, erlang (codes "+") 1) ∷
    (builtin.Negate, erlang (codes "-") 1) ∷
    (builtin.Bnot, erlang (codes "bnot") 1) ∷
    (builtin.Abs, erlang (codes "abs") 1) ∷
    (builtin.EqExact, erlang (codes "=:=") 2) ∷
    (builtin.NeExact, erlang (codes "=/=") 2) ∷
    (builtin.Eq, erlang (codes "==") 2) ∷
    (builtin.Ne, erlang (codes "/=") 2) ∷
    (builtin.Lt, erlang (codes "<") 2) ∷
    (builtin.Gt, erlang (codes ">") 2) ∷
    (builtin.Le, erlang (codes "=<") 2) ∷
    (builtin.Ge, erlang (codes ">=") 2) ∷
    (builtin.Min, erlang (codes "min") 2) ∷
    (builtin.Max, erlang (codes "max") 2) ∷
    (builtin.And, erlang (codes "and") 2) ∷
    (builtin.Or, erlang (codes "or") 2) ∷
    (builtin.Xor, erlang (codes "xor") 2) ∷
    (builtin.Not, erlang (codes "not") 1) ∷
    (builtin.IsInteger, erlang (codes "is_integer") 1) ∷
    (builtin.IsNumber, erlang (codes "is_number") 1) ∷
    (builtin.IsAtom, erlang (codes "is_atom") 1) ∷
    (builtin.IsBoolean, erlang (codes "is_boolean") 1) ∷
    (builtin.IsList, erlang (codes "is_list") 1) ∷
    (builtin.IsBinary, erlang (codes "is_binary") 1) ∷
    (builtin.IsTuple, erlang (codes "is_tuple") 1) ∷
    (builtin.IsMap, erlang (codes "is_map") 1) ∷
    (builtin.IsFunction, erlang (codes "is_function") 1) ∷
    (builtin.IsFunction2, erlang (codes "is_function") 2) ∷
    (builtin.Hd, erlang (codes "hd") 1) ∷
    (builtin.Tl, erlang (codes "tl") 1) ∷
    (builtin.TupleSize, erlang (codes "tuple_size") 1) ∷
    (builtin.MapSize, erlang (codes "map_size") 1) ∷
    (builtin.ByteSize, erlang (codes "byte_size") 1) ∷
    (builtin.Element, erlang (codes "element") 2) ∷
    (builtin.Length, erlang (codes "length") 1) ∷
    (builtin.MapGet, erlang (codes "map_get") 2) ∷
    (builtin.MapsGet, maps (codes "get") 2) ∷
    (builtin.IsMapKey, erlang (codes "is_map_key") 2) ∷
    (builtin.MapsIsKey, maps (codes "is_key") 2) ∷
    (builtin.MapsFind, maps (codes "find") 2) ∷
    (builtin.MapsPut, maps (codes "put") 3) ∷
    (builtin.MapsRemove, maps (codes "remove") 2) ∷
    (builtin.MapsKeys, maps (codes "keys") 1) ∷
    (builtin.MapsValues, maps (codes "values") 1) ∷
    (builtin.MapsToList, maps (codes "to_list") 1) ∷
    (builtin.MapsMerge, maps (codes "merge") 2) ∷
    (builtin.MapsFromList, maps (codes "from_list") 1) ∷
    (builtin.Append, erlang (codes "++") 2) ∷
    (builtin.ListsReverse, lists (codes "reverse") 1) ∷
    (builtin.ListsReverseOnto, lists (codes "reverse") 2) ∷
    (builtin.ListsMember, lists (codes "member") 2) ∷
    (builtin.ListsKeyfind, lists (codes "keyfind") 3) ∷
    (builtin.Setelement, erlang (codes "setelement") 3) ∷
    (builtin.TupleToList, erlang (codes "tuple_to_list") 1) ∷
    (builtin.ListToTuple, erlang (codes "list_to_tuple") 1) ∷
    (builtin.AtomToBinary, erlang (codes "atom_to_binary") 1) ∷
    (builtin.IntegerToBinary, erlang (codes "integer_to_binary") 1) ∷
    (builtin.BinaryToList, erlang (codes "binary_to_list") 1) ∷
    (builtin.IolistToBinary, erlang (codes "iolist_to_binary") 1) ∷
    (builtin.BinaryToInteger, erlang (codes "binary_to_integer") 1) ∷
    (builtin.Error, erlang (codes "error") 1) ∷
    (builtin.Exit, erlang (codes "exit") 1) ∷
    (builtin.Throw, erlang (codes "throw") 1) ∷ []

-- each service, and the function that it is
abbrev pub service_rows : List (Service × Origin)
service_rows =
    (service.Get, khepri_tx (codes "get") 1) ∷
    (service.GetMany, khepri_tx (codes "get_many") 1) ∷
    (service.Exists, khepri_tx (codes "exists") 1) ∷
    (service.Count, khepri_tx (codes "count") 1) ∷
    (service.Put, khepri_tx (codes "put") 2) ∷
    (service.PutWith, khepri_tx (codes "put") 3) ∷
    (service.Create, khepri_tx (codes "create") 2) ∷
    (service.CreateWith, khepri_tx (codes "create") 3) ∷
    (service.Update, khepri_tx (codes "update") 2) ∷
    (service.UpdateWith, khepri_tx (codes "update") 3) ∷
    (service.CompareAndSwap, khepri_tx (codes "compare_and_swap") 3) ∷
    (service.CompareAndSwapWith, khepri_tx (codes "compare_and_swap") 4) ∷
    (service.PutMany, khepri_tx (codes "put_many") 2) ∷
    (service.PutManyWith, khepri_tx (codes "put_many") 3) ∷
    (service.Delete, khepri_tx (codes "delete") 1) ∷
    (service.DeleteMany, khepri_tx (codes "delete_many") 1) ∷
    (service.Abort, khepri_tx (codes "abort") 1) ∷
    (service.IsTransaction, khepri_tx (codes "is_transaction") 0) ∷ []

-- whether two functions have one module, one name and as many arguments
abbrev pub is_same_function : Origin → Origin → Bool
is_same_function f g =
    nat_eq f.arity g.arity && (bytes_eq f.«module» g.«module» && bytes_eq f.name g.name)

-- what a table says that a function is
abbrev pub item_named : {T : Type 0} → List (T × Origin) → Origin → Option T
item_named rows f = option_map (λ row. row.0) (find (λ row. is_same_function row.1 f) rows)

-- the built-in that a function is
abbrev pub builtin_named : Origin → Option Builtin
builtin_named = item_named builtin_rows

-- the service that a function is
abbrev pub service_named : Origin → Option Service
service_named = item_named service_rows

-- a row of the program's table, as it stands in these
abbrev pub seen_row : {T : Type 0} → Row T → T × Origin
seen_row row = (row.item, function_of row.«module».now row.name.now row.arity)
