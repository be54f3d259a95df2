use Rattle.std.proofs.Common.{refl, arith}
use Rattle.kh_term.specs.Size.{size_of}
use Rattle.kh_heap.specs.Heap.{term_at}
use Rattle.kh_bif_base.specs.Answer.{Raise}
use Rattle.kh_bif_data.specs.declared.operation.Operation.TheVariants as operation
use Rattle.kh_bif_data.specs.Answer.{done}
use Rattle.kh_bif_data.proofs.Answering.{GrewBy-more, GrewBy-refl}
use Rattle.kh_bif_data.proofs.Calls.{done_by, cost_is, counted_within}
use Rattle.kh_bif_data.proofs.calling.apply.Goals as goal

pub returns-in-Get : goal.returns-in-Get
returns-in-Get c =
    let heap = c.args.heap.now in
    let a = term_at heap c.args.a in
    let b = term_at heap c.args.b in
    let x = term_at heap c.args.c in
    record {
      answer = done_by c.args.operation operation.Get a b x c.in-Get.is c.get.new.heap c.get.result (done operation.Get a b x) refl c.get.ensures.answer;
      grew = GrewBy-more _ _ heap c.get.new.heap (omega (arith, cost_is c.args.operation operation.Get (term_at heap c.args.a) (term_at heap c.args.b) (term_at heap c.args.c) c.in-Get.is)) c.get.ensures.grew;
    }

pub returns-in-IsKey : goal.returns-in-IsKey
returns-in-IsKey c =
    let heap = c.args.heap.now in
    let a = term_at heap c.args.a in
    let b = term_at heap c.args.b in
    let x = term_at heap c.args.c in
    record {
      answer = done_by c.args.operation operation.IsKey a b x c.in-IsKey.is c.is_key.new.heap c.is_key.result (done operation.IsKey a b x) refl c.is_key.ensures.answer;
      grew = GrewBy-more _ _ heap c.is_key.new.heap (omega (arith, cost_is c.args.operation operation.IsKey (term_at heap c.args.a) (term_at heap c.args.b) (term_at heap c.args.c) c.in-IsKey.is)) c.is_key.ensures.grew;
    }

pub returns-in-Find : goal.returns-in-Find
returns-in-Find c =
    let heap = c.args.heap.now in
    let a = term_at heap c.args.a in
    let b = term_at heap c.args.b in
    let x = term_at heap c.args.c in
    record {
      answer = done_by c.args.operation operation.Find a b x c.in-Find.is c.find.new.heap c.find.result (done operation.Find a b x) refl c.find.ensures.answer;
      grew = GrewBy-more _ _ heap c.find.new.heap (omega (arith, cost_is c.args.operation operation.Find (term_at heap c.args.a) (term_at heap c.args.b) (term_at heap c.args.c) c.in-Find.is)) c.find.ensures.grew;
    }

pub put-requires-clause-room : goal.put-requires-clause-room
put-requires-clause-room c =
    let heap = c.args.heap.now in
    omega (arith, c.requires.room, cost_is c.args.operation operation.Put (term_at heap c.args.a) (term_at heap c.args.b) (term_at heap c.args.c) c.in-Put.is, counted_within (term_at heap c.args.c) (size_of (term_at heap c.args.a)))

pub returns-in-Put : goal.returns-in-Put
returns-in-Put c =
    let heap = c.args.heap.now in
    let a = term_at heap c.args.a in
    let b = term_at heap c.args.b in
    let x = term_at heap c.args.c in
    record {
      answer = done_by c.args.operation operation.Put a b x c.in-Put.is c.put.new.heap c.put.result (done operation.Put a b x) refl c.put.ensures.answer;
      grew = GrewBy-more _ _ heap c.put.new.heap (omega (arith, cost_is c.args.operation operation.Put (term_at heap c.args.a) (term_at heap c.args.b) (term_at heap c.args.c) c.in-Put.is, counted_within (term_at heap c.args.c) (size_of (term_at heap c.args.a)))) c.put.ensures.grew;
    }

pub remove-requires-clause-room : goal.remove-requires-clause-room
remove-requires-clause-room c =
    let heap = c.args.heap.now in
    omega (arith, c.requires.room, cost_is c.args.operation operation.Remove (term_at heap c.args.a) (term_at heap c.args.b) (term_at heap c.args.c) c.in-Remove.is, counted_within (term_at heap c.args.c) (size_of (term_at heap c.args.a)))

pub returns-in-Remove : goal.returns-in-Remove
returns-in-Remove c =
    let heap = c.args.heap.now in
    let a = term_at heap c.args.a in
    let b = term_at heap c.args.b in
    let x = term_at heap c.args.c in
    record {
      answer = done_by c.args.operation operation.Remove a b x c.in-Remove.is c.remove.new.heap c.remove.result (done operation.Remove a b x) refl c.remove.ensures.answer;
      grew = GrewBy-more _ _ heap c.remove.new.heap (omega (arith, cost_is c.args.operation operation.Remove (term_at heap c.args.a) (term_at heap c.args.b) (term_at heap c.args.c) c.in-Remove.is, counted_within (term_at heap c.args.c) (size_of (term_at heap c.args.a)))) c.remove.ensures.grew;
    }

pub keys-requires-clause-room : goal.keys-requires-clause-room
keys-requires-clause-room c =
    let heap = c.args.heap.now in
    omega (arith, c.requires.room, cost_is c.args.operation operation.Keys (term_at heap c.args.a) (term_at heap c.args.b) (term_at heap c.args.c) c.in-Keys.is)

pub returns-in-Keys : goal.returns-in-Keys
returns-in-Keys c =
    let heap = c.args.heap.now in
    let a = term_at heap c.args.a in
    let b = term_at heap c.args.b in
    let x = term_at heap c.args.c in
    record {
      answer = done_by c.args.operation operation.Keys a b x c.in-Keys.is c.keys.new.heap c.keys.result (done operation.Keys a b x) refl c.keys.ensures.answer;
      grew = GrewBy-more _ _ heap c.keys.new.heap (omega (arith, cost_is c.args.operation operation.Keys (term_at heap c.args.a) (term_at heap c.args.b) (term_at heap c.args.c) c.in-Keys.is)) c.keys.ensures.grew;
    }

pub values-requires-clause-room : goal.values-requires-clause-room
values-requires-clause-room c =
    let heap = c.args.heap.now in
    omega (arith, c.requires.room, cost_is c.args.operation operation.Values (term_at heap c.args.a) (term_at heap c.args.b) (term_at heap c.args.c) c.in-Values.is)

pub returns-in-Values : goal.returns-in-Values
returns-in-Values c =
    let heap = c.args.heap.now in
    let a = term_at heap c.args.a in
    let b = term_at heap c.args.b in
    let x = term_at heap c.args.c in
    record {
      answer = done_by c.args.operation operation.Values a b x c.in-Values.is c.values.new.heap c.values.result (done operation.Values a b x) refl c.values.ensures.answer;
      grew = GrewBy-more _ _ heap c.values.new.heap (omega (arith, cost_is c.args.operation operation.Values (term_at heap c.args.a) (term_at heap c.args.b) (term_at heap c.args.c) c.in-Values.is)) c.values.ensures.grew;
    }

pub to_list-requires-clause-room : goal.to_list-requires-clause-room
to_list-requires-clause-room c =
    let heap = c.args.heap.now in
    omega (arith, c.requires.room, cost_is c.args.operation operation.Pairs (term_at heap c.args.a) (term_at heap c.args.b) (term_at heap c.args.c) c.in-Pairs.is)

pub returns-in-Pairs : goal.returns-in-Pairs
returns-in-Pairs c =
    let heap = c.args.heap.now in
    let a = term_at heap c.args.a in
    let b = term_at heap c.args.b in
    let x = term_at heap c.args.c in
    record {
      answer = done_by c.args.operation operation.Pairs a b x c.in-Pairs.is c.to_list.new.heap c.to_list.result (done operation.Pairs a b x) refl c.to_list.ensures.answer;
      grew = GrewBy-more _ _ heap c.to_list.new.heap (omega (arith, cost_is c.args.operation operation.Pairs (term_at heap c.args.a) (term_at heap c.args.b) (term_at heap c.args.c) c.in-Pairs.is)) c.to_list.ensures.grew;
    }

pub merge-requires-clause-room : goal.merge-requires-clause-room
merge-requires-clause-room c =
    let heap = c.args.heap.now in
    omega (arith, c.requires.room, cost_is c.args.operation operation.Merge (term_at heap c.args.a) (term_at heap c.args.b) (term_at heap c.args.c) c.in-Merge.is)

pub returns-in-Merge : goal.returns-in-Merge
returns-in-Merge c =
    let heap = c.args.heap.now in
    let a = term_at heap c.args.a in
    let b = term_at heap c.args.b in
    let x = term_at heap c.args.c in
    record {
      answer = done_by c.args.operation operation.Merge a b x c.in-Merge.is c.merge.new.heap c.merge.result (done operation.Merge a b x) refl c.merge.ensures.answer;
      grew = GrewBy-more _ _ heap c.merge.new.heap (omega (arith, cost_is c.args.operation operation.Merge (term_at heap c.args.a) (term_at heap c.args.b) (term_at heap c.args.c) c.in-Merge.is)) c.merge.ensures.grew;
    }

pub from_list-requires-clause-room : goal.from_list-requires-clause-room
from_list-requires-clause-room c =
    let heap = c.args.heap.now in
    omega (arith, c.requires.room, cost_is c.args.operation operation.FromList (term_at heap c.args.a) (term_at heap c.args.b) (term_at heap c.args.c) c.in-FromList.is)

pub returns-in-FromList : goal.returns-in-FromList
returns-in-FromList c =
    let heap = c.args.heap.now in
    let a = term_at heap c.args.a in
    let b = term_at heap c.args.b in
    let x = term_at heap c.args.c in
    record {
      answer = done_by c.args.operation operation.FromList a b x c.in-FromList.is c.from_list.new.heap c.from_list.result (done operation.FromList a b x) refl c.from_list.ensures.answer;
      grew = GrewBy-more _ _ heap c.from_list.new.heap (omega (arith, cost_is c.args.operation operation.FromList (term_at heap c.args.a) (term_at heap c.args.b) (term_at heap c.args.c) c.in-FromList.is)) c.from_list.ensures.grew;
    }

pub append-requires-clause-room : goal.append-requires-clause-room
append-requires-clause-room c =
    let heap = c.args.heap.now in
    omega (arith, c.requires.room, cost_is c.args.operation operation.Append (term_at heap c.args.a) (term_at heap c.args.b) (term_at heap c.args.c) c.in-Append.is)

pub returns-in-Append : goal.returns-in-Append
returns-in-Append c =
    let heap = c.args.heap.now in
    let a = term_at heap c.args.a in
    let b = term_at heap c.args.b in
    let x = term_at heap c.args.c in
    record {
      answer = done_by c.args.operation operation.Append a b x c.in-Append.is c.append.new.heap c.append.result (done operation.Append a b x) refl c.append.ensures.answer;
      grew = GrewBy-more _ _ heap c.append.new.heap (omega (arith, cost_is c.args.operation operation.Append (term_at heap c.args.a) (term_at heap c.args.b) (term_at heap c.args.c) c.in-Append.is)) c.append.ensures.grew;
    }

pub reverse-requires-clause-room : goal.reverse-requires-clause-room
reverse-requires-clause-room c =
    let heap = c.args.heap.now in
    omega (arith, c.requires.room, cost_is c.args.operation operation.Reverse (term_at heap c.args.a) (term_at heap c.args.b) (term_at heap c.args.c) c.in-Reverse.is)

pub returns-in-Reverse : goal.returns-in-Reverse
returns-in-Reverse c =
    let heap = c.args.heap.now in
    let a = term_at heap c.args.a in
    let b = term_at heap c.args.b in
    let x = term_at heap c.args.c in
    record {
      answer = done_by c.args.operation operation.Reverse a b x c.in-Reverse.is c.reverse.new.heap c.reverse.result (done operation.Reverse a b x) refl c.reverse.ensures.answer;
      grew = GrewBy-more _ _ heap c.reverse.new.heap (omega (arith, cost_is c.args.operation operation.Reverse (term_at heap c.args.a) (term_at heap c.args.b) (term_at heap c.args.c) c.in-Reverse.is)) c.reverse.ensures.grew;
    }

pub reverse_onto-requires-clause-room : goal.reverse_onto-requires-clause-room
reverse_onto-requires-clause-room c =
    let heap = c.args.heap.now in
    omega (arith, c.requires.room, cost_is c.args.operation operation.ReverseOnto (term_at heap c.args.a) (term_at heap c.args.b) (term_at heap c.args.c) c.in-ReverseOnto.is)

pub returns-in-ReverseOnto : goal.returns-in-ReverseOnto
returns-in-ReverseOnto c =
    let heap = c.args.heap.now in
    let a = term_at heap c.args.a in
    let b = term_at heap c.args.b in
    let x = term_at heap c.args.c in
    record {
      answer = done_by c.args.operation operation.ReverseOnto a b x c.in-ReverseOnto.is c.reverse_onto.new.heap c.reverse_onto.result (done operation.ReverseOnto a b x) refl c.reverse_onto.ensures.answer;
      grew = GrewBy-more _ _ heap c.reverse_onto.new.heap (omega (arith, cost_is c.args.operation operation.ReverseOnto (term_at heap c.args.a) (term_at heap c.args.b) (term_at heap c.args.c) c.in-ReverseOnto.is)) c.reverse_onto.ensures.grew;
    }

pub returns-in-Member : goal.returns-in-Member
returns-in-Member c =
    let heap = c.args.heap.now in
    let a = term_at heap c.args.a in
    let b = term_at heap c.args.b in
    let x = term_at heap c.args.c in
    record {
      answer = done_by c.args.operation operation.Member a b x c.in-Member.is c.member.new.heap c.member.result (done operation.Member a b x) refl c.member.ensures.answer;
      grew = GrewBy-more _ _ heap c.member.new.heap (omega (arith, cost_is c.args.operation operation.Member (term_at heap c.args.a) (term_at heap c.args.b) (term_at heap c.args.c) c.in-Member.is)) c.member.ensures.grew;
    }

pub returns-in-KeyFind : goal.returns-in-KeyFind
returns-in-KeyFind c =
    let heap = c.args.heap.now in
    let a = term_at heap c.args.a in
    let b = term_at heap c.args.b in
    let x = term_at heap c.args.c in
    record {
      answer = done_by c.args.operation operation.KeyFind a b x c.in-KeyFind.is c.keyfind.new.heap c.keyfind.result (done operation.KeyFind a b x) refl c.keyfind.ensures.answer;
      grew = GrewBy-more _ _ heap c.keyfind.new.heap (omega (arith, cost_is c.args.operation operation.KeyFind (term_at heap c.args.a) (term_at heap c.args.b) (term_at heap c.args.c) c.in-KeyFind.is)) c.keyfind.ensures.grew;
    }

pub set_element-requires-clause-room : goal.set_element-requires-clause-room
set_element-requires-clause-room c =
    let heap = c.args.heap.now in
    omega (arith, c.requires.room, cost_is c.args.operation operation.SetElement (term_at heap c.args.a) (term_at heap c.args.b) (term_at heap c.args.c) c.in-SetElement.is)

pub returns-in-SetElement : goal.returns-in-SetElement
returns-in-SetElement c =
    let heap = c.args.heap.now in
    let a = term_at heap c.args.a in
    let b = term_at heap c.args.b in
    let x = term_at heap c.args.c in
    record {
      answer = done_by c.args.operation operation.SetElement a b x c.in-SetElement.is c.set_element.new.heap c.set_element.result (done operation.SetElement a b x) refl c.set_element.ensures.answer;
      grew = GrewBy-more _ _ heap c.set_element.new.heap (omega (arith, cost_is c.args.operation operation.SetElement (term_at heap c.args.a) (term_at heap c.args.b) (term_at heap c.args.c) c.in-SetElement.is)) c.set_element.ensures.grew;
    }

pub tuple_to_list-requires-clause-room : goal.tuple_to_list-requires-clause-room
tuple_to_list-requires-clause-room c =
    let heap = c.args.heap.now in
    omega (arith, c.requires.room, cost_is c.args.operation operation.TupleToList (term_at heap c.args.a) (term_at heap c.args.b) (term_at heap c.args.c) c.in-TupleToList.is)

pub returns-in-TupleToList : goal.returns-in-TupleToList
returns-in-TupleToList c =
    let heap = c.args.heap.now in
    let a = term_at heap c.args.a in
    let b = term_at heap c.args.b in
    let x = term_at heap c.args.c in
    record {
      answer = done_by c.args.operation operation.TupleToList a b x c.in-TupleToList.is c.tuple_to_list.new.heap c.tuple_to_list.result (done operation.TupleToList a b x) refl c.tuple_to_list.ensures.answer;
      grew = GrewBy-more _ _ heap c.tuple_to_list.new.heap (omega (arith, cost_is c.args.operation operation.TupleToList (term_at heap c.args.a) (term_at heap c.args.b) (term_at heap c.args.c) c.in-TupleToList.is)) c.tuple_to_list.ensures.grew;
    }

pub list_to_tuple-requires-clause-room : goal.list_to_tuple-requires-clause-room
list_to_tuple-requires-clause-room c =
    let heap = c.args.heap.now in
    omega (arith, c.requires.room, cost_is c.args.operation operation.ListToTuple (term_at heap c.args.a) (term_at heap c.args.b) (term_at heap c.args.c) c.in-ListToTuple.is)

pub returns-in-ListToTuple : goal.returns-in-ListToTuple
returns-in-ListToTuple c =
    let heap = c.args.heap.now in
    let a = term_at heap c.args.a in
    let b = term_at heap c.args.b in
    let x = term_at heap c.args.c in
    record {
      answer = done_by c.args.operation operation.ListToTuple a b x c.in-ListToTuple.is c.list_to_tuple.new.heap c.list_to_tuple.result (done operation.ListToTuple a b x) refl c.list_to_tuple.ensures.answer;
      grew = GrewBy-more _ _ heap c.list_to_tuple.new.heap (omega (arith, cost_is c.args.operation operation.ListToTuple (term_at heap c.args.a) (term_at heap c.args.b) (term_at heap c.args.c) c.in-ListToTuple.is)) c.list_to_tuple.ensures.grew;
    }

pub atom_to_binary-requires-clause-room : goal.atom_to_binary-requires-clause-room
atom_to_binary-requires-clause-room c =
    let heap = c.args.heap.now in
    omega (arith, c.requires.room, cost_is c.args.operation operation.AtomToBinary (term_at heap c.args.a) (term_at heap c.args.b) (term_at heap c.args.c) c.in-AtomToBinary.is)

pub returns-in-AtomToBinary : goal.returns-in-AtomToBinary
returns-in-AtomToBinary c =
    let heap = c.args.heap.now in
    let a = term_at heap c.args.a in
    let b = term_at heap c.args.b in
    let x = term_at heap c.args.c in
    record {
      answer = done_by c.args.operation operation.AtomToBinary a b x c.in-AtomToBinary.is c.atom_to_binary.new.heap c.atom_to_binary.result (done operation.AtomToBinary a b x) refl c.atom_to_binary.ensures.answer;
      grew = GrewBy-more _ _ heap c.atom_to_binary.new.heap (omega (arith, cost_is c.args.operation operation.AtomToBinary (term_at heap c.args.a) (term_at heap c.args.b) (term_at heap c.args.c) c.in-AtomToBinary.is)) c.atom_to_binary.ensures.grew;
    }

pub returns-in-IntegerToBinary : goal.returns-in-IntegerToBinary
returns-in-IntegerToBinary c =
    let heap = c.args.heap.now in
    let a = term_at heap c.args.a in
    let b = term_at heap c.args.b in
    let x = term_at heap c.args.c in
    record {
      answer = done_by c.args.operation operation.IntegerToBinary a b x c.in-IntegerToBinary.is c.integer_to_binary.new.heap c.integer_to_binary.result (done operation.IntegerToBinary a b x) refl c.integer_to_binary.ensures.answer;
      grew = GrewBy-more _ _ heap c.integer_to_binary.new.heap (omega (arith, cost_is c.args.operation operation.IntegerToBinary (term_at heap c.args.a) (term_at heap c.args.b) (term_at heap c.args.c) c.in-IntegerToBinary.is)) c.integer_to_binary.ensures.grew;
    }

pub binary_to_list-requires-clause-room : goal.binary_to_list-requires-clause-room
binary_to_list-requires-clause-room c =
    let heap = c.args.heap.now in
    omega (arith, c.requires.room, cost_is c.args.operation operation.BinaryToList (term_at heap c.args.a) (term_at heap c.args.b) (term_at heap c.args.c) c.in-BinaryToList.is)

pub returns-in-BinaryToList : goal.returns-in-BinaryToList
returns-in-BinaryToList c =
    let heap = c.args.heap.now in
    let a = term_at heap c.args.a in
    let b = term_at heap c.args.b in
    let x = term_at heap c.args.c in
    record {
      answer = done_by c.args.operation operation.BinaryToList a b x c.in-BinaryToList.is c.binary_to_list.new.heap c.binary_to_list.result (done operation.BinaryToList a b x) refl c.binary_to_list.ensures.answer;
      grew = GrewBy-more _ _ heap c.binary_to_list.new.heap (omega (arith, cost_is c.args.operation operation.BinaryToList (term_at heap c.args.a) (term_at heap c.args.b) (term_at heap c.args.c) c.in-BinaryToList.is)) c.binary_to_list.ensures.grew;
    }

pub iolist_to_binary-requires-clause-room : goal.iolist_to_binary-requires-clause-room
iolist_to_binary-requires-clause-room c =
    let heap = c.args.heap.now in
    omega (arith, c.requires.room, cost_is c.args.operation operation.IolistToBinary (term_at heap c.args.a) (term_at heap c.args.b) (term_at heap c.args.c) c.in-IolistToBinary.is)

pub returns-in-IolistToBinary : goal.returns-in-IolistToBinary
returns-in-IolistToBinary c =
    let heap = c.args.heap.now in
    let a = term_at heap c.args.a in
    let b = term_at heap c.args.b in
    let x = term_at heap c.args.c in
    record {
      answer = done_by c.args.operation operation.IolistToBinary a b x c.in-IolistToBinary.is c.iolist_to_binary.new.heap c.iolist_to_binary.result (done operation.IolistToBinary a b x) refl c.iolist_to_binary.ensures.answer;
      grew = GrewBy-more _ _ heap c.iolist_to_binary.new.heap (omega (arith, cost_is c.args.operation operation.IolistToBinary (term_at heap c.args.a) (term_at heap c.args.b) (term_at heap c.args.c) c.in-IolistToBinary.is)) c.iolist_to_binary.ensures.grew;
    }

pub returns-in-BinaryToInteger : goal.returns-in-BinaryToInteger
returns-in-BinaryToInteger c =
    let heap = c.args.heap.now in
    let a = term_at heap c.args.a in
    let b = term_at heap c.args.b in
    let x = term_at heap c.args.c in
    record {
      answer = done_by c.args.operation operation.BinaryToInteger a b x c.in-BinaryToInteger.is c.binary_to_integer.new.heap c.binary_to_integer.result (done operation.BinaryToInteger a b x) refl c.binary_to_integer.ensures.answer;
      grew = GrewBy-more _ _ heap c.binary_to_integer.new.heap (omega (arith, cost_is c.args.operation operation.BinaryToInteger (term_at heap c.args.a) (term_at heap c.args.b) (term_at heap c.args.c) c.in-BinaryToInteger.is)) c.binary_to_integer.ensures.grew;
    }

pub returns-in-Raise : goal.returns-in-Raise
returns-in-Raise c =
    let heap = c.args.heap.now in
    let a = term_at heap c.args.a in
    record {
      answer = done_by c.args.operation (operation.Raise c.in-Raise.class) a (term_at heap c.args.b) (term_at heap c.args.c) c.in-Raise.is heap c.thrown.result (Raise c.in-Raise.class a) refl c.thrown.ensures;
      grew = GrewBy-refl _ heap;
    }
