use Rattle.std.proofs.Common.{rules, [], ◌∷◌, ◌++◌, length, SFits}
use Rattle.std.specs.Int.{to_be_bytes, w32, w128}
use Rattle.kh_term.specs.declared.tree.TermTree.TheViews.{the_lemmas}
use Rattle.kh_term.specs.Packed.{packed_of, all_packed_of, pairs_packed_of, short_text}
use Rattle.kh_term.proofs.InTurn.{joined, closed}
use Rattle.kh_pack.proofs.Parts.{count-Tuple, count-Map, count-Closure, parts-List, tail-List, parts-Tuple, pairs-Map, parts-Closure, one_part, one_pair, spelled-Int, spelled-Atom, spelled-Bin, spelled-List, spelled-Tuple, spelled-Map, spelled-Closure}
use Rattle.kh_pack.proofs.node.+node.Goals as goal

-- ---- what the calls ask

pub push_node-push_parts-requires : goal.push_node-push_parts-requires
push_node-push_parts-requires t c =
    (search (rules, the_lemmas), parts-List _ _ _ _ c.in-List.is c.as_slice-in-List.ensures c.requires.fits c.requires.narrow)

pub push_node-push_node-requires : goal.push_node-push_node-requires
push_node-push_node-requires t c =
    (search (rules, the_lemmas), tail-List _ _ _ _ c.in-List.is c.get.ensures c.requires.fits c.requires.narrow)

pub push_node-push_head-requires-in-Tuple : goal.push_node-push_head-requires-in-Tuple
push_node-push_head-requires-in-Tuple t c = count-Tuple _ _ _ c.in-Tuple.is c.len-in-Tuple.ensures c.requires.narrow

pub push_node-push_parts-requires-in-Tuple : goal.push_node-push_parts-requires-in-Tuple
push_node-push_parts-requires-in-Tuple t c =
    (search (rules, the_lemmas), parts-Tuple _ _ _ c.in-Tuple.is c.as_slice-in-Tuple.ensures c.requires.fits c.requires.narrow)

pub push_node-push_head-requires-in-Map : goal.push_node-push_head-requires-in-Map
push_node-push_head-requires-in-Map t c = count-Map _ _ _ c.in-Map.is c.len-in-Map.ensures c.requires.narrow

pub push_node-push_pairs-requires : goal.push_node-push_pairs-requires
push_node-push_pairs-requires t c =
    (search (rules, the_lemmas), pairs-Map _ _ _ c.in-Map.is c.as_slice-in-Map.ensures c.requires.fits c.requires.narrow)

pub push_node-push_origin-requires : goal.push_node-push_origin-requires
push_node-push_origin-requires t c = count-Closure _ _ _ _ c.in-Closure.is c.len-in-Closure.ensures c.requires.fits

pub push_node-push_parts-requires-in-Closure : goal.push_node-push_parts-requires-in-Closure
push_node-push_parts-requires-in-Closure t c =
    (search (rules, the_lemmas), parts-Closure _ _ _ _ c.in-Closure.is c.as_slice-in-Closure.ensures c.requires.fits c.requires.narrow)

pub push_parts-push_node-requires : goal.push_parts-push_node-requires
push_parts-push_node-requires t c =
    (search (rules, the_lemmas), one_part _ _ _ c.loop-part-test.true c.part-item.is c.requires.fit c.requires.narrow)

pub push_pairs-push_node-requires : goal.push_pairs-push_node-requires
push_pairs-push_node-requires t c =
    (search (rules, the_lemmas), (one_pair _ _ _ c.loop-pair-test.true c.pair-item.is c.requires.fit c.requires.narrow).0)

pub push_pairs-push_node-requires-in-loop-pair : goal.push_pairs-push_node-requires-in-loop-pair
push_pairs-push_node-requires-in-loop-pair t c =
    (search (rules, the_lemmas), (one_pair _ _ _ c.loop-pair-test.true c.pair-item.is c.requires.fit c.requires.narrow).1)

-- ---- what was written

pub push_node-returns-in_ok-push_byte-in-Int : goal.push_node-returns-in_ok-push_byte-in-Int
push_node-returns-in_ok-push_byte-in-Int t c =
    let fits : SFits w128 c.in-Int.number = search rules in
    closed c.push_integer.result c.args.out.now.items c.push_byte.new.out.items c.push_integer.new.out.items (1 ∷ []) _ _
    (spelled-Int _ _ c.in-Int.is fits) c.in_ok-push_byte-in-Int.ensures c.push_integer.ensures

pub push_node-returns-in_ok-push_byte-in-Atom : goal.push_node-returns-in_ok-push_byte-in-Atom
push_node-returns-in_ok-push_byte-in-Atom t c =
    closed c.push_short.result c.args.out.now.items c.push_byte-in-Atom.new.out.items c.push_short.new.out.items (2 ∷ []) (short_text c.as_slice.result.now) _
    (spelled-Atom _ _ _ c.in-Atom.is c.as_slice.ensures.text) c.in_ok-push_byte-in-Atom.ensures c.push_short.ensures

pub push_node-returns-in_ok-push_head-in-Bin : goal.push_node-returns-in_ok-push_head-in-Bin
push_node-returns-in_ok-push_head-in-Bin t c =
    closed c.push_bytes.result c.args.out.now.items c.push_head.new.out.items c.push_bytes.new.out.items
    (3 ∷ to_be_bytes w32 (length c.as_slice-in-Bin.result.now)) c.as_slice-in-Bin-2.result.now _
    (spelled-Bin _ _ _ _ c.in-Bin.is c.as_slice-in-Bin.ensures.bytes c.as_slice-in-Bin-2.ensures.bytes) c.in_ok-push_head-in-Bin.ensures c.push_bytes.ensures

pub push_node-returns-in_ok-push_parts-in-List : goal.push_node-returns-in_ok-push_parts-in-List
push_node-returns-in_ok-push_parts-in-List t c =
    let start = c.args.out.now.items in
    let head = 5 ∷ to_be_bytes w32 c.len.result in
    let parts = all_packed_of c.as_slice-in-List.result.now in
    let begun = joined start c.push_head-in-List.new.out.items c.push_parts.new.out.items head parts c.in_ok-push_head-in-List.ensures c.in_ok-push_parts-in-List.ensures in
    closed c.push_node.result start c.push_parts.new.out.items c.push_node.new.out.items (head ++ parts) (packed_of c.get.result.now) _
    (spelled-List _ _ _ _ _ _ c.in-List.is c.len.ensures c.as_slice-in-List.ensures c.get.ensures) begun c.push_node.ensures

pub push_node-returns-in_ok-push_head-in-Tuple : goal.push_node-returns-in_ok-push_head-in-Tuple
push_node-returns-in_ok-push_head-in-Tuple t c =
    closed c.push_parts-in-Tuple.result c.args.out.now.items c.push_head-in-Tuple.new.out.items c.push_parts-in-Tuple.new.out.items
    (6 ∷ to_be_bytes w32 c.len-in-Tuple.result) (all_packed_of c.as_slice-in-Tuple.result.now) _
    (spelled-Tuple _ _ _ _ c.in-Tuple.is c.len-in-Tuple.ensures c.as_slice-in-Tuple.ensures) c.in_ok-push_head-in-Tuple.ensures c.push_parts-in-Tuple.ensures

pub push_node-returns-in_ok-push_head-in-Map : goal.push_node-returns-in_ok-push_head-in-Map
push_node-returns-in_ok-push_head-in-Map t c =
    closed c.push_pairs.result c.args.out.now.items c.push_head-in-Map.new.out.items c.push_pairs.new.out.items
    (7 ∷ to_be_bytes w32 c.len-in-Map.result) (pairs_packed_of c.as_slice-in-Map.result.now) _
    (spelled-Map _ _ _ _ c.in-Map.is c.len-in-Map.ensures c.as_slice-in-Map.ensures) c.in_ok-push_head-in-Map.ensures c.push_pairs.ensures

pub push_node-returns-in_ok-push_origin-in-Closure : goal.push_node-returns-in_ok-push_origin-in-Closure
push_node-returns-in_ok-push_origin-in-Closure t c =
    let origin = c.in-Closure.origin in
    closed c.push_parts-in-Closure.result c.args.out.now.items c.push_origin.new.out.items c.push_parts-in-Closure.new.out.items
    (8 ∷ (short_text origin.module ++ (short_text origin.name ++ (origin.arity ∷ c.len-in-Closure.result ∷ [])))) (all_packed_of c.as_slice-in-Closure.result.now) _
    (spelled-Closure _ _ _ _ _ c.in-Closure.is c.len-in-Closure.ensures c.as_slice-in-Closure.ensures) c.in_ok-push_origin-in-Closure.ensures c.push_parts-in-Closure.ensures
