use Rattle.std.proofs.Common.{◌++◌, map, codes, ap, sym, ◌∙◌}
use Rattle.kh_text_defs.specs.Shown.{shown, with_commas}
use Rattle.kh_print.specs.Parts.{shown_origin, shown_pair, shown_tail_of, separator}
use Rattle.kh_term.proofs.InTurn.{joined, closed}
use Rattle.kh_print.proofs.Joined.{part_written, read_as}
use Rattle.kh_print.proofs.Layers.{shown-List, shown-Tuple, shown-Map, shown-Closure}
use Rattle.kh_print.proofs.node.+node.Goals as goal

pub push_node-returns-in_ok-push_parts-in-Tuple : goal.push_node-returns-in_ok-push_parts-in-Tuple
push_node-returns-in_ok-push_parts-in-Tuple t c =
    let start = c.args.out.now.items in
    let one = c.push_byte-in-Tuple.new.out.items in
    let two = c.push_parts-in-Tuple.new.out.items in
    let parts = with_commas (map shown c.in-Tuple.parts) in
    let inside = read_as (λ ts. with_commas (map shown ts)) one two _ c.in-Tuple.parts c.as_slice-in-Tuple.ensures c.in_ok-push_parts-in-Tuple.ensures in
    closed c.push_byte-in-Tuple-2.result start two c.push_byte-in-Tuple-2.new.out.items (codes "{" ++ parts) (codes "}") _
    (sym (ap shown c.in-Tuple.is ∙ shown-Tuple c.in-Tuple.parts))
    (joined start one two (codes "{") parts c.in_ok-push_byte-in-Tuple.ensures inside)
    c.push_byte-in-Tuple-2.ensures

pub push_node-returns-in_ok-push_pairs-in-Map : goal.push_node-returns-in_ok-push_pairs-in-Map
push_node-returns-in_ok-push_pairs-in-Map t c =
    let start = c.args.out.now.items in
    let one = c.push_bytes-in-Map.new.out.items in
    let two = c.push_pairs.new.out.items in
    let pairs = with_commas (map shown_pair c.in-Map.pairs) in
    let inside = read_as (λ ps. with_commas (map shown_pair ps)) one two _ c.in-Map.pairs c.as_slice-in-Map.ensures c.in_ok-push_pairs-in-Map.ensures in
    closed c.push_byte-in-Map.result start two c.push_byte-in-Map.new.out.items (codes "#{" ++ pairs) (codes "}") _
    (sym (ap shown c.in-Map.is ∙ shown-Map c.in-Map.pairs))
    (joined start one two (codes "#{") pairs c.in_ok-push_bytes-in-Map.ensures inside)
    c.push_byte-in-Map.ensures

pub push_node-returns-in_ok-push_tail-in-List : goal.push_node-returns-in_ok-push_tail-in-List
push_node-returns-in_ok-push_tail-in-List t c =
    let start = c.args.out.now.items in
    let one = c.push_byte.new.out.items in
    let two = c.push_parts.new.out.items in
    let three = c.push_tail.new.out.items in
    let parts = with_commas (map shown c.in-List.parts) in
    let tail = shown_tail_of c.in-List.tail in
    let inside = read_as (λ ts. with_commas (map shown ts)) one two _ c.in-List.parts c.as_slice-in-List.ensures c.in_ok-push_parts-in-List.ensures in
    let ended = read_as shown_tail_of two three _ c.in-List.tail c.get.ensures c.in_ok-push_tail-in-List.ensures in
    closed c.push_byte-in-List.result start three c.push_byte-in-List.new.out.items (codes "[" ++ parts ++ tail) (codes "]") _
    (sym (ap shown c.in-List.is ∙ shown-List c.in-List.parts c.in-List.tail))
    (joined start two three (codes "[" ++ parts) tail (joined start one two (codes "[") parts c.in_ok-push_byte-in-List.ensures inside) ended)
    c.push_byte-in-List.ensures

pub push_node-returns-in_ok-push_parts-in-Closure : goal.push_node-returns-in_ok-push_parts-in-Closure
push_node-returns-in_ok-push_parts-in-Closure t c =
    let start = c.args.out.now.items in
    let one = c.push_bytes-in-Closure.new.out.items in
    let two = c.push_origin.new.out.items in
    let three = c.push_byte-in-Closure.new.out.items in
    let four = c.push_parts-in-Closure.new.out.items in
    let origin = shown_origin c.in-Closure.origin in
    let env = with_commas (map shown c.in-Closure.env) in
    let inside = read_as (λ ts. with_commas (map shown ts)) three four _ c.in-Closure.env c.as_slice-in-Closure.ensures c.in_ok-push_parts-in-Closure.ensures in
    let begun = joined start one two (codes "#fun{") origin c.in_ok-push_bytes-in-Closure.ensures c.in_ok-push_origin-in-Closure.ensures in
    let opened = joined start two three (codes "#fun{" ++ origin) (codes "[") begun c.in_ok-push_byte-in-Closure.ensures in
    closed c.push_bytes-in-Closure-2.result start four c.push_bytes-in-Closure-2.new.out.items (codes "#fun{" ++ origin ++ codes "[" ++ env) (codes "]}") _
    (sym (ap shown c.in-Closure.is ∙ shown-Closure c.in-Closure.origin c.in-Closure.env))
    (joined start three four (codes "#fun{" ++ origin ++ codes "[") env opened inside)
    c.push_bytes-in-Closure-2.ensures

pub push_pairs-loop-pair-preserved : goal.push_pairs-loop-pair-preserved
push_pairs-loop-pair-preserved t c =
    let pair = c.pair-item.result in
    let before = c.loop-pair.out.items in
    let start = c.push_separator.new.out.items in
    let one = c.push_node.new.out.items in
    let two = c.push_bytes.new.out.items in
    let three = c.push_node-in-loop-pair.new.out.items in
    let key = joined start one two (shown pair.0) (codes " => ") c.in_ok-push_node.ensures c.in_ok-push_bytes.ensures in
    let written = joined start two three (shown pair.0 ++ codes " => ") (shown pair.1) key c.in_ok-push_node-2.ensures in
    part_written shown_pair c.args.pairs.now c.loop-pair.pair-index pair c.loop-pair.first before three _
    c.loop-pair-test.true c.loop-pair.invariant
    (written ∙ (ap (λ w. w ++ shown_pair pair) c.in_ok-push_separator.ensures
    ∙ ap (λ p. (before ++ separator c.loop-pair.first) ++ shown_pair p) c.pair-item.is))

pub push_parts-loop-part-preserved : goal.push_parts-loop-part-preserved
push_parts-loop-part-preserved t c =
    let part = c.part-item.result in
    let before = c.loop-part.out.items in
    part_written shown c.args.parts.now c.loop-part.part-index part c.loop-part.first before c.push_node.new.out.items _
    c.loop-part-test.true c.loop-part.invariant
    (c.in_ok-push_node.ensures ∙ (ap (λ w. w ++ shown part) c.in_ok-push_separator.ensures
    ∙ ap (λ p. (before ++ separator c.loop-part.first) ++ shown p) c.part-item.is))
