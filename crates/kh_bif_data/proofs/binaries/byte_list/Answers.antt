use Rattle.std.proofs.Common.{◌≡◌, ◌+◌, ◌-◌, ◌*◌, ◌<◌, ◌≤◌, length, map, drop, get_or, refl, sym, ap, subst, ◌∙◌, pos, to_z, of_z, arith}
use Rattle.std.proofs.lemmas.List.{drop_more, length-drop}
use Rattle.std.specs.Int.{w128}
use Rattle.std.specs.Prelude.{slice_get}
use Rattle.std.proofs.lemmas.Int.{ints}
use Rattle.std.proofs.lemmas.Option.{get_or_from_slice_get}
use Rattle.kh_term.specs.declared.tree.TermTree.TheVariants as tree
use Rattle.kh_term.specs.Make.{list_of}
use Rattle.kh_heap.specs.Heap.{term_at, Holds, cons_tree}
use Rattle.kh_heap.specs.Parts.{bytes_in}
use Rattle.kh_heap.specs.View.{IsBin}
use Rattle.kh_heap.proofs.Growth.{Grew-trans, Holds-grew, term_at-grew}
use Rattle.kh_bif_data.specs.Binaries.{byte_tree}
use Rattle.kh_term.specs.Limits.{is_small}
use Rattle.kh_bif_data.proofs.Answering.{small-Nil, small_refused, limits_refused}
use Rattle.kh_bif_data.proofs.Costs.{list_small}
use Rattle.kh_bif_data.proofs.Conses.{cons-list_of}
use Rattle.kh_bif_data.proofs.binaries.byte_list.Goals as goal

pub byte-byte-requires-clause-held : goal.byte-byte-requires-clause-held
byte-byte-requires-clause-held c = Holds-grew c.args.heap.now c.loop-i.heap c.args.b c.loop-i.invariant.grew c.requires.held

pub byte-byte-requires-clause-binary : goal.byte-byte-requires-clause-binary
byte-byte-requires-clause-binary c =
    subst IsBin (sym (term_at-grew c.args.heap.now c.loop-i.heap c.args.b c.loop-i.invariant.grew c.requires.held)) c.requires.binary

pub byte-byte-requires-clause-within : goal.byte-byte-requires-clause-within
byte-byte-requires-clause-within c =
    let same = ap bytes_in (term_at-grew c.args.heap.now c.loop-i.heap c.args.b c.loop-i.invariant.grew c.requires.held) in
    omega (arith, c.loop-i-test.true, c.loop-i.invariant.within, c.requires.count, ap length same)

pub loop-i-preserved : goal.loop-i-preserved
loop-i-preserved c =
    let l = c.loop-i in
    let i = l.i - 1 in
    let old = c.args.heap.now in
    let bytes = bytes_in (term_at old c.args.b) in
    let b = c.byte-byte.result in
    let step : l.i ≡ i + 1 = omega (arith, c.loop-i-test.true) in
    let here : i < length bytes = omega (arith, c.loop-i-test.true, l.invariant.within, c.requires.count) in
    let same = ap bytes_in (term_at-grew old l.heap c.args.b l.invariant.grew c.requires.held) in
    let byte : get_or bytes i 0 ≡ b = get_or_from_slice_get bytes i b 0 (ap (λ bs. slice_get bs i) (sym same) ∙ c.byte-byte.ensures) in
    let made = c.in_ok-item.ensures in
    let tail : term_at c.int.new.self l.list ≡ list_of (map byte_tree (drop (i + 1) bytes)) =
    term_at-grew l.heap c.int.new.self l.list made.grew l.invariant.held ∙ l.invariant.term ∙ ap (λ n. list_of (map byte_tree (drop n bytes))) step
    in
    let z : to_z w128 (of_z w128 c.from.result) ≡ pos b = omega (arith, ints) in
    let head : term_at c.int.new.self c.in_ok-item.item ≡ byte_tree (get_or bytes i 0) = made.term.term ∙ ap tree.Int z ∙ ap byte_tree (sym byte) in
    record {
      within = omega (arith, l.invariant.within, c.loop-i-test.true);
      grew = Grew-trans old l.heap c.cons.new.self l.invariant.grew (Grew-trans l.heap c.int.new.self c.cons.new.self made.grew c.in_ok-list-2.ensures.grew);
      held = c.in_ok-list-2.ensures.term.held;
      term =
          c.in_ok-list-2.ensures.term.term ∙ (λ j. cons_tree (head j) (tail j)) ∙ cons-list_of (byte_tree (get_or bytes i 0)) (map byte_tree (drop (i + 1) bytes))
          ∙ ap (λ bs. list_of (map byte_tree bs)) (sym (drop_more bytes i 0 here));
      cells = omega (arith, c.loop-i-test.true, l.invariant.cells, made.cells, c.in_ok-list-2.ensures.cells);
    }

pub returns-in_err-list-clause-built : goal.returns-in_err-list-clause-built
returns-in_err-list-clause-built c =
    small_refused c.empty.new.heap c.empty.new.heap tree.Nil _ c.in_err-list.field-0.0 c.from_residual.result c.in_err-list.ensures.built small-Nil c.from_residual.ensures.1

pub returns-in_err-list-2-clause-built : goal.returns-in_err-list-2-clause-built
returns-in_err-list-2-clause-built c =
    let l = c.loop-i in
    let i = l.i - 1 in
    let old = c.args.heap.now in
    let bytes = bytes_in (term_at old c.args.b) in
    let b = c.byte-byte.result in
    let step : l.i ≡ i + 1 = omega (arith, c.loop-i-test.true) in
    let here : i < length bytes = omega (arith, c.loop-i-test.true, l.invariant.within, c.requires.count) in
    let same = ap bytes_in (term_at-grew old l.heap c.args.b l.invariant.grew c.requires.held) in
    let byte : get_or bytes i 0 ≡ b = get_or_from_slice_get bytes i b 0 (ap (λ bs. slice_get bs i) (sym same) ∙ c.byte-byte.ensures) in
    let made = c.in_ok-item.ensures in
    let tail : term_at c.int.new.self l.list ≡ list_of (map byte_tree (drop (i + 1) bytes)) =
    term_at-grew l.heap c.int.new.self l.list made.grew l.invariant.held ∙ l.invariant.term ∙ ap (λ n. list_of (map byte_tree (drop n bytes))) step
    in
    let z : to_z w128 (of_z w128 c.from.result) ≡ pos b = omega (arith, ints) in
    let head : term_at c.int.new.self c.in_ok-item.item ≡ byte_tree (get_or bytes i 0) = made.term.term ∙ ap tree.Int z ∙ ap byte_tree (sym byte) in
    let u = cons_tree (term_at c.int.new.self c.in_ok-item.item) (term_at c.int.new.self l.list) in
    let is : u ≡ list_of (map byte_tree (drop i bytes)) =
    (λ j. cons_tree (head j) (tail j)) ∙ cons-list_of (byte_tree (get_or bytes i 0)) (map byte_tree (drop (i + 1) bytes)) ∙ ap (λ bs. list_of (map byte_tree bs)) (sym (drop_more bytes i 0 here))
    in
    let few = ap is_small is ∙ list_small (drop i bytes) (omega (arith, c.requires.few, c.requires.count, length-drop i bytes)) in
    small_refused c.cons.new.self c.cons.new.self u _ c.in_err-list-2.field-0.0 c.from_residual-in_err-list-2.result (limits_refused c.cons.new.self u c.in_err-list-2.field-0.0 c.in_err-list-2.ensures.limits) few
    c.from_residual-in_err-list-2.ensures.1

pub returns-clause-built : goal.returns-clause-built
returns-clause-built c =
    let old = c.args.heap.now in
    let bytes = bytes_in (term_at old c.args.b) in
    let last : c.loop-i.i ≡ 0 = omega (arith, c.loop-i-test.false) in
    (record { held = c.loop-i.invariant.held; term = c.loop-i.invariant.term ∙ ap (λ n. list_of (map byte_tree (drop n bytes))) last }, list_small bytes (omega (arith, c.requires.few, c.requires.count)))
