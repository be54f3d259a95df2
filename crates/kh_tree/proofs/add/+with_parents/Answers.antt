use Rattle.std.proofs.Common.{◌≡◌, ◌+◌, ◌-◌, ◌<◌, ◌≤◌, length, take, Some, None, ap, sym, subst, ◌∙◌, arith}
use Rattle.std.proofs.lemmas.Result.{err_from_is_err_and}
use Rattle.std.specs.FinMap.{find, put}
use Rattle.kh_term.specs.Name.{path_cmp}
use Rattle.kh_tree.specs.declared.payload.Payload.TheVariants.{Empty}
use Rattle.kh_tree.specs.Entries.{IsMade, nodes_of, none_to_come}
use Rattle.kh_tree.specs.Nodes.{AreWithin, child_count, node_count, parent}
use Rattle.kh_tree.specs.Writes.{Refused, added, missing}
use Rattle.kh_tree.proofs.Fronts.{one_more_missing}
use Rattle.kh_tree.proofs.Paths.{length_parent}
use Rattle.kh_tree.proofs.Reading.{len_nodes}
use Rattle.kh_tree.proofs.Written.{children_found, few_children, has_names, made_above, made_new, node_missed, one_missing, refused_above, too_great, too_many, whatever}
use Rattle.kh_tree.proofs.add.+with_parents.Goals as goal
use Rattle.kh_tree.proofs.add.+with_parents.Goals.{then-nodes-gt-MOST_NODES-via-then-nodes-gt-MOST_NODES, then-nodes-gt-MOST_NODES-via-else-nodes-gt-MOST_NODES+then-entry-ge-MOST_VERSION}

pub overflow_sub-len : goal.overflow_sub-len
overflow_sub-len g t c = omega (arith, has_names c.args.map.now c.requires.kept c.args.path.now c.requires.missing, c.len.ensures.len)

pub overflow_add-nodes : goal.overflow_add-nodes
overflow_add-nodes g t c =
    let few = c.requires.kept.tree.within.few in
    let long = len_nodes c.args.map.now c.requires.kept.rises in
    omega (arith, few, long, c.requires.short, c.len-in-Some.ensures.entries)

pub returns-then-nodes-gt-MOST_NODES-clause-full :
    goal.returns-then-nodes-gt-MOST_NODES-clause-full
returns-then-nodes-gt-MOST_NODES-clause-full g t c =
    let es = c.args.map.now in
    let p = c.args.path.now in
    let above : c.in_ok-above.above ≡ parent p = c.in_ok-above.ensures ∙ ap (λ n. take (n - 1) p) c.len.ensures.len in
    let found : find path_cmp (parent p) es ≡ Some c.in-Some.entry.now = sym (c.in-Some.ensures.value ∙ ap (λ w. find path_cmp w es) above) in
    let count : c.len-in-Some.result + (c.args.to - c.len-in-Some-2.result) ≡ length es + (c.args.to - length p) =
    (λ i. c.len-in-Some.ensures.entries i + (c.args.to - c.len-in-Some-2.ensures.len i)) in
    elim c.then-nodes-gt-MOST_NODES.branch [
      | then-nodes-gt-MOST_NODES-via-then-nodes-gt-MOST_NODES w ↦ too_many es c.requires.kept p c.requires.missing c.args.to c.in-Some.entry.now found _ count (omega (arith, w.if-nodes-gt-MOST_NODES.true))
      | then-nodes-gt-MOST_NODES-via-else-nodes-gt-MOST_NODES+then-entry-ge-MOST_VERSION w ↦ too_great es c.requires.kept p c.requires.missing c.args.to c.in-Some.entry.now found (omega (arith, w.if-entry-ge-MOST_VERSION.true))
    ]

pub with_child-requires-clause-children : goal.with_child-requires-clause-children
with_child-requires-clause-children g t c =
    let es = c.args.map.now in
    let w = c.in_ok-above.above in
    let has = children_found es none_to_come c.requires.kept w c.in-Some.entry.now (sym c.in-Some.ensures.value) in
    let few = few_children es c.requires.kept.rises w in
    let nodes = c.requires.kept.tree.within.few in
    let long = len_nodes es c.requires.kept.rises in
    omega (arith, has, few, nodes, long)

pub returns-in_err-put-in-Some-clause-steps_err : goal.returns-in_err-put-in-Some-clause-steps_err
returns-in_err-put-in-Some-clause-steps_err g t c =
    let es = c.args.map.now in
    let p = c.args.path.now in
    let above : c.in_ok-above.above ≡ parent p = c.in_ok-above.ensures ∙ ap (λ n. take (n - 1) p) c.len.ensures.len in
    let found : find path_cmp (parent p) es ≡ Some c.in-Some.entry.now = sym (c.in-Some.ensures.value ∙ ap (λ w. find path_cmp w es) above) in
    let one = one_missing es c.requires.kept p c.requires.missing c.args.to c.in-Some.entry.now found in
    whatever c.from_residual-in_err-put-in-Some.result (omega (arith, c.in_err-put-in-Some.ensures.step, one))

pub with_parents-requires : goal.with_parents-requires
with_parents-requires g t c κs within =
    let p = c.args.path.now in
    let above : c.in_ok-above.above ≡ parent p = c.in_ok-above.ensures ∙ ap (λ n. take (n - 1) p) c.len.ensures.len in
    let long : length c.in_ok-above.above ≡ length p - 1 = ap length above ∙ length_parent p in
    let some = has_names c.args.map.now c.requires.kept p c.requires.missing in
    let fits : length c.in_ok-above.above ≤ c.args.to = omega (arith, long, c.requires.length) in
    (omega (arith, long, some), (within.0, (within.1, (c.requires.kept, (sym c.in-None.ensures.value, (fits, c.requires.short))))))

pub returns-in_err-map-in-None-clause-full : goal.returns-in_err-map-in-None-clause-full
returns-in_err-map-in-None-clause-full g t c =
    let es = c.args.map.now in
    let p = c.args.path.now in
    let above : c.in_ok-above.above ≡ parent p = c.in_ok-above.ensures ∙ ap (λ n. take (n - 1) p) c.len.ensures.len in
    let absent : find path_cmp (parent p) es ≡ None = sym (c.in-None.ensures.value ∙ ap (λ w. find path_cmp w es) above) in
    let e = c.in_err-map-in-None.field-0.0 in
    let given : Refused e (AreWithin (added (nodes_of es) (parent p) Empty) (node_count (nodes_of es) + missing (nodes_of es) (parent p) + (c.args.to - length (parent p)))) =
    subst (λ w. Refused e (AreWithin (added (nodes_of es) w Empty) (node_count (nodes_of es) + missing (nodes_of es) w + (c.args.to - length w)))) above c.in_err-map-in-None.ensures.full in
    let r = err_from_is_err_and c.from_residual-in_err-map-in-None.result c.from_residual-in_err-map-in-None.ensures.1 in
    rw (r.1, r.2) (refused_above es c.requires.kept p c.requires.missing c.args.to c.requires.length absent e given)

pub returns-in_err-map-in-None-clause-steps_err : goal.returns-in_err-map-in-None-clause-steps_err
returns-in_err-map-in-None-clause-steps_err g t c =
    let es = c.args.map.now in
    let p = c.args.path.now in
    let above : c.in_ok-above.above ≡ parent p = c.in_ok-above.ensures ∙ ap (λ n. take (n - 1) p) c.len.ensures.len in
    let same : missing (nodes_of es) c.in_ok-above.above ≡ missing (nodes_of es) (parent p) = ap (missing (nodes_of es)) above in
    let more = one_more_missing (nodes_of es) c.requires.kept.tree p (node_missed es none_to_come c.requires.kept p c.requires.missing) in
    whatever c.from_residual-in_err-map-in-None.result (omega (arith, c.in_err-map-in-None.ensures.steps_err, same, more))

pub returns-in_err-entry-in-None-clause-steps_err :
    goal.returns-in_err-entry-in-None-clause-steps_err
returns-in_err-entry-in-None-clause-steps_err g t c =
    let es = c.args.map.now in
    let p = c.args.path.now in
    let above : c.in_ok-above.above ≡ parent p = c.in_ok-above.ensures ∙ ap (λ n. take (n - 1) p) c.len.ensures.len in
    let same : missing (nodes_of es) c.in_ok-above.above ≡ missing (nodes_of es) (parent p) = ap (missing (nodes_of es)) above in
    let more = one_more_missing (nodes_of es) c.requires.kept.tree p (node_missed es none_to_come c.requires.kept p c.requires.missing) in
    whatever c.from_residual-in_err-entry-in-None.result (omega (arith, c.in_ok-map-in-None.ensures.steps_ok, same, more))

pub returns-in_err-put-in-None-clause-steps_err : goal.returns-in_err-put-in-None-clause-steps_err
returns-in_err-put-in-None-clause-steps_err g t c =
    let es = c.args.map.now in
    let p = c.args.path.now in
    let above : c.in_ok-above.above ≡ parent p = c.in_ok-above.ensures ∙ ap (λ n. take (n - 1) p) c.len.ensures.len in
    let same : missing (nodes_of es) c.in_ok-above.above ≡ missing (nodes_of es) (parent p) = ap (missing (nodes_of es)) above in
    let more = one_more_missing (nodes_of es) c.requires.kept.tree p (node_missed es none_to_come c.requires.kept p c.requires.missing) in
    whatever c.from_residual-in_err-put-in-None.result (omega (arith, c.in_ok-map-in-None.ensures.steps_ok, c.in_err-put-in-None.ensures.step, same, more))

pub returns-in_ok-put-in-Some-clause-made : goal.returns-in_ok-put-in-Some-clause-made
returns-in_ok-put-in-Some-clause-made g t c =
    let es = c.args.map.now in
    let p = c.args.path.now in
    let above : c.in_ok-above.above ≡ parent p = c.in_ok-above.ensures ∙ ap (λ n. take (n - 1) p) c.len.ensures.len in
    let found : find path_cmp (parent p) es ≡ Some c.in-Some.entry.now = sym (c.in-Some.ensures.value ∙ ap (λ w. find path_cmp w es) above) in
    subst (λ new. IsMade new es p c.args.to) (sym (c.in_ok-put-in-Some.ensures.put ∙ ap (λ w. put path_cmp w c.with_child.result es) above))
    (made_above es c.requires.kept p c.requires.missing c.args.to c.in-Some.entry.now found c.with_child.result c.with_child.ensures.node c.with_child.ensures.children
    (omega (arith, c.if-entry-ge-MOST_VERSION.false))
    (omega (arith, c.if-nodes-gt-MOST_NODES.false, c.len-in-Some.ensures.entries, c.len-in-Some-2.ensures.len)))

pub returns-in_ok-put-in-Some-clause-steps_ok : goal.returns-in_ok-put-in-Some-clause-steps_ok
returns-in_ok-put-in-Some-clause-steps_ok g t c =
    let es = c.args.map.now in
    let p = c.args.path.now in
    let above : c.in_ok-above.above ≡ parent p = c.in_ok-above.ensures ∙ ap (λ n. take (n - 1) p) c.len.ensures.len in
    let found : find path_cmp (parent p) es ≡ Some c.in-Some.entry.now = sym (c.in-Some.ensures.value ∙ ap (λ w. find path_cmp w es) above) in
    let one = one_missing es c.requires.kept p c.requires.missing c.args.to c.in-Some.entry.now found in
    omega (arith, c.in_ok-put-in-Some.ensures.step, one)

pub returns-in_ok-put-in-None-clause-made : goal.returns-in_ok-put-in-None-clause-made
returns-in_ok-put-in-None-clause-made g t c =
    let es = c.args.map.now in
    let p = c.args.path.now in
    let above : c.in_ok-above.above ≡ parent p = c.in_ok-above.ensures ∙ ap (λ n. take (n - 1) p) c.len.ensures.len in
    let absent : find path_cmp (parent p) es ≡ None = sym (c.in-None.ensures.value ∙ ap (λ w. find path_cmp w es) above) in
    let new = c.in_ok-map-in-None.map in
    let entry = c.in_ok-entry-in-None.entry in
    subst (λ made. IsMade made es p c.args.to) (sym (c.in_ok-put-in-None.ensures.put ∙ ap (λ w. put path_cmp w entry new) above))
    (made_new es c.requires.kept p c.requires.missing c.args.to c.requires.length absent new
    (subst (λ w. IsMade new es w c.args.to) above c.in_ok-map-in-None.ensures.made) entry c.in_ok-entry-in-None.ensures.node c.in_ok-entry-in-None.ensures.children)

pub returns-in_ok-put-in-None-clause-steps_ok : goal.returns-in_ok-put-in-None-clause-steps_ok
returns-in_ok-put-in-None-clause-steps_ok g t c =
    let es = c.args.map.now in
    let p = c.args.path.now in
    let above : c.in_ok-above.above ≡ parent p = c.in_ok-above.ensures ∙ ap (λ n. take (n - 1) p) c.len.ensures.len in
    let same : missing (nodes_of es) c.in_ok-above.above ≡ missing (nodes_of es) (parent p) = ap (missing (nodes_of es)) above in
    let more = one_more_missing (nodes_of es) c.requires.kept.tree p (node_missed es none_to_come c.requires.kept p c.requires.missing) in
    omega (arith, c.in_ok-map-in-None.ensures.steps_ok, c.in_ok-put-in-None.ensures.step, same, more)
