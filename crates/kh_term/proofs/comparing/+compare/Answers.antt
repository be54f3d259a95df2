use Rattle.std.proofs.Common.{ap, sym, ◌∙◌, map}
use Rattle.std.specs.Ordering.{nat_cmp}
use Rattle.kh_term.specs.declared.tree.TermTree.{out-TermTree}
use Rattle.kh_term.specs.Order.{term_cmp, compared, compare_shared, compare_parts, rank_of}
use Rattle.kh_term.specs.Lemmas.Orders.{list_less, list_equal, list_greater, list_decided, two_closures, IsByKind, other-Int, other-Atom, other-Bin, other-List, other-Tuple, other-Map, other-Closure, other-Nil}
use Rattle.kh_term.proofs.comparing.+compare.Goals as goal
use Rattle.kh_term.proofs.comparing.+compare.Goals.{tree_cmp-in_default-via-in-Int+in_default, tree_cmp-in_default-via-in-Atom+in_default, tree_cmp-in_default-via-in-Bin+in_default, tree_cmp-in_default-via-in-Closure+in_default, tree_cmp-in_default-via-in-Tuple+in_default, tree_cmp-in_default-via-in-Map+in_default, tree_cmp-in_default-via-in-List+in_default, tree_cmp-in_default-via-in_default}

pub tree_cmp-returns-in-Less : goal.tree_cmp-returns-in-Less
tree_cmp-returns-in-Less t c =
    c.cmp-in-Less.ensures ∙ (ap (λ n. nat_cmp n 6) (c.rank.ensures ∙ ap (λ x. rank_of (out-TermTree x)) c.get.ensures)
    ∙ sym (list_less _ _ _ _ _ _ c.in-List-List.is-0 c.in-List-List.is-1
    (c.in-Equal-shared_cmp.ensures ∙ (λ i. compare_shared (map compared (c.as_slice-in-List-List.ensures i)) (c.as_slice-in-List-List-2.ensures i)))
    (c.in-Less.ensures ∙ (λ i. nat_cmp (c.len-in-Equal-shared_cmp.ensures i) (c.len-in-Equal-shared_cmp-2.ensures i)))))

pub tree_cmp-returns-in-Greater : goal.tree_cmp-returns-in-Greater
tree_cmp-returns-in-Greater t c =
    c.cmp-in-Greater.ensures ∙ (ap (λ n. nat_cmp 6 n) (c.rank-in-Greater.ensures ∙ ap (λ x. rank_of (out-TermTree x)) c.get-in-Greater.ensures)
    ∙ sym (list_greater _ _ _ _ _ _ c.in-List-List.is-0 c.in-List-List.is-1
    (c.in-Equal-shared_cmp.ensures ∙ (λ i. compare_shared (map compared (c.as_slice-in-List-List.ensures i)) (c.as_slice-in-List-List-2.ensures i)))
    (c.in-Greater.ensures ∙ (λ i. nat_cmp (c.len-in-Equal-shared_cmp.ensures i) (c.len-in-Equal-shared_cmp-2.ensures i)))))

pub tree_cmp-returns-in-Equal-cmp-3 : goal.tree_cmp-returns-in-Equal-cmp-3
tree_cmp-returns-in-Equal-cmp-3 t c =
    c.tree_cmp.ensures ∙ ((λ i. term_cmp (c.get-in-Equal-cmp-3.ensures i) (c.get-in-Equal-cmp-3-2.ensures i))
    ∙ sym (list_equal _ _ _ _ _ _ c.in-List-List.is-0 c.in-List-List.is-1
    (c.in-Equal-shared_cmp.ensures ∙ (λ i. compare_shared (map compared (c.as_slice-in-List-List.ensures i)) (c.as_slice-in-List-List-2.ensures i)))
    (c.in-Equal-cmp-3.ensures ∙ (λ i. nat_cmp (c.len-in-Equal-shared_cmp.ensures i) (c.len-in-Equal-shared_cmp-2.ensures i)))))

pub tree_cmp-returns-in_default-shared_cmp : goal.tree_cmp-returns-in_default-shared_cmp
tree_cmp-returns-in_default-shared_cmp t c =
    sym (list_decided _ _ _ _ _ _ _ c.in-List-List.is-0 c.in-List-List.is-1
    (c.shared_cmp.ensures ∙ (λ i. compare_shared (map compared (c.as_slice-in-List-List.ensures i)) (c.as_slice-in-List-List-2.ensures i)))
    c.in_default-shared_cmp.not-Equal)

pub tree_cmp-returns-in-Equal : goal.tree_cmp-returns-in-Equal
tree_cmp-returns-in-Equal t c =
    sym (two_closures _ _ _ _ _ _ _ c.in-Closure-Closure.is-0 c.in-Closure-Closure.is-1 (c.in-Equal.ensures)
    (c.parts_cmp.ensures ∙ (λ i. compare_parts (map compared (c.as_slice.ensures i)) (c.as_slice-in-Equal.ensures i))))

pub tree_cmp-returns-in_default : goal.tree_cmp-returns-in_default
tree_cmp-returns-in_default t c =
    let kinds : IsByKind c.args.a.now c.args.b.now =
    elim c.in_default.branch [
      | tree_cmp-in_default-via-in-Int+in_default w ↦ other-Int _ _ _ w.in_default.is-0 w.in_default.not-Int-1
      | tree_cmp-in_default-via-in-Atom+in_default w ↦ other-Atom _ _ _ w.in_default.is-0 w.in_default.not-Atom-1
      | tree_cmp-in_default-via-in-Bin+in_default w ↦ other-Bin _ _ _ w.in_default.is-0 w.in_default.not-Bin-1
      | tree_cmp-in_default-via-in-Closure+in_default w ↦ other-Closure _ _ _ _ w.in_default.is-0 w.in_default.not-Closure-1
      | tree_cmp-in_default-via-in-Tuple+in_default w ↦ other-Tuple _ _ _ w.in_default.is-0 w.in_default.not-Tuple-1
      | tree_cmp-in_default-via-in-Map+in_default w ↦ other-Map _ _ _ w.in_default.is-0 w.in_default.not-Map-1
      | tree_cmp-in_default-via-in-List+in_default w ↦ other-List _ _ _ _ w.in_default.is-0 w.in_default.not-List-1
      | tree_cmp-in_default-via-in_default w ↦ other-Nil _ _ w.in_default.is-0
    ] in
    c.cmp-in_default.ensures ∙ ((λ i. nat_cmp (c.rank-in_default.ensures i) (c.rank-in_default-2.ensures i)) ∙ sym kinds)
