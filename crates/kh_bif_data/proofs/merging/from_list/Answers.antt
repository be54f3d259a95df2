use Rattle.std.proofs.Common.{◌≡◌, length, ap, sym, subst, ◌∙◌, arith}
use Rattle.std.proofs.lemmas.List.{length-map}
use Rattle.std.specs.Prelude.{Some, None}
use Rattle.kh_term.specs.declared.tree.TermTree.TheVariants as tree
use Rattle.kh_term.specs.MapOf.{map_of}
use Rattle.kh_heap.specs.Heap.{term_at, terms_at, HoldsAll}
use Rattle.kh_bif_base.specs.Answer.{Value, badarg}
use Rattle.kh_bif_data.specs.Asked.{of_some}
use Rattle.kh_bif_data.specs.Lists.{proper}
use Rattle.kh_bif_data.specs.Maps.{all_pairs, from_list}
use Rattle.kh_bif_data.proofs.Answering.{GrewBy-more, same_answer}
use Rattle.kh_bif_data.proofs.Asking.{proper_are, proper_answer, improper_answer}
use Rattle.kh_bif_data.proofs.merging.from_list.Goals as goal

pub from_tuples-requires-clause-held : goal.from_tuples-requires-clause-held
from_tuples-requires-clause-held c =
    let heap = c.args.heap.now in
    let held : HoldsAll heap c.in-Ok-Some.items.items = rw c.in-Ok-Some.field-0-is at c.in-Ok-Some.ensures.held in
    subst (λ rs. HoldsAll heap rs) (sym c.as_slice.ensures.value) held

pub from_tuples-requires-clause-room : goal.from_tuples-requires-clause-room
from_tuples-requires-clause-room c =
    let heap = c.args.heap.now in
    let t = term_at heap c.args.a in
    let items = c.in-Ok-Some.items.items in
    let found : Some (terms_at heap items) ≡ proper t = rw c.in-Ok-Some.field-0-is at c.in-Ok-Some.ensures.terms in
    omega (arith, c.requires.room, ap length c.as_slice.ensures.value, length-map items (term_at heap), ap length (proper_are t (terms_at heap items) found))

pub returns-in-Ok-Some : goal.returns-in-Ok-Some
returns-in-Ok-Some c =
    let heap = c.args.heap.now in
    let t = term_at heap c.args.a in
    let items = c.in-Ok-Some.items.items in
    let found : Some (terms_at heap items) ≡ proper t = rw c.in-Ok-Some.field-0-is at c.in-Ok-Some.ensures.terms in
    let long = ap length (proper_are t (terms_at heap items) found) in
    record {
      answer =
          same_answer c.from_tuples.new.heap c.from_tuples.result _ (from_list t)
          (ap (λ rs. of_some (all_pairs (terms_at heap rs)) badarg (λ ps. Value (tree.Map (map_of ps)))) c.as_slice.ensures.value
          ∙ proper_answer t (λ ts. of_some (all_pairs ts) badarg (λ ps. Value (tree.Map (map_of ps)))) (terms_at heap items) found) c.from_tuples.ensures.answer;
      grew = GrewBy-more _ _ heap c.from_tuples.new.heap (omega (arith, ap length c.as_slice.ensures.value, length-map items (term_at heap), long)) c.from_tuples.ensures.grew;
    }

pub returns-in-Ok-None-clause-answer : goal.returns-in-Ok-None-clause-answer
returns-in-Ok-None-clause-answer c =
    let heap = c.args.heap.now in
    let t = term_at heap c.args.a in
    let found : None ≡ proper t = rw c.in-Ok-None.field-0-is at c.in-Ok-None.ensures.terms in
    same_answer c.raise.new.heap c.raise.result badarg (from_list t) (improper_answer t (λ ts. of_some (all_pairs ts) badarg (λ ps. Value (tree.Map (map_of ps)))) found) c.raise.ensures.answer
