-- A tuple with another element.
use Rattle.std.proofs.Common.{◌≡◌, ℕ, List, length, refl, sym, ap, ◌∙◌, ℤ}
use Rattle.std.specs.Prelude.{Option, Some, None, slice_set}
use Rattle.kh_term.specs.declared.tree.TermTree.{TermTree}
use Rattle.kh_term.specs.declared.tree.TermTree.TheVariants as tree
use Rattle.kh_heap.specs.declared.view.View.TheVariants as view
use Rattle.kh_heap.specs.Parts.{parts_in}
use Rattle.kh_heap.specs.View.{IsSeen}
use Rattle.kh_bif_base.specs.Answer.{Answer, Value, badarg}
use Rattle.kh_bif_base.specs.Integers.{integer_in}
use Rattle.kh_bif_data.specs.Answer.{element_count, where_integer}
use Rattle.kh_bif_data.specs.Asked.{of_some, of_integer}
use Rattle.kh_bif_data.specs.Tuples.{place_in, set_element}
use Rattle.kh_bif_data.proofs.Asking.{tuple_answer}

-- what is answered at a place among some elements
abbrev pub at_place : TermTree → List TermTree → Option ℕ → Answer
at_place value parts place = of_some place badarg (λ i. Value (tree.Tuple (slice_set parts i value)))

module _ (heap : List TermTree) (place t value : TermTree) (count : ℕ) (seen : IsSeen heap t (view.Tuple count)) where
  by_tuple : of_integer place (λ n. at_place value (parts_in t) (place_in n (length (parts_in t)))) ≡ set_element place t value
  by_tuple = tuple_answer heap t count (λ ts. of_integer place (λ n. at_place value ts (place_in n (length ts)))) seen

  pub no_number : integer_in place ≡ None → badarg ≡ set_element place t value
  no_number e = sym (ap (λ (o : Option ℤ). of_some o badarg (λ n. at_place value (parts_in t) (place_in n (length (parts_in t))))) e) ∙ by_tuple

  pub set_by : (n : ℤ) (r : Option ℕ) → integer_in place ≡ Some n → r ≡ place_in n count → at_place value (parts_in t) r ≡ set_element place t value
  set_by n r is e =
      ap (at_place value (parts_in t)) (e ∙ ap (place_in n) (sym seen.1))
      ∙ sym (ap (λ (o : Option ℤ). of_some o badarg (λ n. at_place value (parts_in t) (place_in n (length (parts_in t))))) is) ∙ by_tuple

-- what is charged where the place is an integer
pub where_number : (place : TermTree) (n : ℤ) (k : ℕ) → integer_in place ≡ Some n → where_integer place k ≡ k
where_number place n k is = ap (λ (o : Option ℤ). of_some o 0 (λ i. k)) is
