-- What an operation does and costs, once it is known which it is, and what a built-in does with its arguments.
use Rattle.std.proofs.Common.{◌≡◌, ◌<◌, ◌≤◌, ℕ, ◌+◌, List, length, refl, sym, ap, ◌∙◌, arith}
use Rattle.std.specs.Prelude.{Result, Option, Some, None}
use Rattle.kh_term.specs.declared.tree.TermTree.{TermTree}
use Rattle.kh_heap.specs.declared.error.BifError.{BifError}
use Rattle.kh_instr.specs.declared.builtin.Builtin.{Builtin}
use Rattle.kh_bif_base.specs.Answer.{Answer, limited}
use Rattle.kh_bif_base.specs.Answers.{Answers}
use Rattle.kh_bif_data.specs.declared.operation.Operation.{Operation}
use Rattle.kh_bif_data.specs.declared.operation.Operation.TheVariants as operation
use Rattle.kh_bif_data.specs.Answer.{done, cost, first, middle, last, answer_by, extra_by, answer_of, extra_of, pair_count, where_map}
use Rattle.kh_bif_data.specs.Asked.{of_some, pairs_of}
use Rattle.kh_bif_data.specs.Rows.{arity_of, operation_of}
use Rattle.kh_bif_data.proofs.Answering.{same_answer}

module _ (o k : Operation) (a b c : TermTree) (is : o ≡ k) where
  pub done_by : (heap : List TermTree) (r : Result ℕ BifError) (x : Answer) → x ≡ done k a b c → Answers heap r (limited x) → Answers heap r (limited (done o a b c))
  done_by heap r x e h = same_answer heap r x (done o a b c) (e ∙ ap (λ (p : Operation). done p a b c) (sym is)) h

  pub cost_is : cost o a b c ≡ cost k a b c
  cost_is = ap (λ (p : Operation). cost p a b c) is

-- the pairs of a map count among what is charged of it
within : (o : Option (List (TermTree × TermTree))) (k : ℕ) → of_some o 0 (λ ps. length ps) ≤ of_some o 0 (λ ps. of_some o 0 (λ ps. length ps) + k)
within (Some ps) k = omega arith
within None k = omega arith

pub counted_within : (m : TermTree) (k : ℕ) → pair_count m ≤ where_map m (pair_count m + k)
counted_within m k = within (pairs_of m) k

module _ (b : Builtin) (o : Operation) (terms : List TermTree) (x y z : TermTree) (here : operation_of b ≡ Some o) (is_first : x ≡ first terms) (is_middle : y ≡ middle terms) (is_last : z ≡ last terms) where
  pub answered : done o x y z ≡ answer_of b terms
  answered = (λ i. done o (is_first i) (is_middle i) (is_last i)) ∙ ap (λ (p : Option Operation). answer_by p terms) (sym here)

  pub charged : cost o x y z ≡ extra_of b terms
  charged = (λ i. cost o (is_first i) (is_middle i) (is_last i)) ∙ ap (λ (p : Option Operation). extra_by p terms) (sym here)

-- each operation takes an argument
pub some_arguments : (o : Operation) → 0 < arity_of o
some_arguments operation.Get = omega arith
some_arguments operation.IsKey = omega arith
some_arguments operation.Find = omega arith
some_arguments operation.Put = omega arith
some_arguments operation.Remove = omega arith
some_arguments operation.Keys = omega arith
some_arguments operation.Values = omega arith
some_arguments operation.Pairs = omega arith
some_arguments operation.Merge = omega arith
some_arguments operation.FromList = omega arith
some_arguments operation.Append = omega arith
some_arguments operation.Reverse = omega arith
some_arguments operation.ReverseOnto = omega arith
some_arguments operation.Member = omega arith
some_arguments operation.KeyFind = omega arith
some_arguments operation.SetElement = omega arith
some_arguments operation.TupleToList = omega arith
some_arguments operation.ListToTuple = omega arith
some_arguments operation.AtomToBinary = omega arith
some_arguments operation.IntegerToBinary = omega arith
some_arguments operation.BinaryToList = omega arith
some_arguments operation.IolistToBinary = omega arith
some_arguments operation.BinaryToInteger = omega arith
some_arguments (operation.Raise c) = omega arith
