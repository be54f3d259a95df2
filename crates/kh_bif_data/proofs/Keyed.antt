-- What a list is searched for.
use Rattle.std.proofs.Common.{◌≡◌, ℕ, Bool, true, false, refl, sym, ap, ◌∙◌, ℤ}
use Rattle.std.specs.List.{find}
use Rattle.std.specs.Prelude.{Option, Some, None}
use Rattle.kh_term.specs.declared.tree.TermTree.{TermTree}
use Rattle.kh_bif_base.specs.Answer.{Answer, Value, badarg, boolean}
use Rattle.kh_bif_base.specs.Integers.{integer_in}
use Rattle.kh_bif_data.specs.Asked.{of_some, of_integer}
use Rattle.kh_bif_data.specs.Lists.{elements, ends_in_nil, first_with, from_zero, has_at, keyfind, of_list}
use Rattle.kh_bif_data.proofs.Asking.{list_answer, no_list_answer}

module _ (key place l : TermTree) where
  -- the place isn't an integer
  pub no_number : integer_in place ≡ None → badarg ≡ keyfind key place l
  no_number e = sym (ap (λ (o : Option ℤ). of_some o badarg (λ n. of_list l (λ ts. of_some (from_zero n) badarg (λ i. first_with key i ts)))) e)

  module _ (n : ℤ) (is : integer_in place ≡ Some n) where
    by_number : keyfind key place l ≡ of_list l (λ ts. of_some (from_zero n) badarg (λ i. first_with key i ts))
    by_number = ap (λ (o : Option ℤ). of_some o badarg (λ n. of_list l (λ ts. of_some (from_zero n) badarg (λ i. first_with key i ts)))) is

    by_properness : (b : Bool) → ends_in_nil l ≡ b → from_zero n ≡ None → badarg ≡ of_list l (λ ts. of_some (from_zero n) badarg (λ i. first_with key i ts))
    by_properness true e none =
        ap (λ (o : Option ℕ). of_some o badarg (λ i. first_with key i (elements l))) (sym none)
        ∙ list_answer l (λ ts. of_some (from_zero n) badarg (λ i. first_with key i ts)) true (sym e) refl
    by_properness false e none = no_list_answer l (λ ts. of_some (from_zero n) badarg (λ i. first_with key i ts)) false (sym e) refl

    -- there is no such place
    pub no_place : from_zero n ≡ None → badarg ≡ keyfind key place l
    no_place none = by_properness (ends_in_nil l) refl none ∙ sym by_number

    -- the list doesn't end in nil
    pub no_end : (b : Bool) → b ≡ ends_in_nil l → b ≡ false → badarg ≡ keyfind key place l
    no_end b e f = no_list_answer l (λ ts. of_some (from_zero n) badarg (λ i. first_with key i ts)) b e f ∙ sym by_number

    pub found_with : (i : ℕ) (r : Option TermTree) (b : Bool) → from_zero n ≡ Some i → b ≡ ends_in_nil l → b ≡ true → r ≡ find (has_at key i) (elements l) → of_some r (boolean false) Value ≡ keyfind key place l
    found_with i r b at e t found =
        ap (λ (o : Option TermTree). of_some o (boolean false) Value) found
        ∙ ap (λ (o : Option ℕ). of_some o badarg (λ j. first_with key j (elements l))) (sym at)
        ∙ list_answer l (λ ts. of_some (from_zero n) badarg (λ j. first_with key j ts)) b e t ∙ sym by_number
