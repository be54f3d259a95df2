-- A listing has one outcome.
use Rattle.std.proofs.Common.{◌≡◌, ℕ, ◌+◌, ◌<◌, List, length, Option, Some, None, Result, Ok, Err, refl, ap, sym, ◌∙◌, subst}
use Rattle.std.proofs.lemmas.Bool.{both_ways}
use Rattle.kh_instr.specs.declared.module.Module.{Module}
use Rattle.kh_listing.specs.declared.form.Form.{Form}
use Rattle.kh_listing.specs.Faults.{is_at_fault}
use Rattle.kh_listing.specs.Made.{module_of}
use Rattle.kh_listing.specs.Outcome.{IsFirst, IsFaultless, IsFirstFault, IsOutcome}
use Rattle.kh_listing.specs.Laws.{HasOutcome, HasOneOutcome}
use Rattle.kh_listing.proofs.Firsts.{some_first, one_first}

refused : (fs : List Form) (n : ℕ) → IsFaultless fs → IsFirstFault fs n → ⊥
refused fs n none (i, e, found) = both_ways (is_at_fault fs i) (none i found.0) found.1

pub one : HasOneOutcome
one fs (Ok m) (Ok k) h l = ap Ok (h.1 ∙ sym l.1)
one fs (Ok m) (Err n) h l = absurd (refused fs n h.0 l)
one fs (Err n) (Ok m) h l = absurd (refused fs n l.0 h)
one fs (Err n) (Err k) (i, e, found) (j, f, met) =
    ap Err (e ∙ (ap (λ (x : ℕ). x + 1) (one_first (is_at_fault fs) (length fs) i j found met) ∙ sym f))

pub some : HasOutcome
some fs = go (some_first (is_at_fault fs) (length fs))
  where
    go : (o : Option ℕ) × IsFirst (is_at_fault fs) (length fs) o → (o : Result Module ℕ) × IsOutcome fs o
    go (None, none) = (Ok (module_of fs), (none, refl))
    go (Some i, found) = (Err (i + 1), (i, refl, found))

-- what a search over the forms says of them
pub faulted : (fs : List Form) (o : Option ℕ) (i : ℕ) → IsFirst (is_at_fault fs) (length fs) o → o ≡ Some i → IsFirstFault fs (i + 1)
faulted fs o i h e = (i, refl, subst (λ (p : Option ℕ). IsFirst (is_at_fault fs) (length fs) p) e h)

pub faultless : (fs : List Form) (o : Option ℕ) → IsFirst (is_at_fault fs) (length fs) o → o ≡ None → IsFaultless fs
faultless fs o h e = subst (λ (p : Option ℕ). IsFirst (is_at_fault fs) (length fs) p) e h

pub within : (fs : List Form) (o : Option ℕ) (i : ℕ) → IsFirst (is_at_fault fs) (length fs) o → o ≡ Some i → i < length fs
within fs o i h e = (subst (λ (p : Option ℕ). IsFirst (is_at_fault fs) (length fs) p) e h).0
